-- How paths and channels are written.
use Rattle.std.specs.Prelude.{ℕ, List, ◌++◌, codes, decimal, map}
use Rattle.fst_types.specs.declared.ends.ChannelName.{ChannelName}
use Rattle.fst_type_print.specs.Texts.{joined_text}

-- a path: its numbers with points between
abbrev pub path_text : List ℕ → List ℕ
path_text p = joined_text (codes ".") (map decimal p)

-- a channel: its maker's path, and which of its maker's channels it is
abbrev pub channel_text : ChannelName → List ℕ
channel_text h = path_text h.maker ++ codes "#" ++ decimal h.count
