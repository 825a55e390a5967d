-- Names of channels in order.
use Rattle.std.specs.Cmp.Lexicographic.{slice_cmp}
use Rattle.std.specs.Ordering.{nat_cmp, ordering_then}
use Rattle.std.specs.declared.cmp.Ordering.{Ordering}
use Rattle.fst_types.specs.declared.ends.ChannelName.{ChannelName}

-- names compare by the paths of their makers, and then by their counts
abbrev pub name_cmp : ChannelName → ChannelName → Ordering
name_cmp g h = ordering_then (slice_cmp nat_cmp g.maker h.maker) (nat_cmp g.count h.count)
