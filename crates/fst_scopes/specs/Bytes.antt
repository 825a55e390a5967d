-- The names that a table over indexmap holds.
use Rattle.std.specs.Prelude.{ℕ, List}
use Rattle.std.specs.declared.vec.Vec.{Vec}
use Rattle.std.specs.declared.alloc.Global.{Global}

-- the bytes of a name
abbrev pub bytes_of : Vec ℕ Global → List ℕ
bytes_of name = name.items
