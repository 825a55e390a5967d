-- The lists of numbers that a table over indexmap holds.
use Rattle.std.specs.Prelude.{ℕ, List}
use Rattle.std.specs.declared.vec.Vec.{Vec}
use Rattle.std.specs.declared.alloc.Global.{Global}

-- the numbers of a key
abbrev pub items_of : Vec ℕ Global → List ℕ
items_of key = key.items
