-- What a type begins with, found in one walk.
use Rattle.std.specs.Prelude.{zero, suc}
use Rattle.fst_types.specs.Tree.{Tree, skip, send, receive, close, wait, select, offer, seq, rec, back, var, plain, arrow, pair, named}
use Rattle.fst_kinds.specs.declared.front.Front.{Front}
use Rattle.fst_kinds.specs.declared.front.Front.TheVariants.{Open, Variable, Guarded}

-- the front of two types, one behind the other
abbrev pub front_behind : Front → Front → Front
front_behind Open next = next
front_behind (Variable k) next = Variable k
front_behind Guarded next = Guarded

-- the front outside a binder
abbrev pub front_outside : Front → Front
front_outside Open = Open
front_outside (Variable zero) = Guarded
front_outside (Variable (suc k)) = Variable k
front_outside Guarded = Guarded

-- Open where the type guards nothing; Variable k where it comes to the k-th recursion variable first; Guarded where to a move
abbrev pub front : Tree → Front
front skip = Open
front (send b) = Guarded
front (receive b) = Guarded
front close = Guarded
front wait = Guarded
front (select bs) = Guarded
front (offer bs) = Guarded
front (seq s r) = front_behind (front s) (front r)
front (rec s) = front_outside (front s)
front (back k) = Variable k
front (var k) = Open
front (plain b) = Open
front (arrow u s r) = Open
front (pair s r) = Open
front (named k) = Open
