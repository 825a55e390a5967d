-- The words of types (Almeida, Mordido, Vasconcelos, TACAS 2020).
use Rattle.std.specs.Prelude.{ℕ, ◌+◌, List, [], ◌∷◌, ◌++◌, if◌then◌else◌}
use Rattle.fst_types.specs.Tree.{Tree, skip, send, receive, close, wait, select, offer, seq, rec, back, var, plain, arrow, pair, named}
use Rattle.fst_types.specs.Size.{nodes}
use Rattle.fst_types.specs.declared.label.Label.{Label}
use Rattle.fst_types.specs.declared.label.Label.TheVariants.{Send, Receive, Close, Wait, Var}
use Rattle.fst_lts.specs.Step.{terminated}
use Rattle.fst_parts.specs.Place.{Place, place_past, own_place, binder}

-- the numbers of the non-terminals: of a message or variable, of Close and of Wait by their labels, of the part at a place
-- of a closed type, and of the dead one, which has no rules
pub record Numbers : Type 0 where
  pub name : Label → ℕ
  pub node : Tree → ℕ → ℕ
  pub dead : ℕ

-- the number of a place
abbrev pub node_at : Numbers → Place → ℕ
node_at n p = n.node p.whole p.at

-- the word of the part at a place: empty for `Skip` and a terminated `rec`, the words of both parts for `S;R`, the
-- number of its `rec` for a recursion variable, and one number for all else; a type of values has no word of its own
abbrev pub word : Numbers → Place → Tree → List ℕ
word n p skip = []
word n p (send b) = n.name (Send b) ∷ []
word n p (receive b) = n.name (Receive b) ∷ []
word n p close = n.name Close ∷ []
word n p wait = n.name Wait ∷ []
word n p (select cs) = node_at n (own_place p (select cs)) ∷ []
word n p (offer cs) = node_at n (own_place p (offer cs)) ∷ []
word n p (seq s r) = word n (place_past p 1) s ++ word n (place_past p (1 + nodes s)) r
word n p (rec s) = if terminated s then [] else node_at n (own_place p (rec s)) ∷ []
word n p (back k) = n.node p.whole (binder p.binders k) ∷ []
word n p (var k) = n.name (Var k) ∷ []
word n p (plain b) = []
word n p (arrow u s r) = []
word n p (pair s r) = []
word n p (named k) = []
