-- The moves of types, rule by rule (Almeida, Mordido, Vasconcelos, TACAS 2020).
use Rattle.std.specs.Prelude.{◌≡◌, true, false, List, ℕ, Some}
use Rattle.fst_types.specs.Tree.{Tree, skip, send, receive, close, wait, select, offer, seq, rec, var, Branches}
use Rattle.fst_types.specs.declared.base.Base.{Base}
use Rattle.fst_types.specs.declared.label.Label.{Label}
use Rattle.fst_types.specs.declared.label.Label.TheVariants.{Send, Receive, Select, Offer, Close, Wait, Var}
use Rattle.fst_types.specs.Substitution.{unfolding_of}
use Rattle.fst_lts.specs.Step.{terminated, branch_at, is_end}

-- the type moves by the label to the other type, by one of the rules
pub data Moves : Tree → Label → Tree → Type 0 where
  -- `!B` by `!B` to Skip
  sends : {b : Base} → Moves (send b) (Send b) skip
  -- `?B` by `?B` to Skip
  receives : {b : Base} → Moves (receive b) (Receive b) skip
  -- `Close` by `Close` to Skip
  closes : Moves close Close skip
  -- `Wait` by `Wait` to Skip
  waits : Moves wait Wait skip
  -- `+{..}` by `+l` to the branch of l
  selects : {bs : Branches} {l : List ℕ} {s : Tree} → branch_at Select bs (Select l) ≡ Some s →
      Moves (select bs) (Select l) s
  -- `&{..}` by `&l` to the branch of l
  offers : {bs : Branches} {l : List ℕ} {s : Tree} → branch_at Offer bs (Offer l) ≡ Some s →
      Moves (offer bs) (Offer l) s
  -- `S;R` as S moves, where a move of S is left, with R behind
  first : {s r t : Tree} {a : Label} → terminated s ≡ false → Moves s a t → is_end a ≡ false →
      Moves (seq s r) a (seq t r)
  -- `S;R` by an end of S to Skip, where a move of S is left
  ends : {s r t : Tree} {a : Label} → terminated s ≡ false → Moves s a t → is_end a ≡ true →
      Moves (seq s r) a skip
  -- `S;R` as R moves, where no move of S is left
  second : {s r t : Tree} {a : Label} → terminated s ≡ true → Moves r a t → Moves (seq s r) a t
  -- `rec x. S` as its unfolding moves
  unfolds : {s t : Tree} {a : Label} → Moves (unfolding_of s) a t → Moves (rec s) a t
  -- a signature's variable by itself to Skip
  variables : {k : ℕ} → Moves (var k) (Var k) skip
