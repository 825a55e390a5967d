-- Values come back from their cells.
use Rattle.std.specs.Prelude.{◌≡◌, List, [], ◌∷◌, ◌++◌, drop, refl}
use Rattle.std.proofs.Common.{◌∙◌, ap, sym, append_assoc}
use Rattle.std.proofs.lemmas.List.{append-nil}
use Rattle.fst_value.specs.ValueTree.{ValueTree, int, bool, char, unit, pair, make, function, end, ValueTrees, none, value}
use Rattle.fst_value.specs.Stacks.{stacked}
use Rattle.fst_value.specs.declared.cells.Cell.{Cell}
use Rattle.fst_value.specs.declared.cells.Cell.TheVariants as cell
use Rattle.fst_value.specs.Cells.{count, cells_of, cells_of_all, taken, above, spelled, first_or_unit}

-- as many values as stand in front are these values
pub taken-stacked : (vs : ValueTrees) (ws : List ValueTree) → taken (count vs) (stacked vs ws) ≡ vs
taken-stacked none ws = refl
taken-stacked (value v vs) ws = ap (value v) (taken-stacked vs ws)

-- behind as many values as stand in front are the others
pub drop-stacked : (vs : ValueTrees) (ws : List ValueTree) → drop (count vs) (stacked vs ws) ≡ ws
drop-stacked none ws = refl
drop-stacked (value v vs) ws = drop-stacked vs ws

mutual
  -- the cells of a value in front of others spell this value first
  pub spelled-cells_of : (v : ValueTree) (cs : List Cell) →
      spelled (cells_of v ++ cs) ≡ v ∷ spelled cs
  spelled-cells_of (int n) cs = refl
  spelled-cells_of (bool b) cs = refl
  spelled-cells_of (char c) cs = refl
  spelled-cells_of unit cs = refl
  spelled-cells_of (pair v w) cs =
      ap (λ ds. above cell.Pair (spelled ds)) (append_assoc (cells_of v) (cells_of w) cs)
      ∙ ap (above cell.Pair) (spelled-cells_of v (cells_of w ++ cs) ∙ ap
      (λ ws. v ∷ ws) (spelled-cells_of w cs))
  spelled-cells_of (make n o vs) cs =
      ap (above (cell.Make n o (count vs))) (spelled-cells_of_all vs cs)
      ∙ (λ i. make n o (taken-stacked vs (spelled cs) i) ∷ drop-stacked vs (spelled cs) i)
  spelled-cells_of (function l vs) cs =
      ap (above (cell.Function l (count vs))) (spelled-cells_of_all vs cs)
      ∙ (λ i. function l (taken-stacked vs (spelled cs) i) ∷ drop-stacked vs (spelled cs) i)
  spelled-cells_of (end x) cs = refl

  -- the cells of values in front of others spell these values first
  pub spelled-cells_of_all : (vs : ValueTrees) (cs : List Cell) →
      spelled (cells_of_all vs ++ cs) ≡ stacked vs (spelled cs)
  spelled-cells_of_all none cs = refl
  spelled-cells_of_all (value v vs) cs =
      ap spelled (append_assoc (cells_of v) (cells_of_all vs) cs)
      ∙ spelled-cells_of v (cells_of_all vs ++ cs)
      ∙ ap (λ ws. v ∷ ws) (spelled-cells_of_all vs cs)

-- a value comes back from its cells
pub value-cells_of : (v : ValueTree) → first_or_unit (spelled (cells_of v)) ≡ v
value-cells_of v = ap (λ cs. first_or_unit (spelled cs)) (sym (append-nil (cells_of v)))
    ∙ ap first_or_unit (spelled-cells_of v [])
