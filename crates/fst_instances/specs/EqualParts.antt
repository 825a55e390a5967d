-- What a type has that is equal to another.
use Rattle.std.specs.Prelude.{◌≡◌, List, Some}
use Rattle.fst_types.specs.Tree.{Tree, arrow, pair}
use Rattle.fst_types.specs.declared.kind.Kind.{Kind}
use Rattle.fst_types.specs.declared.kind.Use.{Use}
use Rattle.fst_types.specs.declared.label.Label.{Label}
use Rattle.fst_lts.specs.Step.{step}
use Rattle.fst_lts.specs.Equal.{IsEqual}

-- t is a function of the use u, from a type equal to s to one equal to r
pub record IsFunctionLike (vars : List Kind) (u : Use) (s r t : Tree) : Type 0 where
  pub domain : Tree
  pub codomain : Tree
  pub is : t ≡ arrow u domain codomain
  pub domains : IsEqual vars s domain
  pub codomains : IsEqual vars r codomain

-- t is a pair of a type equal to s and one equal to r
pub record IsPairLike (vars : List Kind) (s r t : Tree) : Type 0 where
  pub first : Tree
  pub second : Tree
  pub is : t ≡ pair first second
  pub firsts : IsEqual vars s first
  pub seconds : IsEqual vars r second

-- s moves by the label to a type equal to t
pub record StepsToEqual (vars : List Kind) (s : Tree) (a : Label) (t : Tree) : Type 0 where
  pub next : Tree
  pub steps : step s a ≡ Some next
  pub equal : IsEqual vars t next
