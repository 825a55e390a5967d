-- What other crates cite of equal types.
use Rattle.std.proofs.Common.{◌≡◌, ℕ, List, Some}
use Rattle.fst_types.specs.Tree.{Tree, plain, arrow, pair, named}
use Rattle.fst_types.specs.declared.base.Base.{Base}
use Rattle.fst_types.specs.declared.kind.Kind.{Kind}
use Rattle.fst_types.specs.declared.kind.Use.{Use}
use Rattle.fst_types.specs.declared.label.Label.{Label}
use Rattle.fst_kinds.specs.Kinds.{HasKind}
use Rattle.fst_kinds.specs.WellFormed.{IsWellFormed, IsSession}
use Rattle.fst_base.specs.Agreement.{Agree}
use Rattle.fst_lts.specs.Step.{step}
use Rattle.fst_lts.specs.Equal.{IsEqual}
use Rattle.fst_instances.specs.EqualParts.{IsFunctionLike, IsPairLike, StepsToEqual}
use Rattle.fst_instances.proofs.EqualLaws as equal
use Rattle.fst_instances.proofs.EqualKinds as kind
-- the variable by which a type moves, if it moves by one; a type is terminated as its instance where it moves by none; an instance
-- moves by what is no variable as its type does; the dual of an instance; and instances of equal types
pub use Rattle.fst_instances.proofs.InstanceMoves.{leading, leading_moves, instantiated_terminated, terminated_kept}
pub use Rattle.fst_instances.proofs.LedLaws.{instance_moves}
pub use Rattle.fst_instances.proofs.InstanceDuals.{instantiated-dual}
pub use Rattle.fst_instances.proofs.EqualLaws.{instances_equal}

-- a well-formed type is equal to itself
pub equal_itself : (vars : List Kind) (t : Tree) (k : Kind) → IsWellFormed vars t k → IsEqual vars t t
equal_itself = equal.equal_itself

-- equality goes back
pub equal_back : (vars : List Kind) {s r : Tree} → IsEqual vars s r → IsEqual vars r s
equal_back vars e = equal.equal_back vars e

-- and through
pub equal_through : (vars : List Kind) {s r t : Tree} → IsEqual vars s r → IsEqual vars r t → IsEqual vars s t
equal_through vars e f = equal.equal_through vars e f

-- equal types have one kind
pub equal_kind : (vars : List Kind) {s r : Tree} → IsEqual vars s r → (i j : Kind) → HasKind vars s i → HasKind vars r j → i ≡ j
equal_kind vars e = kind.equal_kind vars e

-- what equals a function is one
pub equal_function : (vars : List Kind) {u : Use} {s r t : Tree} → IsEqual vars (arrow u s r) t → IsFunctionLike vars u s r t
equal_function vars e = equal.equal_function vars e

-- what equals a pair is one
pub equal_pair : (vars : List Kind) {s r t : Tree} → IsEqual vars (pair s r) t → IsPairLike vars s r t
equal_pair vars e = equal.equal_pair vars e

-- a base type is equal to itself alone
pub equal_base_type : (vars : List Kind) {b : Base} {t : Tree} → IsEqual vars (plain b) t → t ≡ plain b
equal_base_type vars e = equal.equal_base_type vars e

-- so is a data type
pub equal_data_type : (vars : List Kind) {k : ℕ} {t : Tree} → IsEqual vars (named k) t → t ≡ named k
equal_data_type vars e = equal.equal_data_type vars e

-- what equals a session type is one, and agrees with it
pub equal_session : (vars : List Kind) {s r : Tree} → IsEqual vars s r → IsSession vars s → IsSession vars r × Agree step step s r
equal_session vars e = equal.equal_session vars e

-- equal session types move to equal types
pub equal_steps : (vars : List Kind) {s r : Tree} → IsEqual vars s r → IsSession vars s →
    (a : Label) (t : Tree) → step s a ≡ Some t → StepsToEqual vars r a t
equal_steps vars e = equal.equal_steps vars e
