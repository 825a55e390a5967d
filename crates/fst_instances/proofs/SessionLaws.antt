-- Parts, unfoldings and successors of session types are session types.
use Rattle.std.proofs.Common.{◌≡◌, List, Some, subst}
use Rattle.std.specs.Prelude.{IfSome}
use Rattle.fst_types.specs.Tree.{Tree, seq, rec}
use Rattle.fst_types.specs.declared.kind.Kind.{Kind}
use Rattle.fst_types.specs.declared.label.Label.{Label}
use Rattle.fst_types.specs.Substitution.{unfolding_of}
use Rattle.fst_kinds.specs.Kinds.{session}
use Rattle.fst_kinds.specs.WellFormed.{IsSession}
use Rattle.fst_kinds.proofs.Laws.{unfolding_of_well_formed}
use Rattle.fst_lts.specs.Step.{step}
use Rattle.fst_lts.specs.Moves.{Moves}
use Rattle.fst_lts.proofs.Laws.{steps_are_moves, step_session}

-- what a step leaves of a session type is one
pub session_after : (vars : List Kind) (s t : Tree) (a : Label) → IsSession vars s → step s a ≡ Some t → IsSession vars t
session_after vars s t a h e = subst (λ o. IfSome o (IsSession vars)) e (step_session vars s a h)

-- so is what a move leaves
pub moved_session : (vars : List Kind) (s t : Tree) (a : Label) → IsSession vars s → Moves s a t → IsSession vars t
moved_session vars s t a h m = session_after vars s t a h ((steps_are_moves s h.1.scoped h.1.contractive a t).1 m)

-- the first part of a sequence
pub first_session : (vars : List Kind) (s r : Tree) → IsSession vars (seq s r) → IsSession vars s
first_session vars s r h = (
  h.1.kinded.0,
  record { kinded = h.1.kinded.2; contractive = h.1.contractive.0; scoped = h.1.scoped.0; ordered = h.1.ordered.0 },
)

-- the second part
pub second_session : (vars : List Kind) (s r : Tree) → IsSession vars (seq s r) → IsSession vars r
second_session vars s r h = (
  h.1.kinded.1,
  record { kinded = h.1.kinded.3; contractive = h.1.contractive.1; scoped = h.1.scoped.1; ordered = h.1.ordered.1 },
)

-- the unfolding of a recursive type
pub unfolding_of_session : (vars : List Kind) (s : Tree) → IsSession vars (rec s) → IsSession vars (unfolding_of s)
unfolding_of_session vars s h = (h.0, unfolding_of_well_formed vars s (session h.0) h.1)
