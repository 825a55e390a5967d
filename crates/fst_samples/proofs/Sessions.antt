-- A well-formed type of a session kind is a session type.
use Rattle.std.proofs.Common.{◌≡◌, subst, List}
use Rattle.fst_types.specs.Tree.{Tree}
use Rattle.fst_types.specs.declared.kind.Kind.{Kind}
use Rattle.fst_types.specs.declared.kind.Prekind.TheVariants.{Session}
use Rattle.fst_kinds.specs.Kinds.{session}
use Rattle.fst_kinds.specs.WellFormed.{IsWellFormed, IsSession}

pub session_of : (vars : List Kind) (t : Tree) (k : Kind) → IsWellFormed vars t k → k.prekind ≡ Session → IsSession vars t
session_of vars t k h e =
    let is : k ≡ session k.uses = λ i. record { prekind = e i; uses = k.uses } in
    (k.uses, subst (IsWellFormed vars t) is h)
