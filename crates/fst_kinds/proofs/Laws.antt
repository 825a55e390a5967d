-- What other crates cite of kinds and of session types with free recursion variables.
use Rattle.std.proofs.Common.{◌≡◌, ◌≤◌, ℕ, suc, List, length, true, false, Option}
use Rattle.std.specs.Prelude.{◌≢◌}
use Rattle.fst_types.specs.Tree.{Tree, seq, rec, var}
use Rattle.fst_types.specs.declared.kind.Kind.{Kind}
use Rattle.fst_types.specs.declared.kind.Prekind.TheVariants.{Session}
use Rattle.fst_types.specs.declared.kind.Use.{Use}
use Rattle.fst_types.specs.Instance.{instantiated, ArgumentsHave}
use Rattle.fst_types.specs.Scoped.{IsScoped}
use Rattle.fst_types.specs.Substitution.{substitute, unfolding_of}
use Rattle.fst_types.specs.Variables.{HasVariablesBelow}
use Rattle.fst_kinds.specs.declared.fault.KindFault.{KindFault}
use Rattle.fst_kinds.specs.declared.fault.KindFault.TheVariants.{UnboundType}
use Rattle.fst_kinds.specs.Faults.{IsFirstFault}
use Rattle.fst_kinds.specs.Kinds.{session, top, HasKind}
use Rattle.fst_kinds.specs.Contractive.{guards, reaches, IsContractive}
use Rattle.fst_kinds.specs.WellFormed.{IsWellFormed, IsSession, IsInstantiation}
use Rattle.fst_kinds.specs.OpenSession.{IsOpenSession, IsPut, GuardsTo}
use Rattle.fst_kinds.proofs.BoundLaws as bound
use Rattle.fst_kinds.proofs.KindLaws as one
use Rattle.fst_kinds.proofs.SubstitutedGuards as guard
use Rattle.fst_kinds.proofs.OpenSessions as session_part
use Rattle.fst_kinds.proofs.UnfoldLaws as unfoldings
use Rattle.fst_kinds.proofs.InstanceKinds as instance_kinds
use Rattle.fst_kinds.proofs.InstanceLaws as instance_part
-- an instance of a well-formed type is well formed, of a kind below; by closed types it is closed
pub use Rattle.fst_kinds.proofs.InstanceLaws.{instantiated_well_formed, instantiated_closed}
-- an instance of an instance is one by instances
pub use Rattle.fst_kinds.proofs.InstanceLaws.{instantiated_again, instantiation_again}
-- what the walk over a type finds is its kind
pub use Rattle.fst_kinds.proofs.WalkLaws.{walk_kinds}

-- a type has one kind
pub one_kind : (vars : List Kind) (t : Tree) (j k : Kind) → HasKind vars t j → HasKind vars t k → j ≡ k
one_kind = one.one_kind

-- a kind with the prekind of session types, as the kind of a session type
pub session_of : (k : Kind) → k.prekind ≡ Session → k ≡ session k.uses
session_of = unfoldings.session_of

-- the kind of a session type is none of a type of any values
pub not_top : {A : Type 0} (u v : Use) → session u ≡ top v → A
not_top = guard.not_top

-- a type without free variables from n on reaches none of them
pub unreached : (s : Tree) (n k : ℕ) → IsScoped n s → n ≤ k → reaches s k ≡ false
unreached = guard.unreached

-- a type that guards still does, where all that is put in guards
pub substitute_guards : (n : ℕ) (env : List (Option Tree)) (s : Tree) → GuardsTo n env → IsScoped n s → guards s ≡ true →
    guards (substitute env s) ≡ true
substitute_guards = guard.substitute_guards

-- a session type is an open one in which no variable may be free
pub opened : (vars : List Kind) (s : Tree) → IsSession vars s → IsOpenSession vars 0 s
opened = session_part.opened

-- the first part of a sequence is as open as the sequence
pub open_first : (vars : List Kind) (n : ℕ) (s r : Tree) → IsOpenSession vars n (seq s r) → IsOpenSession vars n s
open_first = session_part.open_first

-- so is the second part
pub open_second : (vars : List Kind) (n : ℕ) (s r : Tree) → IsOpenSession vars n (seq s r) → IsOpenSession vars n r
open_second = session_part.open_second

-- in the body of a recursive type one more variable may be free
pub open_body : (vars : List Kind) (n : ℕ) (s : Tree) → IsOpenSession vars n (rec s) → IsOpenSession vars (suc n) s
open_body = session_part.open_body

-- in a body that guards nothing no variable is free
pub unguarded_body : (vars : List Kind) (n : ℕ) (s : Tree) → IsOpenSession vars n (rec s) → guards s ≡ false →
    IsOpenSession vars 0 s
unguarded_body = session_part.unguarded_body

-- an open session type with session types for its variables is a session type
pub substitute_session : (vars : List Kind) (n : ℕ) (env : List (Option Tree)) (s : Tree) → IsPut vars n env →
    IsOpenSession vars n s → IsSession vars (substitute env s)
substitute_session = session_part.substitute_session

-- the unfolding of a contractive type without free variables is contractive
pub unfolding_of_contractive : (vars : List Kind) (s : Tree) (k : Kind) → HasKind vars (rec s) k → IsScoped 0 (rec s) →
    IsContractive (rec s) → IsContractive (unfolding_of s)
unfolding_of_contractive = unfoldings.unfolding_of_contractive

-- an unfolding has exactly the kind of the type
pub unfolding_of_kind : (vars : List Kind) (s : Tree) (k : Kind) → HasKind vars (rec s) k → HasKind vars (unfolding_of s) k
unfolding_of_kind = unfoldings.unfolding_of_kind

-- the unfolding of a well-formed type is well formed, of the same kind
pub unfolding_of_well_formed : (vars : List Kind) (s : Tree) (k : Kind) → IsWellFormed vars (rec s) k →
    IsWellFormed vars (unfolding_of s) k
unfolding_of_well_formed = unfoldings.unfolding_of_well_formed

-- what holds of variables and of well-formed types holds of all that an instantiation puts for variables
pub put_have : (P : Tree → Type 0) (outer vars : List Kind) (args : List Tree) → ((k : ℕ) → P (var k)) →
    ((t : Tree) (i : Kind) → IsWellFormed outer t i → P t) →
    IsInstantiation outer vars args → ArgumentsHave P args
put_have = instance_kinds.put_have

-- what an instantiation puts for variables has no free recursion variables
pub put_scoped : (outer vars : List Kind) (args : List Tree) → IsInstantiation outer vars args → ArgumentsHave (IsScoped 0) args
put_scoped = instance_part.put_scoped

-- an instance of a session type is a session type
pub instantiated_session : (outer vars : List Kind) (args : List Tree) (s : Tree) → IsInstantiation outer vars args →
    IsSession vars s → IsSession outer (instantiated args s)
instantiated_session = instance_part.instantiated_session

-- where each variable of a type is one of those that vars has the kinds of, the first fault of the type is no unbound variable
pub never_unbound : (vars : List Kind) (t : Tree) (f : KindFault) (k : ℕ) → HasVariablesBelow (length vars) t →
    IsFirstFault vars t f → f ≢ UnboundType k
never_unbound = bound.never_unbound
