-- Which faults a written type may have: no variable of it is unbound, and want of memory is none of its faults.
use Rattle.std.proofs.Common.{refl, inl, inr, ℕ, List, [], ◌∷◌, length}
use Rattle.std.specs.Prelude.{◌≢◌}
use Rattle.fst_types.specs.Tree.{Tree}
use Rattle.fst_types.specs.Variables.{HasVariablesBelow}
use Rattle.fst_types.specs.declared.kind.Kind.{Kind}
use Rattle.fst_kinds.specs.Faults.{Need, needs, Fails, double, wrong, unguarded, unbound, IsFirstFailure, IsFirstFault}
use Rattle.fst_kinds.specs.declared.fault.KindFault.{KindFault}
use Rattle.fst_kinds.specs.declared.fault.KindFault.TheVariants.{NotContractive, WrongKind, UnboundType, DoubleLabel, Memory}
use Rattle.fst_kinds.proofs.Laws.{never_unbound}
use Rattle.fst_terms.specs.declared.core_module.Module.{Module}
use Rattle.fst_written.specs.Faults.{IsFirstKindFault, IsWrittenKindFault}
use Rattle.fst_written.specs.Readings.{readings}
use Rattle.fst_written.proofs.VariableLaws.{reading_over}

-- nothing that is asked fails for want of memory
fails_not_memory : {vars : List Kind} {n : Need} {f : KindFault} → Fails vars n f → f ≢ Memory
fails_not_memory (double e) is = absurd (cc is)
fails_not_memory (wrong w) is = absurd (cc is)
fails_not_memory (unguarded g r) is = absurd (cc is)
fails_not_memory (unbound e) is = absurd (cc is)

-- nor does the first that fails
failure_not_memory : (vars : List Kind) (ns : List Need) (f : KindFault) → IsFirstFailure vars ns f → f ≢ Memory
failure_not_memory vars [] f h = absurd h
failure_not_memory vars (n ∷ ns) f (inl h) = fails_not_memory h
failure_not_memory vars (n ∷ ns) f (inr h) = failure_not_memory vars ns f h.1

-- the first fault of a type is never want of memory
never_memory : (vars : List Kind) (t : Tree) (f : KindFault) → IsFirstFault vars t f → f ≢ Memory
never_memory vars t f h = failure_not_memory vars (needs t) f h

-- a fault that is neither want of memory nor an unbound variable is one that a written type may have
written_of : (f : KindFault) → f ≢ Memory → ((k : ℕ) → f ≢ UnboundType k) → IsWrittenKindFault f
written_of NotContractive not_memory bound = tt
written_of (WrongKind got wanted) not_memory bound = tt
written_of (UnboundType k) not_memory bound = absurd (bound k refl)
written_of (DoubleLabel l) not_memory bound = tt
written_of Memory not_memory bound = absurd (not_memory refl)

-- the first fault of a type whose variables are all in scope is one that a written type may have
written_fault : (vars : List Kind) (t : Tree) (f : KindFault) → HasVariablesBelow (length vars) t → IsFirstFault vars t f →
    IsWrittenKindFault f
written_fault vars t f below first = written_of f (never_memory vars t f first) (λ k. never_unbound vars t f k below first)

-- so is the fault of the first type of a module that isn't well formed
pub told : (m : Module) (at : ℕ) (f : KindFault) → IsFirstKindFault m (readings m) at f → IsWrittenKindFault f
told m at f found =
    let r = found.reading in
    let has = found.fails in
    written_fault r.vars has.type f (reading_over m r has.type found.first.before found.first.after found.first.stands has.is)
    has.fails
