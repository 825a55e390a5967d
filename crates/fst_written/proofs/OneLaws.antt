-- A module has one first fault of kinds, and one first field that isn't printable.
use Rattle.std.proofs.Common.{◌≡◌, ◌∙◌, sym, subst, ℕ, List, Some}
use Rattle.std.specs.Prelude.{slice_get}
use Rattle.fst_types.specs.Tree.{Tree}
use Rattle.fst_types.specs.declared.kind.Kind.{Kind}
use Rattle.fst_kinds.specs.Faults.{IsFirstFault}
use Rattle.fst_kinds.specs.declared.fault.KindFault.{KindFault}
use Rattle.fst_terms.specs.declared.core_module.Module.{Module}
use Rattle.fst_derivations.specs.Modules.{IsPrintable}
use Rattle.fst_written.specs.Faults.{HasFault, IsFirstKindFault}
use Rattle.fst_written.specs.Printable.{IsFirstUnprintable, IsPrintableAt}
use Rattle.fst_written.specs.Readings.{Reading, IsFormedReading, begins, begins_at}
use Rattle.fst_written.proofs.FirstLaws.{one_first}
use Rattle.fst_written.proofs.ModuleLaws.{unformed}

-- a type that isn't printable isn't printable by its number
pub unprintable : (m : Module) (k : ℕ) (t : Tree) → slice_get m.types.items k ≡ Some t →
    (IsPrintable t → ⊥) → IsPrintableAt m.types.items k → ⊥
unprintable m k t is not_printable h =
    let same : h.0 ≡ t = cc (sym h.1 ∙ is) in
    not_printable (subst IsPrintable same h.2)

-- two types with faults are one where they stand at one place
pub one_fault : (m : Module) (r : Reading) (at byte : ℕ) (f g : KindFault) →
    ((vars : List Kind) (t : Tree) (f g : KindFault) → IsFirstFault vars t f → IsFirstFault vars t g → f ≡ g) →
    HasFault m r at f → HasFault m r byte g → (at ≡ byte) × (f ≡ g)
one_fault m r at byte f g one a b =
    let place : at ≡ byte = cc (sym a.begins ∙ b.begins) in
    let type : a.type ≡ b.type = cc (sym a.is ∙ b.is) in
    (place, one r.vars b.type f g (subst (λ t. IsFirstFault r.vars t f) type a.fails) b.fails)

-- the first type that isn't well formed begins at one byte, and has one fault
pub one_kind_fault : (m : Module) (rs : List Reading) (at byte : ℕ) (f g : KindFault) →
    ((vars : List Kind) (t : Tree) (f g : KindFault) → IsFirstFault vars t f → IsFirstFault vars t g → f ≡ g) →
    IsFirstKindFault m rs at f → IsFirstKindFault m rs byte g → (at ≡ byte) × (f ≡ g)
one_kind_fault m rs at byte f g one a b =
    let same = one_first (begins m) (IsFormedReading m) rs a.reading b.reading a.first b.first (unformed m a.reading at f a.fails)
    (unformed m b.reading byte g b.fails) in
    one_fault m b.reading at byte f g one (subst (λ r. HasFault m r at f) same a.fails) b.fails

-- the first type that isn't printable is one
pub one_unprintable : (m : Module) (ks : List ℕ) (j k : ℕ) → IsFirstUnprintable m ks j → IsFirstUnprintable m ks k → j ≡ k
one_unprintable m ks j k a b =
    one_first (begins_at m) (IsPrintableAt m.types.items) ks j k a.first b.first (unprintable m j a.type a.is a.unprintable)
    (unprintable m k b.type b.is b.unprintable)
