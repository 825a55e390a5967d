-- Why a module is refused before its equations are looked at, and main at its equation.
use Rattle.std.proofs.Common.{◌≡◌, ℕ, List, [], ◌∷◌, length, refl, arith}
use Rattle.fst_terms.specs.declared.core_module.Module.{Module}
use Rattle.fst_written.specs.Faults.{IsTold, IsWrittenFault}
use Rattle.fst_written.specs.declared.fault.WrittenFault.{WrittenFault}
use Rattle.fst_written.specs.declared.fault.WrittenFault.TheVariants.{Kinds, Memory}
use Rattle.fst_typing.specs.Checked.{IsRefusal}
use Rattle.fst_typing.specs.Checked.IsRefusal.{kinds}
use Rattle.fst_premises.specs.Shown.{IsShown}
use Rattle.fst_typing.specs.Views.{written_fault}

-- a fault of written types refuses the module
pub kinds_refused : (m : Module) (w : WrittenFault) → IsWrittenFault m w → IsTold w →
    IsShown (written_fault w) ((budget : ℕ) → IsRefusal m budget (written_fault w))
kinds_refused m (Kinds at fault) h told = λ n budget. kinds at fault h told refl
kinds_refused m Memory h told = λ n. absurd (n refl)

-- a list of no length is empty
pub nothing : {X : Type 0} (xs : List X) → length xs ≡ 0 → xs ≡ []
nothing [] e = refl
nothing (x ∷ xs) e = absurd (omega (arith, e))
