-- A module that is accepted has derivations.
use Rattle.std.proofs.Common.{ℕ, List}
use Rattle.fst_terms.specs.declared.core_module.Module.{Module}
use Rattle.fst_derivations.specs.Deriv.{Deriv}
use Rattle.fst_derivations.specs.Modules.{HasDerivations}
use Rattle.fst_derivations.specs.Parts.{IsConversion}
use Rattle.fst_derivations.proofs.Laws.{globals_derived, within_converts}
use Rattle.fst_premises.specs.Checks.{IsInSize}
use Rattle.fst_typing.specs.Checked.{IsAccepted, check_over, checking_over}
use Rattle.fst_typing.specs.Typed.{IsKnown}

-- its plain derivations are derivations
pub accepted_derived : (m : Module) (budget : ℕ) (ds : List Deriv) → IsAccepted m budget ds → HasDerivations m ds
accepted_derived m budget ds h = record {
  types = h.types;
  fields = h.fields;
  main = h.main;
  equations = globals_derived m (checking_over m budget)
      (λ vars. within_converts IsInSize (IsKnown (check_over m budget vars)) (IsConversion vars) (λ s t k. k.conversion))
      m.globals.items ds h.types.globals h.equations;
}
