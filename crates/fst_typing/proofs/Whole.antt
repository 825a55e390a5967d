-- A module that has a derivation has a plain one; one that is refused has none; and one that is within the limits or accepted isn't refused.
use Rattle.std.proofs.Common.{◌≡◌, ◌⊎◌, inl, inr, ℕ, List, refl, subst, arith}
use Rattle.std.specs.Prelude.{⊤}
use Rattle.fst_types.specs.Tree.{Tree}
use Rattle.fst_types.specs.declared.kind.Kind.{Kind}
use Rattle.fst_lts.specs.Equal.{IsEqual}
use Rattle.fst_terms.specs.declared.core_module.Module.{Module}
use Rattle.fst_derivations.specs.Deriv.{Deriv}
use Rattle.fst_derivations.specs.Parts.{IsConversion}
use Rattle.fst_derivations.specs.Rules.{comparing, within}
use Rattle.fst_derivations.specs.Modules.{HasDerivations}
use Rattle.fst_derivations.specs.Laws.{IsTypeEquality, PlainTypesAreUnique, DerivedIsPlain, Weaker}
use Rattle.fst_equiv.specs.Comparison.{IsComparison, IsDifference}
use Rattle.fst_equiv.specs.declared.comparing.Same.{Same}
use Rattle.fst_equiv.specs.declared.comparing.Same.TheVariants as same
use Rattle.fst_premises.specs.Checks.{Check, IsInSize}
use Rattle.fst_premises.specs.Shown.{IsShown}
use Rattle.fst_premises.specs.declared.fault.CheckFault.{CheckFault}
use Rattle.fst_premises.specs.declared.fault.CheckFault.TheVariants.{Mismatch, Unused, UsedTwice, CapturedLinear, NotFunction, TypeArguments, KindOfArgument, NoSuchMove, Branches, NotPrintable, Undecided, Memory, Arms, Dropped, NotPair, Kinds, TooLarge}
use Rattle.fst_typing.specs.Shown.{IsUnequal}
use Rattle.fst_typing.specs.Shown.IsUnequal.{shape, word, undecided, too_large}
use Rattle.fst_typing.specs.Checked.{HasDerivationsWithin, IsAnswered, IsRefusal, check_over}
use Rattle.fst_typing.specs.Laws.{DerivedHasPlain, IsCause, RefusedHasNone, WithinIsNotRefused}
use Rattle.fst_typing.proofs.PlainEquations.{globals_plain, module_more}
use Rattle.fst_typing.proofs.Groundless.{Excludes}
use Rattle.fst_typing.proofs.GroundlessModules.{no_module}
use Rattle.fst_typing.proofs.Parameters.{decided}

pub derived_has_plain : DerivedIsPlain → ((vars : List Kind) → IsTypeEquality vars (IsConversion vars)) → DerivedHasPlain
derived_has_plain plainly equality m ds h =
    let es = globals_plain m plainly equality (decided m.types.items) m.globals.items ds h.equations in
    (es.0, record { types = h.types; fields = h.fields; main = h.main; equations = es.1 })

-- plain derivations are such with types of any size
abbrev Any : Tree → Type 0
Any t = ⊤

any_types : (vars : List Kind) → Weaker (comparing (IsConversion vars)) (within Any (IsConversion vars))
any_types vars = record { kept = λ k o h. (h, tt); compared = λ k o h. (h, tt); bound = λ t h. tt }

module _ (differ : (vars : List Kind) (t u : Tree) (budget : ℕ) (a : Same) → IsComparison t u budget a → IsDifference a →
    IsEqual vars t u → ⊥) (unique : PlainTypesAreUnique) where
  -- a refusal that is of the module excludes equal types
  unequal_cause : (c : Check) (at : ℕ) (s t : Tree) (f : CheckFault) → IsCause f → IsConversion c.surroundings.vars s t →
      IsUnequal c at s t f → ⊥
  unequal_cause c at s t _ i e (shape h) = differ c.surroundings.vars s t c.budget same.Shape h tt e.equal
  unequal_cause c at s t _ i e (word {w} {side} h) = differ c.surroundings.vars s t c.budget (same.Word w side) h tt e.equal
  unequal_cause c at s t _ i e (undecided h) = i
  unequal_cause c at s t _ i e (too_large h) = i

  cause_excludes : (c : Check) → Excludes c unique IsCause Any (IsConversion c.surroundings.vars)
  cause_excludes c = record { equal = λ s t e. e; large = λ at t f i l x. subst IsCause x.is i; unequal = unequal_cause c }

  pub refused_has_none : DerivedIsPlain → ((vars : List Kind) → IsTypeEquality vars (IsConversion vars)) → RefusedHasNone
  refused_has_none plainly equality m budget f i r ds h =
      let plain = derived_has_plain plainly equality m ds h in
      let any = module_more m (λ vars. comparing (IsConversion vars))
      (λ vars. within Any (IsConversion vars)) any_types plain.0 plain.1 in
      no_module m budget unique IsCause Any IsConversion (λ vars. cause_excludes (check_over m budget vars)) f i r plain.0 any

  -- each refusal is excluded within the limits
  abbrev Each : CheckFault → Type 0
  Each f = ⊤

  unequal_within : (c : Check) (at : ℕ) (s t : Tree) (f : CheckFault) → Each f → IsAnswered c.surroundings.vars c.budget s t →
      IsUnequal c at s t f → ⊥
  unequal_within c at s t _ i e (shape h) = differ c.surroundings.vars s t c.budget same.Shape h tt e.conversion.equal
  unequal_within c at s t _ i e (word {w} {side} h) =
      differ c.surroundings.vars s t c.budget (same.Word w side) h tt e.conversion.equal
  unequal_within c at s t _ i e (undecided {g} {pairs} h) = e.decided g pairs h
  unequal_within c at s t _ i e (too_large h) = e.fits h

  within_excludes : (c : Check) → Excludes c unique Each IsInSize (IsAnswered c.surroundings.vars c.budget)
  within_excludes c = record {
    equal = λ s t e. e.conversion;
    large =
        λ at t f i l x. absurd (omega (arith, l, x.large));
    unequal = unequal_within c;
  }

  pub within_is_not_refused : WithinIsNotRefused
  within_is_not_refused m budget ds h f r = no_module m budget unique Each IsInSize (λ vars. IsAnswered vars budget)
      (λ vars. within_excludes (check_over m budget vars)) f tt r ds h

-- ---- what a check shows of a refusal, where memory may be wanting

pub shown_has_none : RefusedHasNone → (m : Module) (budget : ℕ) (f : CheckFault) → IsCause f → IsShown f (IsRefusal m budget f) →
    (ds : List Deriv) → HasDerivations m ds → ⊥
shown_has_none none m budget f i r = none m budget f i (r (λ e. subst IsCause e i))

memory_or_not : (f : CheckFault) → (f ≡ Memory) ⊎ (f ≡ Memory → ⊥)
memory_or_not Memory = inl refl
memory_or_not (Mismatch at got wanted d) = inr (λ e. cc e)
memory_or_not (Unused at x) = inr (λ e. cc e)
memory_or_not (UsedTwice at x) = inr (λ e. cc e)
memory_or_not (CapturedLinear at x) = inr (λ e. cc e)
memory_or_not (NotFunction at got) = inr (λ e. cc e)
memory_or_not (TypeArguments at got wanted) = inr (λ e. cc e)
memory_or_not (KindOfArgument at got wanted) = inr (λ e. cc e)
memory_or_not (NoSuchMove at got asked) = inr (λ e. cc e)
memory_or_not (Branches at x) = inr (λ e. cc e)
memory_or_not (NotPrintable at got) = inr (λ e. cc e)
memory_or_not (Undecided at got wanted g ps) = inr (λ e. cc e)
memory_or_not (Arms at got) = inr (λ e. cc e)
memory_or_not (Dropped at got) = inr (λ e. cc e)
memory_or_not (NotPair at got) = inr (λ e. cc e)
memory_or_not (Kinds at fault) = inr (λ e. cc e)
memory_or_not (TooLarge at) = inr (λ e. cc e)

pub wants_memory : WithinIsNotRefused → (m : Module) (budget : ℕ) (f : CheckFault) → IsShown f (IsRefusal m budget f) →
    (ds : List Deriv) → HasDerivationsWithin m budget ds → f ≡ Memory
wants_memory complete m budget f r ds h = pick (memory_or_not f)
  where
    pick : (f ≡ Memory) ⊎ (f ≡ Memory → ⊥) → f ≡ Memory
    pick (inl e) = e
    pick (inr n) = absurd (complete m budget ds h f (r n))
