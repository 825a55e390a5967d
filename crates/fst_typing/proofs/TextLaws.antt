-- The types that the refusal of a module names have texts.
use Rattle.std.proofs.Common.{inl, inr, ℕ, List, [], ◌∷◌, length, subst}
use Rattle.fst_types.specs.Tree.{Tree}
use Rattle.fst_terms.specs.CoreTree.{CoreTree}
use Rattle.fst_terms.specs.InRange.{AreTypes}
use Rattle.fst_terms.specs.declared.core_module.Module.{Module}
use Rattle.fst_terms.specs.declared.global.GlobalEntry.{GlobalEntry}
use Rattle.fst_context.specs.Scope.{Scope}
use Rattle.fst_derivations.specs.Deriv.{type_of}
use Rattle.fst_derivations.specs.Texts.{HasText, AllHaveText}
use Rattle.fst_derivations.proofs.Laws.{arrow_texts, text_at}
use Rattle.fst_premises.specs.Checks.{Check}
use Rattle.fst_premises.specs.Shown.{place, IsShown}
use Rattle.fst_typing.specs.Equations.{ShowsEquation, ShowsResult}
use Rattle.fst_typing.specs.Equations.ShowsEquation.{large, inner, unused, result}
use Rattle.fst_typing.specs.Checked.{check_over, IsRefusal, kinds, field, equation, ShowsGlobal, ShowsMain}
use Rattle.fst_typing.specs.Texts.{HaveTexts}
use Rattle.fst_premises.specs.declared.fault.CheckFault.{CheckFault}
use Rattle.fst_premises.specs.declared.fault.CheckFault.TheVariants.{Kinds, Memory, NotPrintable, TypeArguments}
use Rattle.fst_typing.proofs.TextParts.{ScopeHasText, either, said, large_text, unequal_text, unused_text, inside_text, after_text}
use Rattle.fst_typing.proofs.TextShown.{shown_texts}

module _ (c : Check) (types : AllHaveText (length c.surroundings.families) c.surroundings.types) where
  abbrev N : ℕ
  N = length c.surroundings.families

  -- what is under an equation's parameters
  result_texts : (e : CoreTree) (t : Tree) (s : Scope) (f : CheckFault) → HasText N t → ScopeHasText N s → ShowsResult c e t s f →
      HaveTexts N f
  result_texts e t s f i h x =
      either N f x (shown_texts c types e s f h) (λ y. unequal_text N c (place e) (type_of y.derivation) t f
      (after_text c types e s h y) i y.then)

  -- where the equation's type and those of the variables in scope have texts, so have the types that its refusal names
  pub equation_texts : {e : CoreTree} {t : Tree} {s : Scope} {f : CheckFault} → HasText N t → ScopeHasText N s →
      ShowsEquation c e t s f → HaveTexts N f
  equation_texts {f = f} i h (large {x = x} p y) = large_text N x.at p.from f y
  equation_texts {s = s} i h (inner {uses = uses} p m has y) =
      let parts = arrow_texts N uses p.from p.to (subst (HasText N) p.type i) in
      equation_texts parts.1 (parts.0, inside_text N uses s h) y
  equation_texts {f = f} i h (unused {x = x} p m has y) = unused_text N y.scope 0 x f y.unused
  equation_texts {e = e} {t = t} {s = s} {f = f} i h (result apart x) = result_texts e t s f i h x

-- ---- modules

types_text : (n : ℕ) (ts : List Tree) → AreTypes n ts → AllHaveText n ts
types_text n [] h = tt
types_text n (t ∷ ts) h = (record { scoped = h.0; named = h.1 }, types_text n ts h.3)

-- the types of a module have texts
module_text : (m : Module) → AllHaveText (length m.families.items) m.types.items
module_text m = types_text (length m.families.items) m.types.items m.whole.type_parts

main_texts : (m : Module) (g : GlobalEntry) (f : CheckFault) → ShowsMain m g f → HaveTexts (length m.families.items) f
main_texts m g f (inl x) = said _ f (TypeArguments g.signature_at (length g.kinds.items) 0) x.1 tt
main_texts m g f (inr x) =
    let y = x.1 in said (length m.families.items) f (NotPrintable g.signature_at y.0) y.3
    (text_at _ m.types.items g.signature y.0 (module_text m) y.1)

global_texts : (m : Module) (budget : ℕ) (g : GlobalEntry) (f : CheckFault) → ShowsGlobal m budget g f →
    HaveTexts (length m.families.items) f
global_texts m budget g f (inl x) = main_texts m g f x.1
global_texts m budget g f (inr x) =
    let y = x.1 in equation_texts (check_over m budget g.kinds.items) (module_text m)
    (text_at _ m.types.items g.signature y.0 (module_text m) y.1) tt y.2

-- the types that the refusal of a module names have texts
pub refusal_texts : (m : Module) (budget : ℕ) (f : CheckFault) → IsRefusal m budget f → HaveTexts (length m.families.items) f
refusal_texts m budget f (kinds at fault x w e) = said (length m.families.items) f (Kinds at fault) e tt
refusal_texts m budget f (field k at t x w p i e) =
    said (length m.families.items) f (NotPrintable at t) e (text_at _ m.types.items k t (module_text m) i)
refusal_texts m budget f (equation g x w i s) = global_texts m budget g f s

-- and where there was no memory, none is named
pub refused_texts : (m : Module) (budget : ℕ) (f : CheckFault) → IsShown f (IsRefusal m budget f) →
    HaveTexts (length m.families.items) f
refused_texts m budget Memory h = tt
refused_texts m budget f h = refusal_texts m budget f (h (λ e. cc e))
