-- What is found of the globals of a module, one after the other.
use Rattle.std.proofs.Common.{◌≡◌, inl, inr, ℕ, zero, suc, ◌≤◌, ◌<◌, Bool, true, false, List, [], ◌∷◌, ◌++◌, Option, None, Some, refl, subst, arith}
use Rattle.std.specs.Prelude.{◌↔◌, IsTrue, MatchOption, slice_get, length, take}
use Rattle.std.proofs.lemmas.Bool.{cases_lt}
use Rattle.std.proofs.lemmas.List.{take_all}
use Rattle.std.specs.List.{AllByRecursion}
use Rattle.fst_types.specs.Tree.{Tree}
use Rattle.fst_types.specs.declared.kind.Kind.{Kind}
use Rattle.fst_terms.specs.CoreTree.{CoreTree}
use Rattle.fst_terms.specs.InRange.{AreGlobals, Bounds, IsInRange}
use Rattle.fst_terms.specs.declared.core_module.Module.{Module}
use Rattle.fst_terms.specs.declared.global.GlobalEntry.{GlobalEntry}
use Rattle.fst_context.specs.Scope.{Scope, empty}
use Rattle.fst_context.specs.Vars.{Vars, no_vars}
use Rattle.fst_derivations.specs.Deriv.{Deriv}
use Rattle.fst_derivations.specs.Modules.{ArePlainlyDerived, AreTypesFormed, Equation, HasMain, IsMain}
use Rattle.fst_written.specs.First.{IsFirst}
use Rattle.fst_written.proofs.Laws.{equation_formed, first_kept, first_less, first_new, makers_formed, signature_formed}
use Rattle.fst_premises.specs.Checks.{Check}
use Rattle.fst_typing.specs.Typed.{checking}
use Rattle.fst_premises.specs.Scenes.{IsReady, IsSetUp}
use Rattle.fst_premises.specs.Shown.{IsShown}
use Rattle.fst_typing.specs.Equations.{IsEquationTyped}
use Rattle.fst_typing.specs.Checked.{check_over, IsEarlier, IsEquationDerived, IsFoundOf, IsGlobalAccepted, checking_over, IsNamedMain, ShowsGlobal}
use Rattle.fst_typing.specs.declared.globals.Refused.{Refused}

all_more : {A : Type 0} (P : A → Type 0) (xs : List A) (x : A) → AllByRecursion P xs → P x → AllByRecursion P (xs ++ x ∷ [])
all_more P [] x h p = (p, tt)
all_more P (y ∷ xs) x h p = (h.0, all_more P xs x h.1 p)

-- where a set is among no variables it is empty
none_taken : (u : Vars) → ((k : ℕ) → u k ≡ true → false ≡ true) → u ≡ no_vars
none_taken u h = λ i k. pick (u k) (h k) i
  where
    pick : (b : Bool) → (b ≡ true → false ≡ true) → b ≡ false
    pick true g = absurd (cc (g refl))
    pick false g = refl

-- an equation takes no variable from no scope
pub equation_closed : (c : Check) (t : Tree) (s : Scope) (e : CoreTree) (d : Deriv) → IsEquationTyped c t empty s e d →
    Equation c.surroundings (checking c) e t [] no_vars d
equation_closed c t s e d y = subst (λ u. Equation c.surroundings (checking c) e t [] u d) (none_taken y.used y.within) y.fact

global_ranged : (b : Bounds) (gs : List GlobalEntry) (k : ℕ) (g : GlobalEntry) → AreGlobals b gs → slice_get gs k ≡ Some g →
    (g.signature < b.types) × IsInRange b 0 g.body
global_ranged b [] k g h is = absurd (cc is)
global_ranged b (f ∷ gs) zero g h is = let same : f ≡ g = cc in subst
    (λ (o : GlobalEntry). (o.signature < b.types) × IsInRange b 0 o.body) same (h.0, h.1)
global_ranged b (f ∷ gs) (suc k) g h is = global_ranged b gs k g h.2 is

module _ (m : Module) (budget : ℕ) where
  abbrev B : Bounds
  B = record { families = m.families.items; globals = length m.globals.items; types = length m.types.items }

  -- the number of a signature is that of a type
  pub signature_there : (k : ℕ) (g : GlobalEntry) → slice_get m.globals.items k ≡ Some g → g.signature < length m.types.items
  signature_there k g is = (global_ranged B m.globals.items k g m.whole.global_parts is).0

  -- what a module's equations are checked with
  pub set_up : (vars : List Kind) → 1 ≤ budget → AreTypesFormed m → IsSetUp (check_over m budget vars)
  set_up vars few h = record { budget = few; signatures = signature_formed m h; fields = makers_formed m h }

  -- a global's equation is ready to be checked
  pub equation_ready : (k : ℕ) (g : GlobalEntry) → AreTypesFormed m → slice_get m.globals.items k ≡ Some g →
      IsReady (check_over m budget g.kinds.items) g.body []
  equation_ready k g h is = record {
    range = (global_ranged B m.globals.items k g m.whole.global_parts is).1;
    formed = equation_formed m h k g is;
    held = tt;
  }

  abbrev Is : GlobalEntry → Type 0
  Is = IsGlobalAccepted m budget

  abbrev at_of : GlobalEntry → ℕ
  at_of h = h.at

  derived_more : (gs : List GlobalEntry) (ds : List Deriv) (g : GlobalEntry) (d : Deriv) →
      ArePlainlyDerived m (checking_over m budget) gs ds → IsEquationDerived m budget g d →
      ArePlainlyDerived m (checking_over m budget) (gs ++ g ∷ []) (ds ++ d ∷ [])
  derived_more [] [] g d h x = (x, tt)
  derived_more [] (e ∷ ds) g d h x = absurd h
  derived_more (f ∷ gs) [] g d h x = absurd h
  derived_more (f ∷ gs) (e ∷ ds) g d h x = (h.0, derived_more gs ds g d h.1 x)

  main_more : (gs : List GlobalEntry) (g : GlobalEntry) → HasMain m.types.items gs →
      (IsNamedMain g → IsMain m.types.items g) → HasMain m.types.items (gs ++ g ∷ [])
  main_more [] g h x = (x, tt)
  main_more (f ∷ gs) g h x = (h.0, main_more gs g h.1 x)

  -- nothing is found of no globals
  pub found_none : IsFoundOf m budget [] [] None
  unfolding IsFoundOf
  found_none = (tt, tt, tt)

  -- all of them are accepted, where none is refused
  pub found_all : (gs : List GlobalEntry) (ds : List Deriv) → IsFoundOf m budget gs ds None →
      ArePlainlyDerived m (checking_over m budget) gs ds × HasMain m.types.items gs
  unfolding IsFoundOf
  found_all gs ds h = (h.0, h.1)

  -- the refused one begins first
  pub found_first : (gs : List GlobalEntry) (ds : List Deriv) (r : Refused) → IsFoundOf m budget gs ds (Some r) →
      IsShown r.fault ((g : GlobalEntry) × IsFirst at_of Is gs g × ShowsGlobal m budget g r.fault)
  unfolding IsFoundOf
  found_first gs ds r (f, first, at, shown) = λ n. (f, first, shown n)

  -- a global that begins no earlier than the refused one changes nothing
  pub found_kept : (gs : List GlobalEntry) (ds : List Deriv) (r : Refused) (g : GlobalEntry) → IsFoundOf m budget gs ds (Some r) →
      r.at ≤ g.at → IsFoundOf m budget (gs ++ g ∷ []) ds (Some r)
  unfolding IsFoundOf
  found_kept gs ds r g (f, first, at, shown) le =
      (f, first_kept at_of Is gs g f first (λ lt. absurd (omega (arith, at))), at, shown)

  -- an accepted one adds its derivation
  pub found_accepted : (gs : List GlobalEntry) (ds : List Deriv) (o : Option Refused) (g : GlobalEntry) (d : Deriv) →
      IsFoundOf m budget gs ds o → (IsNamedMain g → IsMain m.types.items g) →
      IsEquationDerived m budget g d → IsFoundOf m budget (gs ++ g ∷ []) (ds ++ d ∷ []) o
  unfolding IsFoundOf
  found_accepted gs ds None g d (derived, main, all) x y = (
    derived_more gs ds g d derived y,
    main_more gs g main x,
    all_more Is gs g all (record { main = x; derivation = d; derived = y }),
  )
  found_accepted gs ds (Some r) g d (f, first, at, shown) x y =
      (f, first_kept at_of Is gs g f first (λ lt. record { main = x; derivation = d; derived = y }), at, shown)

  -- a refused one that begins before the one so far is the first
  pub found_refused : (gs : List GlobalEntry) (ds : List Deriv) (o : Option Refused) (r : Refused) (g : GlobalEntry) →
      IsFoundOf m budget gs ds o → IsEarlier o g → r.at ≡ g.at →
      IsShown r.fault (ShowsGlobal m budget g r.fault) → IsFoundOf m budget (gs ++ g ∷ []) ds (Some r)
  unfolding IsFoundOf
  found_refused gs ds None r g (derived, main, all) lt at shown = (g, first_new at_of Is gs g all, at, shown)
  found_refused gs ds (Some q) r g (f, first, there, old) lt at shown =
      (g, first_less at_of Is gs g f first (omega (arith, there, lt)), at, shown)

  -- where a test says that the refused one begins no later, nothing changes
  pub behind_kept : (gs : List GlobalEntry) (ds : List Deriv) (o : Option Refused) (g : GlobalEntry) →
      MatchOption o (true ≡ false) (λ r. IsTrue true ↔ (r.at ≤ g.at)) → IsFoundOf m budget gs ds o →
      IsFoundOf m budget (gs ++ g ∷ []) ds o
  behind_kept gs ds None g e h = absurd (cc e)
  behind_kept gs ds (Some r) g e h = found_kept gs ds r g h (e.0 refl)

  -- where it says that it doesn't, this one begins earlier
  pub behind_earlier : (o : Option Refused) (g : GlobalEntry) → MatchOption o (false ≡ false)
      (λ r. IsTrue false ↔ (r.at ≤ g.at)) → IsEarlier o g
  behind_earlier None g e = tt
  behind_earlier (Some r) g e = elim (cases_lt g.at r.at) as (λ _. g.at < r.at) [ inl q ↦ q | inr q ↦ absurd (cc (e.1 q)) ]

  -- behind the last of them all are looked at
  pub found_end : (i : ℕ) (gs : List GlobalEntry) (ds : List Deriv) (o : Option Refused) → length gs ≤ i →
      IsFoundOf m budget (take i gs) ds o → IsFoundOf m budget gs ds o
  found_end i gs ds o past h = subst (λ xs. IsFoundOf m budget xs ds o) (take_all i gs past) h
