-- Which types in a check have texts: those of parts that are typed, and of the variables in scope behind them.
use Rattle.std.proofs.Common.{◌≡◌, ◌⊎◌, inl, inr, ℕ, List, [], ◌∷◌, length, sym, subst}
use Rattle.fst_types.specs.Tree.{Tree}
use Rattle.fst_types.specs.declared.kind.Kind.{Kind}
use Rattle.fst_types.specs.declared.kind.Use.{Use}
use Rattle.fst_types.specs.declared.kind.Use.TheVariants.{Many, Once}
use Rattle.fst_terms.specs.CoreTree.{CoreTree}
use Rattle.fst_terms.specs.declared.binder.Binder.{Binder}
use Rattle.fst_context.specs.Scope.{Scope, Variable, entered, Takes}
use Rattle.fst_context.specs.Vars.{Vars}
use Rattle.fst_derivations.specs.Deriv.{Deriv, type_of}
use Rattle.fst_derivations.specs.Texts.{HasText, AllHaveText, VariablesHaveText}
use Rattle.fst_derivations.specs.Rules.{comparing}
use Rattle.fst_derivations.proofs.Laws.{row_text, variables_text, weaker, within_compares}
use Rattle.fst_premises.specs.Scopes.{entered_all, inside}
use Rattle.fst_premises.specs.Checks.{Check, IsInSize}
use Rattle.fst_typing.specs.Typed.{IsKnown, IsTyped, checking}
use Rattle.fst_premises.specs.Shown.{IsTooLargeAt, IsLargeBinder, IsUnused, ShowsUnused, ShowsArguments, UseDifferent}
use Rattle.fst_typing.specs.Shown.{After, IsUnequal, Under, Unless}
use Rattle.fst_typing.specs.Shown.IsUnequal.{shape, word, undecided, too_large}
use Rattle.fst_typing.specs.Texts.{HaveTexts}
use Rattle.fst_premises.specs.declared.fault.CheckFault.{CheckFault}
use Rattle.fst_premises.specs.declared.fault.CheckFault.TheVariants.{Unused, KindOfArgument, Branches, TooLarge}

-- one of two causes
pub either : {A B : Type 0} (n : ℕ) (f : CheckFault) → A ⊎ B → (A → HaveTexts n f) → (B → HaveTexts n f) → HaveTexts n f
either n f (inl x) g h = g x
either n f (inr y) g h = h y

-- a refusal that is this one
pub said : (n : ℕ) (f g : CheckFault) → f ≡ g → HaveTexts n g → HaveTexts n f
said n f g e h = subst (HaveTexts n) (sym e) h

-- ---- refusals that name no type

pub large_text : (n at : ℕ) (t : Tree) (f : CheckFault) → IsTooLargeAt at t f → HaveTexts n f
large_text n at t f x = said n f (TooLarge at) x.is tt

pub large_binder_text : (n : ℕ) (xs : List Binder) (ts : List Tree) (f : CheckFault) → IsLargeBinder xs ts f → HaveTexts n f
large_binder_text n [] ts f y = absurd y
large_binder_text n (x ∷ xs) [] f y = absurd y
large_binder_text n (x ∷ xs) (t ∷ ts) f (inl y) = large_text n x.at t f y
large_binder_text n (x ∷ xs) (t ∷ ts) f (inr y) = large_binder_text n xs ts f y.1

pub argument_text : (n : ℕ) (c : Check) (ks : List ℕ) (vs : List Kind) (f : CheckFault) → ShowsArguments c ks vs f → HaveTexts n f
argument_text n c [] vs f y = absurd y
argument_text n c (k ∷ ks) [] f y = absurd y
argument_text n c (k ∷ ks) (v ∷ vs) f (t, j, i, w, inl y) = said n f (KindOfArgument y.1.0 j v) y.1.2 tt
argument_text n c (k ∷ ks) (v ∷ vs) f (t, j, i, w, inr y) = argument_text n c ks vs f y.1

pub unused_text : (n : ℕ) (z : Scope) (k : ℕ) (x : Binder) (f : CheckFault) → IsUnused z k x f → HaveTexts n f
unused_text n z k x f y = said n f (Unused x.at x.name) y.is tt

one_unused_text : (n : ℕ) (z : Scope) (xs : List Binder) (f : CheckFault) → ShowsUnused z xs f → HaveTexts n f
one_unused_text n z [] f y = absurd y
one_unused_text n z (x ∷ xs) f (inl y) = unused_text n z (length xs) x f y
one_unused_text n z (x ∷ xs) f (inr y) = one_unused_text n z xs f y.1

pub branches_text : (n at : ℕ) (s z : Scope) (f : CheckFault) → UseDifferent at s z f → HaveTexts n f
branches_text n at s z f y = said n f (Branches at y.name) y.is tt

-- ---- two types that aren't known to be equal

pub unequal_text : (n : ℕ) (c : Check) (at : ℕ) (found wanted : Tree) (f : CheckFault) → HasText n found → HasText n wanted →
    IsUnequal c at found wanted f → HaveTexts n f
unequal_text n c at found wanted _ h i (shape x) = (h, i)
unequal_text n c at found wanted _ h i (word x) = (h, i)
unequal_text n c at found wanted _ h i (undecided x) = (h, i)
unequal_text n c at found wanted _ h i (too_large x) = tt

-- ---- variables in scope

-- the variables in scope have types with texts
abbrev pub ScopeHasText : ℕ → Scope → Type 0
ScopeHasText n s = VariablesHaveText n s.variables

-- and still do behind what takes some of them
taken_text : (n : ℕ) (P : Vars → Type 0) (s r : Scope) → ScopeHasText n s → Takes P s r → ScopeHasText n r
taken_text n P s r h t = subst (ScopeHasText n) (sym t.rest) h

entered_text : (n : ℕ) (xs : List Binder) (vs : List Variable) (s : Scope) → VariablesHaveText n vs → ScopeHasText n s →
    ScopeHasText n (entered_all xs vs s)
entered_text n [] vs s a h = h
entered_text n (x ∷ xs) [] s a h = h
entered_text n (x ∷ xs) (v ∷ vs) s a h = entered_text n xs vs (entered x.name v s) a.1 (a.0, h)

-- where the body of a function is looked at
pub inside_text : (n : ℕ) (u : Use) (s : Scope) → ScopeHasText n s → ScopeHasText n (inside u s)
inside_text n Many s h = h
inside_text n Once s h = h

-- ---- parts that are typed

module _ (c : Check) (types : AllHaveText (length c.surroundings.families) c.surroundings.types) where
  abbrev N : ℕ
  N = length c.surroundings.families

  -- the type of a part that is typed has a text
  pub typed_text : (e : CoreTree) (s r : Scope) (d : Deriv) → ScopeHasText N s → IsTyped c s r e d → HasText N (type_of d)
  typed_text e s r d h t =
      row_text c.surroundings (IsKnown c) types e s.variables h t.used d
      (weaker c.surroundings (checking c) (comparing (IsKnown c))
      (within_compares IsInSize (IsKnown c) (IsKnown c) (λ p q k. k)) e s.variables t.used d t.fact.rule)

  -- so has that of a first part
  pub after_text : {P : Scope → Tree → Type 0} (e : CoreTree) (s : Scope) → ScopeHasText N s →
      (x : After c s e P) → HasText N (type_of x.derivation)
  after_text e s h x = typed_text e s x.scope x.derivation h x.typed

  -- and the variables behind it
  pub behind_text : {P : Scope → Tree → Type 0} (e : CoreTree) (s : Scope) → ScopeHasText N s →
      (x : After c s e P) → ScopeHasText N x.scope
  behind_text e s h x = taken_text N _ s x.scope h x.typed

  -- the term under names is refused, or leaves one of them unused, or something is asked behind it
  pub under_text : (Refused : Scope → Type 0) (P : Scope → Tree → Type 0) (xs : List Binder) (ts : List Tree) (e : CoreTree)
      (s : Scope) (f : CheckFault) → AllHaveText N ts → ScopeHasText N s →
      ((z : Scope) → ScopeHasText N z → Refused z → HaveTexts N f) →
      ((z : Scope) (t : Tree) → HasText N t → P z t → HaveTexts N f) → Under c xs ts e s Refused P f → HaveTexts N f
  under_text Refused P xs ts e s f a h g k x =
      let vs = x.variables in
      let there = entered_text N xs vs s (variables_text N c.surroundings.vars ts vs a x.types) h in
      either N f x.inside (g (entered_all xs vs s) there)
      (λ z. either N f z.then (one_unused_text N z.scope xs f)
      (λ q. k _ (type_of z.derivation) (after_text e (entered_all xs vs s) there z) q.1))

  -- two types aren't known to be equal, or something is asked behind them
  pub unless_text : (P : Type 0) (at : ℕ) (found wanted : Tree) (f : CheckFault) → HasText N found → HasText N wanted →
      (P → HaveTexts N f) → Unless c at found wanted f P → HaveTexts N f
  unless_text P at found wanted f h i g x = either N f x (unequal_text N c at found wanted f h i) (λ y. g y.1)
