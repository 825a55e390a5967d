-- Why a term is refused: all that is looked at before has its plain derivation, and what is looked at then fails.
use Rattle.std.specs.Prelude.{◌≡◌, ◌⊎◌, List, [], ◌∷◌, ℕ, map, length, Option, Some, None, slice_get}
use Rattle.fst_types.specs.Tree as type
use Rattle.fst_types.specs.Tree.{Tree, plain, arrow, named}
use Rattle.fst_types.specs.declared.base.Base.TheVariants.{Int, Bool as Truth}
use Rattle.fst_types.specs.declared.family.Family.{Family}
use Rattle.fst_types.specs.declared.family.Maker.{Maker}
use Rattle.fst_types.specs.declared.kind.Use.{Use}
use Rattle.fst_types.specs.declared.kind.Use.TheVariants.{Many}
use Rattle.fst_terms.specs.CoreTree.{CoreTree, local, global, int, bool, char, unit, pair, make, lambda, apply, let_in, split, if_else, case_of, operate, negate, new, send, receive, close, wait, select, match_with, fork, seq, CoreList, no_terms, term, CoreArms, no_arms, arm}
use Rattle.fst_terms.specs.InRange.{maker_of}
use Rattle.fst_terms.specs.declared.binder.Binder.{Binder}
use Rattle.fst_context.specs.Scope.{Scope, Variable}
use Rattle.fst_equiv.specs.Comparison.{IsComparison, IsTooLargeComparison}
use Rattle.fst_equiv.specs.declared.comparing.Same.TheVariants as same
use Rattle.fst_derivations.specs.Deriv.{Deriv, type_of}
use Rattle.fst_arms.specs.Arms.{arm_labels, AreEachOnce}
use Rattle.fst_derivations.specs.Parts.{HasUse, AreAt, AreVariables, IsOffering, IsComparable}
use Rattle.fst_derivations.specs.Rules.{Binding, fields, rest, Binds}
use Rattle.fst_premises.specs.Scopes.{inside, entered_all, left_all, AreUsed}
use Rattle.fst_premises.specs.Shown.{ShowsVariable, ShowsUse, ShowsNew, IsTooLargeAt, place, IsShown, ShowsUnused, IsLargeBinder, UseDifferent, ShowsNoFunction, ShowsNoPair, ShowsDropped, ShowsSend, ShowsReceive, ShowsClose, ShowsWait, ShowsSelect, ShowsNoCase, ShowsNoMatch}
use Rattle.fst_premises.specs.Checks.{Check, AreInSize}
use Rattle.fst_typing.specs.Typed.{IsKnown, IsTyped}
use Rattle.fst_premises.specs.declared.fault.CheckFault.{CheckFault}
use Rattle.fst_premises.specs.declared.fault.CheckFault.TheVariants.{Mismatch, Undecided, TooLarge}
use Rattle.fst_premises.specs.declared.fault.Difference.TheVariants.{Shape, Word}
use Rattle.fst_premises.specs.Signs.{operand}

-- the type found at a place isn't known to be the one wanted
pub data IsUnequal (c : Check) (at : ℕ) (found wanted : Tree) : CheckFault → Type 0 where
  shape : IsComparison found wanted c.budget same.Shape →
      IsUnequal c at found wanted (Mismatch at found wanted Shape)
  word : {w : _} {side : _} → IsComparison found wanted c.budget (same.Word w side) →
      IsUnequal c at found wanted (Mismatch at found wanted (Word w side))
  undecided : {g : _} {pairs : _} → IsComparison found wanted c.budget (same.Undecided g pairs) →
      IsUnequal c at found wanted (Undecided at found wanted g pairs)
  too_large : IsTooLargeComparison found wanted c.budget → IsUnequal c at found wanted (TooLarge at)

-- the part has its plain derivation, and then this is so of the scope behind it and of its type
pub record After (c : Check) (s : Scope) (e : CoreTree) (P : Scope → Tree → Type 0) : Type 0 where
  pub scope : Scope
  pub derivation : Deriv
  pub typed : IsTyped c s scope e derivation
  pub then : P scope (type_of derivation)

-- the part is refused, or has its plain derivation and then this is so
abbrev pub First : Check → CoreTree → Scope → Type 0 → (Scope → Tree → Type 0) → Type 0
First c e s Refused P = Refused ⊎ After c s e P

-- names are bound at types within their size, and the term under them is refused, or has its plain derivation and leaves one of
-- the names unused, or uses all of them and then this is so
pub record Under (c : Check) (xs : List Binder) (ts : List Tree) (e : CoreTree) (s : Scope)
    (Refused : Scope → Type 0) (P : Scope → Tree → Type 0) (f : CheckFault) : Type 0 where
  pub variables : List Variable
  pub small : AreInSize ts
  pub types : AreVariables c.surroundings.vars ts variables
  pub long : length xs ≡ length variables
  pub inside : First c e (entered_all xs variables s) (Refused (entered_all xs variables s))
      (λ z t. ShowsUnused z xs f ⊎ (AreUsed (length xs) z × P (left_all (length xs) z) t))

-- nothing is asked behind a term
abbrev pub NoMore : Scope → Tree → Type 0
NoMore s t = ⊥

-- the type found at a place isn't known to be the one wanted; or it is, and then this is so
abbrev pub Unless : Check → ℕ → Tree → Tree → CheckFault → Type 0 → Type 0
Unless c at found wanted f P = IsUnequal c at found wanted f ⊎ (IsKnown c found wanted × P)

-- the first operand of a sign fails
abbrev pub ShowsOperand : Check → Option Tree → ℕ → Tree → CheckFault → Type 0
ShowsOperand c (Some t) at s f = IsUnequal c at s t f
ShowsOperand c None at s f = (IsComparable s → ⊥) × IsUnequal c at s (plain Int) f

-- it doesn't, and the other one has this type
abbrev pub IsOperand : Check → Option Tree → Tree → Tree → Type 0
IsOperand c (Some t) s wanted = IsKnown c s t × (wanted ≡ t)
IsOperand c None s wanted = IsComparable s × (wanted ≡ s)

abbrev mutual
  -- the term is refused with this fault, in this scope
  pub Shows : Check → CoreTree → Scope → CheckFault → Type 0
  Shows c (local at k) s f = ShowsVariable at k s f
  Shows c (global at k ks) s f = ShowsUse c at k ks f
  Shows c (int at n) s f = ⊥
  Shows c (bool at b) s f = ⊥
  Shows c (char at n) s f = ⊥
  Shows c (unit at) s f = ⊥
  Shows c (pair at a b) s f =
      First c a s (Shows c a s f) (λ r t. First c b r (Shows c b r f)
      (λ z u. IsTooLargeAt at (type.pair t u) f))
  Shows c (make at n k es) s f =
      (o : Maker) × (ts : List Tree) × (maker_of (slice_get c.surroundings.families n) k ≡ Some o) ×
      AreAt c.surroundings.types o.fields.items ts × ShowsFields c es ts s f
  Shows c (lambda at uses k x e) s f =
      (t : Tree) × (slice_get c.surroundings.types k ≡ Some t) ×
      (IsTooLargeAt x.at t f ⊎ Under c (x ∷ []) (t ∷ []) e (inside uses s) (λ z. Shows c e z f)
      (λ z u. IsTooLargeAt at (arrow uses t u) f) f)
  Shows c (apply at a b) s f =
      First c a s (Shows c a s f)
      (λ r t. ShowsNoFunction (place a) t f
      ⊎ ((n : Use) × (from : Tree) × (to : Tree) ×
      (t ≡ arrow n from to) × First c b r (Shows c b r f)
      (λ z u. IsUnequal c (place b) u from f)))
  Shows c (let_in at x a b) s f =
      First c a s (Shows c a s f) (λ r t. Under c (x ∷ []) (t ∷ []) b r
      (λ z. Shows c b z f) NoMore f)
  Shows c (split at x y a b) s f =
      First c a s (Shows c a s f)
      (λ r t. ShowsNoPair (place a) t f
      ⊎ ((u : Tree) × (v : Tree) × (t ≡ type.pair u v) × Under c (x ∷ y ∷ []) (u ∷ v ∷ []) b r
      (λ z. Shows c b z f) NoMore f))
  Shows c (if_else at a b o) s f =
      First c a s (Shows c a s f)
      (λ r t. Unless c (place a) t (plain Truth) f
      (First c b r (Shows c b r f)
      (λ z u. First c o r (Shows c o r f)
      (λ y v. UseDifferent (place o) z y f ⊎ ((y ≡ z) × IsUnequal c (place o) v u f)))))
  Shows c (case_of at a bs) s f =
      First c a s (Shows c a s f)
      (λ r t. ShowsNoCase c.surroundings.families at t (arm_labels bs) f
      ⊎ ((n : ℕ) × (g : Family) × (t ≡ named n) ×
      (slice_get c.surroundings.families n ≡ Some g) ×
      AreEachOnce (map (λ o. o.name) g.makers.items) (arm_labels bs) ×
      ShowsArms c (fields g.makers.items) bs r f))
  Shows c (operate at o a b) s f =
      First c a s (Shows c a s f)
      (λ r t. ShowsOperand c (operand o) (place a) t f
      ⊎ ((wanted : Tree) × IsOperand c (operand o) t wanted × First c b r (Shows c b r f)
      (λ z u. IsUnequal c (place b) u wanted f)))
  Shows c (negate at a) s f = First c a s (Shows c a s f)
      (λ r t. IsUnequal c (place a) t (plain Truth) f)
  Shows c (new at k) s f = ShowsNew c at k f
  Shows c (send at a b) s f = First c a s (Shows c a s f)
      (λ r t. First c b r (Shows c b r f) (λ z u. ShowsSend at t u f))
  Shows c (receive at a) s f = First c a s (Shows c a s f) (λ r t. ShowsReceive at t f)
  Shows c (close at a) s f = First c a s (Shows c a s f) (λ r t. ShowsClose at t f)
  Shows c (wait at a) s f = First c a s (Shows c a s f) (λ r t. ShowsWait at t f)
  Shows c (select at l a) s f = First c a s (Shows c a s f) (λ r t. ShowsSelect at l t f)
  Shows c (match_with at a bs) s f =
      First c a s (Shows c a s f)
      (λ r t. ShowsNoMatch at t (arm_labels bs) f
      ⊎ ((ls : List (List ℕ)) × IsOffering t ls × AreEachOnce ls (arm_labels bs) ×
      ShowsArms c (rest t) bs r f))
  Shows c (fork at a) s f = First c a s (Shows c a s f)
      (λ r t. ShowsDropped c.surroundings.vars (place a) t f)
  Shows c (seq at a b) s f =
      First c a s (Shows c a s f) (λ r t. ShowsDropped c.surroundings.vars (place a) t f ⊎
      (HasUse c.surroundings.vars t Many × Shows c b r f))

  -- one of a constructor's arguments is, or its type isn't that of its field
  pub ShowsFields : Check → CoreList → List Tree → Scope → CheckFault → Type 0
  ShowsFields c no_terms ts s f = ⊥
  ShowsFields c (term e es) [] s f = ⊥
  ShowsFields c (term e es) (t ∷ ts) s f = First c e s (Shows c e s f)
      (λ r u. Unless c (place e) u t f (ShowsFields c es ts r f))

  -- one of the arms is: the first
  pub ShowsArms : Check → Binding → CoreArms → Scope → CheckFault → Type 0
  ShowsArms c b no_arms s f = ⊥
  ShowsArms c b (arm l xs e bs) s f =
      (ts : List Tree) × Binds c.surroundings b l ts ×
      (IsLargeBinder xs ts f ⊎ Under c xs ts e s (λ z. Shows c e z f)
      (λ z t. ShowsFurther c b bs s z t f) f)

  -- or a further one, which has to use the same variables and to have the type of the first
  pub ShowsFurther : Check → Binding → CoreArms → Scope → Scope → Tree → CheckFault → Type 0
  ShowsFurther c b no_arms s r t f = ⊥
  ShowsFurther c b (arm l xs e bs) s r t f =
      (ts : List Tree) × Binds c.surroundings b l ts ×
      (IsLargeBinder xs ts f
      ⊎ Under c xs ts e s (λ z. Shows c e z f)
      (λ z u. UseDifferent (place e) r z f ⊎
      ((z ≡ r) × Unless c (place e) u t f (ShowsFurther c b bs s r t f))) f)

-- the same of a term
abbrev pub IsRefused : Check → CoreTree → Scope → CheckFault → Type 0
IsRefused c e s f = IsShown f (Shows c e s f)
