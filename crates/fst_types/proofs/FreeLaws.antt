-- Which variables are free, and which are after substitution.
use Rattle.std.proofs.Common.{◌≡◌, ◌<◌, ◌↔◌, ◌⊎◌, inl, inr, ℕ, zero, suc, List, [], ◌∷◌, Option, Some, None, refl, subst, sym, arith}
use Rattle.fst_types.specs.Tree.{Tree, skip, send, receive, close, wait, select, offer, seq, rec, back, var, plain, arrow, pair, named, Branches, none, branch}
use Rattle.fst_types.specs.Scoped.{IsScoped, AllScoped, IsFree, IsFreeInSome}
use Rattle.fst_types.specs.Substitution.{variable, substitute, substitute_all, EnvHas, StandsForNothing}

mutual
  -- each free variable belongs to one of the binders around
  pub free_within : (n k : ℕ) (t : Tree) → IsScoped n t → IsFree k t → k < n
  free_within n k skip h f = absurd f
  free_within n k (send b) h f = absurd f
  free_within n k (receive b) h f = absurd f
  free_within n k close h f = absurd f
  free_within n k wait h f = absurd f
  free_within n k (select bs) h f = free_within_some n k bs h f
  free_within n k (offer bs) h f = free_within_some n k bs h f
  free_within n k (seq s r) h (inl f) = free_within n k s h.0 f
  free_within n k (seq s r) h (inr f) = free_within n k r h.1 f
  free_within n k (rec s) h f = let lt = free_within (suc n) (suc k) s h f in omega (arith, lt)
  free_within n k (back j) h f = omega (arith, h, f)
  free_within n k (var j) h f = absurd f
  free_within n k (plain b) h f = absurd f
  free_within n k (arrow u s r) h (inl f) = free_within n k s h.0 f
  free_within n k (arrow u s r) h (inr f) = free_within n k r h.1 f
  free_within n k (pair s r) h (inl f) = free_within n k s h.0 f
  free_within n k (pair s r) h (inr f) = free_within n k r h.1 f
  free_within n k (named j) h f = absurd f

  free_within_some : (n k : ℕ) (bs : Branches) → AllScoped n bs → IsFreeInSome k bs → k < n
  free_within_some n k none h f = absurd f
  free_within_some n k (branch l s bs) h (inl f) = free_within n k s h.0 f
  free_within_some n k (branch l s bs) h (inr f) = free_within_some n k bs h.1 f

under : (n : ℕ) (P : ℕ → Type 0) → ((k : ℕ) → P (suc k) → k < n) → (k : ℕ) → P k → k < suc n
under n P h zero f = omega arith
under n P h (suc k) f = let lt = h k f in omega (arith, lt)

mutual
  -- a type whose free variables all belong to binders around has no other
  pub scoped_by_free : (n : ℕ) (t : Tree) → ((k : ℕ) → IsFree k t → k < n) → IsScoped n t
  scoped_by_free n skip h = tt
  scoped_by_free n (send b) h = tt
  scoped_by_free n (receive b) h = tt
  scoped_by_free n close h = tt
  scoped_by_free n wait h = tt
  scoped_by_free n (select bs) h = all_scoped_by_free n bs h
  scoped_by_free n (offer bs) h = all_scoped_by_free n bs h
  scoped_by_free n (seq s r) h = (scoped_by_free n s (λ k f. h k (inl f)), scoped_by_free n r (λ k f. h k (inr f)))
  scoped_by_free n (rec s) h = scoped_by_free (suc n) s (under n (λ k. IsFree k s) h)
  scoped_by_free n (back j) h = h j refl
  scoped_by_free n (var j) h = tt
  scoped_by_free n (plain b) h = tt
  scoped_by_free n (arrow u s r) h = (scoped_by_free n s (λ k f. h k (inl f)), scoped_by_free n r (λ k f. h k (inr f)))
  scoped_by_free n (pair s r) h = (scoped_by_free n s (λ k f. h k (inl f)), scoped_by_free n r (λ k f. h k (inr f)))
  scoped_by_free n (named j) h = tt

  all_scoped_by_free : (n : ℕ) (bs : Branches) → ((k : ℕ) → IsFreeInSome k bs → k < n) → AllScoped n bs
  all_scoped_by_free n none h = tt
  all_scoped_by_free n (branch l s bs) h = (scoped_by_free n s (λ k f. h k (inl f)), all_scoped_by_free n bs (λ k f. h k (inr f)))

-- no variable is free outside n binders exactly where each free one belongs to one of them
pub scoped_exactly : (n : ℕ) (t : Tree) → IsScoped n t ↔ ((k : ℕ) → IsFree k t → k < n)
scoped_exactly n t = (λ h k f. free_within n k t h f, scoped_by_free n t)

-- the free variables of what a variable stands for
variable_free : (env : List (Option Tree)) → EnvHas (IsScoped 0) env →
    (j m k : ℕ) → IsFree k (variable env j (back m)) ↔ ((m ≡ k) × StandsForNothing env j)
variable_free [] ok j m k = (λ e. (e, tt), λ p. p.0)
variable_free (None ∷ env) ok zero m k = (λ e. (e, tt), λ p. p.0)
variable_free (Some t ∷ env) ok zero m k = (λ f. absurd (omega (arith, free_within 0 k t ok.0 f)), λ p. absurd p.1)
variable_free (None ∷ env) ok (suc j) m k = variable_free env ok.1 j m k
variable_free (Some t ∷ env) ok (suc j) m k = variable_free env ok.1 j m k

at_one : (env : List (Option Tree)) (j k : ℕ) (A : Type 0) → A ↔ ((j ≡ k) × StandsForNothing env j) →
    A ↔ ((j ≡ k) × StandsForNothing env k)
at_one env j k A h = (
  λ a. let p = h.0 a in (p.0, subst (StandsForNothing env) p.0 p.1),
  λ p. h.1 (p.0, subst (StandsForNothing env) (sym p.0) p.1),
)

-- what holds in one of two parts
in_either : {A B C D E : Type 0} → A ↔ (B × E) → C ↔ (D × E) → (A ⊎ C) ↔ ((B ⊎ D) × E)
in_either {A} {B} {C} {D} {E} f g = (there, λ p. back_again p.1 p.0)
  where
    there : A ⊎ C → (B ⊎ D) × E
    there (inl a) = let p = f.0 a in (inl p.0, p.1)
    there (inr c) = let p = g.0 c in (inr p.0, p.1)

    back_again : E → B ⊎ D → A ⊎ C
    back_again e (inl b) = inl (f.1 (b, e))
    back_again e (inr d) = inr (g.1 (d, e))

in_neither : {E : Type 0} → ⊥ ↔ (⊥ × E)
in_neither = (λ f. absurd f, λ p. p.0)

mutual
  -- the free variables of a type in which types without any are put: those of the type that stand for nothing
  pub substitute_free : (env : List (Option Tree)) → EnvHas (IsScoped 0) env →
      (t : Tree) (k : ℕ) → IsFree k (substitute env t) ↔ (IsFree k t × StandsForNothing env k)
  substitute_free env ok skip k = in_neither
  substitute_free env ok (send b) k = in_neither
  substitute_free env ok (receive b) k = in_neither
  substitute_free env ok close k = in_neither
  substitute_free env ok wait k = in_neither
  substitute_free env ok (select bs) k = substitute_free_in_some env ok bs k
  substitute_free env ok (offer bs) k = substitute_free_in_some env ok bs k
  substitute_free env ok (seq s r) k = in_either (substitute_free env ok s k) (substitute_free env ok r k)
  substitute_free env ok (rec s) k = substitute_free (None ∷ env) (tt, ok) s (suc k)
  substitute_free env ok (back j) k = at_one env j k (IsFree k (variable env j (back j))) (variable_free env ok j j k)
  substitute_free env ok (var j) k = in_neither
  substitute_free env ok (plain b) k = in_neither
  substitute_free env ok (arrow u s r) k = in_either (substitute_free env ok s k) (substitute_free env ok r k)
  substitute_free env ok (pair s r) k = in_either (substitute_free env ok s k) (substitute_free env ok r k)
  substitute_free env ok (named j) k = in_neither

  substitute_free_in_some : (env : List (Option Tree)) → EnvHas (IsScoped 0) env →
      (bs : Branches) (k : ℕ) → IsFreeInSome k (substitute_all env bs) ↔ (IsFreeInSome k bs × StandsForNothing env k)
  substitute_free_in_some env ok none k = in_neither
  substitute_free_in_some env ok (branch l s bs) k = in_either (substitute_free env ok s k) (substitute_free_in_some env ok bs k)

-- what the law of substitution says
pub ruleset substitution_laws = (scoped_exactly, substitute_free)
