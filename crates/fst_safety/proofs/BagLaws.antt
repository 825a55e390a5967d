-- Ends among others: how often they stand there, and the residuals that they have.
use Rattle.std.proofs.Common.{◌≡◌, ◌∙◌, ◌⊎◌, inl, inr, ◌<◌, ℕ, zero, suc, ◌+◌, List, [], ◌∷◌, Bool, true, false, Option, Some, refl, sym, ap, arith}
use Rattle.std.specs.Prelude.{if◌then◌else◌, All, IsPermutation}
use Rattle.std.proofs.lemmas.List.Elements.{All-nil, All-cons, All-head, All-tail}
use Rattle.std.proofs.lemmas.List.Sorted.{All-permutation, sum_by-IsPermutation}
use Rattle.std.proofs.lemmas.List.Sums.{sum_by-cons}
use Rattle.fst_types.specs.Tree.{Tree, skip}
use Rattle.fst_lts.specs.Step.{terminated}
use Rattle.fst_types.specs.declared.ends.EndName.{EndName}
use Rattle.fst_runs.specs.Configs.{same_end}
use Rattle.fst_runs.specs.Wrong.{once, IsUnspent}
use Rattle.fst_runs.proofs.Laws.{same_end-itself, same_end-same}
use Rattle.fst_cell.specs.End.{EndView, end_name, residual_of}
use Rattle.fst_safety.specs.Fitting.{Residuals}
use Rattle.fst_safety.specs.Threads.{count_of, IsOpen, AreResiduals}

-- what is counted of one end
abbrev pub counted : EndName → EndView → ℕ
counted x e = once (same_end x (end_name e))

pub count_first : (x : EndName) (e : EndView) (es : List EndView) → count_of x (e ∷ es) ≡ counted x e + count_of x es
count_first x e es = sum_by-cons (counted x) e es

pub counts_itself : (e : EndView) → counted (end_name e) e ≡ 1
counts_itself e = ap once (same_end-itself (end_name e))

pub counted_so : (x : EndName) (e : EndView) → end_name e ≡ x → counted x e ≡ 1
counted_so x e i = ap (λ y. once (same_end x y)) i ∙ ap once (same_end-itself x)

-- either the end is this one, or it isn't counted
pub or_not : (x : EndName) (e : EndView) → (end_name e ≡ x) ⊎ (counted x e ≡ 0)
or_not x e = go (same_end x (end_name e)) refl
  where
    go : (b : Bool) → same_end x (end_name e) ≡ b → (end_name e ≡ x) ⊎ (counted x e ≡ 0)
    go true q = inl (sym (same_end-same x (end_name e) q))
    go false q = inr (ap once q)

-- where an end doesn't stand, no other is it
pub others_of : (x : EndName) (es : List EndView) → count_of x es ≡ 0 → All (λ (e : EndView). counted x e ≡ 0) es
others_of x [] n = All-nil (λ (e : EndView). counted x e ≡ 0)
others_of x (e ∷ es) n =
    let f = count_first x e es in
    All-cons (λ (e : EndView). counted x e ≡ 0) e es (omega (arith, n, f)) (others_of x es (omega (arith, n, f)))

pub none_of : (x : EndName) (es : List EndView) → All (λ (e : EndView). counted x e ≡ 0) es → count_of x es ≡ 0
none_of x [] h = refl
none_of x (e ∷ es) h =
    let f = count_first x e es in
    let a = All-head (λ (e : EndView). counted x e ≡ 0) e es h in
    let b = none_of x es (All-tail (λ (e : EndView). counted x e ≡ 0) e es h) in
    omega (arith, f, a, b)

here_or : (P : EndView → Type 0) (x : EndName) (e : EndView) → P e → (end_name e ≡ x) ⊎ (counted x e ≡ 0) →
    (counted x e ≡ 0 → (e : EndView) × (end_name e ≡ x) × P e) →
    (e : EndView) × (end_name e ≡ x) × P e
here_or P x e p (inl i) more = (e, i, p)
here_or P x e p (inr i) more = more i

-- an end that stands there
pub there : (P : EndView → Type 0) (x : EndName) (es : List EndView) → 0 < count_of x es → All P es → (e : EndView) ×
    (end_name e ≡ x) × P e
there P x [] n h = absurd (omega (arith, n))
there P x (e ∷ es) n h =
    here_or P x e (All-head P e es h) (or_not x e)
    (λ i. there P x es (let f = count_first x e es in omega (arith, n, f, i)) (All-tail P e es h))

-- ---- residuals

-- a residual in place of another
abbrev pub with_at : EndName → Option Tree → Residuals → Residuals
with_at x o r y = if same_end x y then o else r y

pub at_itself : (x : EndName) (o : Option Tree) (r : Residuals) → with_at x o r x ≡ o
at_itself x o r = ap (λ (b : Bool). if b then o else r x) (same_end-itself x)

pub at_other : (x : EndName) (o : Option Tree) (r : Residuals) (y : EndName) → (y ≡ x) ⊎ (with_at x o r y ≡ r y)
at_other x o r y = go (same_end x y) refl
  where
    go : (b : Bool) → same_end x y ≡ b → (y ≡ x) ⊎ (with_at x o r y ≡ r y)
    go true q = inl (sym (same_end-same x y q))
    go false q = inr (ap (λ (b : Bool). if b then o else r y) q)

abbrev Known : Residuals → EndView → Type 0
Known r e = r (end_name e) ≡ residual_of e.knows

pub are_permuted : (r : Residuals) (xs ys : List EndView) → IsPermutation xs ys → AreResiduals xs r → AreResiduals ys r
are_permuted r xs ys p h = record {
  known = All-permutation (Known r) xs ys p h.known;
  others = λ x n. h.others x (sym (sum_by-IsPermutation (counted x) xs ys p) ∙ n);
}

-- the residual of an end that doesn't stand there doesn't matter
known_but : (r : Residuals) (x : EndName) (o : Option Tree) (es : List EndView) → count_of x es ≡ 0 → All (Known r) es →
    All (Known (with_at x o r)) es
known_but r x o [] n h = All-nil (Known (with_at x o r))
known_but r x o (e ∷ es) n h =
    let f = count_first x e es in
    All-cons (Known (with_at x o r)) e es (go (at_other x o r (end_name e)))
    (known_but r x o es (omega (arith, n, f)) (All-tail (Known r) e es h))
  where
    go : (end_name e ≡ x) ⊎ (with_at x o r (end_name e) ≡ r (end_name e)) → Known (with_at x o r) e
    go (inl i) = let f = count_first x e es in let c = counted_so x e i in absurd (omega (arith, n, f, c))
    go (inr i) = i ∙ All-head (Known r) e es h

-- with one end more
pub are_more : (r : Residuals) (f : EndView) (es : List EndView) → AreResiduals es r → count_of (end_name f) es ≡ 0 →
    AreResiduals (f ∷ es) (with_at (end_name f) (residual_of f.knows) r)
are_more r f es h n = record {
  known = All-cons (Known (with_at (end_name f) (residual_of f.knows) r)) f es (at_itself (end_name f) (residual_of f.knows) r)
      (known_but r (end_name f) (residual_of f.knows) es n h.known);
  others = λ x k. go x k (at_other (end_name f) (residual_of f.knows) r x);
}
  where
    go : (x : EndName) → count_of x (f ∷ es) ≡ 0 → (x ≡ end_name f) ⊎
        (with_at (end_name f) (residual_of f.knows) r x ≡ r x) → with_at (end_name f) (residual_of f.knows) r x ≡ Some skip
    go x k (inl i) = let c = count_first x f es in let d = counted_so x f (sym i) in absurd (omega (arith, k, c, d))
    go x k (inr i) = let c = count_first x f es in i ∙ h.others x (omega (arith, k, c))

-- with one end less
pub are_less : (r : Residuals) (e : EndView) (es : List EndView) → AreResiduals (e ∷ es) r → count_of (end_name e) es ≡ 0 →
    AreResiduals es (with_at (end_name e) (Some skip) r)
are_less r e es h n = record {
  known = known_but r (end_name e) (Some skip) es n (All-tail (Known r) e es h.known);
  others = λ x k. go x k (at_other (end_name e) (Some skip) r x) (or_not x e);
}
  where
    go : (x : EndName) → count_of x es ≡ 0 → (x ≡ end_name e) ⊎ (with_at (end_name e) (Some skip) r x ≡ r x) → (end_name e ≡ x) ⊎
        (counted x e ≡ 0) → with_at (end_name e) (Some skip) r x ≡ Some skip
    go x k (inl i) c = ap (with_at (end_name e) (Some skip) r) i ∙ at_itself (end_name e) (Some skip) r
    go x k (inr i) (inl j) = ap (with_at (end_name e) (Some skip) r) (sym j) ∙ at_itself (end_name e) (Some skip) r
    go x k (inr i) (inr j) = let c = count_first x e es in i ∙ h.others x (omega (arith, k, c, j))

-- an end that stands there has something left to do
pub unspent_in : (r : Residuals) (es : List EndView) → All IsOpen es → AreResiduals es r →
    (x : EndName) → 0 < count_of x es → IsUnspent r x
unspent_in r es o h x n = go (there (λ (e : EndView). IsOpen e × Known r e) x es n (both es o h.known))
  where
    both : (es : List EndView) → All IsOpen es → All (Known r) es → All (λ (e : EndView). IsOpen e × Known r e) es
    both es a b k d l = (a k d l, b k d l)

    go : (e : EndView) × (end_name e ≡ x) × (IsOpen e × Known r e) → IsUnspent r x
    go (e, i, p) = (p.0.residual, ap r (sym i) ∙ p.1 ∙ p.0.is, p.0.left)

-- an end with something left to do stands there
pub stands_there : (r : Residuals) (es : List EndView) → AreResiduals es r →
    (x : EndName) (s : Tree) → r x ≡ Some s → terminated s ≡ false → 0 < count_of x es
stands_there r es h x s e f = go (count_of x es) refl
  where
    some_is : {a b : Tree} → Some a ≡ Some b → a ≡ b
    some_is q = cc

    go : (n : ℕ) → count_of x es ≡ n → 0 < n
    go zero q =
        let is : skip ≡ s = some_is (sym (h.others x q) ∙ e) in
        let both : true ≡ false = ap terminated is ∙ f in
        absurd (cc both)
    go (suc n) q = omega arith
