-- What two words exchange when they are joined by their heads.
use Rattle.std.proofs.Common.{◌≡◌, ◌≢◌, ◌<◌, ◌≤◌, ◌+◌, ◌⊎◌, inl, inr, ℕ, zero, suc, List, [], ◌∷◌, ◌++◌, length, refl, sym, ◌∙◌, ap, subst, arith, Option, Some, true, false, All}
use Rattle.std.specs.Prelude.{nat_le, slice_get}
use Rattle.std.proofs.lemmas.Bool.Decides.{eqb_tells}
use Rattle.std.proofs.lemmas.List.Elements.{All-append, All-head, All-tail}
use Rattle.fst_words.specs.Words.{WordBelow}
use Rattle.fst_norms.specs.Bounds.{norm_of, total}
use Rattle.fst_norms.specs.Lowering.{LowerByOne}
use Rattle.fst_norms.proofs.Laws.{total-append}
use Rattle.fst_normed.specs.Candidates.{IsThere, residual}
use Rattle.fst_normed.specs.Joining.{dropped, exchanged, exchanged_within, exchanges}
use Rattle.fst_normed.proofs.LowerLaws.{residual_below, residual_total}

-- a test of two norms, and what it says
pub le_told : (a b : ℕ) → ((nat_le a b ≡ true) × (a ≤ b)) ⊎ ((nat_le a b ≡ false) × (b < a))
le_told a b =
    (elim (nat_le a b) as (λ t. nat_le a b ≡ t → ((t ≡ true) × (a ≤ b)) ⊎ ((t ≡ false) × (b < a))) [
      | true ↦ λ e. inl (refl, grind arith)
      | false ↦ λ e. inr (refl, grind arith)
    ]) refl

-- what is there in a list is there in a longer one
pub there_front : (cs ds : List (ℕ × ℕ)) (c : ℕ × ℕ) → IsThere cs c → IsThere (cs ++ ds) c
there_front [] ds c (at, e) = absurd (cc e)
there_front (d ∷ cs) ds c (zero, e) = (0, e)
there_front (d ∷ cs) ds c (suc at, e) = let r = there_front cs ds c (at, e) in (suc r.0, r.1)

pub there_back : (cs ds : List (ℕ × ℕ)) (c : ℕ × ℕ) → IsThere ds c → IsThere (cs ++ ds) c
there_back [] ds c t = t
there_back (d ∷ cs) ds c t = let r = there_back cs ds c t in (suc r.0, r.1)

-- what is there in two lists is there in one of them
pub there_either : (cs ds : List (ℕ × ℕ)) (c : ℕ × ℕ) → IsThere (cs ++ ds) c → IsThere cs c ⊎ IsThere ds c
there_either [] ds c t = inr t
there_either (d ∷ cs) ds c (zero, e) = inl (0, e)
there_either (d ∷ cs) ds c (suc at, e) = elim (there_either cs ds c (at, e)) [ inl t ↦ inl (suc t.0, t.1) | inr t ↦ inr t ]

module _ (norms : List (Option ℕ)) (words : List (List ℕ)) where
  -- two words one of which is empty exchange nothing
  pub nothing_exchanged : (u v : List ℕ) → (u ≡ []) ⊎ (v ≡ []) → exchanges norms words u v ≡ []
  unfolding exchanges
  nothing_exchanged u v h = none (total norms u) u v h
    where
      none : (k : ℕ) (u v : List ℕ) → (u ≡ []) ⊎ (v ≡ []) → exchanged_within norms words k u v ≡ []
      none zero u v h = refl
      none (suc k) [] v h = refl
      none (suc k) (n ∷ u) [] h = refl
      none (suc k) (n ∷ u) (m ∷ v) (inl e) = absurd (cc e)
      none (suc k) (n ∷ u) (m ∷ v) (inr e) = absurd (cc e)

  -- what two heads are, what is left once they are dropped, and what they exchange
  pub data Heads (n : ℕ) (u : List ℕ) (m : ℕ) (v : List ℕ) : Type 0 where
    same : n ≡ m → dropped norms words n u m v ≡ (u, v) → exchanged norms n m ≡ [] → Heads n u m v
    right : n ≢ m → norm_of norms n ≤ norm_of norms m → dropped norms words n u m v ≡ (u, residual norms words n m ++ v) →
        exchanged norms n m ≡ (n, m) ∷ [] → Heads n u m v
    left : n ≢ m → norm_of norms m < norm_of norms n → dropped norms words n u m v ≡ (residual norms words m n ++ u, v) →
        exchanged norms n m ≡ (m, n) ∷ [] → Heads n u m v

  pub heads : (n : ℕ) (u : List ℕ) (m : ℕ) (v : List ℕ) → Heads n u m v
  heads n u m v = elim (eqb_tells n m) [
    | inl p ↦ Heads.same p.1 (rw p.0 refl) (rw p.0 refl)
    | inr p ↦ elim (le_told (norm_of norms n) (norm_of norms m)) [
      | inl le ↦ Heads.right p.1 le.1 (rw (p.0, le.0) refl) (rw (p.0, le.0) refl)
      | inr lt ↦ Heads.left p.1 lt.1 (rw (p.0, lt.0) refl) (rw (p.0, lt.0) refl)
    ]
  ]

  -- the candidate of two heads is the one that they exchange
  pub right_there : (n m : ℕ) → n ≢ m → norm_of norms n ≤ norm_of norms m → (c : ℕ × ℕ) →
      (n, m) ≡ c → IsThere (exchanged norms n m) c
  right_there n m other small c is = elim (heads n [] m []) [
    | same e d x ↦ absurd (other e)
    | right ne le d x ↦ (0, ap (λ (z : List (ℕ × ℕ)). slice_get z 0) x ∙ ap Some is)
    | left ne lt d x ↦ absurd (omega arith)
  ]

  pub left_there : (n m : ℕ) → n ≢ m → norm_of norms m < norm_of norms n → (c : ℕ × ℕ) →
      (m, n) ≡ c → IsThere (exchanged norms n m) c
  left_there n m other great c is = elim (heads n [] m []) [
    | same e d x ↦ absurd (other e)
    | right ne le d x ↦ absurd (omega arith)
    | left ne lt d x ↦ (0, ap (λ (z : List (ℕ × ℕ)). slice_get z 0) x ∙ ap Some is)
  ]

  -- non-terminals below k have norms above 0, and what they become stays below k and has the norm that is left
  pub record AreResiduals (k : ℕ) : Type 0 where
    pub some : (n : ℕ) → n < k → 1 ≤ norm_of norms n
    pub below : (x y : ℕ) → y < k → norm_of norms x ≤ norm_of norms y → WordBelow k (residual norms words x y)
    pub total : (x y : ℕ) → y < k → norm_of norms x ≤ norm_of norms y →
        total norms (residual norms words x y) + norm_of norms x ≡ norm_of norms y

  pub are_residuals : All (WordBelow (length words)) words → LowerByOne norms words → AreResiduals (length words)
  are_residuals all one = record {
    some = λ n lt. (let e = one n lt in omega arith);
    below = λ x y lt le. residual_below norms words all x y lt;
    total = residual_total norms words all one;
  }

  -- what is left once two heads are dropped stays below k, and its norm is less
  pub record IsLess (k n : ℕ) (u : List ℕ) (rest : List ℕ × List ℕ) : Type 0 where
    pub left : WordBelow k rest.0
    pub right : WordBelow k rest.1
    pub less : total norms rest.0 < total norms (n ∷ u)

  module _ (k : ℕ) (r : AreResiduals k) where
    pub dropped_less : (n m : ℕ) (u v : List ℕ) → WordBelow k (n ∷ u) → WordBelow k (m ∷ v) →
        IsLess k n u (dropped norms words n u m v)
    dropped_less n m u v hu hv =
        let ln = All-head (λ j. j < k) n u hu in
        let lm = All-head (λ j. j < k) m v hv in
        let tn = All-tail (λ j. j < k) n u hu in
        let tm = All-tail (λ j. j < k) m v hv in
        let pn = r.some n ln in
        let pm = r.some m lm in
        elim (heads n u m v) [
          | same e d x ↦ subst (IsLess k n u) (sym d) (record { left = tn; right = tm; less = omega arith })
          | right ne le d x ↦ subst (IsLess k n u) (sym d) (record {
            left = tn;
            right = All-append (λ j. j < k) (residual norms words n m) v (r.below n m lm le) tm;
            less = omega arith;
          })
          | left ne lt d x ↦
              let low = r.total m n ln (omega arith) in
              let sum = total-append norms (residual norms words m n) u in
              subst (IsLess k n u) (sym d) (record {
                left = All-append (λ j. j < k) (residual norms words m n) u (r.below m n ln (omega arith)) tn;
                right = tm;
                less = omega arith;
              })
        ]

    enough : (i j : ℕ) (u v : List ℕ) → WordBelow k u → WordBelow k v → total norms u ≤ i →
        total norms u ≤ j → exchanged_within norms words i u v ≡ exchanged_within norms words j u v
    enough zero zero u v hu hv a b = refl
    enough zero (suc j) [] v hu hv a b = refl
    enough zero (suc j) (n ∷ u) v hu hv a b = absurd (let p = r.some n (All-head (λ j. j < k) n u hu) in omega arith)
    enough (suc i) zero [] v hu hv a b = refl
    enough (suc i) zero (n ∷ u) v hu hv a b = absurd (let p = r.some n (All-head (λ j. j < k) n u hu) in omega arith)
    enough (suc i) (suc j) [] v hu hv a b = refl
    enough (suc i) (suc j) (n ∷ u) [] hu hv a b = refl
    enough (suc i) (suc j) (n ∷ u) (m ∷ v) hu hv a b =
        let l = dropped_less n m u v hu hv in
        let less = l.less in
        ap (λ (z : List (ℕ × ℕ)). exchanged norms n m ++ z)
        (enough i j (dropped norms words n u m v).0 (dropped norms words n u m v).1 l.left l.right (omega arith) (omega arith))

    -- two words exchange what their heads do, and then what is left of them does
    pub exchanges_step : (n m : ℕ) (u v : List ℕ) → WordBelow k (n ∷ u) → WordBelow k (m ∷ v) →
        exchanges norms words (n ∷ u) (m ∷ v) ≡ exchanged norms n m ++
        exchanges norms words (dropped norms words n u m v).0 (dropped norms words n u m v).1
    unfolding exchanges
    exchanges_step n m u v hu hv =
        let l = dropped_less n m u v hu hv in
        let less = l.less in
        let rest = dropped norms words n u m v in
        enough (total norms (n ∷ u)) (suc (total norms (n ∷ u))) (n ∷ u) (m ∷ v) hu hv (omega arith) (omega arith)
        ∙ ap (λ (z : List (ℕ × ℕ)). exchanged norms n m ++ z)
        (enough (total norms (n ∷ u)) (total norms rest.0) rest.0 rest.1 l.left l.right (omega arith) (omega arith))
