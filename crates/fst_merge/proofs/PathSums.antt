-- Sums over things with paths.
use Rattle.std.proofs.Common.{◌≡◌, ◌∙◌, ℕ, ◌+◌, ◌≤◌, List, [], ◌∷◌, Bool, true, false, get_or, refl, sym, ap, arith}
use Rattle.std.specs.Prelude.{sum_by, All, if◌then◌else◌}
use Rattle.std.proofs.lemmas.Cmp.{nat_list_eq_equiv}
use Rattle.std.proofs.lemmas.List.Elements.{All-head, All-tail}
use Rattle.std.proofs.lemmas.List.Sums.{sum_by-cons}
use Rattle.fst_runs.specs.Configs.{Path, same_path}
use Rattle.fst_runs.specs.Wrong.{once}
use Rattle.fst_runs.proofs.Laws.{same_path-itself, same_path-same}
use Rattle.fst_records.proofs.Laws.{none_sum, sum_both, sum_same}

module _ {X : Type 0} (path : X → Path) where
  -- 1 for a thing with this path
  abbrev pub counts : Path → X → ℕ
  counts p x = once (same_path p (path x))

  -- what a thing with this path weighs
  abbrev pub weighs_at : (X → ℕ) → Path → X → ℕ
  weighs_at v p x = if same_path p (path x) then v x else 0

  -- what one with another path weighs
  abbrev weighs_off : (X → ℕ) → Path → X → ℕ
  weighs_off v p x = if same_path p (path x) then 0 else v x

  parted : (v : X → ℕ) (p : Path) (xs : List X) → sum_by v xs ≡ sum_by (weighs_at v p) xs + sum_by (weighs_off v p) xs
  parted v p xs = sum_both v (weighs_at v p) (weighs_off v p) (λ x. by (same_path p (path x)) (v x)) xs
    where
      by : (b : Bool) (n : ℕ) → n ≡ (if b then n else 0) + (if b then 0 else n)
      by true n = omega arith
      by false n = omega arith

  -- where no thing has the path, nothing weighs there
  none_at : (v : X → ℕ) (p : Path) (xs : List X) → sum_by (counts p) xs ≡ 0 → sum_by (weighs_at v p) xs ≡ 0
  none_at v p xs z = none_sum (weighs_at v p) (counts p) xs z
      (λ k d l. by (same_path p (path (get_or xs k d))) (v (get_or xs k d)))
    where
      by : (b : Bool) (n : ℕ) → once b ≡ 0 → (if b then n else 0) ≡ 0
      by true n e = absurd (omega (arith, e))
      by false n e = refl

  -- where nothing weighs at any path, nothing does
  nowhere : (v : X → ℕ) (xs : List X) → ((p : Path) → sum_by (weighs_at v p) xs ≡ 0) → sum_by v xs ≡ 0
  nowhere v [] z = refl
  nowhere v (x ∷ xs) z =
      let a = sum_by-cons v x xs in
      let here = z (path x) in
      let b = sum_by-cons (weighs_at v (path x)) x xs in
      let c = ap (λ b. if b then v x else 0) (same_path-itself (path x)) in
      let ih = nowhere v xs (λ p. let d = sum_by-cons (weighs_at v p) x xs in let e = z p in omega (arith, d, e)) in
      omega (arith, a, b, c, here, ih)

  zeros : (xs : List X) → sum_by (λ (x : X). 0) xs ≡ 0
  zeros [] = refl
  zeros (x ∷ xs) = let a = sum_by-cons (λ (x : X). 0) x xs in let b = zeros xs in omega (arith, a, b)

  -- what weighs at a path among what has another
  at_off : (v : X → ℕ) (p q : Path) (xs : List X) → sum_by (weighs_at (weighs_off v p) q) xs
      ≡ (if same_path p q then 0 else sum_by (weighs_at v q) xs)
  at_off v p q xs = by (same_path p q) refl
    where
      alike : (x : X) → same_path p q ≡ true → (b : Bool) → same_path q (path x) ≡ b →
          (if b then weighs_off v p x else 0) ≡ 0
      alike x e false f = refl
      alike x e true f = ap (λ o. if same_path o (path x) then 0 else v x) (same_path-same p q e)
          ∙ ap (λ b. if b then 0 else v x) f

      apart : (x : X) → same_path p q ≡ false → (b : Bool) → same_path q (path x) ≡ b →
          (if b then weighs_off v p x else 0) ≡ (if b then v x else 0)
      apart x e false f = refl
      apart x e true f = ap (λ b. if b then 0 else v x) (ap (same_path p) (sym (same_path-same q (path x) f)) ∙ e)

      by : (b : Bool) → same_path p q ≡ b → sum_by (weighs_at (weighs_off v p) q) xs
          ≡ (if b then 0 else sum_by (weighs_at v q) xs)
      by true e = sum_same (weighs_at (weighs_off v p) q) (λ x. 0) (λ x. alike x e (same_path q (path x)) refl) xs ∙ zeros xs
      by false e = sum_same (weighs_at (weighs_off v p) q) (weighs_at v q) (λ x. apart x e (same_path q (path x)) refl) xs

  -- the first thing with this path has this list, or none has it
  abbrev pub first_at : {A : Type 0} → (X → List A) → List X → Path → List A
  first_at list [] p = []
  first_at list (x ∷ xs) p = if same_path (path x) p then list x else first_at list xs p

  -- where no two have one path, what weighs at a path is what the first with it does
  pub weighs_first : {A : Type 0} (list : X → List A) (v : X → ℕ) (w : Path → List A → ℕ) → ((p : Path) → w p [] ≡ 0) →
      (xs : List X) → All (λ x. v x ≡ w (path x) (list x)) xs → ((p : Path) → sum_by (counts p) xs ≤ 1) →
      (p : Path) → sum_by (weighs_at v p) xs ≡ w p (first_at list xs p)
  weighs_first list v w z [] all one p = sym (z p)
  weighs_first list v w z (x ∷ xs) all one p =
      by (same_path (path x) p) refl
      (weighs_first list v w z xs (All-tail (λ x. v x ≡ w (path x) (list x)) x xs all)
      (λ q. let a = few q in let b = one q in omega (arith, a, b)) p)
    where
      few : (q : Path) → sum_by (counts q) (x ∷ xs) ≡ counts q x + sum_by (counts q) xs
      few q = sum_by-cons (counts q) x xs

      sum : sum_by (weighs_at v p) (x ∷ xs) ≡ weighs_at v p x + sum_by (weighs_at v p) xs
      sum = sum_by-cons (weighs_at v p) x xs

      turned : same_path p (path x) ≡ same_path (path x) p
      turned = nat_list_eq_equiv.symm p (path x)

      by : (b : Bool) → same_path (path x) p ≡ b → sum_by (weighs_at v p) xs ≡ w p (first_at list xs p) →
          sum_by (weighs_at v p) (x ∷ xs) ≡ w p (if b then list x else first_at list xs p)
      by true e ih =
          let here = ap (λ b. if b then v x else 0) (turned ∙ e) in
          let one_here = ap once (turned ∙ e) in
          let others = none_at v p xs (let a = few p in let b = one p in omega (arith, a, b, one_here)) in
          let is = All-head (λ x. v x ≡ w (path x) (list x)) x xs all ∙ ap (λ o. w o (list x)) (same_path-same (path x) p e) in
          omega (arith, sum, here, others, is)
      by false e ih =
          let here = ap (λ b. if b then v x else 0) (turned ∙ e) in
          omega (arith, sum, here, ih)

-- where the same weighs at each path, and no two of the first things have one path, the same weighs in all
module _ {X Y : Type 0} (path : X → Path) (place : Y → Path) where
  pub same_sums : (xs : List X) (ys : List Y) (v : X → ℕ) (u : Y → ℕ) → ((p : Path) → sum_by (counts path p) xs ≤ 1) →
      ((p : Path) → sum_by (weighs_at path v p) xs ≡ sum_by (weighs_at place u p) ys) → sum_by v xs ≡ sum_by u ys
  same_sums [] ys v u one e = sym (nowhere place u ys (λ p. sym (e p)))
  same_sums (x ∷ xs) ys v u one e =
      let ih = same_sums xs ys v (weighs_off place u (path x)) (λ q. let a = few q in let b = one q in omega (arith, a, b))
      (λ q. rest q (same_path (path x) q) refl ∙ sym (at_off place u (path x) q ys)) in
      let all = sum_by-cons v x xs in
      let split = parted place u (path x) ys in
      let here = first (path x) in
      let own = ap (λ b. if b then v x else 0) (same_path-itself (path x)) in
      let none = others (path x) (same_path-itself (path x)) in
      let same = e (path x) in
      omega (arith, ih, all, split, here, own, none, same)
    where
      few : (q : Path) → sum_by (counts path q) (x ∷ xs) ≡ counts path q x + sum_by (counts path q) xs
      few q = sum_by-cons (counts path q) x xs

      first : (q : Path) → sum_by (weighs_at path v q) (x ∷ xs) ≡ weighs_at path v q x + sum_by (weighs_at path v q) xs
      first q = sum_by-cons (weighs_at path v q) x xs

      turned : (q : Path) → same_path q (path x) ≡ same_path (path x) q
      turned q = nat_list_eq_equiv.symm q (path x)

      others : (q : Path) → same_path (path x) q ≡ true → sum_by (weighs_at path v q) xs ≡ 0
      others q f =
          let one_here = ap once (turned q ∙ f) in
          none_at path v q xs (let a = few q in let b = one q in omega (arith, a, b, one_here))

      rest : (q : Path) (b : Bool) → same_path (path x) q ≡ b → sum_by (weighs_at path v q) xs
          ≡ (if b then 0 else sum_by (weighs_at place u q) ys)
      rest q true f = others q f
      rest q false f =
          let here = ap (λ b. if b then v x else 0) (turned q ∙ f) in
          let a = first q in
          let same = e q in
          omega (arith, here, a, same)
