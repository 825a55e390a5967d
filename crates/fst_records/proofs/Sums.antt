-- How what a log says adds up as the log grows.
use Rattle.std.proofs.Common.{◌≡◌, ◌<◌, ℕ, zero, suc, ◌+◌, ◌≤◌, List, [], ◌∷◌, ◌++◌, refl, sym, ap, ◌∙◌, arith}
use Rattle.std.specs.Prelude.{sum_by, All, Contains}
use Rattle.std.proofs.lemmas.List.Elements.{All-nil, All-cons, All-head, All-tail}
use Rattle.std.proofs.lemmas.List.Sums.{sum_by-append, sum_by-cons}
use Rattle.fst_base.proofs.Lists.{contains_head, contains_tail}
use Rattle.fst_types.specs.Tree.{Tree}
use Rattle.fst_machine.specs.Machine.{Program}
use Rattle.fst_runs.specs.Configs.{Path, Task}
use Rattle.fst_runs.specs.declared.log.LogEntry.{LogEntry}
use Rattle.fst_runs.specs.Logs.{Birth, Exchange, Opening, Follows, after_entry, exchanged_by, opened_by, born_by, exchanges, openings, births}

-- what is exchanged by a longer log
pub exchanges_more : (w : Exchange → ℕ) (p : Program) (path : Path) (t : Task) (xs ys : List LogEntry) (u : Task) →
    Follows p path t xs u →
    sum_by w (exchanges t.clock (xs ++ ys)) ≡ sum_by w (exchanges t.clock xs) + sum_by w (exchanges u.clock ys)
exchanges_more w p path t [] ys u f = ap (λ (k : Task). sum_by w (exchanges k.clock ys)) (sym f) ∙ omega arith
exchanges_more w p path t (e ∷ es) ys u f =
    let ih = exchanges_more w p path (after_entry p t e) es ys u f.1 in
    let a = sum_by-append w (exchanged_by t.clock e.stamp e.asked e.answer) (exchanges e.stamp (es ++ ys)) in
    let b = sum_by-append w (exchanged_by t.clock e.stamp e.asked e.answer) (exchanges e.stamp es) in
    omega (arith, ih, a, b)

-- the tasks that it forks
pub births_more : (w : Birth → ℕ) (p : Program) (path : Path) (t : Task) (xs ys : List LogEntry) (u : Task) →
    Follows p path t xs u →
    sum_by w (births p path t (xs ++ ys)) ≡ sum_by w (births p path t xs) + sum_by w (births p path u ys)
births_more w p path t [] ys u f = ap (λ (k : Task). sum_by w (births p path k ys)) (sym f) ∙ omega arith
births_more w p path t (e ∷ es) ys u f =
    let ih = births_more w p path (after_entry p t e) es ys u f.1 in
    let a = sum_by-append w (born_by p path t e.stamp e.answer) (births p path (after_entry p t e) (es ++ ys)) in
    let b = sum_by-append w (born_by p path t e.stamp e.answer) (births p path (after_entry p t e) es) in
    omega (arith, ih, a, b)

-- the channels that it makes
pub openings_more : (w : Opening → ℕ) (types : List Tree) (xs ys : List LogEntry) →
    sum_by w (openings types (xs ++ ys)) ≡ sum_by w (openings types xs) + sum_by w (openings types ys)
openings_more w types [] ys = omega arith
openings_more w types (e ∷ es) ys =
    let ih = openings_more w types es ys in
    let a = sum_by-append w (opened_by types e.asked e.answer) (openings types (es ++ ys)) in
    let b = sum_by-append w (opened_by types e.asked e.answer) (openings types es) in
    omega (arith, ih, a, b)

module _ {X : Type 0} where
  -- a sum of nothings
  pub sum_none : (f : X → ℕ) (P : X → Type 0) → ((x : X) → P x → f x ≡ 0) → (xs : List X) → All P xs → sum_by f xs ≡ 0
  sum_none f P z [] all = refl
  sum_none f P z (x ∷ xs) all =
      let ih = sum_none f P z xs (All-tail P x xs all) in
      let a = sum_by-cons f x xs in
      let b = z x (All-head P x xs all) in
      omega (arith, ih, a, b)

  -- a sum of what is no more
  pub sum_less : (f g : X → ℕ) (P : X → Type 0) → ((x : X) → P x → f x ≤ g x) →
      (xs : List X) → All P xs → sum_by f xs ≤ sum_by g xs
  sum_less f g P le [] all = omega arith
  sum_less f g P le (x ∷ xs) all =
      let a = sum_by-cons f x xs in
      let b = sum_by-cons g x xs in
      let h = le x (All-head P x xs all) in
      let ih = sum_less f g P le xs (All-tail P x xs all) in
      omega (arith, a, b, h, ih)

  -- a sum of what is the same
  pub sum_same : (f g : X → ℕ) → ((x : X) → f x ≡ g x) → (xs : List X) → sum_by f xs ≡ sum_by g xs
  sum_same f g e [] = refl
  sum_same f g e (x ∷ xs) =
      let a = sum_by-cons f x xs in
      let b = sum_by-cons g x xs in
      let h = e x in
      let ih = sum_same f g e xs in
      omega (arith, a, b, h, ih)

  -- a sum is nothing where another is, and each of its terms is where that of the other is
  pub none_sum : (f g : X → ℕ) (xs : List X) → sum_by g xs ≡ 0 → All (λ (x : X). g x ≡ 0 → f x ≡ 0) xs → sum_by f xs ≡ 0
  none_sum f g [] z all = refl
  none_sum f g (x ∷ xs) z all =
      let a = sum_by-cons f x xs in
      let b = sum_by-cons g x xs in
      let h = All-head (λ (x : X). g x ≡ 0 → f x ≡ 0) x xs all (omega (arith, b, z)) in
      let ih = none_sum f g xs (omega (arith, b, z)) (All-tail (λ (x : X). g x ≡ 0 → f x ≡ 0) x xs all) in
      omega (arith, a, h, ih)

  -- where a sum is nothing, each of its terms is
  pub none_in_sum : (f : X → ℕ) (xs : List X) → sum_by f xs ≡ 0 → All (λ (x : X). f x ≡ 0) xs
  none_in_sum f [] z = All-nil (λ (x : X). f x ≡ 0)
  none_in_sum f (x ∷ xs) z =
      let a = sum_by-cons f x xs in
      All-cons (λ (x : X). f x ≡ 0) x xs (omega (arith, a, z)) (none_in_sum f xs (omega (arith, a, z)))

  -- a sum of sums
  pub sum_both : (f g h : X → ℕ) → ((x : X) → f x ≡ g x + h x) → (xs : List X) → sum_by f xs ≡ sum_by g xs + sum_by h xs
  sum_both f g h e [] = refl
  sum_both f g h e (x ∷ xs) =
      let a = sum_by-cons f x xs in
      let b = sum_by-cons g x xs in
      let d = sum_by-cons h x xs in
      let one = e x in
      let ih = sum_both f g h e xs in
      omega (arith, a, b, d, one, ih)

-- where a sum is something, one of its terms is
some_or : {X : Type 0} (f : X → ℕ) (x : X) (xs : List X) → 0 < sum_by f (x ∷ xs) →
    (0 < sum_by f xs → (y : X) × Contains xs y × (0 < f y)) → (n : ℕ) → f x ≡ n →
    (y : X) × Contains (x ∷ xs) y × (0 < f y)
some_or f x xs h more zero q =
    let a = sum_by-cons f x xs in
    let r = more (omega (arith, a, h, q)) in
    (r.0, contains_tail xs r.0 x r.1, r.2)
some_or f x xs h more (suc n) q = (x, contains_head xs x x refl, omega (arith, q))

-- so it is with all of them
pub some_in : {X : Type 0} (f : X → ℕ) (xs : List X) → 0 < sum_by f xs → (y : X) × Contains xs y × (0 < f y)
some_in f [] h = absurd (omega (arith, h))
some_in f (x ∷ xs) h = some_or f x xs h (some_in f xs) (f x) refl
