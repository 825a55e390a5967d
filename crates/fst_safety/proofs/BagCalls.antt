-- Ends that are taken from their place and put back, looked for, and handed over.
use Rattle.std.proofs.Common.{◌≡◌, ◌∙◌, ◌⊎◌, inl, inr, ◌<◌, ◌≤◌, ℕ, zero, suc, ◌+◌, List, [], ◌∷◌, ◌++◌, length, get_or, take, drop, Contains, refl, sym, ap, subst, arith}
use Rattle.std.specs.Prelude.{All, IsPermutation, swap_remove}
use Rattle.std.proofs.Math.Seq.{drop-cons}
use Rattle.std.proofs.lemmas.List.{append_assoc, take_more}
use Rattle.std.proofs.lemmas.List.Elements.{All-push, All-weaker, Contains-append_left, Contains-push, Contains-push_cases}
use Rattle.std.proofs.lemmas.List.Sorted.{IsPermutation-swap_remove, IsPermutation-trans, IsPermutation-append_left, IsPermutation-append_comm, sum_by-IsPermutation}
use Rattle.std.proofs.lemmas.List.Sums.{sum_by-append}
use Rattle.fst_types.specs.declared.ends.EndName.{EndName}
use Rattle.fst_cell.specs.End.{EndView, end_name}
use Rattle.fst_safety.specs.Threads.{count_of}
use Rattle.fst_safety.specs.Bags.{IsPlaced, IsPutBack, IsChanged, IsPassed, AreParted}
use Rattle.fst_safety.proofs.BagLaws.{counted, count_first, counted_so}

-- ---- one end of a place

any_default : {X : Type 0} (xs : List X) (i : ℕ) (d e : X) → i < length xs → get_or xs i d ≡ get_or xs i e
any_default [] i d e h = absurd (omega (arith, h))
any_default (x ∷ xs) zero d e h = refl
any_default (x ∷ xs) (suc i) d e h = any_default xs i d e (omega (arith, h))

-- the end of a place is another one now
pub changed : (P : EndView → EndView → Type 0) (es mid bag : List EndView) (i : ℕ) (e f : EndView) → i < length es →
    e ≡ get_or es i e → mid ≡ swap_remove es i e → bag ≡ mid ++ f ∷ [] → P e f →
    IsChanged P es i bag
changed P es mid bag i e f there is gone back by = record {
  before = e;
  after = f;
  rest = swap_remove es i e;
  at = λ d. any_default es i d e there ∙ sym is;
  was = IsPermutation-swap_remove es i e there is;
  is = back ∙ ap (λ (l : List EndView). l ++ f ∷ []) gone;
  by = by;
}

pub passed : (P : EndView → EndView → Type 0) (es spent mid bag retired : List EndView) (i : ℕ) (e f : EndView) → i < length es →
    e ≡ get_or es i e → mid ≡ swap_remove es i e →
    IsPutBack f mid spent bag retired → P e f → IsPassed P es spent i bag retired
passed P es spent mid bag retired i e f there is gone put by = record {
  before = e;
  after = f;
  rest = swap_remove es i e;
  at = λ d. any_default es i d e there ∙ sym is;
  was = IsPermutation-swap_remove es i e there is;
  put = subst (λ l. IsPutBack f l spent bag retired) gone put;
  by = by;
}

-- ---- an end that is looked for

-- one place before those among which it doesn't stand
pub none_before : (x : EndName) (es : List EndView) (i : ℕ) (e : EndView) → i < length es → e ≡ get_or es i e → counted x e ≡ 0 →
    count_of x (drop (suc i) es) ≡ 0 → count_of x (drop i es) ≡ 0
none_before x es i e there is n rest =
    let d = ap (count_of x) (drop-cons es i e there) in
    let f = count_first x (get_or es i e) (drop (suc i) es) in
    let g = ap (counted x) is in
    omega (arith, d, f, g, n, rest)

pub placed_at : (x : EndName) (es : List EndView) (i : ℕ) (e : EndView) → i < length es → e ≡ get_or es i e → x ≡ end_name e →
    IsPlaced x es i
placed_at x es i e there is same = (there, λ d. ap end_name (any_default es i d e there ∙ sym is) ∙ sym same)

-- ---- ends that are handed over

-- the names up to the next one
next_names : (names : List EndName) (j : ℕ) (n : EndName) → j < length names → n ≡ get_or names j n →
    take (j + 1) names ≡ take j names ++ n ∷ []
next_names names j n h is = take_more names j n h ∙ ap (λ (z : EndName). take j names ++ z ∷ []) (sym is)

-- the names among the first and another
more_moved : (xs : List EndName) (n : EndName) (theirs : List EndView) → All (λ (e : EndView). Contains xs (end_name e)) theirs →
    All (λ (e : EndView). Contains (xs ++ n ∷ []) (end_name e)) theirs
more_moved xs n theirs h =
    All-weaker (λ (e : EndView). Contains xs (end_name e)) (λ (e : EndView). Contains (xs ++ n ∷ []) (end_name e))
    (λ e c. Contains-append_left xs (n ∷ []) (end_name e) c) theirs h

-- an end that isn't there
pub parted_on : (names : List EndName) (j : ℕ) (n : EndName) (bag mine theirs : List EndView) → j < length names →
    n ≡ get_or names j n → count_of n mine ≡ 0 →
    AreParted (take j names) bag mine theirs → AreParted (take (j + 1) names) bag mine theirs
parted_on names j n bag mine theirs h is none p =
    subst (λ ns. AreParted ns bag mine theirs) (sym (next_names names j n h is))
    (record {
      all = p.all;
      gone = λ z c. go z (Contains-push_cases (take j names) n z c);
      moved = more_moved (take j names) n theirs p.moved;
    })
  where
    go : (z : EndName) → Contains (take j names) z ⊎ (n ≡ z) → count_of z mine ≡ 0
    go z (inl c) = p.gone z c
    go z (inr q) = subst (λ z. count_of z mine ≡ 0) q none

-- one that is there is handed over
module _ (names : List EndName) (j : ℕ) (n : EndName) (bag mine theirs : List EndView) (h : j < length names)
    (is : n ≡ get_or names j n) (p : AreParted (take j names) bag mine theirs)
    (once : (z : EndName) → count_of z bag ≤ 1) (i : ℕ) (e : EndView) (placed : IsPlaced n mine i)
    (it : e ≡ get_or mine i e) where
  abbrev rest : List EndView
  rest = swap_remove mine i e

  moves : IsPermutation mine (e ∷ rest)
  moves = IsPermutation-swap_remove mine i e placed.0 it

  named : end_name e ≡ n
  named = ap end_name it ∙ placed.1 e

  counts : (z : EndName) → count_of z mine ≡ counted z e + count_of z rest
  counts z = sym (sum_by-IsPermutation (counted z) mine (e ∷ rest) moves) ∙ count_first z e rest

  at_most : (z : EndName) → count_of z mine ≤ 1
  at_most z =
      let o = once z in
      let s = sum_by-IsPermutation (counted z) bag (mine ++ theirs) p.all in
      let q = sum_by-append (counted z) mine theirs in
      omega (arith, o, s, q)

  all_there : IsPermutation bag (rest ++ (theirs ++ e ∷ []))
  all_there =
      IsPermutation-trans bag (mine ++ theirs) (rest ++ (theirs ++ e ∷ [])) p.all
      (IsPermutation-trans (mine ++ theirs) ((e ∷ rest) ++ theirs) (rest ++ (theirs ++ e ∷ []))
      (IsPermutation-append_left theirs mine (e ∷ rest) moves)
      (subst (λ l. IsPermutation (e ∷ (rest ++ theirs)) l) (append_assoc rest theirs (e ∷ []))
      (IsPermutation-append_comm (e ∷ []) (rest ++ theirs))))

  pub handed_over : AreParted (take (j + 1) names) bag rest (theirs ++ e ∷ [])
  handed_over =
      subst (λ ns. AreParted ns bag rest (theirs ++ e ∷ [])) (sym (next_names names j n h is))
      (record {
        all = all_there;
        gone = λ z c. go z (Contains-push_cases (take j names) n z c);
        moved = All-push (λ (e : EndView). Contains (take j names ++ n ∷ []) (end_name e)) theirs e
            (more_moved (take j names) n theirs p.moved)
            (subst (λ z. Contains (take j names ++ n ∷ []) z) (sym named) (Contains-push (take j names) n));
      })
    where
      go : (z : EndName) → Contains (take j names) z ⊎ (n ≡ z) → count_of z rest ≡ 0
      go z (inl c) = let g = p.gone z c in let s = counts z in omega (arith, g, s)
      go z (inr q) = let s = counts z in let o = at_most z in let k = counted_so z e (named ∙ q) in omega (arith, s, o, k)

-- the same lists
pub parted_same : (names : List EndName) (bag mine mine' theirs theirs' : List EndView) → mine' ≡ mine → theirs' ≡ theirs →
    AreParted names bag mine theirs → AreParted names bag mine' theirs'
parted_same names bag mine mine' theirs theirs' p q h =
    subst (λ b. AreParted names bag b theirs') (sym p) (subst (λ t. AreParted names bag mine t) (sym q) h)
