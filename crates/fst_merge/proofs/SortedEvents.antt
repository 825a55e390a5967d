-- Events in order, of which no two have one stamp and one path.
use Rattle.std.proofs.Common.{◌≡◌, ◌∙◌, inl, inr, ℕ, suc, ◌<◌, List, [], ◌∷◌, ◌++◌, false, length, get_or, refl, sym, ap, subst, arith}
use Rattle.std.specs.Cmp.Lexicographic.{slice_cmp}
use Rattle.std.specs.List.Sorted.{IsSorted}
use Rattle.std.specs.Ordering.{is_eq, is_lt, nat_cmp, ordering_reverse, ordering_then}
use Rattle.std.specs.declared.cmp.Ordering.{Ordering}
use Rattle.std.specs.declared.cmp.Ordering.TheVariants.{Less, Equal, Greater}
use Rattle.std.proofs.lemmas.Cmp.{nat_list_cmp_total, ranked}
use Rattle.std.proofs.lemmas.List.MinMax.{ranks_by}
use Rattle.std.proofs.lemmas.List.Sorted.{sorted_far}
use Rattle.std.proofs.lemmas.Map.Text.{is_eq-slice_cmp}
use Rattle.fst_runs.specs.declared.event.Stamped.{Stamped}
use Rattle.fst_runs.specs.Order.{AreRising, AreSorted, Precedes, path_of}
use Rattle.fst_runs.proofs.Laws.{same_path-same}
use Rattle.fst_records.proofs.Laws.{among}
use Rattle.fst_merge.specs.Merging.{event_cmp}
use Rattle.fst_merge.proofs.Orders.{place_of, place_total}

-- no two of these events have one stamp and one path
abbrev pub AreApart : List Stamped → Type 0
AreApart es = (front : List Stamped) (d : Stamped) (between : List Stamped) (e : Stamped) (back : List Stamped) →
    es ≡ front ++ d ∷ (between ++ e ∷ back) → d.stamp ≡ e.stamp → path_of d.event ≡ path_of e.event → ⊥

-- the second event doesn't compare as less
abbrev NotAbove : Stamped → Stamped → Type 0
NotAbove d e = is_lt (event_cmp e d) ≡ false

-- what holds between places holds of a list
by_places : {X : Type 0} (R : X → X → Type 0) (xs : List X) →
    ((i j : ℕ) (d : X) → i < j → j < length xs → R (get_or xs i d) (get_or xs j d)) → AreRising R xs
by_places R [] h = tt
by_places R (x ∷ xs) h = (
  λ y c. subst (R x) (c.2) (h 0 (suc c.0) y (omega arith) (omega (arith, c.1))),
  by_places R xs (λ i j d l m. h (suc i) (suc j) d (omega (arith, l)) (omega (arith, m))),
)

-- how the path of one event compares to that of another
abbrev by_paths : Stamped → Stamped → Ordering
by_paths e d = slice_cmp nat_cmp (path_of e.event) (path_of d.event)

-- an event that isn't above another, and isn't at its place, precedes it
precedes : (d e : Stamped) → NotAbove d e → (d.stamp ≡ e.stamp → path_of d.event ≡ path_of e.event → ⊥) → Precedes d e
precedes d e not apart = by (nat_cmp e.stamp d.stamp) refl
  where
    paths : (o : Ordering) → by_paths e d ≡ o → is_lt o ≡ false → d.stamp ≡ e.stamp → Precedes d e
    paths Less f n s = absurd (cc n)
    paths Equal f n s =
        let same = sym (is_eq-slice_cmp (path_of e.event) (path_of d.event)) ∙ ap is_eq f in
        absurd (apart s (sym (same_path-same (path_of e.event) (path_of d.event) same)))
    paths Greater f n s = inr (s, nat_list_cmp_total.antisymm (path_of d.event) (path_of e.event) ∙ ap ordering_reverse f)

    by : (o : Ordering) → nat_cmp e.stamp d.stamp ≡ o → Precedes d e
    by Less f =
        let l : false ≡ is_lt Less = sym not ∙ ap (λ o. is_lt (ordering_then o (by_paths e d))) f in
        absurd (cc l)
    by Equal f =
        let same = sym (ap (λ o. is_lt (ordering_then o (by_paths e d))) f) ∙ not in
        paths (by_paths e d) refl same (sym (ranked e.stamp d.stamp Equal (sym f)))
    by Greater f = inl (ranked e.stamp d.stamp Greater (sym f))

-- so events that don't fall are sorted
are_sorted : (es : List Stamped) → AreRising NotAbove es → AreApart es → AreSorted es
are_sorted [] up apart = tt
are_sorted (e ∷ es) up apart = (
  λ d c.
      let a = among es d c in
      precedes e d (up.0 d c) (apart [] e a.before d a.behind (ap (λ (l : List Stamped). e ∷ l) a.is)),
  are_sorted es up.1 (λ front d between x back is. apart (e ∷ front) d between x back (ap (λ (l : List Stamped). e ∷ l) is)),
)

-- and so are those that a sort has put in order
pub sorted_apart : (es : List Stamped) → IsSorted event_cmp es → AreApart es → AreSorted es
sorted_apart es up apart = are_sorted es
    (by_places NotAbove es (λ i j d l m. sorted_far (λ d e. is_lt (event_cmp d e)) (ranks_by place_total place_of) es up i j d
    (omega (arith, l)) m)) apart
