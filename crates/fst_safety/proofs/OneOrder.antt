-- The same events sorted are one list.
use Rattle.std.proofs.Common.{◌≡◌, ◌⊎◌, inl, inr, ◌<◌, ℕ, List, [], ◌∷◌, Bool, true, false, ◌&&◌, refl, sym, ap, arith}
use Rattle.std.specs.Prelude.{sum_by, Contains, nat_eq}
use Rattle.std.proofs.lemmas.Bool.{and_from}
use Rattle.std.proofs.lemmas.List.Sums.{sum_by-cons}
use Rattle.fst_base.proofs.Bools.{and_parts, same_nat, nat_itself}
use Rattle.fst_base.proofs.Lists.{contains_head, contains_tail, from_contains}
use Rattle.fst_runs.specs.declared.event.Stamped.{Stamped}
use Rattle.fst_runs.specs.Order.{AreSorted}
use Rattle.fst_runs.specs.Wrong.{once}
use Rattle.fst_runs.proofs.Laws.{precede_apart}
use Rattle.fst_safety.proofs.OneWrite.{same_event, same_event-same, same_event-itself}

-- the events with their stamps are the same
abbrev same_stamped : Stamped → Stamped → Bool
same_stamped d e = same_event d.event e.event && nat_eq d.stamp e.stamp

-- those that pass the test are one
stamped_same : (d e : Stamped) → same_stamped d e ≡ true → d ≡ e
stamped_same d e h =
    let a = and_parts (same_event d.event e.event) (nat_eq d.stamp e.stamp) h in
    let b = same_event-same d.event e.event a.0 in
    let c = same_nat d.stamp e.stamp a.1 in
    λ i. record { event = b i; stamp = c i }

-- 1 for this event with this stamp
abbrev just : Stamped → Stamped → ℕ
just d e = once (same_stamped d e)

-- an event counts itself
just_itself : (d : Stamped) → just d d ≡ 1
just_itself d =
    ap once (and_from (same_event d.event d.event) (nat_eq d.stamp d.stamp) (same_event-itself d.event) (nat_itself d.stamp))

-- an event that counts among some is one of them
is_one : (d : Stamped) (es : List Stamped) → 0 < sum_by (just d) es → Contains es d
is_one d [] h = absurd (omega (arith, h))
is_one d (e ∷ es) h = by (is_one d es) (same_stamped d e) refl
  where
    by : (0 < sum_by (just d) es → Contains es d) → (b : Bool) → same_stamped d e ≡ b → Contains (e ∷ es) d
    by more true q = contains_head es d e (sym (stamped_same d e q))
    by more false q =
        let a = sum_by-cons (just d) e es in
        let b = ap once q in
        contains_tail es d e (more (omega (arith, a, b, h)))

-- so it is with the first of some that have the same events
first_there : (x : Stamped) (es fs : List Stamped) → ((w : Stamped → ℕ) → sum_by w (x ∷ es) ≡ sum_by w fs) → Contains fs x
first_there x es fs h =
    let a = h (just x) in
    let b = sum_by-cons (just x) x es in
    let c = just_itself x in
    is_one x fs (omega (arith, a, b, c))

-- sorted lists with the same items are one
pub one_order : (es fs : List Stamped) → AreSorted es → AreSorted fs → ((w : Stamped → ℕ) → sum_by w es ≡ sum_by w fs) → es ≡ fs
one_order [] [] s r h = refl
one_order [] (y ∷ fs) s r h =
    let a = h (λ e. 1) in let b = sum_by-cons (λ (e : Stamped). 1) y fs in absurd (omega (arith, a, b))
one_order (x ∷ es) [] s r h =
    let a = h (λ e. 1) in let b = sum_by-cons (λ (e : Stamped). 1) x es in absurd (omega (arith, a, b))
one_order (x ∷ es) (y ∷ fs) s r h =
    by (one_order es fs s.1 r.1) (from_contains fs x y (first_there x es (y ∷ fs) h))
    (from_contains es y x (first_there y fs (x ∷ es) (λ w. sym (h w))))
  where
    rest : x ≡ y → (((w : Stamped → ℕ) → sum_by w es ≡ sum_by w fs) → es ≡ fs) → x ∷ es ≡ y ∷ fs
    rest e more =
        let t = more (λ w.
        let a = h w in
        let b = sum_by-cons w x es in
        let c = sum_by-cons w y fs in
        let d = ap w e in
        omega (arith, a, b, c, d)) in
        λ i. e i ∷ t i

    by : (((w : Stamped → ℕ) → sum_by w es ≡ sum_by w fs) → es ≡ fs) → (y ≡ x) ⊎ Contains fs x → (x ≡ y) ⊎ Contains es y →
        x ∷ es ≡ y ∷ fs
    by more (inl e) c = rest (sym e) more
    by more (inr a) (inl e) = rest e more
    by more (inr a) (inr b) = absurd (precede_apart x y (s.0 y b) (r.0 x a))
