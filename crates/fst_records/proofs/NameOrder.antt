-- Names of channels in order.
use Rattle.std.proofs.Common.{◌≡◌, ◌⊎◌, inl, inr, ◌<◌, ◌+◌, false, List, [], ◌∷◌, ◌++◌, get_or, map, refl, sym, ap, ◌∙◌, subst, arith}
use Rattle.std.specs.Prelude.{All}
use Rattle.std.specs.Cmp.{IsTotalOrder}
use Rattle.std.specs.Cmp.Lexicographic.{slice_cmp}
use Rattle.std.specs.List.{AllByRecursion}
use Rattle.std.specs.List.Sorted.{IsSortedBy, IsStrictlySortedBy}
use Rattle.std.specs.Ordering.{nat_cmp, ordering_then, ordering_reverse, is_eq, is_lt}
use Rattle.std.specs.declared.cmp.Ordering.{Ordering}
use Rattle.std.specs.declared.cmp.Ordering.TheVariants.{Less, Equal, Greater}
use Rattle.std.proofs.lemmas.Cmp.{ranked, tied_itself, on_total, then_total, nat_cmp_total, nat_list_cmp_total}
use Rattle.std.proofs.lemmas.List.{length-map}
use Rattle.std.proofs.lemmas.List.Elements.{All-head, All-tail}
use Rattle.std.proofs.lemmas.Map.Keys.{Less-from_sorted}
use Rattle.std.proofs.lemmas.Map.Text.{is_eq-slice_cmp}
use Rattle.std.proofs.Math.ListN.{get_or-map}
use Rattle.fst_types.specs.declared.ends.ChannelName.{ChannelName}
use Rattle.fst_runs.proofs.Laws.{same_path-same}
use Rattle.fst_records.specs.NameOrder.{name_cmp}

-- ---- two names

-- names are in a total order
pub name_total : IsTotalOrder name_cmp
name_total = then_total (on_total (λ (h : ChannelName). h.maker) nat_list_cmp_total)
    (on_total (λ (h : ChannelName). h.count) nat_cmp_total)

-- of two comparisons, one after the other, both are equal where they are
pub both_equal : (a b : Ordering) → ordering_then a b ≡ Equal → (a ≡ Equal) × (b ≡ Equal)
both_equal Less b e = absurd (cc e)
both_equal Equal b e = (refl, e)
both_equal Greater b e = absurd (cc e)

-- names that compare as equal are one
pub name_same : (g h : ChannelName) → name_cmp g h ≡ Equal → g ≡ h
name_same g h e =
    let b = both_equal (slice_cmp nat_cmp g.maker h.maker) (nat_cmp g.count h.count) e in
    let makers = same_path-same g.maker h.maker (sym (is_eq-slice_cmp g.maker h.maker) ∙ ap is_eq b.0) in
    let counts = ranked g.count h.count Equal (sym b.1) in
    λ i. record { maker = makers i; count = counts i }

-- a name is neither below nor above one that is the same
pub apart_less : (g h : ChannelName) → g ≡ h → name_cmp g h ≡ Less → ⊥
apart_less g h e l = let a = subst (λ x. name_cmp x h ≡ Less) e l in absurd (cc (sym a ∙ tied_itself name_total h))

pub apart_greater : (g h : ChannelName) → g ≡ h → name_cmp g h ≡ Greater → ⊥
apart_greater g h e l = let a = subst (λ x. name_cmp x h ≡ Greater) e l in absurd (cc (sym a ∙ tied_itself name_total h))

-- of two names with one maker, the one that is below the other has the smaller count
pub counts_rise : (g h : ChannelName) → name_cmp g h ≡ Less → g.maker ≡ h.maker → g.count < h.count
counts_rise g h l e =
    let tied : slice_cmp nat_cmp g.maker h.maker ≡ Equal = subst
    (λ p. slice_cmp nat_cmp g.maker p ≡ Equal) e (tied_itself nat_list_cmp_total g.maker) in
    ranked g.count h.count Less (sym l ∙ ap (λ o. ordering_then o (nat_cmp g.count h.count)) tied)

-- the one name is below the other, or they are one
abbrev pub IsUpTo : ChannelName → ChannelName → Type 0
IsUpTo g h = (name_cmp g h ≡ Less) ⊎ (g ≡ h)

-- a name that isn't above another is up to it
pub up_to : (g h : ChannelName) → is_lt (name_cmp h g) ≡ false → IsUpTo g h
up_to g h n = by (name_cmp h g) refl n
  where
    by : (o : Ordering) → name_cmp h g ≡ o → is_lt o ≡ false → IsUpTo g h
    by Less e n = absurd (cc n)
    by Equal e n = inr (sym (name_same h g e))
    by Greater e n = inl (name_total.antisymm g h ∙ ap ordering_reverse e)

-- ---- names that rise

-- one more at the end, above those that are there
pub rising_more : (hs : List ChannelName) (g : ChannelName) → IsStrictlySortedBy name_cmp hs → All (λ h. name_cmp h g ≡ Less) hs →
    IsStrictlySortedBy name_cmp (hs ++ g ∷ [])
unfolding IsStrictlySortedBy
rising_more [] g rise all = (tt, tt)
rising_more (h ∷ hs) g rise all =
    (more hs rise.0, rising_more hs g rise.1 (All-tail (λ (x : ChannelName). name_cmp x g ≡ Less) h hs all))
  where
    below : name_cmp h g ≡ Less
    below = All-head (λ (x : ChannelName). name_cmp x g ≡ Less) h hs all

    more : (xs : List ChannelName) → AllByRecursion (λ y. name_cmp h y ≡ Less) xs → AllByRecursion
        (λ y. name_cmp h y ≡ Less) (xs ++ g ∷ [])
    more [] r = (below, tt)
    more (x ∷ xs) r = (r.0, more xs r.1)

-- things whose names rise are sorted by these
pub sorted_by_name : {X : Type 0} (name : X → ChannelName) (xs : List X) → IsStrictlySortedBy name_cmp (map name xs) →
    IsSortedBy (λ x y. is_lt (name_cmp (name x) (name y))) xs
sorted_by_name name xs rise k d low high =
    let l = length-map xs name in
    let a = Less-from_sorted name_cmp (map name xs) k (k + 1) (name d) rise (omega arith) (omega (arith, l)) in
    let b : name_cmp (name (get_or xs k d)) (name (get_or xs (k + 1) d)) ≡ Less =
    rw (sym (get_or-map name xs k d), sym (get_or-map name xs (k + 1) d)) a in
    ap is_lt (name_total.antisymm (name (get_or xs (k + 1) d)) (name (get_or xs k d)) ∙ ap ordering_reverse b)
