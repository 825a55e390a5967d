-- The labels of types, inserted one by one.
use Rattle.std.proofs.Common.{◌≡◌, ◌∙◌, ◌↔◌, ◌⊎◌, inl, inr, ⊎_elim, refl, sym, ap, arith, List, [], ◌∷◌, ◌++◌}
use Rattle.std.specs.Prelude.{Contains}
use Rattle.std.specs.declared.cmp.Ordering.{Ordering}
use Rattle.std.specs.declared.cmp.Ordering.TheVariants.{Less, Equal, Greater}
use Rattle.std.specs.Ordering.{is_eq, ordering_reverse}
use Rattle.fst_types.specs.Tree.{Tree}
use Rattle.fst_types.specs.Order.{label_cmp}
use Rattle.fst_types.specs.declared.label.Label.{Label}
use Rattle.fst_types.proofs.Laws.{same_label-same, label_cmp_total}
use Rattle.fst_base.specs.Order.{IsRising}
use Rattle.fst_parts.specs.Labels.{labels_in, AreLetters}
use Rattle.fst_parts.specs.Letters.{with_label, with_label_by, with_labels}
use Rattle.fst_base.proofs.Lists.{contains_head, contains_tail, from_contains}

pub equal_same : (a b : Label) → label_cmp a b ≡ Equal → a ≡ b
equal_same a b e = same_label-same a b (ap is_eq e)

turned : (a b : Label) → label_cmp a b ≡ Greater → label_cmp b a ≡ Less
turned a b e = label_cmp_total.antisymm b a ∙ ap ordering_reverse e

-- a label is in the list once it is inserted, and so are those before it and no other
in_inserted : (letters : List Label) (a b : Label) → Contains (with_label letters a) b → (a ≡ b) ⊎ Contains letters b
in_inserted [] a b h = from_contains [] b a h
in_inserted (c ∷ letters) a b h = pick (in_inserted letters a b) (label_cmp a c) h
  where
    pick : (Contains (with_label letters a) b → (a ≡ b) ⊎ Contains letters b) →
        (o : Ordering) → Contains (with_label_by o a c letters (with_label letters a)) b → (a ≡ b) ⊎ Contains (c ∷ letters) b
    pick next Less h = from_contains (c ∷ letters) b a h
    pick next Equal h = inr h
    pick next Greater h =
        ⊎_elim (λ e. inr (contains_head letters b c e))
        (λ k. ⊎_elim (λ e. inl e) (λ m. inr (contains_tail letters b c m)) (next k))
        (from_contains (with_label letters a) b c h)

inserted_in : (letters : List Label) (a b : Label) → (a ≡ b) ⊎ Contains letters b → Contains (with_label letters a) b
inserted_in [] a b (inl e) = contains_head [] b a e
inserted_in [] a b (inr h) = absurd (omega (arith, h.1))
inserted_in (c ∷ letters) a b h = pick (inserted_in letters a b) (label_cmp a c) refl h
  where
    pick : ((a ≡ b) ⊎ Contains letters b → Contains (with_label letters a) b) → (o : Ordering) → label_cmp a c ≡ o →
        (a ≡ b) ⊎ Contains (c ∷ letters) b → Contains (with_label_by o a c letters (with_label letters a)) b
    pick next Less is (inl e) = contains_head (c ∷ letters) b a e
    pick next Less is (inr h) = contains_tail (c ∷ letters) b a h
    pick next Equal is (inl e) = contains_head letters b c (sym (equal_same a c is) ∙ e)
    pick next Equal is (inr h) = h
    pick next Greater is (inl e) = contains_tail (with_label letters a) b c (next (inl e))
    pick next Greater is (inr h) = ⊎_elim (λ e. contains_head (with_label letters a) b c e)
        (λ m. contains_tail (with_label letters a) b c (next (inr m))) (from_contains letters b c h)

pub in_inserted_all : (labels letters : List Label) (b : Label) →
    Contains (with_labels letters labels) b ↔ (Contains labels b ⊎ Contains letters b)
in_inserted_all [] letters b = (λ h. inr h, λ h. ⊎_elim (λ n. absurd (omega (arith, n.1))) (λ k. k) h)
in_inserted_all (a ∷ labels) letters b =
    let next = in_inserted_all labels (with_label letters a) b in (
      λ h. ⊎_elim (λ k. inl (contains_tail labels b a k))
          (λ k. ⊎_elim (λ e. inl (contains_head labels b a e)) (λ m. inr m) (in_inserted letters a b k)) (next.0 h),
      λ h. next.1 (⊎_elim (λ k. ⊎_elim (λ e. inr (inserted_in letters a b (inl e))) (λ m. inl m) (from_contains labels b a k))
          (λ m. inr (inserted_in letters a b (inr m))) h),
    )

-- what is inserted behind a lesser label
pub inserted_rising : (letters : List Label) (a : Label) → IsRising label_cmp letters → IsRising label_cmp (with_label letters a)
inserted_rising [] a h = tt
inserted_rising (b ∷ []) a h = pick (label_cmp a b) refl
  where
    pick : (o : Ordering) → label_cmp a b ≡ o → IsRising label_cmp (with_label_by o a b [] (a ∷ []))
    pick Less is = (is, tt)
    pick Equal is = tt
    pick Greater is = (turned a b is, tt)
inserted_rising (b ∷ (c ∷ letters)) a h = pick (inserted_rising (c ∷ letters) a h.1) (label_cmp a b) refl
  where
    behind : (o : Ordering) → label_cmp a b ≡ Greater → IsRising label_cmp (with_label_by o a c letters (with_label letters a)) →
        IsRising label_cmp (b ∷ with_label_by o a c letters (with_label letters a))
    behind Less is k = (turned a b is, k)
    behind Equal is k = (h.0, k)
    behind Greater is k = (h.0, k)

    pick : IsRising label_cmp (with_label (c ∷ letters) a) →
        (o : Ordering) → label_cmp a b ≡ o → IsRising label_cmp (with_label_by o a b (c ∷ letters) (with_label (c ∷ letters) a))
    pick next Less is = (is, h)
    pick next Equal is = h
    pick next Greater is = behind (label_cmp a c) is next

pub inserted_all_rising : (labels letters : List Label) → IsRising label_cmp letters →
    IsRising label_cmp (with_labels letters labels)
inserted_all_rising [] letters h = h
inserted_all_rising (a ∷ labels) letters h = inserted_all_rising labels (with_label letters a) (inserted_rising letters a h)

pub inserted_append : (letters a b : List Label) → with_labels letters (a ++ b) ≡ with_labels (with_labels letters a) b
inserted_append letters [] b = refl
inserted_append letters (x ∷ a) b = inserted_append (with_label letters x) a b

-- all labels of the two types, each at its place
pub letters_are : (s r : Tree) → AreLetters s r (with_labels [] (labels_in s ++ labels_in r))
letters_are s r = (
  inserted_all_rising (labels_in s ++ labels_in r) [] tt,
  λ a. let h = in_inserted_all (labels_in s ++ labels_in r) [] a in
      (λ k. ⊎_elim (λ m. m) (λ n. absurd (omega (arith, n.1))) (h.0 k), λ k. h.1 (inl k)),
)
