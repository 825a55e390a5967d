-- The order of labels is total, and labels that compare alike are one.
use Rattle.std.proofs.Common.{◌≡◌, ◌∙◌, ℕ, zero, suc, List, [], ◌∷◌, true, refl, sym, ap}
use Rattle.std.specs.declared.cmp.Ordering.{Ordering}
use Rattle.std.specs.declared.cmp.Ordering.TheVariants.{Less, Equal, Greater}
use Rattle.std.specs.Ordering.{nat_cmp, ordering_then, is_eq}
use Rattle.std.specs.Cmp.Lexicographic.{slice_cmp}
use Rattle.std.proofs.lemmas.Cmp.{nat_list_cmp_total, nat_cmp_total, tied_itself, then_total, on_total}
use Rattle.std.specs.Cmp.{IsTotalOrder}
use Rattle.std.proofs.lemmas.Map.Lookups.{exact_unsigned}
use Rattle.fst_types.specs.declared.base.Base.{Base}
use Rattle.fst_types.specs.declared.base.Base.TheVariants.{Int, Bool as Truth, Char, Unit as Nothing}
use Rattle.fst_types.specs.declared.label.Label.{Label}
use Rattle.fst_types.specs.declared.label.Label.TheVariants.{Send, Receive, Select, Offer, Close, Wait, Var}
use Rattle.fst_types.specs.Order.{base_number, label_rank, label_number, label_text, label_cmp, same_label}
use Rattle.fst_types.specs.ModelCode.{base_at}

-- a base type comes back from its number
base_at-number : (b : Base) → base_at (base_number b) ≡ b
base_at-number Int = refl
base_at-number Truth = refl
base_at-number Char = refl
base_at-number Nothing = refl

-- the label of a rank, a number and a text
abbrev label_at : ℕ → ℕ → List ℕ → Label
label_at zero n t = Send (base_at n)
label_at (suc zero) n t = Receive (base_at n)
label_at (suc (suc zero)) n t = Select t
label_at (suc (suc (suc zero))) n t = Offer t
label_at (suc (suc (suc (suc zero)))) n t = Close
label_at (suc (suc (suc (suc (suc zero))))) n t = Wait
label_at (suc (suc (suc (suc (suc (suc r)))))) n t = Var n

-- a label comes back from its rank, its number and its text
label_at-rank : (a : Label) → label_at (label_rank a) (label_number a) (label_text a) ≡ a
label_at-rank (Send b) = ap Send (base_at-number b)
label_at-rank (Receive b) = ap Receive (base_at-number b)
label_at-rank (Select l) = refl
label_at-rank (Offer l) = refl
label_at-rank Close = refl
label_at-rank Wait = refl
label_at-rank (Var k) = refl

-- two comparisons in turn tie only where both do
both_equal : (o p : Ordering) → is_eq (ordering_then o p) ≡ true → (o ≡ Equal) × (p ≡ Equal)
both_equal Less p e = absurd (cc e)
both_equal Equal Less e = absurd (cc e)
both_equal Equal Equal e = (refl, refl)
both_equal Equal Greater e = absurd (cc e)
both_equal Greater p e = absurd (cc e)

-- texts that tie are one
same_text : (xs ys : List ℕ) → slice_cmp nat_cmp xs ys ≡ Equal → xs ≡ ys
same_text [] [] e = refl
same_text [] (y ∷ ys) e = cc
same_text (x ∷ xs) [] e = cc
same_text (x ∷ xs) (y ∷ ys) e =
    let b = both_equal (nat_cmp x y) (slice_cmp nat_cmp xs ys) (ap is_eq e) in
    let head = exact_unsigned x y b.0 in
    let tail = same_text xs ys b.1 in
    λ i. head i ∷ tail i

-- labels that pass the test are one
pub same_label-same : (a b : Label) → same_label a b ≡ true → a ≡ b
same_label-same a b e =
    let outer = both_equal (ordering_then (nat_cmp (label_rank a) (label_rank b)) (nat_cmp (label_number a) (label_number b)))
    (slice_cmp nat_cmp (label_text a) (label_text b)) e in
    let inner = both_equal (nat_cmp (label_rank a) (label_rank b)) (nat_cmp (label_number a) (label_number b))
    (ap is_eq outer.0) in
    let ranks = exact_unsigned (label_rank a) (label_rank b) inner.0 in
    let numbers = exact_unsigned (label_number a) (label_number b) inner.1 in
    let texts = same_text (label_text a) (label_text b) outer.1 in
    sym (label_at-rank a) ∙ (λ i. label_at (ranks i) (numbers i) (texts i)) ∙ label_at-rank b

-- each label passes the test with itself
pub same_label-itself : (a : Label) → same_label a a ≡ true
same_label-itself a =
    ap (λ o. is_eq (ordering_then (ordering_then o (nat_cmp (label_number a) (label_number a)))
    (slice_cmp nat_cmp (label_text a) (label_text a)))) (tied_itself nat_cmp_total (label_rank a))
    ∙ ap (λ o. is_eq (ordering_then o (slice_cmp nat_cmp (label_text a) (label_text a))))
    (tied_itself nat_cmp_total (label_number a))
    ∙ ap is_eq (tied_itself nat_list_cmp_total (label_text a))

-- the test is equality
pub same_label_is : (a b : Label) → (same_label a b ≡ true → a ≡ b) × (a ≡ b → same_label a b ≡ true)
same_label_is a b = (same_label-same a b, λ e. ap (λ c. same_label a c) (sym e) ∙ same_label-itself a)

-- the order of labels is total
pub label_cmp_total : IsTotalOrder label_cmp
label_cmp_total = then_total (then_total (on_total label_rank nat_cmp_total) (on_total label_number nat_cmp_total))
    (on_total label_text nat_list_cmp_total)
