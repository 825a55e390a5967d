-- Whether labels are those of an offered choice.
use Rattle.std.proofs.Common.{◌≡◌, ◌∙◌, ◌+◌, ◌<◌, ◌==◌, false, ℕ, zero, suc, List, [], ◌∷◌, get_or, length, map, take, refl, sym, ap, arith}
use Rattle.fst_types.specs.declared.label.Label.{Label}
use Rattle.fst_types.specs.declared.label.Label.TheVariants.{Offer}

-- the first i labels are offered
abbrev pub AreOfferedTo : ℕ → List Label → Type 0
AreOfferedTo i ls = (names : List (List ℕ)) × (map Offer names ≡ take i ls)

-- one more is
pub offered_more : (ls : List Label) (i : ℕ) (a : Label) (x : List ℕ) → AreOfferedTo i ls → i < length ls → a ≡ get_or ls i a →
    a ≡ Offer x → AreOfferedTo (i + 1) ls
offered_more [] i a x h l e f = absurd (omega (arith, l))
offered_more (b ∷ ls) zero a x h l e f = (x ∷ [], ap (λ y. y ∷ []) (sym f ∙ e))
offered_more (b ∷ ls) (suc i) a x ([], h) l e f = absurd (cc h)
offered_more (b ∷ ls) (suc i) a x (n ∷ ns, h) l e f =
    let tail : map Offer ns ≡ take i ls = cc in
    let head : Offer n ≡ b = cc in
    let r = offered_more ls i a x (ns, tail) (omega (arith, l)) e f in
    let step : suc i + 1 ≡ suc (i + 1) = omega arith in
    (n ∷ r.0, (λ j. head j ∷ r.1 j) ∙ ap (λ m. take m (b ∷ ls)) (sym step))

-- a label among those of a choice is offered
pub offered_at : (names : List (List ℕ)) (ls : List Label) (i : ℕ) (a : Label) → ls ≡ map Offer names → i < length ls →
    a ≡ get_or ls i a → (x : List ℕ) × (a ≡ Offer x)
offered_at [] [] i a h l e = absurd (omega (arith, l))
offered_at [] (b ∷ ls) i a h l e = absurd (cc h)
offered_at (n ∷ ns) [] i a h l e = absurd (omega (arith, l))
offered_at (n ∷ ns) (b ∷ ls) zero a h l e = let head : b ≡ Offer n = cc in (n, e ∙ head)
offered_at (n ∷ ns) (b ∷ ls) (suc i) a h l e = let tail : ls ≡ map Offer ns = cc in offered_at ns ls i a tail (omega (arith, l)) e

-- of no labels there are no names
pub none_offered : (names : List (List ℕ)) → [] ≡ map Offer names → names ≡ []
none_offered [] h = refl
none_offered (n ∷ ns) h = absurd (cc h)

pub some_offered : (names : List (List ℕ)) (ls : List Label) → map Offer names ≡ ls → 0 < length ls → names ≡ [] → ⊥
some_offered names [] h l e = absurd (omega (arith, l))
some_offered [] (b ∷ ls) h l e = absurd (cc h)
some_offered (n ∷ ns) ls h l e = absurd (cc e)

-- a length that isn't zero is positive
pub positive : (n : ℕ) → false ≡ (n == 0) → 0 < n
positive zero h = absurd (cc h)
positive (suc n) h = omega arith
