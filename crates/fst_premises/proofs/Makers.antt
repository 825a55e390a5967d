-- Constructors by their numbers.
use Rattle.std.proofs.Common.{◌≡◌, ◌∙◌, ◌<◌, ℕ, List, Option, Some, None, get_or, length, slice_get, refl, sym, ap, subst}
use Rattle.std.proofs.lemmas.Option.{slice_get_read, slice_get_within}
use Rattle.fst_types.specs.declared.family.Family.{Family}
use Rattle.fst_types.specs.declared.family.Maker.{Maker}
use Rattle.fst_terms.specs.InRange.{HasFields, maker_of}

-- a constructor that is there, as it is read
pub maker_at : (fs : List Family) (n k m : ℕ) (f : Family) (o : Maker) → HasFields (maker_of (slice_get fs n) k) m →
    f ≡ get_or fs n f → o ≡ get_or f.makers.items k o → maker_of (slice_get fs n) k ≡ Some o
maker_at fs n k m f o h e g = pick (slice_get fs n) refl h
  where
    pick : (q : Option Family) → slice_get fs n ≡ q → HasFields (maker_of q k) m → maker_of (slice_get fs n) k ≡ Some o
    pick None i j = absurd j
    pick (Some p) i j =
        let same : p ≡ f = same_read fs n p f i (slice_get_within fs n p i) e in
        ap (λ y. maker_of y k) i ∙ ap (λ (y : Family). slice_get y.makers.items k) same
        ∙ there (slice_get f.makers.items k) refl (subst (λ (y : Family). HasFields (slice_get y.makers.items k) m) same j)
      where
        same_read : (xs : List Family) (k : ℕ) (p x : Family) → slice_get xs k ≡ Some p → k < length xs → x ≡ get_or xs k x →
            p ≡ x
        same_read xs k p x i l e = let both : Some p ≡ Some x = sym i ∙ slice_get_read xs (length xs) k x refl l e in cc

        there : (y : Option Maker) → slice_get f.makers.items k ≡ y → HasFields y m → slice_get f.makers.items k ≡ Some o
        there None z j = absurd j
        there (Some q) z j = slice_get_read f.makers.items (length f.makers.items) k o refl
            (slice_get_within f.makers.items k q z) g
