-- Marks by level, and the sets that they stand for.
use Rattle.std.proofs.Common.{◌≡◌, ◌∙◌, ◌<◌, ◌≤◌, ◌+◌, ◌-◌, ℕ, suc, zero, Bool, true, false, List, [], ◌∷◌, ◌++◌, length, get_or, set, inl, inr, refl, sym, ap, arith}
use Rattle.std.specs.Prelude.{◌||◌}
use Rattle.std.proofs.Math.Path.{fun_ext}
use Rattle.std.proofs.lemmas.Bool.{cases_lt, cases_eq}
use Rattle.std.proofs.lemmas.List.{get_or-set_same, get_or-set_other, length-set}
use Rattle.fst_machine.specs.Free.{is}
use Rattle.fst_machine.specs.Code.{also, no_variables, within}
use Rattle.fst_code.specs.Marks.{entered, marked, marked_over}

pub is_same : (k : ℕ) → is k k ≡ true
is_same zero = refl
is_same (suc k) = is_same k

pub is_other : (k n : ℕ) → (k ≡ n → ⊥) → is k n ≡ false
is_other zero zero h = absurd (h refl)
is_other zero (suc n) h = refl
is_other (suc k) zero h = refl
is_other (suc k) (suc n) h = is_other k n (λ e. h (ap suc e))

pub is_symmetric : (k n : ℕ) → is k n ≡ is n k
is_symmetric zero zero = refl
is_symmetric zero (suc n) = refl
is_symmetric (suc k) zero = refl
is_symmetric (suc k) (suc n) = is_symmetric k n

-- one more mark, by its number
pub marked_push_at : (bs : List Bool) (b : Bool) (p : ℕ → Bool) (k : ℕ) →
    marked_over (bs ++ b ∷ []) p k ≡ entered b (marked_over bs p) k
marked_push_at [] b p zero = refl
marked_push_at [] b p (suc k) = refl
marked_push_at (a ∷ rest) b p zero = marked_push_at rest b (entered a p) zero
marked_push_at (a ∷ rest) b p (suc k) = marked_push_at rest b (entered a p) (suc k)

-- one more mark
pub marked_push : (bs : List Bool) (b : Bool) → marked (bs ++ b ∷ []) ≡ entered b (marked bs)
marked_push bs b = fun_ext (λ k. marked_push_at bs b no_variables k
    ∙ elim k as (λ n. entered b (marked_over bs no_variables) n ≡ entered b (marked bs) n) [ zero ↦ refl | suc n ↦ refl ])

pub entered_false : (p : ℕ → Bool) → entered false p ≡ within p
entered_false p = fun_ext (λ k. elim k as (λ n. entered false p n ≡ within p n) [ zero ↦ refl | suc n ↦ refl ])

pub within_none : within no_variables ≡ no_variables
within_none = fun_ext (λ k. elim k as (λ n. within no_variables n ≡ no_variables n) [ zero ↦ refl | suc n ↦ refl ])

-- one more variable that isn't marked
pub marked_within : (bs : List Bool) → marked (bs ++ false ∷ []) ≡ within (marked bs)
marked_within bs = marked_push bs false ∙ entered_false (marked bs)

pub marked_past : (bs : List Bool) (p : ℕ → Bool) (n : ℕ) → marked_over bs p (length bs + n) ≡ p n
marked_past [] p n = let e : 0 + n ≡ n = omega arith in ap p e
marked_past (b ∷ bs) p n = let e : suc (length bs) + n ≡ length bs + suc n = omega arith in ap (marked_over bs (entered b p)) e
    ∙ marked_past bs (entered b p) (suc n)

-- beyond the variables none is marked
pub marked_beyond : (bs : List Bool) (k : ℕ) → length bs ≤ k → marked bs k ≡ false
marked_beyond bs k h = let e : k ≡ length bs + (k - length bs) = omega arith in ap (marked bs) e
    ∙ marked_past bs no_variables (k - length bs)

pub marked_level_over : (bs : List Bool) (p : ℕ → Bool) (k : ℕ) → k < length bs →
    marked_over bs p k ≡ get_or bs (length bs - 1 - k) false
marked_level_over [] p k h = absurd (omega arith)
marked_level_over (b ∷ bs) p k h = elim (cases_lt k (length bs)) [
  | inl low ↦ let e : suc (length bs) - 1 - k ≡ suc (length bs - 1 - k) = omega arith in
      marked_level_over bs (entered b p) k low ∙ ap (λ z. get_or (b ∷ bs) z false) (sym e)
  | inr high ↦ let f : k ≡ length bs + 0 = omega arith in
      let e : suc (length bs) - 1 - k ≡ 0 = omega arith in
      ap (marked_over bs (entered b p)) f ∙ marked_past bs (entered b p) 0 ∙ ap (λ z. get_or (b ∷ bs) z false) (sym e)
]

-- the mark of a variable stands at its level
pub marked_level : (bs : List Bool) (k : ℕ) → k < length bs → marked bs k ≡ get_or bs (length bs - 1 - k) false
marked_level bs k h = marked_level_over bs no_variables k h

-- two lists of marks put together, level by level
pub marked_both : (f : Bool → Bool → Bool) → f false false ≡ false →
    (bs0 bs cs : List Bool) → length cs ≡ length bs0 → length bs ≡ length bs0 →
    ((i : ℕ) → i < length bs0 → get_or cs i false ≡ f (get_or bs0 i false) (get_or bs i false)) →
    (k : ℕ) → marked cs k ≡ f (marked bs0 k) (marked bs k)
marked_both f none bs0 bs cs l m h k = elim (cases_lt k (length bs0)) [
  | inl low ↦ let lc : k < length cs = omega arith in let lb : k < length bs = omega arith in
      let i = length bs0 - 1 - k in
      let ec : length cs - 1 - k ≡ i = omega arith in let eb : length bs - 1 - k ≡ i = omega arith in let lower : i < length bs0 =
      omega arith in
      marked_level cs k lc ∙ ap (λ z. get_or cs z false) ec ∙ h i lower
      ∙ ap (λ z. f z (get_or bs i false)) (sym (marked_level bs0 k low))
      ∙ ap (λ z. f (marked bs0 k) z) (ap (λ z. get_or bs z false) (sym eb) ∙ sym (marked_level bs k lb))
  | inr high ↦ let hc : length cs ≤ k = omega arith in let hb : length bs ≤ k = omega arith in
      marked_beyond cs k hc ∙ sym none ∙ ap (λ z. f z false) (sym (marked_beyond bs0 k high)) ∙ ap
      (λ z. f (marked bs0 k) z) (sym (marked_beyond bs k hb))
]

-- one variable is marked
pub marked_set : (bs : List Bool) (k : ℕ) → k < length bs → marked (set bs (length bs - 1 - k) true) ≡ also (is k) (marked bs)
marked_set bs k h = fun_ext (λ n. elim (cases_lt n (length bs)) [
  | inl low ↦
      let cs = set bs (length bs - 1 - k) true in
      let same : length cs ≡ length bs = length-set bs (length bs - 1 - k) true in
      let lc : n < length cs = omega arith in
      let at : length cs - 1 - n ≡ length bs - 1 - n = omega arith in
      let there = marked_level cs n lc ∙ ap (λ z. get_or cs z false) at in
      elim (cases_eq n k) [
        | inl e ↦
            let here : length bs - 1 - n ≡ length bs - 1 - k = omega arith in
            let inside : length bs - 1 - k < length bs = omega arith in
            there ∙ ap (λ z. get_or cs z false) here ∙ get_or-set_same bs (length bs - 1 - k) true false inside
            ∙ ap (λ z. z || marked bs n) (sym (is_same k) ∙ ap (is k) (sym e))
        | inr ne ↦
            let other : length bs - 1 - n ≡ length bs - 1 - k → ⊥ = λ e. ne (omega arith) in
            there ∙ get_or-set_other bs (length bs - 1 - k) (length bs - 1 - n) true false other ∙ sym (marked_level bs n low)
            ∙ ap (λ z. z || marked bs n) (sym (is_other k n (λ e. ne (sym e))))
      ]
  | inr high ↦
      let cs = set bs (length bs - 1 - k) true in
      let same : length cs ≡ length bs = length-set bs (length bs - 1 - k) true in
      let hc : length cs ≤ n = omega arith in
      let ne : k ≡ n → ⊥ = λ e. omega arith in
      marked_beyond cs n hc ∙ sym (marked_beyond bs n high) ∙ ap (λ z. z || marked bs n) (sym (is_other k n ne))
])
