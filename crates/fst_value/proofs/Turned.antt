-- A list that is read from its end.
use Rattle.std.proofs.Common.{◌≡◌, ◌∙◌, ℕ, ◌-◌, ◌≤◌, arith, List, [], ◌∷◌, ◌++◌, length, take, drop, reverse, sym, ap, add_comm}
use Rattle.std.proofs.lemmas.List.{take-append-drop, length-append, length-drop, take_at, drop_at, reverse-append, reverse-reverse, length-reverse}

-- the last one is first
pub last_turned : {X : Type 0} (xs : List X) (x : X) → reverse (xs ++ x ∷ []) ≡ x ∷ reverse xs
last_turned xs x = reverse-append xs (x ∷ [])

-- its last k, and those before them
halves_turned : {X : Type 0} (xs : List X) (k : ℕ) → k ≤ length xs →
    (length (reverse (drop (length xs - k) xs)) ≡ k) ×
    (reverse xs ≡ reverse (drop (length xs - k) xs) ++ reverse (take (length xs - k) xs))
halves_turned xs k h =
    let n = length xs - k in (
      length-reverse (drop n xs) ∙ length-drop n xs ∙ omega (arith, h),
      ap reverse (sym (take-append-drop n xs)) ∙ reverse-append (take n xs) (drop n xs),
    )

-- without its last k
pub drop_turned : {X : Type 0} (xs : List X) (k : ℕ) → k ≤ length xs → drop k (reverse xs) ≡ reverse (take (length xs - k) xs)
drop_turned xs k h =
    let t = halves_turned xs k h in
    ap (drop k) t.1 ∙ drop_at (reverse (drop (length xs - k) xs)) (reverse (take (length xs - k) xs)) k t.0

-- its last k
pub take_turned : {X : Type 0} (xs : List X) (k : ℕ) → k ≤ length xs → reverse (take k (reverse xs)) ≡ drop (length xs - k) xs
take_turned xs k h =
    let t = halves_turned xs k h in
    ap (λ ys. reverse (take k ys)) t.1
    ∙ ap reverse (take_at (reverse (drop (length xs - k) xs)) (reverse (take (length xs - k) xs)) k t.0)
    ∙ reverse-reverse (drop (length xs - k) xs)

-- an element in place of the last k ones
pub replaced : {X : Type 0} (xs ys zs ws rs : List X) (k n : ℕ) (x : X) → reverse xs ≡ rs → ys ≡ xs → n ≡ length ys →
    zs ≡ take (n - k) ys → ws ≡ zs ++ x ∷ [] → k ≤ length rs →
    reverse ws ≡ x ∷ drop k rs
replaced xs ys zs ws rs k n x r y l z w h =
    let le : k ≤ length xs = omega (arith, h, length-reverse xs, ap length r) in
    ap reverse w
    ∙ last_turned zs x
    ∙ ap (λ us. x ∷ us) (ap reverse (z ∙ (λ i. take (l i - k) (y i)) ∙ ap (λ us. take (length us - k) xs) y)
    ∙ sym (drop_turned xs k le) ∙ ap (drop k) r)

-- a list whose first ones go behind the others is as long
pub length_turned : {X : Type 0} (xs : List X) (k : ℕ) → length (drop k xs ++ take k xs) ≡ length xs
length_turned xs k =
    length-append (drop k xs) (take k xs)
    ∙ add_comm (length (drop k xs)) (length (take k xs))
    ∙ sym (length-append (take k xs) (drop k xs))
    ∙ ap length (take-append-drop k xs)
