-- The number that digits spell, read one after the other.
use Rattle.std.proofs.Common.{◌≡◌, ℕ, ◌+◌, ◌-◌, ◌*◌, ◌≤◌, ◌<◌, true, false, List, [], ◌∷◌, length, get_or, drop, Some, None, refl, sym, arith, add-one, drop-cons, length-drop}
use Rattle.std.proofs.lemmas.List.{nil_from_length}
use Rattle.std.proofs.lemmas.Bool.Decides.{nat_tests}
use Rattle.std.specs.Prelude.{nat_le}
use Rattle.std.specs.Str.{byte}
use Rattle.fst_base.specs.Limits.{greatest_number}
use Rattle.fst_lexer.specs.declared.pieces.Placed.{Placed}
use Rattle.fst_base.specs.Choice.{choose}
use Rattle.fst_lexer.specs.Tokens.{value_from, number_of}

value_grows : (n : ℕ) (cs : List Placed) → n ≤ value_from n cs
value_grows n [] = omega arith
value_grows n (c ∷ cs) = omega (arith, value_grows (n * 10 + (c.ch - byte "0")) cs)

pub next_value : (word : List Placed) (v i : ℕ) (d : Placed) → i < length word →
    value_from v (drop i word) ≡ value_from (v * 10 + ((get_or word i d).ch - byte "0")) (drop (i + 1) word)
next_value word v i d lt = rw (add-one, drop-cons word i d) refl

pub too_wide : (word : List Placed) (v i : ℕ) (d : Placed) → i < length word → value_from v (drop i word) ≡ value_from 0 word →
    greatest_number < v * 10 + ((get_or word i d).ch - byte "0") → None ≡ number_of word
unfolding number_of choose
too_wide word v i d lt so_far wide =
    let all = next_value word v i d lt in
    let above = value_grows (v * 10 + ((get_or word i d).ch - byte "0")) (drop (i + 1) word) in
    let no : nat_le (value_from 0 word) greatest_number ≡ false = grind (arith, nat_tests) in
    rw no refl

pub all_read : (word : List Placed) (v i : ℕ) → length word ≤ i → value_from v (drop i word) ≡ value_from 0 word →
    v ≤ greatest_number → Some v ≡ number_of word
unfolding number_of choose
all_read word v i le so_far small =
    let end : drop i word ≡ [] = nil_from_length (drop i word) (omega (arith, length-drop i word)) in
    let is : value_from 0 word ≡ v = sym (rw end at so_far) in
    let fits : nat_le (value_from 0 word) greatest_number ≡ true = grind (arith, nat_tests) in
    rw (fits, is) refl
