-- Numbers of a turn word.
use Rattle.std.proofs.Common.{◌≡◌, ℕ, ◌+◌, ◌-◌, ◌*◌, ◌%◌, ◌<◌, sym, ap, ◌∙◌, arith}
use Rattle.std.proofs.lemmas.Nat.{or_shifted, or_block}
use Rattle.std.specs.Int.Bits.{bit_or, or_zero_r}

pub or_even : (a n : ℕ) → n ≡ 2 * a → bit_or n 1 ≡ n + 1
or_even a n is = let e : n ≡ a * 2 = omega arith in ap (λ (k : ℕ). bit_or k 1) e ∙ or_shifted a 1 1 (omega arith) ∙ ap
    (λ (k : ℕ). k + 1) (sym e)

pub or_odd : (a n : ℕ) → n ≡ 2 * a + 1 → bit_or n 1 ≡ n
or_odd a n is =
    let e : n ≡ a * 2 + 1 = omega arith in
    ap (λ (k : ℕ). bit_or k 1) e ∙ or_block 1 a 0 1 1 (omega arith) (omega arith) ∙ ap (λ (k : ℕ). k * 2 + 1) (or_zero_r a)
    ∙ sym e

-- `fetch_sub` of 1
pub less_one : (n : ℕ) → n + 1 < 18446744073709551616 → (n + 1 + (18446744073709551616 - 1)) % 18446744073709551616 ≡ n
less_one n fits = omega arith

-- `fetch_add` of 1
pub more_one : (n : ℕ) → n + 1 < 18446744073709551616 → (n + 1) % 18446744073709551616 ≡ n + 1
more_one n fits = omega arith
