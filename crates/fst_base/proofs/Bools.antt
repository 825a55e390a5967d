-- Truth values.
use Rattle.std.proofs.Common.{◌≡◌, ℕ, suc, ◌+◌, ◌<◌, ◌≤◌, ◌==◌, List, Bool, true, false, not, refl, sym, ap, ◌∙◌, arith, ◌&&◌, ◌||◌, nat_eq, nat_lt}
use Rattle.std.specs.Str.{bytes_eq}
use Rattle.std.proofs.lemmas.Bool.{ltb-true, lt-ltb}
use Rattle.std.proofs.lemmas.Bool.Decides.{nat_tests}
use Rattle.std.proofs.lemmas.Slice.Eq.{bytes_eq-Decides}

-- tests that hold in the same cases are one
pub same_bool : (c d : Bool) → (c ≡ true → d ≡ true) → (d ≡ true → c ≡ true) → c ≡ d
same_bool true d f g = sym (f refl)
same_bool false true f g = g refl
same_bool false false f g = refl

-- a test fails where another holds that it excludes
pub excluded : (c d : Bool) → (c ≡ true → d ≡ false) → d ≡ true → c ≡ false
excluded true d f h = absurd (let e = f refl in cc)
excluded false d f h = refl

-- numbers that pass the test are one
pub same_number : (m n : ℕ) → (m == n) ≡ true → m ≡ n
same_number m n e = grind (arith, nat_tests)

-- texts that pass the test are one
pub same_text : (x y : List ℕ) → bytes_eq x y ≡ true → x ≡ y
same_text x y e = (bytes_eq-Decides x y).0 e

-- a text passes it with itself
pub text_itself : (x : List ℕ) → bytes_eq x x ≡ true
text_itself x = (bytes_eq-Decides x x).1 refl

-- a number that passes the test is the lesser one
pub is_less : (a b : ℕ) → nat_lt a b ≡ true → a < b
is_less a b e = grind arith

-- one that fails it is not
pub not_less : (a b : ℕ) → nat_lt a b ≡ false → b ≤ a
not_less a b e = grind arith

-- numbers are compared as the ones before them
pub next_less : (m n : ℕ) → nat_lt (1 + m) (suc n) ≡ nat_lt m n
next_less m n = pick (nat_lt (1 + m) (suc n)) refl (nat_lt m n) refl
  where
    pick : (b : Bool) → nat_lt (1 + m) (suc n) ≡ b → (c : Bool) → nat_lt m n ≡ c → b ≡ c
    pick true e true f = refl
    pick true e false f = let lt : 1 + m < suc n = ltb-true (1 + m) (suc n) e in sym (lt-ltb m n (omega arith)) ∙ f
    pick false e true f = let lt : m < n = ltb-true m n f in sym e ∙ lt-ltb (1 + m) (suc n) (omega arith)
    pick false e false f = refl

-- a test fails where its opposite holds
pub not_true : (b : Bool) → true ≡ not b → b ≡ false
not_true true e = absurd (cc e)
not_true false e = refl

-- a test and its opposite never hold both
pub never_both : (b : Bool) → (b && not b) ≡ false
never_both true = refl
never_both false = refl

-- one of two tests holds where the first does
pub or_left : (a b : Bool) → a ≡ true → a || b ≡ true
or_left a b e = rw e refl

-- two tests hold where both do
pub and_parts : (a b : Bool) → a && b ≡ true → (a ≡ true) × (b ≡ true)
and_parts true b e = (refl, e)
and_parts false b e = absurd (cc e)

-- the test of two pairs of numbers
abbrev pub pair_eq : ℕ × ℕ → ℕ × ℕ → Bool
pair_eq p q = nat_eq p.0 q.0 && nat_eq p.1 q.1

-- numbers that pass the test are one
pub same_nat : (m n : ℕ) → nat_eq m n ≡ true → m ≡ n
same_nat m n e = grind (arith, nat_tests)

-- a number passes it with itself
pub nat_itself : (n : ℕ) → nat_eq n n ≡ true
nat_itself n = grind (arith, nat_tests)

-- pairs of numbers that pass the test are one
pub same_pair : (p q : ℕ × ℕ) → pair_eq p q ≡ true → p ≡ q
same_pair p q e =
    let both = and_parts (nat_eq p.0 q.0) (nat_eq p.1 q.1) e in
    let first = same_nat p.0 q.0 both.0 in
    let second = same_nat p.1 q.1 both.1 in
    λ i. (first i, second i)

-- a pair of numbers passes it with itself
pub pair_itself : (p : ℕ × ℕ) → pair_eq p p ≡ true
pair_itself p = ap (λ b. b && nat_eq p.1 p.1) (nat_itself p.0) ∙ nat_itself p.1
