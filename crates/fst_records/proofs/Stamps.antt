-- Stamps that are over a number, numbers that are one, and how often a stamp stands among rising ones.
use Rattle.std.proofs.Common.{◌≡◌, ◌<◌, ◌≤◌, ℕ, ◌+◌, Bool, true, false, ◌&&◌, refl, ap, arith}
use Rattle.std.specs.Prelude.{nat_eq, nat_lt}
use Rattle.std.proofs.lemmas.Bool.Decides.{nat_tests}
use Rattle.fst_runs.specs.Wrong.{once}
use Rattle.fst_records.specs.Parts.{Part}
use Rattle.fst_records.proofs.Tests.{small}

-- numbers that pass the test are one
pub same_nat : (m n : ℕ) → nat_eq m n ≡ true → m ≡ n
same_nat m n e = grind (arith, nat_tests)

-- a number passes the test with itself
pub nat_itself : (n : ℕ) → nat_eq n n ≡ true
nat_itself n = grind (arith, nat_tests)

-- 1 for a stamp that is over n
abbrev pub after : ℕ → Part → ℕ
after n r = once (nat_lt n r.stamp)

-- a stamp that isn't over n counts nothing
pub not_after : (n k : ℕ) → k ≤ n → once (nat_lt n k) ≡ 0
not_after n k h = by (nat_lt n k) refl
  where
    by : (b : Bool) → nat_lt n k ≡ b → once b ≡ 0
    by false e = refl
    by true e = let l : n < k = grind (arith, nat_tests) in absurd (omega (arith, l, h))

-- and one that counts nothing isn't over n
pub at_most : (n k : ℕ) → once (nat_lt n k) ≡ 0 → k ≤ n
at_most n k h = by (nat_lt n k) refl h
  where
    by : (b : Bool) → nat_lt n k ≡ b → once b ≡ 0 → k ≤ n
    by false e z = grind (arith, nat_tests)
    by true e z = absurd (omega (arith, z))

-- ---- rising stamps

-- what a test of two counts
both_counts : (b c : Bool) → (once (b && c) ≤ once b) × (once (b && c) ≤ once c)
both_counts true c = (let a = small c in omega (arith, a), omega arith)
both_counts false c = (omega arith, omega arith)

-- of some at most as many count as this test, and none where the clock isn't below the stamp
pub record AtMostOne (b : Bool) (n clock sum : ℕ) : Type 0 where
  pub most : sum ≤ once b
  pub past : n ≤ clock → sum ≡ 0

-- with one more, which counts where the test holds and it has the stamp
pub one_more : (b : Bool) (n clock stamp one rest : ℕ) → clock < stamp → one ≡ once (b && nat_eq n stamp) →
    AtMostOne b n stamp rest →
    AtMostOne b n clock (one + rest)
one_more b n clock stamp one rest later is more = by (nat_eq n stamp) refl
  where
    by : (c : Bool) → nat_eq n stamp ≡ c → AtMostOne b n clock (one + rest)
    by true q =
        let k = same_nat n stamp q in
        let z = more.past (omega (arith, k)) in
        let c = (both_counts b (nat_eq n stamp)).0 in
        record { most = omega (arith, is, c, z); past = λ l. absurd (omega (arith, k, l, later)) }
    by false q =
        let c = (both_counts b (nat_eq n stamp)).1 in
        let d = ap once q in
        record {
          most = let f = more.most in omega (arith, is, c, d, f);
          past = λ l. let f = more.past (omega (arith, l, later)) in omega (arith, is, c, d, f);
        }
