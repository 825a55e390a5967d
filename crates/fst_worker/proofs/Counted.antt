-- Events that are counted as far as they matter.
use Rattle.std.proofs.Common.{◌≡◌, ◌<◌, ◌≤◌, ◌+◌, ℕ, arith}
use Rattle.fst_machine.specs.declared.request.Answer.{Answer}
use Rattle.fst_machine.specs.declared.request.Answer.TheVariants.{Go, Made, Forked, Sent, Got}
use Rattle.fst_records.specs.Growing.{alone}
use Rattle.fst_worker.specs.Finishing.{IsUpTo}

-- an answer is at most one event
pub alone_few : (a : Answer) → alone a ≤ 1
alone_few Go = omega arith
alone_few (Made h) = omega arith
alone_few Forked = omega arith
alone_few Sent = omega arith
alone_few (Got ev) = omega arith

-- n are all, and so many of them are left: the others were counted, or both are more than the steps
pub record IsLeftUpTo (steps n left count : ℕ) : Type 0 where
  pub all : count ≤ steps → count + left ≡ n
  pub more : steps < count → steps < n

module _ (steps n : ℕ) where
  -- some more are counted
  pub counted_more : (left rest more count now : ℕ) → IsLeftUpTo steps n left count → left ≡ more + rest → count ≤ steps →
      now ≡ count + more → IsLeftUpTo steps n rest now
  counted_more left rest more count now h is few sum =
      let a = h.all few in
      record { all = λ l. omega (arith, a, is, sum); more = λ l. omega (arith, a, is, l, sum) }

  -- or not, where they are too many
  pub counted_no_more : (left rest count now : ℕ) → IsLeftUpTo steps n left count → steps < count → now ≡ count →
      IsLeftUpTo steps n rest now
  counted_no_more left rest count now h many same =
      record { all = λ l. absurd (omega (arith, l, many, same)); more = λ l. h.more many }

  -- none is left
  pub all_counted : (left count : ℕ) → left ≡ 0 → IsLeftUpTo steps n left count → IsUpTo steps n count
  all_counted left count none h = record { all = λ l. let a = h.all l in omega (arith, a, none); more = h.more }
