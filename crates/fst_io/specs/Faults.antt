-- Counts of calls and of faults.
use Rattle.std.specs.Prelude.{ℕ, ◌+◌, ◌-◌, ◌^◌, ◌≤◌, min}

-- where a count stays: the greatest `u64`
abbrev pub greatest_count : ℕ
greatest_count = 2 ^ 64 - 1

-- a count after one more, which stays at its greatest value
abbrev pub one_more : ℕ → ℕ
one_more count = min (count + 1) greatest_count

-- a count rose, or stands at its greatest value
abbrev pub Rose : ℕ → ℕ → Type 0
Rose before now = one_more before ≤ now
