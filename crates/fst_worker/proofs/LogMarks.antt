-- How many tasks a task has forked behind entries of its log.
use Rattle.std.proofs.Common.{ℕ, ◌≤◌, List, [], ◌∷◌, arith}
use Rattle.fst_machine.specs.declared.request.Answer.{Answer}
use Rattle.fst_machine.specs.declared.request.Answer.TheVariants.{Go, Made, Forked, Sent, Got}
use Rattle.fst_runs.specs.declared.log.LogEntry.{LogEntry}
use Rattle.fst_runs.specs.Logs.{forks_after}
use Rattle.fst_process.specs.Marks.{forks_behind}

-- an answer takes no fork back
not_fewer : (a : Answer) (n : ℕ) → n ≤ forks_after a n
not_fewer Go n = omega arith
not_fewer (Made h) n = omega arith
not_fewer Forked n = omega arith
not_fewer Sent n = omega arith
not_fewer (Got ev) n = omega arith

-- nor do entries
pub forks_rise : (n : ℕ) (es : List LogEntry) → n ≤ forks_behind n es
forks_rise n [] = omega arith
forks_rise n (e ∷ es) = omega (arith, not_fewer e.answer n, forks_rise (forks_after e.answer n) es)
