use Rattle.std.proofs.Common.{◌≡◌, ◌<◌, ℕ, true}
use Rattle.std.specs.Prelude.{All}
use Rattle.fst_words.specs.Marks.{is_marked, has_marked}
use Rattle.fst_words.specs.Words.{row_of}
use Rattle.fst_basis.proofs.marks.is_unnormed_set.Given as goal

-- the words of the rules of each marked non-terminal so far have a marked one
abbrev pub invariant-loop-n : goal.invariant-loop-n
invariant-loop-n l = (k : ℕ) → k < l.n → is_marked l.marks k ≡ true → All
    (λ r. has_marked l.marks r.word ≡ true) (row_of l.g.rules.items k)
