-- What a source and a sink answer for the answer of the reader or the writer in them.
use Rattle.std.specs.Prelude.{◌≡◌, ℕ, zero, suc, Result, Ok, Err, IsErr}
use Rattle.fst_io.specs.Faults.{one_more}

-- an answer is handed on, and the count of faults stays
pub record HandsOn {E : Type 0} (answer : ℕ) (result : Result ℕ E) (before now : ℕ) : Type 0 where
  pub same : result ≡ Ok answer
  pub count : now ≡ before

-- the answer is a fault, and the count of faults is one more
pub record CountsFault {E : Type 0} (result : Result ℕ E) (before now : ℕ) : Type 0 where
  pub fault : IsErr result
  pub count : now ≡ one_more before

-- a reader's error is a counted fault, and its other answers are handed on
abbrev pub AnswersRead : {A E : Type 0} → Result ℕ A → Result ℕ E → ℕ → ℕ → Type 0
AnswersRead (Ok n) result before now = HandsOn n result before now
AnswersRead (Err e) result before now = CountsFault result before now

-- a writer's error is a counted fault, and so is a write that took no byte; its other answers are handed on
abbrev pub AnswersWrite : {A E : Type 0} → Result ℕ A → Result ℕ E → ℕ → ℕ → Type 0
AnswersWrite (Ok zero) result before now = CountsFault result before now
AnswersWrite (Ok (suc n)) result before now = HandsOn (suc n) result before now
AnswersWrite (Err e) result before now = CountsFault result before now
