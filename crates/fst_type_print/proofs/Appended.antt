-- A text that is written at the end of another.
use Rattle.std.proofs.Common.{◌≡◌, ◌∙◌, ap, ℕ, ◌≤◌, List, ◌++◌, Result, Ok, Err, length, arith, length-append, append_assoc}
use Rattle.std.specs.Prelude.{OnOk}

-- what is no longer than a text is no longer than the text with more after it
pub longer : (n : ℕ) (text more : List ℕ) → n ≤ length text → n ≤ length (text ++ more)
longer n text more h = let e = length-append text more in omega arith

-- two texts, one written after the other
pub both_written : {T E : Type 0} (r : Result T E) (old new front back between : List ℕ) → between ≡ old ++ front →
    OnOk r (new ≡ between ++ back) → OnOk r (new ≡ old ++ (front ++ back))
both_written (Ok x) old new front back between is h = h ∙ ap (λ m. m ++ back) is ∙ append_assoc old front back
both_written (Err e) old new front back between is h = h
