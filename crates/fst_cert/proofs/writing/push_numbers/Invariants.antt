use Rattle.std.proofs.Common.{◌≡◌, ◌++◌, ◌∷◌, [], ℕ, drop}
use Rattle.std.specs.String.{string_bytes}
use Rattle.fst_cert.specs.Texts.{listed}
use Rattle.fst_cert.proofs.writing.push_numbers.Given as goal

abbrev pub invariant-loop-number : goal.invariant-loop-number
invariant-loop-number l = (c : ℕ) → l.mark ≡ c ∷ [] →
    string_bytes l.text ++ listed c (drop l.number-index l.numbers) ≡ string_bytes l.initial.text ++ listed c l.numbers
