use Rattle.std.proofs.Common.{◌≡◌, length, ℕ, Some}
use Rattle.std.specs.Prelude.{slice_get}
use Rattle.std.specs.declared.vec.Vec.{Vec}
use Rattle.std.specs.declared.alloc.Global.{Global}
use Rattle.fst_words.specs.Words.{row_of}
use Rattle.fst_shared.specs.Numbers.{IsRow}
use Rattle.fst_shared.proofs.numbers.word_numbers.Given as goal

abbrev pub invariant-loop-rules : goal.invariant-loop-rules
invariant-loop-rules l = record {
  row : (n : ℕ) (v : Vec ℕ Global) → slice_get l.numbers.items n ≡ Some v → IsRow l.words (row_of l.g.rules.items n) v.items;
  count : length l.numbers.items ≡ l.rules-index;
}
