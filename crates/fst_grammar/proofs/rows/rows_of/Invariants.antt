use Rattle.std.proofs.Common.{◌≡◌, ◌+◌, length, map}
use Rattle.fst_words.specs.Words.{Productions}
use Rattle.fst_grammar.specs.Equations.{Solves, AreLast}
use Rattle.fst_grammar.specs.Translation.{right_sides}
use Rattle.fst_grammar.specs.Views.{equation_of}
use Rattle.fst_grammar.proofs.rows.rows_of.Given as goal
use Rattle.fst_base.specs.Limits.{most_letters}

abbrev pub invariant-loop-i : goal.invariant-loop-i
invariant-loop-i l = record {
  rows : (rows : Productions) → Solves rows (map equation_of l.equations) → AreLast rows l.rows.items;
  count : length l.rows.items ≡ l.i;
  room : l.room + right_sides l.rows.items ≡ most_letters;
}
