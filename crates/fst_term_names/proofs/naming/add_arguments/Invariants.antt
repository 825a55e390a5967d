use Rattle.std.proofs.Common.{ℕ}
use Rattle.fst_term_names.specs.CodeMeanings.{scope_in}
use Rattle.fst_term_names.proofs.MadeLaws.{AreMade, its_number, its_type}
use Rattle.fst_term_names.proofs.naming.add_arguments.Given as goal

abbrev pub invariant-loop-w : goal.invariant-loop-w
invariant-loop-w l = AreMade (λ (n : ℕ). n) its_number its_type
    (scope_in l.meanings) l.written l.w-index l.fn.types l.types l.numbers.items
