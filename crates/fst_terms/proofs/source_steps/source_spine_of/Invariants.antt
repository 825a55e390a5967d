use Rattle.std.proofs.Common.{◌≡◌, ◌≤◌}
use Rattle.fst_terms.specs.TermTree.{term_height}
use Rattle.fst_terms.specs.SourceAround.{around}
use Rattle.fst_terms.proofs.source_steps.source_spine_of.Given as goal

abbrev pub invariant-loop-head : goal.invariant-loop-head
invariant-loop-head l = record { whole : around l.head l.steps.items ≡ l.term; low : term_height l.head ≤ term_height l.term }
