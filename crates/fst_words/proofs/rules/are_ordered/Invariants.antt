use Rattle.std.proofs.Common.{◌↔◌, drop, List, ℕ, Option, Some, None}
use Rattle.fst_words.specs.Ordered.{IsAbove, AreOrdered}
use Rattle.fst_words.specs.declared.rules.Rule.{Rule}
use Rattle.fst_words.proofs.rules.are_ordered.Given as goal

-- the rules go on in order from the last letter
abbrev pub GoOn : Option ℕ → List Rule → Type 0
GoOn None rules = AreOrdered rules
GoOn (Some a) rules = IsAbove a rules × AreOrdered rules

abbrev pub invariant-loop-rule : goal.invariant-loop-rule
invariant-loop-rule l = GoOn l.last (drop l.rule-index l.rules) ↔ AreOrdered l.rules
