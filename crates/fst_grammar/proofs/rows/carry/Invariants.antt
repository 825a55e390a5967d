use Rattle.std.proofs.Common.{◌≡◌, ◌++◌, ◌+◌, drop}
use Rattle.fst_grammar.specs.Rules.{rules_before}
use Rattle.fst_grammar.specs.Translation.{right_side}
use Rattle.fst_grammar.proofs.rows.carry.Given as goal

abbrev pub invariant-loop-rule : goal.invariant-loop-rule
invariant-loop-rule l = record {
  rules : l.longer.items ++ rules_before l.rest (drop l.rule-index l.rules) ≡ rules_before l.rest l.rules;
  room : l.room + right_side (rules_before l.rest l.rules) ≡ l.initial.room + right_side
      (rules_before l.rest (drop l.rule-index l.rules));
}
