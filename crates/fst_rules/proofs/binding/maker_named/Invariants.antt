use Rattle.std.proofs.Common.{◌≡◌, drop}
use Rattle.fst_terms.specs.InRange.{maker_named}
use Rattle.fst_rules.proofs.binding.maker_named.Given as goal

abbrev pub invariant-loop-maker : goal.invariant-loop-maker
invariant-loop-maker l = maker_named l.label (drop l.maker-index l.makers) ≡ maker_named l.label l.makers
