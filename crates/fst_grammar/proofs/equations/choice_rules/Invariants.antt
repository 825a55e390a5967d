use Rattle.std.proofs.Common.{◌≡◌, ◌++◌, ◌+◌, ◌<◌, ◌^◌, drop}
use Rattle.fst_types.specs.Size.{nodes_all}
use Rattle.fst_types.specs.ModelView.{branches_of}
use Rattle.fst_parts.specs.Shapes.{shape_of_all}
use Rattle.fst_parts.specs.Keys.{Stands}
use Rattle.fst_grammar.specs.Rules.{branch_rules}
use Rattle.fst_parts.specs.Views.{branch_label, place_in}
use Rattle.fst_grammar.specs.Views.{numbers_in}
use Rattle.fst_grammar.proofs.equations.choice_rules.Given as goal

abbrev pub invariant-loop-branch : goal.invariant-loop-branch
invariant-loop-branch l = record {
  fits : l.place + nodes_all (branches_of (drop l.branch-index l.branches)) < 2 ^ 31;
  part : Stands l.table.trees l.list (shape_of_all (branches_of (drop l.branch-index l.branches)));
  rest : l.rules.items ++ branch_rules (numbers_in l.table) l.table.letters.items (branch_label l.offers)
      (place_in l.whole.ty.now l.place l.binders) (branches_of (drop l.branch-index l.branches)) ≡ branch_rules
      (numbers_in l.table) l.table.letters.items (branch_label l.offers) (place_in l.whole.ty.now l.at l.binders)
      (branches_of l.branches);
}
