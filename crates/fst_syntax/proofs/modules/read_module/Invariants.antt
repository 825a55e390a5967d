use Rattle.std.proofs.Common.{◌≡◌, ◌-◌, ◌≤◌, length, drop, map}
use Rattle.fst_terms.specs.ModuleTree.{decl_tree}
use Rattle.fst_base.specs.Limits.{most_nested}
use Rattle.fst_module_grammar.specs.ModuleReading.{module_at}
use Rattle.fst_syntax.specs.Views.{lines_of}
use Rattle.fst_syntax.proofs.LineReads.{with_decls}
use Rattle.fst_syntax.proofs.modules.read_module.Given as goal

abbrev pub decreases-loop-from : goal.decreases-loop-from
decreases-loop-from l = length l.lexemes.items - l.from

abbrev pub invariant-loop-from : goal.invariant-loop-from
invariant-loop-from l = record {
  within : l.from ≤ length l.lexemes.items;
  read : with_decls (map decl_tree l.decls.items)
      (module_at most_nested (drop l.from (lines_of l.tokens l.lexemes.items))) ≡ module_at most_nested
      (lines_of l.tokens l.lexemes.items);
}
