use Rattle.std.proofs.Common.{◌≡◌, ◌++◌, drop, map}
use Rattle.std.specs.String.{string_bytes}
use Rattle.fst_print.specs.ModuleTexts.{module_text}
use Rattle.fst_terms.specs.ModuleTree.{decl_tree}
use Rattle.fst_print.proofs.modules.push_decls.Given as goal

abbrev pub invariant-loop-decl : goal.invariant-loop-decl
invariant-loop-decl l = string_bytes l.text ++ module_text
    (map decl_tree (drop l.decl-index l.decls)) ≡ string_bytes l.initial.text ++ module_text (map decl_tree l.decls)
