use Rattle.std.proofs.Common.{◌∙◌, ap, map, arith}
use Rattle.std.proofs.lemmas.List.{map-append}
use Rattle.std.proofs.lemmas.Result.{err_from_is_err_and}
use Rattle.fst_terms.specs.ModuleTree.{decl_tree}
use Rattle.fst_syntax.proofs.ModuleAnswers.{refused, further, finished}
use Rattle.fst_module_grammar.proofs.Laws.{read_filled, read_few}
use Rattle.fst_syntax.proofs.modules.read_module.Goals as goal

pub returns-in_err-decl : goal.returns-in_err-decl
returns-in_err-decl c =
    let p = err_from_is_err_and c.from_residual-in_err-decl.result c.from_residual-in_err-decl.ensures.1 in
    let given = rw c.deref.ensures.value at c.in_err-decl.ensures in
    rw (p.1, p.2) (refused c.args.text.now c.args.tokens.now c.in_ok-lexemes.lexemes.items
    (map decl_tree c.loop-from.decls.items) c.loop-from.from c.in_ok-lexemes.ensures c.loop-from.invariant.read _
    (omega (arith, c.loop-from-test.true, c.len.ensures)) given)

pub overflow_add-from : goal.overflow_add-from
overflow_add-from c =
    let given = rw c.deref.ensures.value at c.in_ok-decl.ensures in
    let f = further c.args.text.now c.args.tokens.now c.in_ok-lexemes.lexemes.items
    (map decl_tree c.loop-from.decls.items) c.loop-from.from c.in_ok-lexemes.ensures c.loop-from.invariant.read
    c.in_ok-decl.decl c.in_ok-decl.count given in
    omega (arith, f.0, c.len.ensures, c.len.type_inv)

pub loop-from-smaller : goal.loop-from-smaller
loop-from-smaller c =
    let given = rw c.deref.ensures.value at c.in_ok-decl.ensures in
    let f = further c.args.text.now c.args.tokens.now c.in_ok-lexemes.lexemes.items
    (map decl_tree c.loop-from.decls.items) c.loop-from.from c.in_ok-lexemes.ensures c.loop-from.invariant.read
    c.in_ok-decl.decl c.in_ok-decl.count given in
    omega (arith, f.0, f.1)

pub loop-from-preserved : goal.loop-from-preserved
loop-from-preserved c =
    let given = rw c.deref.ensures.value at c.in_ok-decl.ensures in
    let f = further c.args.text.now c.args.tokens.now c.in_ok-lexemes.lexemes.items
    (map decl_tree c.loop-from.decls.items) c.loop-from.from c.in_ok-lexemes.ensures c.loop-from.invariant.read
    c.in_ok-decl.decl c.in_ok-decl.count given in
    record {
      within = f.0;
      read = rw (ap (map decl_tree) c.in_ok-push.ensures.items
          ∙ map-append decl_tree c.loop-from.decls.items _) f.2;
    }

pub invariant_of-result : goal.invariant_of-result
invariant_of-result c =
    let answer = finished c.args.text.now c.args.tokens.now c.in_ok-lexemes.lexemes.items
    (map decl_tree c.loop-from.decls.items) c.loop-from.from c.in_ok-lexemes.ensures c.loop-from.invariant.read
    (omega (arith, c.loop-from-test.false, c.len.ensures)) in
    record {
      filled = read_filled c.args.text.now c.args.tokens.now (map decl_tree c.loop-from.decls.items) answer;
      few = read_few c.args.text.now c.args.tokens.now
          (map decl_tree c.loop-from.decls.items) c.requires.spans c.requires.size answer;
    }

pub returns : goal.returns
returns c =
    finished c.args.text.now c.args.tokens.now c.in_ok-lexemes.lexemes.items
    (map decl_tree c.loop-from.decls.items) c.loop-from.from c.in_ok-lexemes.ensures c.loop-from.invariant.read
    (omega (arith, c.loop-from-test.false, c.len.ensures))
