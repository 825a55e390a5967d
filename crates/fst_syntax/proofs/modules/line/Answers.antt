use Rattle.std.proofs.Common.{arith, true, false}
use Rattle.fst_terms.specs.ModuleTree.{decl_tree}
use Rattle.fst_syntax.proofs.LineAnswers.{first_of, no_line, line_given, line_refused}
use Rattle.fst_syntax.proofs.modules.line.Goals as goal

pub returns-then-not-tokens : goal.returns-then-not-tokens
returns-then-not-tokens c =
    let first = first_of c.args.tokens.now _ false (omega (arith, c.requires.some, c.requires.within)) c.if-not-tokens.true in
    rw c.place.ensures (no_line c.args.tokens.now c.args.lexemes.now c.args.end c.requires.some c.requires.within first)

pub returns-in-Ok : goal.returns-in-Ok
returns-in-Ok c =
    let first = first_of c.args.tokens.now _ true (omega (arith, c.requires.some, c.requires.within)) c.if-not-tokens.false in
    line_given c.args.tokens.now c.args.lexemes.now c.line_length-count.result
    (decl_tree c.in-Ok.decl) c.requires.some c.requires.within first c.line_length-count.ensures.line c.in-Ok.ensures

pub returns-in-Err : goal.returns-in-Err
returns-in-Err c =
    let first = first_of c.args.tokens.now _ true (omega (arith, c.requires.some, c.requires.within)) c.if-not-tokens.false in
    line_refused c.args.tokens.now c.args.lexemes.now c.args.end c.line_length-count.result c.place-in-Err.result c.in-Err.stop
    c.fault_of.result
    c.requires.some c.requires.within first c.line_length-count.ensures.line c.in-Err.ensures c.place-in-Err.ensures
    c.fault_of.ensures
