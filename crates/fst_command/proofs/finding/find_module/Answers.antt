use Rattle.std.proofs.Common.{Ok, Err}
use Rattle.fst_terms.specs.ModuleView.{declarations}
use Rattle.fst_module_grammar.specs.Derives.{AnswersModule}
use Rattle.fst_command.specs.Finding.{IsNoModule}
use Rattle.fst_command.proofs.FindingLaws.{lexical_unread, syntax_unread, same_answer}
use Rattle.fst_command.proofs.finding.find_module.Goals as goal

pub returns-in_err-tokens-clause-fault : goal.returns-in_err-tokens-clause-fault
returns-in_err-tokens-clause-fault c =
    lexical_unread AnswersModule (IsNoModule c.args.bytes.now) c.args.bytes.now
    (λ f u. u) c.in_err-tokens.field-0.0 c.from_residual.result
    c.from_residual.ensures.1 c.in_err-tokens.ensures.fault

pub returns-in_err-read_module-clause-fault : goal.returns-in_err-read_module-clause-fault
returns-in_err-read_module-clause-fault c =
    let e = c.in_err-read_module.field-0.0 in
    let refused = same_answer AnswersModule c.from_utf8_unchecked-text.result.now c.args.bytes.now c.deref.result.now
    c.in_ok-tokens.tokens.items (Err e)
    c.from_utf8_unchecked-text.ensures c.deref.ensures.value c.in_err-read_module.ensures in
    syntax_unread AnswersModule (IsNoModule c.args.bytes.now) c.args.bytes.now
    (λ f u. u) c.in_ok-tokens.tokens.items e c.from_residual-in_err-read_module.result
    c.from_residual-in_err-read_module.ensures.1 c.in_ok-tokens.ensures.tokens refused

pub returns-clause-module : goal.returns-clause-module
returns-clause-module c =
    let ds = declarations c.in_ok-read_module.field-0 in
    let derived = same_answer AnswersModule c.from_utf8_unchecked-text.result.now c.args.bytes.now c.deref.result.now
    c.in_ok-tokens.tokens.items (Ok ds)
    c.from_utf8_unchecked-text.ensures c.deref.ensures.value c.in_ok-read_module.ensures in
    record { tokens = c.in_ok-tokens.tokens.items; lexes = c.in_ok-tokens.ensures.tokens; reads = derived }
