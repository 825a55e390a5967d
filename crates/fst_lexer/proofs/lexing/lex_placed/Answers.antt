use Rattle.std.proofs.Common.{◌<◌, true, length, arith, rules, sym, subst}
use Rattle.std.proofs.lemmas.Result.{err_from_is_err_and}
use Rattle.fst_lexer.specs.Tokens.{LexesTo, start}
use Rattle.fst_lexer.proofs.StepLaws.{goes_on, bad_char, bad_piece}
use Rattle.fst_lexer.proofs.lexing.lex_placed.Goals as goal

pub loop-rest-init : goal.loop-rest-init
loop-rest-init c = (
  subst (λ ts. LexesTo c.args.text.now ts true c.args.text.now) (sym c.new-tokens.ensures.items) start,
  omega arith,
)

pub returns-in_default-clause-fault : goal.returns-in_default-clause-fault
returns-in_default-clause-fault c =
    let some : 0 < length c.loop-rest.rest.now = search rules in
    rw c.place.ensures (bad_char c.args.text.now c.loop-rest.tokens.items c.loop-rest.first c.loop-rest.rest.now
    c.loop-rest.invariant.0 some (sym c.in_default.ensures.value))

pub returns-in_err-token-clause-fault : goal.returns-in_err-token-clause-fault
returns-in_err-token-clause-fault c =
    let p = err_from_is_err_and c.from_residual.result c.from_residual.ensures.1 in
    rw (p.1, p.2) (bad_piece c.args.text.now c.loop-rest.tokens.items c.loop-rest.first c.loop-rest.rest.now
    c.loop-rest.invariant.0
    c.in-Some.piece c.in-Some.n c.split_at.result.0.now _ (sym c.in-Some.ensures.value) c.split_at.ensures.front
    (sym c.in_err-token.ensures))

pub loop-rest-preserved : goal.loop-rest-preserved
loop-rest-preserved c = (
  goes_on c.args.text.now c.loop-rest.tokens.items c.loop-rest.first c.loop-rest.rest.now c.loop-rest.invariant.0
      c.in-Some.piece c.in-Some.n c.split_at.result.0.now c.split_at.result.1.now c.in_ok-token.token _ _
      (sym c.in-Some.ensures.value) c.split_at.ensures.front c.split_at.ensures.back
      (sym c.in_ok-token.ensures) c.in_ok-push_token.ensures c.ends_line-first.ensures,
  omega (arith, c.split_at.ensures.back_len),
)
