use Rattle.std.proofs.Common.{rules, length, arith, sym, subst, ap, ◌∙◌}
use Rattle.std.specs.Str.{IsUtf8}
use Rattle.fst_lexer.proofs.PlaceLaws.{few_places}
use Rattle.fst_lexer.proofs.SpanLaws.{ok_spans}
use Rattle.fst_lexer.proofs.FirstLaws.{ok_lines}
use Rattle.fst_lexer.proofs.lexing.lex.Goals as goal

pub lex_placed-requires : goal.lex_placed-requires
lex_placed-requires c =
    let same = c.in-Ok.ensures.cases.0 in
    omega (
      arith,
      ap length (c.deref.ensures.value ∙ c.in_ok-placed-in-Ok.ensures),
      few_places c.in-Ok.text.now (subst IsUtf8 (sym same) c.in-Ok.ensures.cases.1),
      ap length same,
    )

pub returns-in_ok-placed-in-Ok-clause-spans : goal.returns-in_ok-placed-in-Ok-clause-spans
returns-in_ok-placed-in-Ok-clause-spans c = ok_spans c.args.bytes.now c.lex_placed.result (search rules)

pub returns-in_ok-placed-in-Ok-clause-lines : goal.returns-in_ok-placed-in-Ok-clause-lines
returns-in_ok-placed-in-Ok-clause-lines c = ok_lines c.args.bytes.now c.lex_placed.result (search rules)
