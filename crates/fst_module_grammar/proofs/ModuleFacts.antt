-- What is so of each module that is read from a text.
use Rattle.std.proofs.Common.{ℕ, ◌-◌, ◌≤◌, ◌<◌, List, [], length, take, Ok, ap, arith, length-append}
use Rattle.std.proofs.lemmas.List.{length-map, length-take-le}
use Rattle.fst_base.specs.Limits.{most_bytes}
use Rattle.fst_lexer.specs.declared.token.Token.{Token}
use Rattle.fst_lexer.specs.Spans.{HaveSpans}
use Rattle.fst_terms.specs.ModuleTree.{Declared}
use Rattle.fst_terms.specs.Filled.{IsModuleFilled}
use Rattle.fst_terms.specs.Count.{module_count, part_limit}
use Rattle.fst_module_grammar.specs.Derives.{line_lexeme, AnswersModule}
use Rattle.fst_module_grammar.proofs.Filled.{module_filled}
use Rattle.fst_module_grammar.proofs.Few.{module_few}

-- it is filled
pub read_filled : (text : List ℕ) (tokens : List Token) (ds : List Declared) → AnswersModule text tokens (Ok ds) →
    IsModuleFilled ds
read_filled text tokens ds a = module_filled a.0.phrase.0

-- it has few parts, since a text has few tokens
pub read_few : (text : List ℕ) (tokens : List Token) (ds : List Declared) → HaveSpans text tokens → length text ≤ most_bytes →
    AnswersModule text tokens (Ok ds) → module_count ds < part_limit
read_few text tokens ds spans size a =
    let count = module_few a.0.phrase.0 in
    omega (
      arith,
      count,
      spans.few,
      size,
      ap length a.0.parts,
      length-append a.0.tokens [],
      length-map (take (length tokens - 1) tokens) (line_lexeme text),
      length-take-le (length tokens - 1) tokens (omega arith),
    )
