-- A question has no more variables than its text has bytes and one, since each variable takes a token.
use Rattle.std.proofs.Common.{◌≡◌, ℕ, ◌+◌, ◌-◌, ◌≤◌, List, [], ◌∷◌, ◌++◌, length, take, ap, arith, length-append}
use Rattle.std.proofs.lemmas.List.{length-map, length-take-le}
use Rattle.fst_types.specs.declared.kind.Kind.{Kind}
use Rattle.fst_lexer.specs.declared.token.Token.{Token}
use Rattle.fst_lexer.specs.Lexes.{Lexes}
use Rattle.fst_lexer.proofs.Laws.{few_tokens}
use Rattle.fst_terms.specs.declared.binder.Binder.{Binder}
use Rattle.fst_reading.specs.Lexeme.{Lexeme, lexeme, lexemes}
use Rattle.fst_type_syntax.specs.Grammar.{IsBinders, last, further, binder, Asked, IsQuestion, closed, over}

binders_few : (ts : List Lexeme) (bs : List (Binder × Kind)) → IsBinders ts bs → length bs ≤ length ts
binders_few _ _ (last _ _ _ (binder x c u p uses prekind low colon once pre)) = omega arith
binders_few all _ (further ts us _ c _ _ bs b comma e is) =
    omega (arith, binders_few us bs e, ap length is, length-append ts (c ∷ us))

question_few : (ts : List Lexeme) (q : Asked) → IsQuestion ts q → length q.binders ≤ length ts
question_few all _ (closed ts us _ k t u s is r parts) = omega arith
question_few all _ (over f d k vs ts us _ bs t u word b dot s tilde r parts) =
    omega (arith, binders_few vs bs b, ap length parts, length-append vs (d ∷ (ts ++ k ∷ us)))

less_one : (n : ℕ) → n - 1 ≤ n
less_one n = omega arith

-- a question in a text has few variables
pub few_variables : (text : List ℕ) (tokens : List Token) (ts rest : List Lexeme) (q : Asked) → Lexes text tokens →
    lexemes text tokens ≡ ts ++ rest → IsQuestion ts q → length q.binders ≤ length text + 1
few_variables text tokens ts rest q lexes parts d =
    omega (
      arith,
      question_few ts q d,
      length-append ts rest,
      ap length parts,
      length-map (take (length tokens - 1) tokens) (lexeme text),
      length-take-le (length tokens - 1) tokens (less_one (length tokens)),
      few_tokens text tokens lexes,
    )
