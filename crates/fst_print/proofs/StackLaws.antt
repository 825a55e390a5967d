-- A stack of pieces with one more on it.
use Rattle.std.proofs.Common.{◌≡◌, ◌∙◌, refl, ap, sym, ℕ, ◌+◌, List, [], ◌∷◌, ◌++◌, length, arith, append_assoc, append-nil}
use Rattle.std.specs.Prelude.{Option, None, Some, MatchOption, IfSome, option_to_list}
use Rattle.fst_print.specs.declared.stack.Piece.{Piece}
use Rattle.fst_print.specs.Stack.{piece_text, piece_weight, pieces_text, pieces_weight}

-- it is written first
pub text_after_push : (ps : List Piece) (p : Piece) → pieces_text (ps ++ (p ∷ [])) ≡ piece_text p ++ pieces_text ps
text_after_push [] p = sym (append-nil (piece_text p))
text_after_push (q ∷ ps) p = ap (λ text. text ++ piece_text q) (text_after_push ps p)
    ∙ append_assoc (piece_text p) (pieces_text ps) (piece_text q)

-- it is as heavy as both
pub weight_after_push : (ps : List Piece) (p : Piece) → pieces_weight (ps ++ (p ∷ [])) ≡ piece_weight p + pieces_weight ps
weight_after_push [] p = omega arith
weight_after_push (q ∷ ps) p = omega (arith, weight_after_push ps p)

-- what a stack with one more piece comes to
pub ruleset after_push = (text_after_push, weight_after_push)

-- what is left of its text behind the piece that is taken
pub text_popped : (old new : List Piece) (n m : ℕ) (r : Option Piece) → n ≡ length old → old ≡ new ++ option_to_list r →
    MatchOption r ((n ≡ 0) × (m ≡ 0)) (λ _. m + 1 ≡ n) → MatchOption r (pieces_text old ≡ [])
    (λ p. pieces_text old ≡ piece_text p ++ pieces_text new)
text_popped [] new n m None long is cases = refl
text_popped (q ∷ old) new n m None long is cases = absurd (omega (arith, long, cases.0))
text_popped old new n m (Some p) long is cases = ap pieces_text is ∙ text_after_push new p

-- and of its weight
pub weight_popped : (old new : List Piece) (r : Option Piece) → old ≡ new ++ option_to_list r → IfSome r
    (λ p. pieces_weight old ≡ piece_weight p + pieces_weight new)
weight_popped old new None is = tt
weight_popped old new (Some p) is = ap pieces_weight is ∙ weight_after_push new p
