-- A text has no more tokens than bytes, but for the one at its end.
use Rattle.std.proofs.Common.{◌≡◌, ℕ, ◌+◌, ◌≤◌, List, [], ◌∷◌, length, Bool, true, Option, Some, None, refl, ap, ◌∙◌, arith, length-append}
use Rattle.std.specs.Char.{len_utf8}
use Rattle.std.specs.Str.{chars}
use Rattle.std.proofs.Math.Utf8.{encode, encodes}
use Rattle.std.proofs.lemmas.List.Sums.{sum_by-append, sum_by-cons}
use Rattle.std.proofs.lemmas.Str.{encodes-chars, length-encode, len_utf8_bounds}
use Rattle.fst_lexer.specs.declared.pieces.Placed.{Placed}
use Rattle.fst_lexer.specs.declared.pieces.Piece.{Piece}
use Rattle.fst_lexer.specs.declared.token.Token.{Token}
use Rattle.fst_lexer.specs.Piece.{is_piece}
use Rattle.fst_lexer.specs.Places.{place_all}
use Rattle.fst_lexer.specs.Tokens.{LexesTo, start, piece, list_of, byte_count, finish}
use Rattle.fst_lexer.specs.Lexes.{Lexes}
use Rattle.fst_lexer.proofs.OneLaws.{no_piece}

-- the characters of a text have its bytes
placed_bytes : (at : ℕ) (cs : List ℕ) → byte_count (place_all at cs) ≡ length (encodes cs)
placed_bytes at [] = refl
placed_bytes at (c ∷ cs) =
    let first : Placed = record { at = at; ch = c } in
    let more : byte_count (first ∷ place_all (at + len_utf8 c) cs) ≡ len_utf8 c + byte_count (place_all (at + len_utf8 c) cs) =
    sum_by-cons (λ (p : Placed). len_utf8 p.ch) first (place_all (at + len_utf8 c) cs) in
    omega (arith, more, placed_bytes (at + len_utf8 c) cs, length-encode c, length-append (encode c) (encodes cs))

-- a piece has a byte
some_byte : (p : Piece) (word : List Placed) → is_piece p word ≡ true → 1 ≤ byte_count word
some_byte p [] is = absurd (no_piece p is)
some_byte p (q ∷ word) is =
    let more : byte_count (q ∷ word) ≡ len_utf8 q.ch + byte_count word = sum_by-cons (λ (p : Placed). len_utf8 p.ch) q word in
    omega (arith, more, (len_utf8_bounds q.ch).0)

at_most_one : (o : Option Token) → length (list_of o) ≤ 1
at_most_one None = omega arith
at_most_one (Some t) = omega arith

-- the tokens so far and what is left are no more than the bytes
few_lexed : (text : List Placed) (ts : List Token) (first : Bool) (here : List Placed) → LexesTo text ts first here →
    length ts + byte_count here ≤ byte_count text
few_lexed text _ _ _ start = omega arith
few_lexed text us last rest (piece ts _ first _ here word _ p o so_far next token more ends) =
    let parts : byte_count here ≡ byte_count word + byte_count rest = ap byte_count next.parts ∙ sum_by-append
    (λ (p : Placed). len_utf8 p.ch) word rest in
    omega (
      arith,
      few_lexed text ts first here so_far,
      parts,
      some_byte p word next.is,
      at_most_one o,
      ap length more,
      length-append ts (list_of o),
    )

-- a text has no more tokens than bytes, and one
pub few_tokens : (bytes : List ℕ) (tokens : List Token) → Lexes bytes tokens → length tokens ≤ length bytes + 1
few_tokens bytes tokens l =
    let a = l.tokens_are in
    let few = few_lexed (place_all 0 (chars bytes)) a.before a.first [] a.lexed in
    let size : byte_count (place_all 0 (chars bytes)) ≡ length bytes = placed_bytes 0 (chars bytes)
    ∙ ap length (encodes-chars bytes l.text) in
    omega (arith, few, size, ap length a.whole, length-append a.before (finish (length bytes) a.first ∷ []))
