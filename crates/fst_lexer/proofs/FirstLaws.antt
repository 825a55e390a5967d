-- A token tells whether it begins a line.
use Rattle.std.proofs.Common.{◌≡◌, ℕ, ◌+◌, ◌-◌, ◌<◌, ◌↔◌, inl, inr, Bool, true, List, [], ◌∷◌, ◌++◌, length, get_or, Option, Some, None, Result, Ok, Err, refl, sym, ap, subst, ◌∙◌, length-append, arith}
use Rattle.std.specs.Prelude.{IfOk, IsTrue}
use Rattle.std.specs.declared.alloc.Global.{Global}
use Rattle.std.specs.declared.vec.Vec.{Vec}
use Rattle.std.specs.Char.{len_utf8}
use Rattle.std.specs.Str.{byte, chars, IsUtf8}
use Rattle.std.proofs.Math.Utf8.{encode, encodes}
use Rattle.std.proofs.lemmas.List.{append-nil, get_or-append-add}
use Rattle.std.proofs.lemmas.List.Elements.{All-nil}
use Rattle.std.proofs.lemmas.List.Sums.{sum_by-cons}
use Rattle.std.proofs.lemmas.Option.{get_or_from_slice_get, slice_get-get_or}
use Rattle.std.proofs.lemmas.Str.{encode_ascii, encodes-append, encodes-chars, inside_one, len_utf8_bounds, length-encode}
use Rattle.fst_lexer.specs.declared.pieces.Placed.{Placed}
use Rattle.fst_lexer.specs.declared.pieces.Piece.{Piece}
use Rattle.fst_lexer.specs.declared.token.Token.{Token}
use Rattle.fst_lexer.specs.declared.token.LexFault.{LexFault}
use Rattle.fst_lexer.specs.Classes.{is_feed}
use Rattle.fst_lexer.specs.Lexes.{Lexes}
use Rattle.fst_lexer.specs.Piece.{is_piece}
use Rattle.fst_lexer.specs.Places.{place_all}
use Rattle.fst_lexer.specs.Spans.{BeginsLine, TellLines}
use Rattle.fst_lexer.specs.Tokens.{LexesTo, start, piece, list_of, ends_line, place, byte_count, finish}
use Rattle.fst_lexer.proofs.OneLaws.{no_piece}
use Rattle.fst_lexer.proofs.SpanLaws.{EndsWith, Stands, Spans, behind, stands_at, token_spans, with_one}
use Rattle.fst_base.proofs.Bools.{same_number}

-- the last byte of a line feed is one
feed_byte : (c : ℕ) (rest : List ℕ) → is_feed c ≡ true → get_or (encode c ++ rest) (len_utf8 c - 1) 0 ≡ byte "\n"
feed_byte c rest e =
    let is = same_number c (byte "\n") e in
    rw (is, encode_ascii (byte "\n") (omega arith)) refl

-- a character whose last byte is a line feed is one
byte_feed : (c : ℕ) (rest : List ℕ) → get_or (encode c ++ rest) (len_utf8 c - 1) 0 ≡ byte "\n" → is_feed c ≡ true
byte_feed c rest e =
    let inside : len_utf8 c - 1 < length (encode c) = omega (arith, length-encode c, (len_utf8_bounds c).0) in
    let is = inside_one c rest (encode c ++ rest) (len_utf8 c - 1) refl inside (omega (arith, e)) in
    rw (is ∙ e) refl

-- behind a character a line begins just where it is a line feed
behind_character : (bytes front rest : List ℕ) (c at : ℕ) → bytes ≡ front ++ (encode c ++ rest) → at ≡ length front + len_utf8 c →
    IsTrue (is_feed c) ↔ BeginsLine bytes at
behind_character bytes front rest c at whole size =
    let some = len_utf8_bounds c in
    let place : at - 1 ≡ length front + (len_utf8 c - 1) = omega (arith, some.0) in
    let same : get_or bytes (at - 1) 0 ≡ get_or (encode c ++ rest) (len_utf8 c - 1) 0 =
    rw (whole, place) (get_or-append-add front (encode c ++ rest) (len_utf8 c - 1) 0) in
    let within : at - 1 < length bytes = omega (
      arith,
      some.0,
      length-encode c,
      ap length whole,
      length-append front (encode c ++ rest),
      length-append (encode c) rest,
    ) in (
      λ e. inr (slice_get-get_or bytes (at - 1) 0 within ∙ ap Some (same ∙ feed_byte c rest e)),
      λ b. elim b [
        | inl none ↦ absurd (omega (arith, some.0))
        | inr feed ↦ byte_feed c rest (sym same ∙ get_or_from_slice_get bytes (at - 1) (byte "\n") 0 feed)
      ],
    )

-- behind a word a line begins just where the word ends with a line feed
behind_word : (bytes : List ℕ) (word rest : List Placed) (at : ℕ) → IsUtf8 bytes → 0 < length word →
    Stands (chars bytes) (word ++ rest) at →
    IsTrue (ends_line word) ↔ BeginsLine bytes (at + byte_count word)
behind_word bytes [] rest at text some s = absurd (omega arith)
behind_word bytes (p ∷ []) rest at text some s = by_characters s.characters s.placed s.ends
  where
    by_characters : (ds : List ℕ) → p ∷ rest ≡ place_all at ds → EndsWith (chars bytes) ds at →
        IsTrue (is_feed p.ch) ↔ BeginsLine bytes (at + byte_count (p ∷ []))
    by_characters [] e h = absurd (cc e)
    by_characters (d ∷ ds) e h =
        let first : p ≡ record { at = at; ch = d } = cc in
        let is : p.ch ≡ d = ap (λ (q : Placed). q.ch) first in
        let whole : bytes ≡ encodes h.before ++ (encode d ++ encodes ds) = sym (encodes-chars bytes text)
        ∙ (ap encodes h.parts ∙ encodes-append h.before (d ∷ ds)) in
        let size : at + byte_count (p ∷ []) ≡ length (encodes h.before) + len_utf8 d =
        omega (arith, h.size, sum_by-cons (λ (q : Placed). len_utf8 q.ch) p [], ap len_utf8 is) in
        let end = at + byte_count (p ∷ []) in
        subst (λ c. IsTrue (is_feed c) ↔ BeginsLine bytes end) (sym is)
        (behind_character bytes (encodes h.before) (encodes ds) d end whole size)
behind_word bytes (p ∷ q ∷ word) rest at text some s =
    let middle = at + byte_count (p ∷ []) in
    let next = behind_word bytes (q ∷ word) rest middle text (omega arith)
    (behind (chars bytes) (p ∷ []) ((q ∷ word) ++ rest) at s) in
    let one = sum_by-cons (λ (r : Placed). len_utf8 r.ch) p [] in
    let more = sum_by-cons (λ (r : Placed). len_utf8 r.ch) p (q ∷ word) in
    let size : middle + byte_count (q ∷ word) ≡ at + byte_count (p ∷ q ∷ word) = omega (arith, one, more) in
    subst (λ n. IsTrue (ends_line (q ∷ word)) ↔ BeginsLine bytes n) size next

some_letters : (p : Piece) (word : List Placed) → is_piece p word ≡ true → 0 < length word
some_letters p [] is = absurd (no_piece p is)
some_letters p (c ∷ word) is = omega arith

-- what the tokens so far tell, and whether the rest begins a line
record Told (bytes : List ℕ) (ts : List Token) (first : Bool) (here : List Placed) : Type 0 where
  at : ℕ
  stands : Stands (chars bytes) here at
  begins : IsTrue first ↔ BeginsLine bytes at
  lines : TellLines bytes ts

one_token : (bytes : List ℕ) (ts : List Token) (word : List Placed) (first : Bool) (at : ℕ) (o : Option Token) →
    TellLines bytes ts → (IsTrue first ↔ BeginsLine bytes at) →
    place word ≡ at → Spans o word first → TellLines bytes (ts ++ list_of o)
one_token bytes ts word first at None lines begins p spans = rw (append-nil ts) lines
one_token bytes ts word first at (Some t) lines begins p spans =
    with_one (λ u. IsTrue u.first_column ↔ BeginsLine bytes u.at) ts t lines (rw (spans.column, spans.at ∙ p) begins)

told : (bytes : List ℕ) → IsUtf8 bytes → (ts : List Token) (first : Bool) (here : List Placed) →
    LexesTo (place_all 0 (chars bytes)) ts first here → Told bytes ts first here
told bytes text _ _ _ start = record {
  at = 0;
  stands = record { characters = chars bytes; placed = refl; ends = record { before = []; parts = refl; size = refl } };
  begins = (λ e. inl refl, λ b. refl);
  lines = All-nil _;
}
told bytes text us last rest (piece ts _ first _ here word _ p o so_far next token more ends) =
    let r = told bytes text ts first here so_far in
    let stands : Stands (chars bytes) (word ++ rest) r.at = subst (λ x. Stands (chars bytes) x r.at) next.parts r.stands in
    record {
      at = r.at + byte_count word;
      stands = behind (chars bytes) word rest r.at stands;
      begins = rw ends (behind_word bytes word rest r.at text (some_letters p word next.is) stands);
      lines = rw more (one_token bytes ts word first r.at o r.lines r.begins
          (stands_at (chars bytes) word rest p r.at next.is stands) (token_spans p word first o token));
    }

-- where nothing is left, the bytes end
at_end : (bytes : List ℕ) (at : ℕ) → IsUtf8 bytes → Stands (chars bytes) [] at → at ≡ length bytes
at_end bytes at text s = by_characters s.characters s.placed s.ends
  where
    by_characters : (ds : List ℕ) → [] ≡ place_all at ds → EndsWith (chars bytes) ds at → at ≡ length bytes
    by_characters [] e h =
        let all : chars bytes ≡ h.before = h.parts ∙ append-nil h.before in
        h.size ∙ ap length (ap encodes (sym all) ∙ encodes-chars bytes text)
    by_characters (d ∷ ds) e h = absurd (cc e)

-- each token of bytes tells whether it begins a line
pub tell_lines : (bytes : List ℕ) (tokens : List Token) → Lexes bytes tokens → TellLines bytes tokens
tell_lines bytes tokens l =
    let a = l.tokens_are in
    let r = told bytes l.text a.before a.first [] a.lexed in
    let last = finish (length bytes) a.first in
    let whole : tokens ≡ a.before ++ last ∷ [] = a.whole in
    let begins : IsTrue a.first ↔ BeginsLine bytes (length bytes) = rw (at_end bytes r.at l.text r.stands) at r.begins in
    rw whole (with_one (λ u. IsTrue u.first_column ↔ BeginsLine bytes u.at) a.before last r.lines begins)

pub ok_lines : (bytes : List ℕ) (result : Result (Vec Token Global) LexFault) → IfOk result (λ v. Lexes bytes v.items) →
    IfOk result (λ v. TellLines bytes v.items)
ok_lines bytes (Ok v) l = tell_lines bytes v.items l
ok_lines bytes (Err e) l = l
