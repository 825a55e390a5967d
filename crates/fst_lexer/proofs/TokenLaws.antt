-- The bytes at the place of a token are those of such a token.
use Rattle.std.proofs.Common.{◌≡◌, ℕ, ◌+◌, ◌-◌, ◌≤◌, inl, inr, Bool, true, false, ◌&&◌, List, [], ◌∷◌, ◌++◌, length, take, drop, Option, Some, None, Ok, refl, sym, ap, subst, ◌∙◌, length-append, arith}
use Rattle.std.proofs.Math.Utf8.{encode, encodes, scalar, scalars}
use Rattle.std.proofs.lemmas.Bool.Decides.{nat_tests}
use Rattle.std.proofs.lemmas.List.{take_at, drop_at, append-nil, map-append}
use Rattle.std.proofs.lemmas.List.Elements.{All-nil}
use Rattle.std.proofs.lemmas.List.Folds.{list_all-map}
use Rattle.std.proofs.lemmas.List.Sums.{sum_by-cons}
use Rattle.std.proofs.lemmas.Str.{chars-IsAscii, chars-encodes, encodes-chars, encodes-append, IsUtf8-from_ascii, scalars-chars, length-encode}
use Rattle.std.specs.Prelude.{All, pos}
use Rattle.std.specs.Char.{len_utf8}
use Rattle.std.specs.List.{list_all}
use Rattle.std.specs.Str.{chars, IsAscii, IsUtf8}
use Rattle.fst_lexer.specs.declared.pieces.Placed.{Placed}
use Rattle.fst_lexer.specs.declared.pieces.Piece.{Piece}
use Rattle.fst_lexer.specs.declared.pieces.Piece.TheVariants.{Blank, Comment, Name, Digits, Quoted, Sign}
use Rattle.fst_lexer.specs.declared.token.Token.{Token}
use Rattle.fst_lexer.specs.declared.token.TokenKind.TheVariants as kind
use Rattle.fst_base.specs.Limits.{longest_name, greatest_number}
use Rattle.fst_base.specs.Choice.{choose}
use Rattle.fst_lexer.specs.Classes.{is_quote, is_backslash, is_plain, is_escape, is_reserved, starts_name, continues_name}
use Rattle.fst_lexer.specs.Piece.{is_piece}
use Rattle.fst_lexer.specs.Places.{place_all}
use Rattle.fst_lexer.specs.Tokens.{LexesTo, start, piece, token_of, number_token, number_of, value_from, character_of, begins_upper, name_kind, list_of, letters, place, byte_count, finish}
use Rattle.fst_lexer.specs.Spelling.{IsTokenOf, IsTokenWord, IsFreeName, is_name, is_capital, is_sign, quoted_character, word_at, TokenWords}
use Rattle.fst_lexer.proofs.ClassLaws.{backslash_not_plain}
use Rattle.fst_base.proofs.Choices.{chosen}
use Rattle.fst_lexer.proofs.OneLaws.{ok_is}
use Rattle.fst_lexer.proofs.ByteLaws.{sign_ascii, reserved_letters}
use Rattle.fst_lexer.proofs.LetterLaws.{letters-place_all}
use Rattle.fst_lexer.proofs.SpanLaws.{Stands, Spans, behind, stands_at, token_spans, scalars-behind, with_one}
use Rattle.fst_base.proofs.Bools.{excluded}
use Rattle.std.proofs.lemmas.Bool.{and_parts}

-- the token that is made
made_is : (t u : Token) → ◌≡◌ {A = Option Token} (Some t) (Some u) → t ≡ u
made_is t u e = cc

-- ASCII characters are their own bytes
ascii_bytes : (cs : List ℕ) → IsAscii cs → encodes cs ≡ cs
ascii_bytes cs ascii = ap encodes (sym (chars-IsAscii cs ascii)) ∙ encodes-chars cs (IsUtf8-from_ascii cs ascii)

name_letters : (word : List Placed) → is_piece Name word ≡ true → is_name (letters word) ≡ true
name_letters [] e = absurd (cc e)
name_letters (c ∷ cs) e =
    let h = and_parts (starts_name c.ch) (list_all (λ p. continues_name p.ch) cs) e in
    rw h.0 (list_all-map continues_name (λ (p : Placed). p.ch) cs ∙ h.1)

capital_letters : (word : List Placed) → begins_upper word ≡ is_capital (letters word)
capital_letters [] = refl
capital_letters (c ∷ cs) = refl

sign_letters : (word : List Placed) → is_piece Sign word ≡ true → is_sign (letters word) ≡ true
sign_letters (a ∷ []) e = e
sign_letters (a ∷ b ∷ []) e = e
sign_letters _ e = absurd (cc e)

quoted_letters : (word : List Placed) → is_piece Quoted word ≡ true → quoted_character (letters word) ≡ Some (character_of word)
unfolding choose
quoted_letters (a ∷ c ∷ b ∷ []) e =
    let h = and_parts (is_quote a.ch) (is_plain c.ch && is_quote b.ch) e in
    let plain = (and_parts (is_plain c.ch) (is_quote b.ch) h.1).0 in
    rw (e, excluded (is_backslash c.ch) (is_plain c.ch) (backslash_not_plain c.ch) plain) refl
quoted_letters (a ∷ c ∷ x ∷ b ∷ []) e =
    let h = and_parts (is_quote a.ch) (is_backslash c.ch && (is_escape x.ch && is_quote b.ch)) e in
    let slash = (and_parts (is_backslash c.ch) (is_escape x.ch && is_quote b.ch) h.1).0 in
    rw (e, slash) refl
quoted_letters _ e = absurd (cc e)

-- a name of this kind
name_word : (word : List Placed) → is_piece Name word ≡ true → scalars (letters word) ≡ true →
    length (encodes (letters word)) ≤ longest_name → (reserved upper : Bool) →
    is_reserved (letters word) ≡ reserved → begins_upper word ≡ upper →
    IsTokenOf (choose reserved kind.Reserved (choose upper kind.Upper kind.Lower)) (encodes (letters word))
unfolding choose
name_word word is good short true upper r u = rw (ascii_bytes (letters word) (reserved_letters (letters word) r).ascii) r
name_word word is good short false upper r u = by_case upper u
  where
    same : chars (encodes (letters word)) ≡ letters word
    same = chars-encodes (letters word) good

    free : IsFreeName (encodes (letters word))
    free = record { utf8 = (letters word, (good, refl)); name = rw same (name_letters word is); free = rw same r; short = short }

    capital : is_capital (chars (encodes (letters word))) ≡ begins_upper word
    capital = ap is_capital same ∙ sym (capital_letters word)

    by_case : (b : Bool) → begins_upper word ≡ b →
        IsTokenOf (choose false kind.Reserved (choose b kind.Upper kind.Lower)) (encodes (letters word))
    by_case true e = (free, capital ∙ e)
    by_case false e = (free, capital ∙ e)

number_fits : (word : List Placed) (n : ℕ) → number_of word ≡ Some n → n ≤ greatest_number
unfolding number_of
number_fits word n e =
    elim (chosen _ _ _ _ e) [
      | inl h ↦
          let fits = h.0 in
          let is : value_from 0 word ≡ n = let same = h.1 in cc in
          grind (arith, nat_tests)
      | inr h ↦ absurd (let bad = h.1 in cc)
    ]

-- a number
number_word : (word : List Placed) (first : Bool) (t : Token) (text : List ℕ) (o : Option ℕ) → number_of word ≡ o →
    number_token o word first ≡ Ok (Some t) → IsTokenOf t.kind text
number_word word first t text None is e = absurd (cc e)
number_word word first t text (Some n) is e =
    let kind-is : kind.Number (pos n) ≡ t.kind = ap (λ (k : Token). k.kind) (made_is _ t (ok_is _ _ e)) in
    subst (λ k. IsTokenOf k text) kind-is (number_fits word n is)

-- the bytes of a token's word are those of such a token
made_word : (p : Piece) (word : List Placed) (first : Bool) (t : Token) → is_piece p word ≡ true → scalars (letters word) ≡ true →
    length (encodes (letters word)) ≡ byte_count word →
    token_of p word first ≡ Ok (Some t) → IsTokenOf t.kind (encodes (letters word))
unfolding token_of
made_word Blank word first t is good size e = absurd (cc e)
made_word Comment word first t is good size e = absurd (cc e)
made_word Name word first t is good size e =
    elim (chosen _ _ _ _ e) [
      | inl h ↦
          let kind-is : name_kind word ≡ t.kind = ap (λ (k : Token). k.kind) (made_is _ t (ok_is _ _ h.1)) in
          let short : length (encodes (letters word)) ≤ longest_name = let fits = h.0 in grind (arith, nat_tests) in
          subst (λ k. IsTokenOf k (encodes (letters word))) kind-is
          (name_word word is good short (is_reserved (letters word)) (begins_upper word) refl refl)
      | inr h ↦ absurd (let bad = h.1 in cc)
    ]
made_word Digits word first t is good size e = number_word word first t (encodes (letters word)) (number_of word) refl e
made_word Quoted word first t is good size e =
    let kind-is : kind.Character (character_of word) ≡ t.kind = ap (λ (k : Token). k.kind) (made_is _ t (ok_is _ _ e)) in
    let same : chars (encodes (letters word)) ≡ letters word = chars-encodes (letters word) good in
    subst (λ k. IsTokenOf k (encodes (letters word))) kind-is ((letters word, (good, refl)), rw same (quoted_letters word is))
made_word Sign word first t is good size e =
    let kind-is : kind.Sign ≡ t.kind = ap (λ (k : Token). k.kind) (made_is _ t (ok_is _ _ e)) in
    let sign = sign_letters word is in
    subst (λ k. IsTokenOf k (encodes (letters word))) kind-is
    (rw (ascii_bytes (letters word) (sign_ascii (letters word) sign)) sign)

scalars-front : (xs ys : List ℕ) → scalars (xs ++ ys) ≡ true → scalars xs ≡ true
scalars-front [] ys h = refl
scalars-front (x ∷ xs) ys h =
    let k = and_parts (scalar x) (scalars (xs ++ ys)) h in
    rw k.0 (scalars-front xs ys k.1)

size_of : (word : List Placed) → length (encodes (letters word)) ≡ byte_count word
size_of [] = refl
size_of (p ∷ ps) = omega (
  arith,
  sum_by-cons (λ (q : Placed). len_utf8 q.ch) p ps,
  size_of ps,
  length-encode p.ch,
  length-append (encode p.ch) (encodes (letters ps)),
)

-- the bytes where a word stands
record Bytes (bytes : List ℕ) (word : List Placed) (at : ℕ) : Type 0 where
  good : scalars (letters word) ≡ true
  are : take (byte_count word) (drop at bytes) ≡ encodes (letters word)

bytes_at : (bytes : List ℕ) (word rest : List Placed) (at : ℕ) → IsUtf8 bytes → Stands (chars bytes) (word ++ rest) at →
    Bytes bytes word at
bytes_at bytes word rest at text s =
    let front = s.ends.before in
    let parted : s.characters ≡ letters word ++ letters rest = sym (letters-place_all at s.characters)
    ∙ (ap letters (sym s.placed) ∙ map-append (λ (p : Placed). p.ch) word rest) in
    let all : chars bytes ≡ front ++ (letters word ++ letters rest) = s.ends.parts ∙ ap (λ x. front ++ x) parted in
    let whole : bytes ≡ encodes front ++ (encodes (letters word) ++ encodes (letters rest)) =
    sym (encodes-chars bytes text) ∙ (ap encodes all
    ∙ (encodes-append front (letters word ++ letters rest) ∙ ap
    (λ x. encodes front ++ x) (encodes-append (letters word) (letters rest)))) in
    record {
      good = scalars-front (letters word) (letters rest)
          (scalars-behind front (letters word ++ letters rest) (ap scalars (sym all) ∙ scalars-chars bytes text));
      are = rw (
        whole,
        drop_at (encodes front) (encodes (letters word) ++ encodes (letters rest)) at (sym s.ends.size),
        take_at (encodes (letters word)) (encodes (letters rest)) (byte_count word) (size_of word),
      ) refl;
    }

-- what is known of the tokens so far where this rest is left
record Reached (bytes : List ℕ) (ts : List Token) (here : List Placed) : Type 0 where
  at : ℕ
  stands : Stands (chars bytes) here at
  words : All (λ t. IsTokenWord (word_at bytes t)) ts

one_token : (bytes : List ℕ) (ts : List Token) (p : Piece) (word : List Placed) (first : Bool) (at : ℕ) (o : Option Token) → All
    (λ t. IsTokenWord (word_at bytes t)) ts → Bytes bytes word at →
    is_piece p word ≡ true → place word ≡ at → Spans o word first → token_of p word first ≡ Ok o → All
    (λ t. IsTokenWord (word_at bytes t)) (ts ++ list_of o)
one_token bytes ts p word first at None all b is begin spans e = rw (append-nil ts) all
one_token bytes ts p word first at (Some t) all b is begin spans e =
    let text : take t.len (drop t.at bytes) ≡ encodes (letters word) = rw (spans.at, spans.len, begin) b.are in
    with_one (λ u. IsTokenWord (word_at bytes u)) ts t all (rw text (made_word p word first t is b.good (size_of word) e))

reached : (bytes : List ℕ) → IsUtf8 bytes → (ts : List Token) (first : Bool) (here : List Placed) →
    LexesTo (place_all 0 (chars bytes)) ts first here → Reached bytes ts here
reached bytes text _ _ _ start = record {
  at = 0;
  stands = record { characters = chars bytes; placed = refl; ends = record { before = []; parts = refl; size = refl } };
  words = All-nil _;
}
reached bytes text us last rest (piece ts _ first _ here word _ p o so_far next token more ends) =
    let r = reached bytes text ts first here so_far in
    let stands : Stands (chars bytes) (word ++ rest) r.at = subst (λ x. Stands (chars bytes) x r.at) next.parts r.stands in
    let begin = stands_at (chars bytes) word rest p r.at next.is stands in
    subst (λ x. Reached bytes x rest) (sym more) (record {
      at = r.at + byte_count word;
      stands = behind (chars bytes) word rest r.at stands;
      words = one_token bytes ts p word first r.at o r.words (bytes_at bytes word rest r.at text stands) next.is begin
          (token_spans p word first o token) token;
    })

pub token_words : TokenWords
token_words text tokens l =
    let a = l.tokens_are in
    let last = finish (length text) a.first in
    let r = reached text l.text a.before a.first [] a.lexed in
    let count : length a.before ≡ length (a.before ++ last ∷ []) - 1 = omega (arith, length-append a.before (last ∷ [])) in
    let whole : tokens ≡ a.before ++ last ∷ [] = a.whole in
    subst (λ x. All (λ t. IsTokenWord (word_at text t)) (take (length x - 1) x)) (sym whole)
    (rw (take_at a.before (last ∷ []) (length (a.before ++ last ∷ []) - 1) count) r.words)
