-- A text that is put together from words has just these as its tokens.
use Rattle.std.proofs.Common.{◌≡◌, ℕ, ◌+◌, Bool, true, false, List, [], ◌∷◌, ◌++◌, length, map, take, drop, Option, None, Ok, refl, sym, ap, subst, ◌∙◌, append_assoc, length-append, arith}
use Rattle.std.proofs.Math.Utf8.{encodes}
use Rattle.std.proofs.lemmas.List.{take_at, drop_at, append-nil, map-append}
use Rattle.std.proofs.lemmas.Str.{chars-nil, chars-append, chars-IsAscii, encodes-chars, IsUtf8-append, IsUtf8-from_ascii, IsUtf8-nil}
use Rattle.std.specs.Str.{chars, IsUtf8}
use Rattle.fst_lexer.specs.declared.pieces.Placed.{Placed}
use Rattle.fst_lexer.specs.declared.pieces.Piece.{Piece}
use Rattle.fst_lexer.specs.declared.pieces.Piece.TheVariants.{Blank}
use Rattle.fst_lexer.specs.declared.token.Token.{Token}
use Rattle.fst_lexer.specs.Next.{IsNext}
use Rattle.fst_lexer.specs.Piece.{is_piece}
use Rattle.fst_lexer.specs.Places.{place_all}
use Rattle.fst_lexer.specs.Tokens.{LexesTo, start, piece, list_of, place, byte_count, token_of, token_with, ends_line, finish}
use Rattle.fst_lexer.specs.Spelling.{LinedWord, IsSpelled, nothing, blank, word, lined_word_at, end_word, SpellingLaw}
use Rattle.fst_lexer.specs.Classes.{is_feed}
use Rattle.fst_lexer.proofs.LineLaws.{ends_inside}
use Rattle.fst_lexer.proofs.NextLaws.{piece_is_next}
use Rattle.fst_lexer.proofs.OneLaws.{no_piece}
use Rattle.fst_lexer.proofs.PlaceLaws.{length-place_all}
use Rattle.fst_lexer.proofs.LetterLaws.{place_all-append, byte_count-place_all}
use Rattle.fst_lexer.proofs.WordLaws.{Reads, blank_reads}
use Rattle.fst_lexer.proofs.ByteLaws.{blank_ascii}
use Rattle.fst_lexer.proofs.KindLaws.{word_read}

spelled_utf8 : (first : Bool) (text : List ℕ) (ws : List LinedWord) → IsSpelled first text ws → IsUtf8 text
spelled_utf8 _ _ _ (nothing first) = IsUtf8-nil
spelled_utf8 _ _ ws (blank first c rest _ is more) =
    IsUtf8-append (c ∷ []) rest (IsUtf8-from_ascii (c ∷ []) (blank_ascii c is)) (spelled_utf8 (is_feed c) rest ws more)
spelled_utf8 _ text _ (word first w _ rest ws is apart parts more) =
    let good = spelled_utf8 false rest ws more in
    rw parts (IsUtf8-append w.text rest (word_read w.kind w.text rest is good apart).utf8 good)

-- what is read is what stands next
next_is : (p : Piece) (cs ds : List ℕ) (at to : ℕ) → Reads p cs ds →
    IsNext (place_all at cs ++ place_all to ds) p (place_all at cs) (place_all to ds)
next_is p cs ds at to reads =
    let xs = place_all at cs in
    let ys = place_all to ds in
    let size : length xs ≡ length cs = length-place_all at cs in
    let next = piece_is_next (xs ++ ys) p (length cs) (reads at to) in
    rw (take_at xs ys (length cs) size, drop_at xs ys (length cs) size) at next

place_is : (p : Piece) (at : ℕ) (cs : List ℕ) → is_piece p (place_all at cs) ≡ true → place (place_all at cs) ≡ at
place_is p at [] is = absurd (no_piece p is)
place_is p at (c ∷ cs) is = refl

-- one piece more of a text
one_on : (text : List Placed) (ts : List Token) (first : Bool) (before taken rest : List ℕ) (p : Piece) (o : Option Token) →
    IsUtf8 taken → Reads p (chars taken) (chars rest) →
    token_of p (place_all (length before) (chars taken)) first ≡ Ok o →
    LexesTo text ts first (place_all (length before) (chars (taken ++ rest))) →
    LexesTo text (ts ++ list_of o) (ends_line (place_all (length before) (chars taken)))
    (place_all (length (before ++ taken)) (chars rest))
one_on text ts first before taken rest p o utf8 reads token so_far =
    let at = length before in
    let to = at + length (encodes (chars taken)) in
    let size : to ≡ length (before ++ taken) = omega (arith, length-append before taken, ap length (encodes-chars taken utf8)) in
    let here : place_all at (chars (taken ++ rest)) ≡ place_all at (chars taken) ++ place_all to (chars rest) =
    ap (place_all at) (chars-append taken rest utf8) ∙ place_all-append at (chars taken) (chars rest) in
    let last = ends_line (place_all at (chars taken)) in
    subst (λ n. LexesTo text (ts ++ list_of o) last (place_all n (chars rest))) size
    (piece ts (ts ++ list_of o) first last (place_all at (chars taken) ++ place_all to (chars rest)) (place_all at (chars taken))
    (place_all to (chars rest)) p o
    (subst (λ x. LexesTo text ts first x) here so_far) (next_is p (chars taken) (chars rest) at to reads) token refl refl)

blank_token : (here : List Placed) (first : Bool) → token_of Blank here first ≡ Ok None
unfolding token_of
blank_token here first = refl

-- the bytes where a word stands
cut_out : (whole before taken rest : List ℕ) → whole ≡ before ++ (taken ++ rest) →
    take (length taken) (drop (length before) whole) ≡ taken
cut_out whole before taken rest parts = rw (
  parts,
  drop_at before (taken ++ rest) (length before) refl,
  take_at taken rest (length taken) refl,
) refl

-- the tokens from here on are these words
record GoOn (text : List Placed) (whole : List ℕ) (ts : List Token) (ws : List LinedWord) : Type 0 where
  more : List Token
  last : Bool
  lexed : LexesTo text (ts ++ more) last []
  words : map (lined_word_at whole) more ≡ ws

go_on : (text : List Placed) (whole before rest : List ℕ) (first : Bool) (ws : List LinedWord) → IsSpelled first rest ws →
    whole ≡ before ++ rest → (ts : List Token) →
    LexesTo text ts first (place_all (length before) (chars rest)) → GoOn text whole ts ws
go_on text whole before _ _ _ (nothing first) parts ts so_far =
    record { more = []; last = first; lexed = rw (append-nil ts) (rw chars-nil at so_far); words = refl }
go_on text whole before _ _ ws (blank first c rest _ is others) parts ts so_far =
    let ascii = blank_ascii c is in
    let same : chars (c ∷ []) ≡ c ∷ [] = chars-IsAscii (c ∷ []) ascii in
    let reads : Reads Blank (chars (c ∷ [])) (chars rest) = rw same (blank_reads c (chars rest) is) in
    let at = length before in
    let here = place_all at (chars (c ∷ [])) in
    let step = one_on text ts first before (c ∷ []) rest Blank None (IsUtf8-from_ascii (c ∷ []) ascii) reads
    (blank_token here first) so_far in
    let ends : ends_line here ≡ is_feed c = ap (λ x. ends_line (place_all at x)) same in
    let step-is = subst (λ us. LexesTo text us (ends_line here) (place_all (length (before ++ c ∷ [])) (chars rest)))
    (append-nil ts) step in
    go_on text whole (before ++ c ∷ []) rest (is_feed c) ws others (parts ∙ sym (append_assoc before (c ∷ []) rest)) ts
    (subst (λ b. LexesTo text ts b (place_all (length (before ++ c ∷ [])) (chars rest))) ends step-is)
go_on text whole before all _ _ (word first w _ rest ws is apart joined others) parts ts so_far =
    let r = word_read w.kind w.text rest is (spelled_utf8 false rest ws others) apart in
    let at = length before in
    let here = place_all at (chars w.text) in
    let t : Token = record { kind = w.kind; at = place here; len = byte_count here; first_column = first } in
    let whole-is : whole ≡ before ++ (w.text ++ rest) = parts ∙ ap (λ x. before ++ x) joined in
    let now : LexesTo text ts first (place_all at (chars (w.text ++ rest))) = subst
    (λ x. LexesTo text ts first (place_all at (chars x))) joined so_far in
    let step = one_on text ts first before w.text rest r.piece (token_with w.kind here first) r.utf8 r.reads
    (r.makes at first) now in
    let is-piece = (next_is r.piece (chars w.text) (chars rest) at at r.reads).is in
    let inside : ends_line here ≡ false = ends_inside r.piece here first t is-piece (r.makes at first) in
    let go : LexesTo text (ts ++ t ∷ []) false (place_all (length (before ++ w.text)) (chars rest)) =
    subst (λ b. LexesTo text (ts ++ t ∷ []) b (place_all (length (before ++ w.text)) (chars rest))) inside step in
    let g = go_on text whole (before ++ w.text) rest false ws others (whole-is ∙ sym (append_assoc before w.text rest))
    (ts ++ t ∷ []) go in
    let begin : place here ≡ at = place_is r.piece at (chars w.text) is-piece in
    let size : byte_count here ≡ length w.text = byte_count-place_all at (chars w.text)
    ∙ ap length (encodes-chars w.text r.utf8) in
    let text-is : take (byte_count here) (drop (place here) whole) ≡ w.text =
    rw (begin, size) (cut_out whole before w.text rest whole-is) in
    let lined : List ℕ → LinedWord = λ x. record { first = first; word = record { kind = w.kind; text = x } } in
    let first-is : lined_word_at whole t ≡ lined w.text = ap lined text-is in
    record {
      more = t ∷ g.more;
      last = g.last;
      lexed = rw (append_assoc ts (t ∷ []) g.more) at g.lexed;
      words = ap (λ (x : LinedWord). x ∷ map (lined_word_at whole) g.more) first-is ∙ ap
          (λ (x : List LinedWord). lined w.text ∷ x) g.words;
    }

pub spelling_law : SpellingLaw
spelling_law text ws s =
    let g = go_on (place_all 0 (chars text)) text [] text true ws s refl [] start in
    let last = finish (length text) g.last in
    record {
      tokens = g.more ++ last ∷ [];
      lexes = record {
        text = spelled_utf8 true text ws s;
        tokens_are =
            record { before = g.more; first = g.last; lexed = g.lexed; whole = refl };
      };
      has = record {
        last = g.last;
        words = map-append (lined_word_at text) g.more (last ∷ []) ∙ ap
            (λ (x : List LinedWord). x ++ record { first = g.last; word = end_word } ∷ []) g.words;
      };
    }
