-- Reading the text of a type gives the type.
use Rattle.std.proofs.Common.{◌≡◌, true, false, ℕ, zero, suc, ◌-◌, List, [], ◌∷◌, ◌++◌, length, map, take, refl, sym, ap, subst, ◌∙◌, arith, length-append}
use Rattle.std.proofs.lemmas.List.{append-nil, map-append, length-map}
use Rattle.fst_lexer.specs.declared.token.Token.{Token}
use Rattle.fst_lexer.specs.Lexes.{Lexes}
use Rattle.fst_lexer.specs.Spelling.{Word, LinedWord, IsSpelled, nothing, blank, word, word_at, lined_word_at, end_word, HasWords, SpellingLaw}
use Rattle.fst_reading.specs.Lexeme.{Lexeme, lexeme, lexemes}
use Rattle.fst_type_syntax.specs.Grammar.{IsType}
use Rattle.fst_type_print.specs.Texts.{type_text}
use Rattle.fst_roundtrip.specs.ReadBack.{ReadBack}
use Rattle.fst_roundtrip.proofs.Spelled.{word_of, inside, Reads, EndsName}
use Rattle.fst_roundtrip.proofs.ShownTypes.{ShownType, type_shown}
use Rattle.fst_roundtrip.proofs.WrittenForms.{as_written, text_same, Around, scope_under, meant, means_same}

-- the lexemes of a text are its words
front_words : (text : List ℕ) (tokens : List Token) (ws : List Word) (n : ℕ) → map (word_at text) tokens ≡ ws ++ end_word ∷ [] →
    n ≡ length ws → map word_of (map (lexeme text) (take n tokens)) ≡ ws
front_words text tokens [] n e is = rw is refl
front_words text [] (w ∷ ws) n e is = absurd (cc e)
front_words text (k ∷ tokens) (w ∷ ws) zero e is = absurd (omega arith)
front_words text (k ∷ tokens) (w ∷ ws) (suc n) e is =
    let head : word_at text k ≡ w = cc in
    let tail : map (word_at text) tokens ≡ ws ++ end_word ∷ [] = cc in
    let others = front_words text tokens ws n tail (omega arith) in
    λ i. head i ∷ others i

-- the words of a text at the beginning of a line
record Begun (text : List ℕ) (ws : List LinedWord) : Type 0 where
  words : List LinedWord
  spelled : IsSpelled true text words
  same : map (λ w. w.word) words ≡ map (λ w. w.word) ws

-- where a text begins a line its words are the same
begun : (text : List ℕ) (ws : List LinedWord) → IsSpelled false text ws → Begun text ws
begun _ _ (nothing first) = record { words = []; spelled = nothing true; same = refl }
begun _ ws (blank first c rest _ is more) = record { words = ws; spelled = blank true c rest ws is more; same = refl }
begun text _ (word first w _ rest ws is apart parts more) =
    record { words = record { first = true; word = w } ∷ ws; spelled = word true w text rest ws is apart parts more; same = refl }

unlined : (ws : List Word) → map (λ w. w.word) (map inside ws) ≡ ws
unlined [] = refl
unlined (w ∷ ws) = ap (λ (us : List Word). w ∷ us) (unlined ws)

tokens_unlined : (text : List ℕ) (tokens : List Token) → map
    (λ w. w.word) (map (lined_word_at text) tokens) ≡ map (word_at text) tokens
tokens_unlined text [] = refl
tokens_unlined text (k ∷ tokens) = ap (λ (us : List Word). word_at text k ∷ us) (tokens_unlined text tokens)

-- the words of a text's tokens, whichever begin a line
pub words_alone : (text : List ℕ) (tokens : List Token) (ws : List LinedWord) → HasWords text tokens ws →
    map (word_at text) tokens ≡ map (λ w. w.word) ws ++ end_word ∷ []
words_alone text tokens ws h =
    let end : LinedWord = record { first = h.last; word = end_word } in
    sym (tokens_unlined text tokens) ∙ (ap (map (λ (w : LinedWord). w.word)) h.words ∙ map-append
    (λ (w : LinedWord). w.word) ws (end ∷ []))

-- the tokens of a text that was read at the beginning of a line
tokens_are : (text : List ℕ) (tokens : List Token) (ws : List Word) (b : Begun text (map inside ws)) →
    HasWords text tokens b.words → map (word_at text) tokens ≡ ws ++ end_word ∷ []
tokens_are text tokens ws b h = rw (words_alone text tokens b.words h, b.same, unlined ws) refl

-- one token more than words
counted : (text : List ℕ) (tokens : List Token) (ws : List Word) → map (word_at text) tokens ≡ ws ++ end_word ∷ [] →
    length tokens - 1 ≡ length ws
counted text tokens ws e =
    let size : length (map (word_at text) tokens) ≡ length tokens = length-map tokens (word_at text) in
    omega (arith, ap length e, size, length-append ws (end_word ∷ []))

-- the tokens of a text, and what they are
pub record IsRead (text : List ℕ) (P : List Lexeme → Type 0) : Type 0 where
  pub tokens : List Token
  pub lexes : Lexes text tokens
  pub read : P (lexemes text tokens)

-- a text of words has tokens
pub text_read : {P : List Lexeme → Type 0} → SpellingLaw → (text : List ℕ) → Reads EndsName text P → IsRead text P
text_read spelling text r =
    let inner : IsSpelled false text (map inside r.words) =
    rw (append-nil text, append-nil (map inside r.words)) at (r.spelled [] [] refl (nothing false)) in
    let whole = begun text (map inside r.words) inner in
    let found = spelling text whole.words whole.spelled in
    let words = tokens_are text found.tokens r.words whole found.has in
    record {
      tokens = found.tokens;
      lexes = found.lexes;
      read = r.read (lexemes text found.tokens) (front_words text found.tokens r.words (length found.tokens - 1) words
          (counted text found.tokens r.words words));
    }

pub read_back_law : SpellingLaw → ReadBack
read_back_law spelling names m t h =
    let text = type_text names t in
    let around : Around names m = record { upper = h.upper; distinct = h.distinct; few = h.few } in
    let small = h.low in
    let w = as_written names 0 t in
    let known = meant names m around 0 t h.scoped h.named h.sorted h.writable (omega arith) in
    let r : Reads EndsName text (ShownType IsType w) = subst
    (λ (x : List ℕ). Reads EndsName x (ShownType IsType w)) (text_same names m 0 t h.writable)
    (type_shown w known.showable) in
    let found = text_read spelling text r in
    let x = found.read in
    let means = means_same (scope_under names m 0) x.wrote w t x.same known.means in
    record { tokens = found.tokens; read = x.wrote; lexes = found.lexes; derives = x.form; means = means }
