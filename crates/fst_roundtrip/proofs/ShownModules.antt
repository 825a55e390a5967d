-- The text of a module is read as the same module at other places.
use Rattle.std.proofs.Common.{◌≡◌, true, false, ℕ, zero, suc, ◌-◌, List, [], ◌∷◌, ◌++◌, length, map, take, refl, sym, ap, ◌∙◌, arith, append_assoc, length-append}
use Rattle.std.specs.Prelude.{codes}
use Rattle.std.specs.List.{AllByRecursion}
use Rattle.std.specs.Str.{byte}
use Rattle.std.proofs.lemmas.List.Elements.{recursion_from_All, All-map}
use Rattle.std.proofs.lemmas.List.{length-map}
use Rattle.fst_lexer.specs.declared.token.Token.{Token}
use Rattle.fst_lexer.specs.Spelling as spelling
use Rattle.fst_lexer.specs.Spelling.{Word, LinedWord, IsSpelled, HasWords, SpellingLaw, TokenWords, IsTokenWord, word_at, lined_word_at, end_word}
use Rattle.fst_terms.specs.ModuleTree.{Declared}
use Rattle.fst_module_grammar.specs.Grammar.{Lined, lexemes_of, AreInside, IsModule, none, decl}
use Rattle.fst_module_grammar.specs.Derives.{line_lexeme, line_lexemes}
use Rattle.fst_print.specs.ModuleTexts.{decl_text, module_text}
use Rattle.fst_roundtrip.proofs.Showable.{IsShowableDecl}
use Rattle.fst_roundtrip.specs.ReadAgain.{ReadAgain}
use Rattle.fst_roundtrip.proofs.Spelled.{word_of, halves, Reads, EndsName, inside}
use Rattle.fst_roundtrip.proofs.ShownDecls.{decl_first, decl_kind, decl_rest, decl_parts, first_word, first_ends, ShownDecl, decl_shown}
use Rattle.fst_roundtrip.proofs.Derived.{IsMade, showable_module}
use Rattle.fst_roundtrip.proofs.Unplaced.{one_text}
use Rattle.fst_roundtrip.specs.Unplaced.{unplaced_decl}

-- a token of a line as a word that begins one or not
abbrev lined_word_of : Lined → LinedWord
lined_word_of k = record { first = k.first; word = word_of k.lexeme }

-- tokens that are words inside a line
inside_words : (ts : List Lined) (ws : List Word) → map lined_word_of ts ≡ map inside ws → AreInside ts ×
    (map word_of (lexemes_of ts) ≡ ws)
inside_words [] [] e = (tt, refl)
inside_words [] (w ∷ ws) e = absurd (cc e)
inside_words (k ∷ ts) [] e = absurd (cc e)
inside_words (k ∷ ts) (w ∷ ws) e =
    let head : lined_word_of k ≡ inside w = cc in
    let tail : map lined_word_of ts ≡ map inside ws = cc in
    let o = inside_words ts ws tail in
    ((ap (λ (z : LinedWord). z.first) head, o.0), (λ i. (ap (λ (z : LinedWord). z.word) head) i ∷ o.1 i))

-- a module that was read again
record Again (ds : List Declared) (ts : List Lined) : Type 0 where
  read : List Declared
  derives : IsModule ts read
  same : map unplaced_decl read ≡ map unplaced_decl ds

-- the words of a module's text, and what any tokens are that are these words
record Written (ds : List Declared) : Type 0 where
  words : List LinedWord
  spelled : IsSpelled true (module_text ds) words
  again : (ts : List Lined) → map lined_word_of ts ≡ words → Again ds ts

one_more : (d : Declared) (ds : List Declared) → IsShowableDecl d → Written ds → Written (d ∷ ds)
one_more d ds h w = record {
  words = first ∷ (map inside r.words ++ w.words);
  spelled = spelling.word true (record { kind = decl_kind d; text = decl_first d }) (module_text (d ∷ ds))
      (decl_rest d ++ (codes "\n" ++ module_text ds)) (map inside r.words ++ w.words) (first_word d h)
      (first_ends d (codes "\n" ++ module_text ds)) parts
      (r.spelled (codes "\n" ++ module_text ds) w.words refl
      (spelling.blank false (byte "\n") (module_text ds) w.words refl w.spelled));
  again = read_again;
}
  where
    r : Reads EndsName (decl_rest d) (ShownDecl d)
    r = decl_shown d h

    first : LinedWord
    first = record { first = true; word = record { kind = decl_kind d; text = decl_first d } }

    parts : (decl_text d ++ codes "\n") ++ module_text ds ≡ decl_first d ++ (decl_rest d ++ (codes "\n" ++ module_text ds))
    parts =
        ap (λ (t : List ℕ). (t ++ codes "\n") ++ module_text ds) (decl_parts d)
        ∙ append_assoc (decl_first d ++ decl_rest d) (codes "\n") (module_text ds)
        ∙ append_assoc (decl_first d) (decl_rest d) (codes "\n" ++ module_text ds)

    read_again : (ts : List Lined) → map lined_word_of ts ≡ first ∷ (map inside r.words ++ w.words) → Again (d ∷ ds) ts
    read_again [] e = absurd (cc e)
    read_again (k ∷ ts) e =
        let head : lined_word_of k ≡ first = cc in
        let tail : map lined_word_of ts ≡ map inside r.words ++ w.words = cc in
        let c = halves lined_word_of ts (map inside r.words) w.words tail in
        let i = inside_words c.front r.words c.first in
        let s = r.read (lexemes_of c.front) i.1 k.lexeme (ap (λ (z : LinedWord). z.word.kind) head)
        (ap (λ (z : LinedWord). z.word.text) head) in
        let m = w.again c.back c.second in
        record {
          read = s.wrote ∷ m.read;
          derives = decl k c.front c.back (k ∷ ts) s.wrote m.read (ap (λ (z : LinedWord). z.first) head) i.0 s.form m.derives
              (ap (λ (z : List Lined). k ∷ z) (sym c.parts));
          same = λ j. s.same j ∷ m.same j;
        }

written : (ds : List Declared) → AllByRecursion IsShowableDecl ds → Written ds
written [] all = record { words = []; spelled = spelling.nothing true; again = read_none }
  where
    read_none : (ts : List Lined) → map lined_word_of ts ≡ [] → Again [] ts
    read_none [] e = record { read = []; derives = none; same = refl }
    read_none (k ∷ ts) e = absurd (cc e)
written (d ∷ ds) all = one_more d ds all.0 (written ds all.1)

-- the tokens of a text by lines are its words
lined_words : (text : List ℕ) (tokens : List Token) (ws : List LinedWord) (end : LinedWord) (n : ℕ) →
    map (lined_word_at text) tokens ≡ ws ++ end ∷ [] → n ≡ length ws →
    map lined_word_of (map (line_lexeme text) (take n tokens)) ≡ ws
lined_words text tokens [] end n e is = rw is refl
lined_words text [] (w ∷ ws) end n e is = absurd (cc e)
lined_words text (k ∷ tokens) (w ∷ ws) end zero e is = absurd (omega (arith, is))
lined_words text (k ∷ tokens) (w ∷ ws) end (suc n) e is =
    let head : lined_word_at text k ≡ w = cc in
    let tail : map (lined_word_at text) tokens ≡ ws ++ end ∷ [] = cc in
    let others = lined_words text tokens ws end n tail (omega (arith, is)) in
    λ i. head i ∷ others i

pub read_again_law : SpellingLaw → TokenWords → ReadAgain
read_again_law spelled token_words text tokens ds lexes derives =
    let all = showable_module (line_lexemes text tokens) ds
    (All-map (λ k. IsMade k.lexeme) (line_lexeme text) (take (length tokens - 1) tokens) (token_words text tokens lexes))
    derives in
    let w = written ds (recursion_from_All IsShowableDecl ds all) in
    let found = spelled (module_text ds) w.words w.spelled in
    let end : LinedWord = record { first = found.has.last; word = end_word } in
    let many : length (map (lined_word_at (module_text ds)) found.tokens) ≡ length found.tokens =
    length-map found.tokens (lined_word_at (module_text ds)) in
    let size : length found.tokens - 1 ≡ length w.words =
    omega (arith, many, ap length found.has.words, length-append w.words (end ∷ [])) in
    let a = w.again (line_lexemes (module_text ds) found.tokens)
    (lined_words (module_text ds) found.tokens w.words end (length found.tokens - 1) found.has.words size) in
    record {
      tokens = found.tokens;
      read = a.read;
      lexes = found.lexes;
      derives = a.derives;
      same = a.same;
      same_text =
          one_text a.read ds a.same;
    }
