-- A character that has a token at all is one between its quotes, as it is written.
use Rattle.std.proofs.Common.{◌≡◌, ◌⊎◌, inl, inr, ℕ, Bool, true, false, ◌&&◌, ◌||◌, ◌==◌, List, [], ◌∷◌, ◌++◌, Some, refl, sym, ap, subst, ◌∙◌}
use Rattle.std.proofs.Math.Utf8.{scalar, scalars, encode, encodes}
use Rattle.std.proofs.lemmas.Str.{chars-encodes, scalars-chars}
use Rattle.std.specs.Prelude.{codes}
use Rattle.std.specs.Str.{byte, chars}
use Rattle.fst_lexer.specs.declared.token.TokenKind.TheVariants as kind
use Rattle.fst_base.specs.Choice.{choose}
use Rattle.fst_lexer.specs.Classes.{is_among, is_quote, is_backslash, is_plain, is_escape, escaped_character}
use Rattle.fst_lexer.specs.Spelling.{IsWordOf, quoted_character}
use Rattle.fst_lexer.proofs.Laws.{each_among}
use Rattle.fst_print.specs.ModuleTexts.{character_text}
use Rattle.fst_base.proofs.Bools.{same_number, excluded}
use Rattle.fst_base.proofs.Choices.{some_chosen}
use Rattle.std.proofs.lemmas.Bool.{and_parts}

-- a character with its quotes
abbrev pub quoted_text : ℕ → List ℕ
quoted_text c = codes "'" ++ character_text c ++ codes "'"

-- the characters that are escaped
abbrev escapes : List ℕ
escapes = codes "\n\t\\'"

-- a character stands for itself between quotes, or it is escaped
abbrev IsQuotable : ℕ → Type 0
IsQuotable c = ((is_plain c ≡ true) × (scalar c ≡ true)) ⊎ (is_among escapes c ≡ true)

between : (cs : List ℕ) (c : ℕ) → scalars cs ≡ true → quoted_character cs ≡ Some c → IsQuotable c
between (a ∷ d ∷ b ∷ []) c all is =
    let h = some_chosen (is_quote a && (is_plain d && is_quote b)) d c is in
    let plain = (and_parts (is_plain d) (is_quote b) (and_parts (is_quote a) (is_plain d && is_quote b) h.0).1).0 in
    let unicode = (and_parts (scalar d) (scalars (b ∷ [])) (and_parts (scalar a) (scalars (d ∷ b ∷ [])) all).1).0 in
    subst IsQuotable h.1 (inl (plain, unicode))
between (a ∷ d ∷ e ∷ b ∷ []) c all is =
    let h = some_chosen (is_quote a && (is_backslash d && (is_escape e && is_quote b))) (escaped_character e) c is in
    let slash = (and_parts (is_quote a) (is_backslash d && (is_escape e && is_quote b)) h.0).1 in
    let escape = (and_parts (is_escape e) (is_quote b) (and_parts (is_backslash d) (is_escape e && is_quote b) slash).1).0 in
    subst IsQuotable h.1 (inr (each_among (λ k. is_among escapes (escaped_character k)) (codes "nt\\'") e refl escape))
between _ c all is = absurd (cc is)

-- characters between quotes as bytes
spelled : (cs text : List ℕ) (c : ℕ) → scalars cs ≡ true → encodes cs ≡ text → quoted_character cs ≡ Some c →
    IsWordOf (kind.Character c) text
spelled cs text c all is stands = ((cs, (all, is)), ap quoted_character (ap chars (sym is) ∙ chars-encodes cs all) ∙ stands)

-- a character that stands for itself is none of those that don't
differs : (d c : ℕ) → is_plain d ≡ false → is_plain c ≡ true → (c == d) ≡ false
differs d c special plain = excluded (c == d) (is_plain c) (λ e. ap is_plain (same_number c d e) ∙ special) plain

itself : (c : ℕ) → is_plain c ≡ true → character_text c ≡ encode c
itself c plain = rw (
  differs (byte "\n") c refl plain,
  differs (byte "\t") c refl plain,
  differs (byte "\\") c refl plain,
  differs (byte "'") c refl plain,
) refl

plain_word : (c : ℕ) → is_plain c ≡ true → scalar c ≡ true → IsWordOf (kind.Character c) (codes "'" ++ encode c ++ codes "'")
unfolding encode choose
plain_word c plain unicode = spelled (byte "'" ∷ c ∷ byte "'" ∷ []) (codes "'" ++ encode c ++ codes "'") c
    (ap (λ b. b && true) unicode) refl (rw plain refl)

abbrev IsWritten : ℕ → Type 0
IsWritten c = IsWordOf (kind.Character c) (quoted_text c)

feed_word : IsWritten (byte "\n")
unfolding encode choose
feed_word = spelled (codes "'\\n'") (codes "'\\n'") (byte "\n") refl refl refl

tab_word : IsWritten (byte "\t")
unfolding encode choose
tab_word = spelled (codes "'\\t'") (codes "'\\t'") (byte "\t") refl refl refl

backslash_word : IsWritten (byte "\\")
unfolding encode choose
backslash_word = spelled (codes "'\\\\'") (codes "'\\\\'") (byte "\\") refl refl refl

quote_word : IsWritten (byte "'")
unfolding encode choose
quote_word = spelled (codes "'\\''") (codes "'\\''") (byte "'") refl refl refl

-- what holds where one of two tests does
first_of_two : (P : Type 0) (a b : Bool) → (a ≡ true → P) → (b ≡ true → P) → (a || b) ≡ true → P
first_of_two P true b f g e = f refl
first_of_two P false b f g e = g e

-- an escaped one
escaped_word : (c : ℕ) → is_among escapes c ≡ true → IsWritten c
escaped_word c e =
    let move = λ (d : ℕ) (word : IsWritten d) (same : (d == c) ≡ true). subst IsWritten (same_number d c same) word in
    first_of_two (IsWritten c) (byte "\n" == c) (is_among (codes "\t\\'") c) (move (byte "\n") feed_word)
    (first_of_two (IsWritten c) (byte "\t" == c) (is_among (codes "\\'") c) (move (byte "\t") tab_word)
    (first_of_two (IsWritten c) (byte "\\" == c) (is_among (codes "'") c) (move (byte "\\") backslash_word)
    (first_of_two (IsWritten c) (byte "'" == c) false (move (byte "'") quote_word) (λ h. absurd (cc h))))) e

-- the text of a character that a text stands for stands for it
pub character_word : (text : List ℕ) (c : ℕ) → IsWordOf (kind.Character c) text → IsWordOf (kind.Character c) (quoted_text c)
character_word text c is =
    elim (between (chars text) c (scalars-chars text is.0) is.1) [
      | inl h ↦ subst (λ (inner : List ℕ). IsWordOf (kind.Character c) (codes "'" ++ inner ++ codes "'")) (sym (itself c h.0))
          (plain_word c h.0 h.1)
      | inr h ↦ escaped_word c h
    ]
