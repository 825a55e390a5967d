-- What is read where a word stands.
use Rattle.std.proofs.Common.{◌≡◌, ℕ, ◌+◌, ◌≤◌, Bool, true, not, ◌&&◌, List, [], ◌∷◌, ◌++◌, length, Some, Ok, refl, arith}
use Rattle.std.proofs.Math.Numerals.{one-add}
use Rattle.std.proofs.Math.Utf8.{encodes}
use Rattle.std.proofs.lemmas.Bool.Decides.{nat_tests}
use Rattle.std.specs.Prelude.{pos, nat_le}
use Rattle.std.specs.List.{list_all}
use Rattle.std.specs.Char.{len_utf8}
use Rattle.std.proofs.lemmas.Bool.{not-true, and_parts}
use Rattle.fst_lexer.specs.declared.pieces.Piece.{Piece}
use Rattle.fst_lexer.specs.declared.pieces.Piece.TheVariants.{Blank, Name, Digits, Quoted, Sign}
use Rattle.fst_lexer.specs.declared.token.TokenKind.{TokenKind}
use Rattle.fst_lexer.specs.declared.token.TokenKind.TheVariants as kind
use Rattle.fst_base.specs.Limits.{longest_name, greatest_number}
use Rattle.fst_lexer.specs.Classes.{is_blank, is_dash, is_quote, is_backslash, is_digit, is_plain, is_escape, is_long, is_reserved, escaped_character, starts_name, continues_name}
use Rattle.fst_base.specs.Choice.{choose}
use Rattle.fst_lexer.specs.Places.{place_all}
use Rattle.fst_lexer.specs.Reading.{piece_at}
use Rattle.fst_lexer.specs.Tokens.{token_of, token_with, number_of, begins_upper}
use Rattle.fst_lexer.specs.Spelling.{is_name, is_capital, is_sign, quoted_character, ends_sign}
use Rattle.fst_lexer.proofs.ClassLaws.{name_class, digit_class, quote_class, short_class, long_class, backslash_not_plain}
use Rattle.fst_lexer.proofs.LetterLaws.{letters-place_all, byte_count-place_all, value_from-place_all, number_from, fails_at, prefix_is}
use Rattle.fst_base.proofs.Bools.{excluded}
use Rattle.fst_base.proofs.Choices.{some_chosen}

-- the piece that is read at characters, before others
abbrev pub Reads : Piece → List ℕ → List ℕ → Type 0
Reads p cs ds = (at to : ℕ) → piece_at (place_all at cs ++ place_all to ds) ≡ Some (p, length cs)

-- the token that they are
abbrev pub Makes : Piece → List ℕ → TokenKind → Type 0
Makes p cs k = (at : ℕ) (first : Bool) → token_of p (place_all at cs) first ≡ Ok (token_with k (place_all at cs) first)

pub blank_reads : (c : ℕ) (ds : List ℕ) → is_blank c ≡ true → Reads Blank (c ∷ []) ds
unfolding piece_at choose
blank_reads c ds is at to = rw is refl

pub name_reads : (cs ds : List ℕ) → is_name cs ≡ true → fails_at continues_name ds ≡ true → Reads Name cs ds
unfolding piece_at choose
name_reads [] ds is end at to = absurd (cc is)
name_reads (c ∷ cs) ds is end at to =
    let h = and_parts (starts_name c) (list_all continues_name cs) is in
    let k = name_class c h.0 in
    rw (k.blank, h.0, prefix_is continues_name (at + len_utf8 c) to cs ds h.1 end, one-add) refl

pub digits_read : (c : ℕ) (cs ds : List ℕ) → list_all is_digit (c ∷ cs) ≡ true → fails_at is_digit ds ≡ true →
    Reads Digits (c ∷ cs) ds
unfolding piece_at choose
digits_read c cs ds is end at to =
    let h = and_parts (is_digit c) (list_all is_digit cs) is in
    let k = digit_class c h.0 in
    rw (k.blank, k.name, h.0, prefix_is is_digit (at + len_utf8 c) to cs ds h.1 end, one-add) refl

pub sign_reads : (cs ds : List ℕ) → is_sign cs ≡ true → ends_sign cs ds ≡ true → Reads Sign cs ds
unfolding piece_at choose
sign_reads (a ∷ []) [] is end at to =
    let k = short_class a is in
    rw (k.blank, k.name, k.digit, k.quote, is) refl
sign_reads (a ∷ []) (d ∷ ds) is end at to =
    let k = short_class a is in
    let h = and_parts (not (is_long a d)) (not (is_dash a && is_dash d)) end in
    rw (k.blank, k.name, k.digit, k.quote, not-true (is_dash a && is_dash d) h.1, not-true (is_long a d) h.0, is) refl
sign_reads (a ∷ b ∷ []) ds is end at to =
    let k = long_class a b is in
    rw (k.0.blank, k.0.name, k.0.digit, k.0.quote, k.1, is) refl
sign_reads _ ds is end at to = absurd (cc is)

pub quoted_reads : (cs ds : List ℕ) (c : ℕ) → quoted_character cs ≡ Some c → Reads Quoted cs ds
unfolding piece_at choose
quoted_reads (a ∷ c ∷ b ∷ []) ds x is at to =
    let test = (some_chosen (is_quote a && (is_plain c && is_quote b)) c x is).0 in
    let q = and_parts (is_quote a) (is_plain c && is_quote b) test in
    let k = quote_class a q.0 in
    rw (k.blank, k.name, k.digit, k.quote, q.1) refl
quoted_reads (a ∷ c ∷ e ∷ b ∷ []) ds x is at to =
    let test = (some_chosen (is_quote a && (is_backslash c && (is_escape e && is_quote b))) (escaped_character e) x is).0 in
    let q = and_parts (is_quote a) (is_backslash c && (is_escape e && is_quote b)) test in
    let k = quote_class a q.0 in
    rw (
      k.blank,
      k.name,
      k.digit,
      k.quote,
      backslash_not_plain c (and_parts (is_backslash c) (is_escape e && is_quote b) q.1).0,
      q.1,
    ) refl
quoted_reads _ ds x is at to = absurd (cc is)

capital-place_all : (at : ℕ) (cs : List ℕ) → begins_upper (place_all at cs) ≡ is_capital cs
capital-place_all at [] = refl
capital-place_all at (c ∷ cs) = refl

pub name_makes : (cs : List ℕ) (k : TokenKind) → length (encodes cs) ≤ longest_name →
    choose (is_reserved cs) kind.Reserved (choose (is_capital cs) kind.Upper kind.Lower) ≡ k → Makes Name cs k
unfolding token_of choose
name_makes cs k short is at first =
    let size = byte_count-place_all at cs in
    let fits : nat_le (length (encodes cs)) longest_name ≡ true = grind (arith, nat_tests) in
    rw (size, fits, letters-place_all at cs, capital-place_all at cs, is) refl

pub digits_make : (cs : List ℕ) (n : ℕ) → number_from 0 cs ≡ n → n ≤ greatest_number → Makes Digits cs (kind.Number (pos n))
unfolding token_of number_of choose
digits_make cs n is small at first =
    let fits : nat_le n greatest_number ≡ true = grind (arith, nat_tests) in
    rw (value_from-place_all 0 at cs, is, fits) refl

pub sign_makes : (cs : List ℕ) → Makes Sign cs kind.Sign
unfolding token_of
sign_makes cs at first = refl

pub quoted_makes : (cs : List ℕ) (c : ℕ) → quoted_character cs ≡ Some c → Makes Quoted cs (kind.Character c)
unfolding token_of choose
quoted_makes (a ∷ c ∷ b ∷ []) x is at first =
    let h = some_chosen (is_quote a && (is_plain c && is_quote b)) c x is in
    let plain = (and_parts (is_plain c) (is_quote b) (and_parts (is_quote a) (is_plain c && is_quote b) h.0).1).0 in
    rw (excluded (is_backslash c) (is_plain c) (backslash_not_plain c) plain, h.1) refl
quoted_makes (a ∷ c ∷ e ∷ b ∷ []) x is at first =
    let h = some_chosen (is_quote a && (is_backslash c && (is_escape e && is_quote b))) (escaped_character e) x is in
    let slash = (and_parts (is_backslash c) (is_escape e && is_quote b)
    (and_parts (is_quote a) (is_backslash c && (is_escape e && is_quote b)) h.0).1).0 in
    rw (slash, h.1) refl
quoted_makes _ x is at first = absurd (cc is)
