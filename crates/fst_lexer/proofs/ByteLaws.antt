-- What the bytes of a word and of what is behind it say of their characters.
use Rattle.std.proofs.Common.{◌≡◌, ℕ, ◌^◌, ◌<◌, ◌≤◌, inl, inr, Bool, true, false, not, ◌&&◌, ◌||◌, ◌==◌, List, [], ◌∷◌, length, refl, ◌∙◌, arith, rules}
use Rattle.std.proofs.lemmas.Bool.Decides.{nat_tests}
use Rattle.std.proofs.lemmas.Fmt.{decimal_nonempty, digits_decimal, digits_value-decimal}
use Rattle.std.proofs.lemmas.List.Elements.{All-nil, All-cons}
use Rattle.std.proofs.lemmas.Str.{chars-nil}
use Rattle.std.proofs.lemmas.Str.Ascii.{IsAscii-from_all}
use Rattle.std.proofs.lemmas.Str.Parse.{IsNumeralModel, numerals_by_fold}
use Rattle.std.specs.Prelude.{nat_le, nat_lt, All, codes}
use Rattle.std.specs.List.{list_all, list_any}
use Rattle.std.specs.Str.{byte, chars, bytes_eq, IsAscii, IsUtf8}
use Rattle.std.specs.Char.{is_ascii_alphabetic, is_ascii_alphanumeric}
use Rattle.std.specs.Fmt.{decimal}
use Rattle.std.proofs.lemmas.Bool.{or_cases, and_parts}
use Rattle.std.proofs.Math.Bool.{or-true}
use Rattle.unicode_ident.proofs.IdentLemmas.{is_xid_start-ascii, is_xid_continue-ascii, is_xid_start-is_xid_continue}
use Rattle.unicode_ident.specs.Ident.{is_xid_start}
use Rattle.fst_base.specs.Limits.{longest_name}
use Rattle.fst_lexer.specs.Classes.{is_blank, is_dash, is_quote, is_digit, is_long, is_reserved, short_signs, long_signs, lower_words, upper_words, continues_name}
use Rattle.fst_lexer.specs.Spelling.{is_name, is_sign, ends_name, ends_number, ends_sign}
use Rattle.fst_lexer.proofs.ClassLaws.{each, each_text}
use Rattle.fst_lexer.proofs.LetterLaws.{number_from, fails_at, first_of}

-- an ASCII byte
abbrev is_low : ℕ → Bool
is_low c = nat_lt c 128

all_low : (test : ℕ → Bool) → ((c : ℕ) → test c ≡ true → c < 128) →
    (cs : List ℕ) → list_all test cs ≡ true → All (λ b. b < 128) cs
all_low test low [] e = All-nil (λ b. b < 128)
all_low test low (c ∷ cs) e =
    let h = and_parts (test c) (list_all test cs) e in
    All-cons (λ b. b < 128) c cs (low c h.0) (all_low test low cs h.1)

low_is : (c : ℕ) → is_low c ≡ true → c < 128
low_is c e = grind (arith, nat_tests)

ascii_from : (cs : List ℕ) → list_all is_low cs ≡ true → IsAscii cs
ascii_from cs e = IsAscii-from_all cs (all_low is_low low_is cs e)

pub sign_ascii : (cs : List ℕ) → is_sign cs ≡ true → IsAscii cs
sign_ascii (a ∷ []) e = ascii_from (a ∷ []) (rw (each is_low short_signs a refl e) refl)
sign_ascii (a ∷ b ∷ []) e = ascii_from (a ∷ b ∷ []) (each_text (list_all is_low) long_signs (a ∷ b ∷ []) refl e)
sign_ascii _ e = absurd (cc e)

pub blank_ascii : (c : ℕ) → is_blank c ≡ true → IsAscii (c ∷ [])
blank_ascii c e = ascii_from (c ∷ []) (rw (each is_low (codes " \t\r\n") c refl e) refl)

-- one to ten letters
abbrev is_plain_word : List ℕ → Bool
is_plain_word [] = false
is_plain_word (c ∷ cs) = list_all is_ascii_alphabetic (c ∷ cs) && nat_le (length (c ∷ cs)) 10

plain_word : (t : List ℕ) → is_reserved t ≡ true → is_plain_word t ≡ true
plain_word t e =
    elim (or_cases (list_any (bytes_eq t) lower_words) (list_any (bytes_eq t) upper_words) e) [
      | inl h ↦ each_text is_plain_word lower_words t refl h
      | inr h ↦ each_text is_plain_word upper_words t refl h
    ]

letter_low : (c : ℕ) → is_ascii_alphabetic c ≡ true → c < 128
letter_low c e = grind (arith, nat_tests)

letter_starts : (c : ℕ) → is_ascii_alphabetic c ≡ true → is_xid_start c ≡ true
letter_starts c e = is_xid_start-ascii c (letter_low c e) ∙ e

letters_go_on : (cs : List ℕ) → list_all is_ascii_alphabetic cs ≡ true → list_all continues_name cs ≡ true
letters_go_on [] e = refl
letters_go_on (c ∷ cs) e =
    let h = and_parts (is_ascii_alphabetic c) (list_all is_ascii_alphabetic cs) e in
    rw (is_xid_start-is_xid_continue c (letter_starts c h.0), or-true (is_quote c)) (letters_go_on cs h.1)

-- what a reserved word is
pub record Letters (t : List ℕ) : Type 0 where
  pub ascii : IsAscii t
  pub name : is_name t ≡ true
  pub short : length t ≤ longest_name

pub reserved_letters : (t : List ℕ) → is_reserved t ≡ true → Letters t
reserved_letters t e = by_letters t (plain_word t e)
  where
    by_letters : (cs : List ℕ) → is_plain_word cs ≡ true → Letters cs
    by_letters [] h = absurd (cc h)
    by_letters (c ∷ cs) h =
        let k = and_parts (list_all is_ascii_alphabetic (c ∷ cs)) (nat_le (length (c ∷ cs)) 10) h in
        let m = and_parts (is_ascii_alphabetic c) (list_all is_ascii_alphabetic cs) k.0 in
        record {
          ascii = IsAscii-from_all (c ∷ cs) (all_low is_ascii_alphabetic letter_low (c ∷ cs) k.0);
          name = rw (letter_starts c m.0, or-true (c == byte "_")) (letters_go_on cs m.1);
          short = grind (arith, nat_tests);
        }

-- what the digits of a number are
pub record Figures (n : ℕ) : Type 0 where
  pub first : ℕ
  pub others : List ℕ
  pub are : decimal n ≡ first ∷ others
  pub digits : list_all is_digit (first ∷ others) ≡ true
  pub value : number_from 0 (first ∷ others) ≡ n

own : IsNumeralModel (λ ds. list_all is_digit ds ≡ true) (number_from 0)
own = numerals_by_fold _ (search rules) number_from (search rules)

pub figures : (n : ℕ) → n < 2 ^ 64 → Figures n
figures n small = by_digits (decimal n) refl (digits_decimal own n small) (digits_value-decimal own n small)
    (decimal_nonempty n small)
  where
    by_digits : (ds : List ℕ) → decimal n ≡ ds → list_all is_digit ds ≡ true → number_from 0 ds ≡ n → 0 < length ds → Figures n
    by_digits [] is all value some = absurd (omega arith)
    by_digits (d ∷ ds) is all value some = record { first = d; others = ds; are = is; digits = all; value = value }

-- what is behind a name
pub ends_name_is : (rest : List ℕ) → IsUtf8 rest → ends_name rest ≡ true → fails_at continues_name (chars rest) ≡ true
ends_name_is [] text e = rw chars-nil refl
ends_name_is (b ∷ bs) text e =
    let f = first_of b bs text in
    let h = and_parts (is_low b) (not (is_quote b || (is_ascii_alphanumeric b || (b == byte "_")))) e in
    let low = low_is b h.0 in
    let one : f.character ≡ b = elim f.same [ inl x ↦ x | inr x ↦ absurd (omega (arith, x.1)) ] in
    rw (f.are, one, is_xid_continue-ascii b low) h.1

-- what is behind a number
pub ends_number_is : (rest : List ℕ) → IsUtf8 rest → ends_number rest ≡ true → fails_at is_digit (chars rest) ≡ true
ends_number_is [] text e = rw chars-nil refl
ends_number_is (b ∷ bs) text e =
    let f = first_of b bs text in
    rw f.are (elim f.same [ inl x ↦ rw x e | inr x ↦ rw (no_digit f.character x.0) refl ])
  where
    no_digit : (c : ℕ) → 128 ≤ c → is_digit c ≡ false
    no_digit c h = grind (arith, nat_tests)

-- what is behind a sign
pub ends_sign_is : (cs rest : List ℕ) → IsUtf8 rest → ends_sign cs rest ≡ true → ends_sign cs (chars rest) ≡ true
ends_sign_is (a ∷ []) [] text e = rw chars-nil refl
ends_sign_is (a ∷ []) (b ∷ bs) text e =
    let f = first_of b bs text in
    rw f.are (elim f.same [ inl x ↦ rw x e | inr x ↦ beyond f.character x.0 ])
  where
    second_low : List ℕ → Bool
    second_low (c ∷ d ∷ cs) = is_low d
    second_low _ = false

    no_long : (c : ℕ) → 128 ≤ c → (t : Bool) → is_long a c ≡ t → t ≡ false
    no_long c h false is = refl
    no_long c h true is = absurd (let low = low_is c (each_text second_low long_signs (a ∷ c ∷ []) refl is) in omega arith)

    no_dash : (c : ℕ) → 128 ≤ c → is_dash c ≡ false
    no_dash c h = grind (arith, nat_tests)

    alone : (t : Bool) → not (t && false) ≡ true
    alone true = refl
    alone false = refl

    beyond : (c : ℕ) → 128 ≤ c → (not (is_long a c) && not (is_dash a && is_dash c)) ≡ true
    beyond c h = rw (no_long c h (is_long a c) refl, no_dash c h) (alone (is_dash a))
ends_sign_is [] rest text e = refl
ends_sign_is (a ∷ b ∷ cs) rest text e = refl
