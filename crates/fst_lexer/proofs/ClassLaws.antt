-- The first character of a piece tells its kind.
use Rattle.std.proofs.Common.{◌≡◌, ℕ, ◌<◌, inl, inr, Bool, true, false, not, ◌&&◌, ◌==◌, List, [], ◌∷◌, refl, sym, subst, ◌∙◌, arith}
use Rattle.std.proofs.lemmas.Bool.Decides.{nat_tests}
use Rattle.std.specs.Prelude.{codes, nat_lt}
use Rattle.std.specs.List.{list_any, list_all}
use Rattle.std.specs.Str.{byte, bytes_eq}
use Rattle.std.specs.Char.{is_ascii_alphabetic}
use Rattle.std.proofs.lemmas.Bool.{not-true, or_cases, and_parts}
use Rattle.unicode_ident.proofs.IdentLemmas.{is_xid_start-ascii}
use Rattle.fst_lexer.specs.Classes.{is_among, is_blank, is_dash, is_feed, is_quote, is_backslash, is_digit, is_plain, is_short, is_long, starts_name, short_signs, long_signs}
use Rattle.fst_base.proofs.Bools.{same_number, same_text, excluded}

-- what holds of each of these characters holds of one that is among them
pub each : (test : ℕ → Bool) (cs : List ℕ) (c : ℕ) → list_all test cs ≡ true → is_among cs c ≡ true → test c ≡ true
each test [] c all e = absurd (cc e)
each test (d ∷ cs) c all e =
    let h = and_parts (test d) (list_all test cs) all in
    elim (or_cases (d == c) (is_among cs c) e) [
      | inl x ↦ subst (λ y. test y ≡ true) (same_number d c x) h.0
      | inr x ↦ each test cs c h.1 x
    ]

-- which classes a character is in
pub record Class (c : ℕ) (b n d q : Bool) : Type 0 where
  pub blank : is_blank c ≡ b
  pub name : starts_name c ≡ n
  pub digit : is_digit c ≡ d
  pub quote : is_quote c ≡ q

-- an ASCII character that begins no name
abbrev is_outside : ℕ → Bool
is_outside c = nat_lt c 128 && (not (is_ascii_alphabetic c) && not (c == byte "_"))

no_name : (c : ℕ) → is_outside c ≡ true → starts_name c ≡ false
no_name c e =
    let h = and_parts (nat_lt c 128) (not (is_ascii_alphabetic c) && not (c == byte "_")) e in
    let k = and_parts (not (is_ascii_alphabetic c)) (not (c == byte "_")) h.1 in
    let low : c < 128 = grind (arith, nat_tests) in
    rw (not-true (c == byte "_") k.1) (is_xid_start-ascii c low ∙ not-true (is_ascii_alphabetic c) k.0)

pub blank_class : (c : ℕ) → is_blank c ≡ true → Class c true false false false
blank_class c e = record {
  blank = e;
  name = no_name c (each is_outside (codes " \t\r\n") c refl e);
  digit = not-true _ (each (λ d. not (is_digit d)) (codes " \t\r\n") c refl e);
  quote = not-true _ (each (λ d. not (is_quote d)) (codes " \t\r\n") c refl e);
}

pub digit_class : (c : ℕ) → is_digit c ≡ true → Class c false false true false
digit_class c e = record {
  blank = excluded (is_blank c) (is_digit c) (λ h. (blank_class c h).digit) e;
  name = no_name c (grind (arith, nat_tests));
  digit = e;
  quote = grind (arith, nat_tests);
}

pub quote_class : (c : ℕ) → is_quote c ≡ true → Class c false false false true
quote_class c e =
    let is = same_number c (byte "'") e in
    record {
      blank = excluded (is_blank c) (is_quote c) (λ h. (blank_class c h).quote) e;
      name = no_name c (rw is refl);
      digit = excluded (is_digit c) (is_quote c) (λ h. (digit_class c h).quote) e;
      quote = e;
    }

pub name_class : (c : ℕ) → starts_name c ≡ true → Class c false true false false
name_class c e = record {
  blank = excluded (is_blank c) (starts_name c) (λ h. (blank_class c h).name) e;
  name = e;
  digit = excluded (is_digit c) (starts_name c) (λ h. (digit_class c h).name) e;
  quote = excluded (is_quote c) (starts_name c) (λ h. (quote_class c h).name) e;
}

-- what begins a sign
abbrev sign_starts : List ℕ
sign_starts = byte "/" ∷ short_signs

among_class : (c : ℕ) → is_among sign_starts c ≡ true → Class c false false false false
among_class c e = record {
  blank = not-true _ (each (λ d. not (is_blank d)) sign_starts c refl e);
  name = no_name c (each is_outside sign_starts c refl e);
  digit = not-true _ (each (λ d. not (is_digit d)) sign_starts c refl e);
  quote = not-true _ (each (λ d. not (is_quote d)) sign_starts c refl e);
}

pub short_class : (c : ℕ) → is_short c ≡ true → Class c false false false false
short_class c e = among_class c (each (is_among sign_starts) short_signs c refl e)

pub dash_short : (c : ℕ) → is_dash c ≡ true → is_short c ≡ true
dash_short c e = rw (same_number c (byte "-") e) refl

pub dash_goes_on : (c : ℕ) → is_dash c ≡ true → is_feed c ≡ false
dash_goes_on c e = rw (same_number c (byte "-") e) refl

pub backslash_not_plain : (c : ℕ) → is_backslash c ≡ true → is_plain c ≡ false
backslash_not_plain c e = rw (same_number c (byte "\\") e) refl

-- what holds of each of these texts holds of one that is among them
pub each_text : (test : List ℕ → Bool) (texts : List (List ℕ)) (t : List ℕ) → list_all test texts ≡ true →
    list_any (bytes_eq t) texts ≡ true → test t ≡ true
each_text test [] t all e = absurd (cc e)
each_text test (d ∷ ds) t all e =
    let h = and_parts (test d) (list_all test ds) all in
    elim (or_cases (bytes_eq t d) (list_any (bytes_eq t) ds) e) [
      | inl x ↦ subst (λ y. test y ≡ true) (sym (same_text t d x)) h.0
      | inr x ↦ each_text test ds t h.1 x
    ]

-- a sign of two characters begins no other piece
pub long_class : (a b : ℕ) → is_long a b ≡ true → Class a false false false false × ((is_dash a && is_dash b) ≡ false)
long_class a b e = (
  among_class a (each_text starts long_signs (a ∷ b ∷ []) refl e),
  not-true (is_dash a && is_dash b) (each_text no_comment long_signs (a ∷ b ∷ []) refl e),
)
  where
    starts : List ℕ → Bool
    starts (c ∷ cs) = is_among sign_starts c
    starts [] = false

    no_comment : List ℕ → Bool
    no_comment (c ∷ d ∷ cs) = not (is_dash c && is_dash d)
    no_comment _ = false
