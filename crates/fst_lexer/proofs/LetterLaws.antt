-- Characters with their places, and the characters alone.
use Rattle.std.proofs.Common.{◌≡◌, ℕ, ◌+◌, ◌-◌, ◌*◌, ◌≤◌, ◌⊎◌, inl, inr, Bool, true, not, List, [], ◌∷◌, ◌++◌, length, refl, sym, ap, ◌∙◌, length-append, arith}
use Rattle.std.proofs.lemmas.Bool.{cases_lt, not-true, and_parts}
use Rattle.std.proofs.lemmas.List.Sums.{sum_by-cons}
use Rattle.std.proofs.lemmas.Str.{encodes-chars, byte_from_char, char_from_byte, length-encode}
use Rattle.std.proofs.Math.Utf8.{encode, encodes}
use Rattle.std.specs.Char.{len_utf8}
use Rattle.std.specs.List.{list_all, prefix_len}
use Rattle.std.specs.Str.{byte, chars, IsUtf8}
use Rattle.fst_lexer.specs.declared.pieces.Placed.{Placed}
use Rattle.fst_lexer.specs.Places.{place_all}
use Rattle.fst_lexer.specs.Tokens.{byte_count, letters, value_from}

pub place_all-append : (at : ℕ) (xs ys : List ℕ) →
    place_all at (xs ++ ys) ≡ place_all at xs ++ place_all (at + length (encodes xs)) ys
place_all-append at [] ys = ap (λ n. place_all n ys) (omega arith)
place_all-append at (c ∷ cs) ys =
    let size : at + len_utf8 c + length (encodes cs) ≡ at + length (encodes (c ∷ cs)) =
    omega (arith, length-encode c, length-append (encode c) (encodes cs)) in
    ap (λ (r : List Placed). record { at = at; ch = c } ∷ r)
    (place_all-append (at + len_utf8 c) cs ys ∙ ap (λ n. place_all (at + len_utf8 c) cs ++ place_all n ys) size)

pub letters-place_all : (at : ℕ) (cs : List ℕ) → letters (place_all at cs) ≡ cs
letters-place_all at [] = refl
letters-place_all at (c ∷ cs) = ap (λ (r : List ℕ). c ∷ r) (letters-place_all (at + len_utf8 c) cs)

pub byte_count-place_all : (at : ℕ) (cs : List ℕ) → byte_count (place_all at cs) ≡ length (encodes cs)
byte_count-place_all at [] = refl
byte_count-place_all at (c ∷ cs) =
    let one : Placed = record { at = at; ch = c } in
    omega (
      arith,
      sum_by-cons (λ (p : Placed). len_utf8 p.ch) one (place_all (at + len_utf8 c) cs),
      byte_count-place_all (at + len_utf8 c) cs,
      length-encode c,
      length-append (encode c) (encodes cs),
    )

-- the number that digits spell behind one
abbrev pub number_from : ℕ → List ℕ → ℕ
number_from n [] = n
number_from n (c ∷ cs) = number_from (n * 10 + (c - byte "0")) cs

pub value_from-place_all : (n at : ℕ) (cs : List ℕ) → value_from n (place_all at cs) ≡ number_from n cs
value_from-place_all n at [] = refl
value_from-place_all n at (c ∷ cs) = value_from-place_all (n * 10 + (c - byte "0")) (at + len_utf8 c) cs

-- the first character, if there is one, fails the test
abbrev pub fails_at : (ℕ → Bool) → List ℕ → Bool
fails_at test [] = true
fails_at test (c ∷ cs) = not (test c)

-- the characters that pass a test, where the next one fails it
pub prefix_is : (test : ℕ → Bool) (at to : ℕ) (cs ds : List ℕ) → list_all test cs ≡ true → fails_at test ds ≡ true →
    prefix_len (λ (p : Placed). test p.ch) (place_all at cs ++ place_all to ds) ≡ length cs
prefix_is test at to [] [] all end = refl
prefix_is test at to [] (d ∷ ds) all end = rw (not-true (test d) end) refl
prefix_is test at to (c ∷ cs) ds all end =
    let h = and_parts (test c) (list_all test cs) all in
    rw h.0 (omega (arith, prefix_is test (at + len_utf8 c) to cs ds h.1 end))

-- the first character of a text is its first byte, or both are beyond ASCII
pub record First (b : ℕ) (bs : List ℕ) : Type 0 where
  pub character : ℕ
  pub others : List ℕ
  pub are : chars (b ∷ bs) ≡ character ∷ others
  pub same : (character ≡ b) ⊎ ((128 ≤ character) × (128 ≤ b))

pub first_of : (b : ℕ) (bs : List ℕ) → IsUtf8 (b ∷ bs) → First b bs
first_of b bs text = by_characters (chars (b ∷ bs)) refl (encodes-chars (b ∷ bs) text)
  where
    same_first : (c : ℕ) (rest : List ℕ) → b ∷ bs ≡ encode c ++ rest → (c ≡ b) ⊎ ((128 ≤ c) × (128 ≤ b))
    same_first c rest e =
        elim (cases_lt b 128) [
          | inl low ↦ inl (char_from_byte (b ∷ bs) rest c e low (omega arith))
          | inr high ↦ elim (cases_lt c 128) [
            | inl below ↦ inl (sym (byte_from_char (b ∷ bs) rest c e below))
            | inr above ↦ inr
                (above, high)
          ]
        ]

    by_characters : (cs : List ℕ) → chars (b ∷ bs) ≡ cs → encodes cs ≡ b ∷ bs → First b bs
    by_characters [] is e = absurd (cc e)
    by_characters (c ∷ cs) is e = record { character = c; others = cs; are = is; same = same_first c (encodes cs) (sym e) }
