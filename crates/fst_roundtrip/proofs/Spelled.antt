-- Texts that are put together from words, and what stands in these words.
use Rattle.std.proofs.Common.{◌≡◌, Bool, true, false, not, ◌&&◌, ℕ, List, [], ◌∷◌, ◌++◌, map, refl, sym, ap, subst, ◌∙◌, append_assoc, arith}
use Rattle.std.specs.Prelude.{⊤, pos, codes}
use Rattle.std.specs.Str.{byte, bytes_eq}
use Rattle.std.proofs.lemmas.Fmt.{decimal_digit}
use Rattle.std.proofs.lemmas.List.{map-append}
use Rattle.std.proofs.lemmas.Slice.Eq.{bytes_eq-Decides}
use Rattle.fst_types.specs.declared.base.Base.{Base}
use Rattle.fst_types.specs.declared.base.Base.TheVariants as base
use Rattle.fst_types.specs.declared.kind.Use.{Use}
use Rattle.fst_types.specs.declared.kind.Use.TheVariants.{Many, Once}
use Rattle.fst_lexer.specs.declared.token.TokenKind.{TokenKind}
use Rattle.fst_lexer.specs.declared.token.TokenKind.TheVariants as kind
use Rattle.fst_lexer.specs.Classes.{is_blank, is_feed, is_reserved}
use Rattle.fst_lexer.specs.Spelling as spelling
use Rattle.fst_lexer.specs.Spelling.{Word, LinedWord, IsWordOf, IsWord, IsSpelled, StandsApart, is_sign, ends_before, ends_name, ends_number, ends_sign}
use Rattle.fst_reading.specs.Lexeme.{Lexeme, Is, IsLower, IsUpper, IsOne}
use Rattle.fst_type_syntax.specs.Grammar.{IsBase, int, bool, char, unit, IsArrow, many, once}
use Rattle.fst_type_print.specs.Texts.{base_text, arrow_text, in_parens}

-- a lexeme as a word: its kind and its text
abbrev pub word_of : Lexeme → Word
word_of k = record { kind = k.kind; text = k.text }

-- a word that begins no line
abbrev pub inside : Word → LinedWord
inside w = record { first = false; word = w }

-- before a rest of which Q holds the text has these words, none of which begins a line, and P holds of any lexemes that are these words
pub record Reads (Q : List ℕ → Type 0) (text : List ℕ) (P : List Lexeme → Type 0) : Type 0 where
  pub words : List Word
  pub spelled : (rest : List ℕ) (more : List LinedWord) → Q rest → IsSpelled false rest more →
      IsSpelled false (text ++ rest) (map inside words ++ more)
  pub read : (ts : List Lexeme) → map word_of ts ≡ words → P ts

-- any rest, and one that ends a name
abbrev pub Any : List ℕ → Type 0
Any rest = ⊤

abbrev pub EndsName : List ℕ → Type 0
EndsName rest = ends_name rest ≡ true

-- no lexeme
pub data Empty : List Lexeme → Type 0 where
  empty : Empty []

-- one lexeme
pub data One (P : Lexeme → Type 0) : List Lexeme → Type 0 where
  one : (k : Lexeme) → P k → One P (k ∷ [])

-- lexemes of one sort, and behind them of another
pub data Two (P S : List Lexeme → Type 0) : List Lexeme → Type 0 where
  two : (ts us : List Lexeme) → P ts → S us → Two P S (ts ++ us)

-- what follows from what stands there
pub so : {Q : List ℕ → Type 0} {P S : List Lexeme → Type 0} (text : List ℕ) →
    ((ts : List Lexeme) → P ts → S ts) → Reads Q text P → Reads Q text S
so text f r = record { words = r.words; spelled = r.spelled; read = λ ts e. f ts (r.read ts e) }

-- the same before other rests
pub before : {Q R : List ℕ → Type 0} {P : List Lexeme → Type 0} (text : List ℕ) →
    ((rest : List ℕ) → R rest → Q rest) → Reads Q text P → Reads R text P
before text f r = record { words = r.words; spelled = λ rest more q s. r.spelled rest more (f rest q) s; read = r.read }

-- a list of which the images are two lists
pub record Halves {A B : Type 0} (f : A → B) (xs : List A) (ys zs : List B) : Type 0 where
  pub front : List A
  pub back : List A
  pub parts : front ++ back ≡ xs
  pub first : map f front ≡ ys
  pub second : map f back ≡ zs

pub halves : {A B : Type 0} (f : A → B) (xs : List A) (ys zs : List B) → map f xs ≡ ys ++ zs → Halves f xs ys zs
halves f xs [] zs e = record { front = []; back = xs; parts = refl; first = refl; second = e }
halves f [] (y ∷ ys) zs e = absurd (cc e)
halves f (x ∷ xs) (y ∷ ys) zs e =
    let head : f x ≡ y = cc in
    let tail : map f xs ≡ ys ++ zs = cc in
    let h = halves f xs ys zs tail in
    record {
      front = x ∷ h.front;
      back = h.back;
      parts = ap (λ w. x ∷ w) h.parts;
      first = let same = h.first in cc;
      second =
          h.second;
    }

-- two texts, one behind the other
pub both : {Q R : List ℕ → Type 0} {P S : List Lexeme → Type 0} (a b : List ℕ) →
    ((rest : List ℕ) → R rest → Q (b ++ rest)) → Reads Q a P → Reads R b S → Reads R (a ++ b) (Two P S)
both {P = P} {S = S} a b apart x y = record {
  words = x.words ++ y.words;
  spelled = λ rest more q s.
      let words-are : map inside (x.words ++ y.words) ++ more ≡ map inside x.words ++ (map inside y.words ++ more) =
      ap (λ ws. ws ++ more) (map-append inside x.words y.words) ∙ append_assoc (map inside x.words) (map inside y.words) more in
      rw (append_assoc a b rest, words-are) (x.spelled (b ++ rest) (map inside y.words ++ more) (apart rest q)
      (y.spelled rest more q s));
  read = λ ts e.
      let h = halves word_of ts x.words y.words e in
      subst (Two P S) h.parts (two h.front h.back (x.read h.front h.first) (y.read h.back h.second));
}

-- a blank that ends no line
pub blank : {Q : List ℕ → Type 0} (c : ℕ) → (is_blank c && not (is_feed c)) ≡ true → Reads Q (c ∷ []) Empty
blank c is = record {
  words = [];
  spelled = λ rest more q s. let h = parts (is_blank c) (is_feed c) is in
      spelling.blank false c rest more h.0 (rw h.1 s);
  read = none;
}
  where
    parts : (a b : Bool) → (a && not b) ≡ true → (a ≡ true) × (b ≡ false)
    parts true false e = (refl, refl)
    parts _ _ e = absurd (cc e)

    none : (ts : List Lexeme) → map word_of ts ≡ [] → Empty ts
    none [] e = empty
    none (k ∷ ts) e = absurd (cc e)

-- a word
pub word : {Q : List ℕ → Type 0} {P : Lexeme → Type 0} (k : TokenKind) (text : List ℕ) → IsWordOf k text →
    ((rest : List ℕ) → Q rest → ends_before k text rest ≡ true) →
    ((l : Lexeme) → l.kind ≡ k → l.text ≡ text → P l) → Reads Q text (One P)
word {P = P} k text is apart means = record {
  words = w ∷ [];
  spelled = λ rest more q s. spelling.word false w (text ++ rest) rest more is (apart rest q) refl s;
  read = single;
}
  where
    w : Word
    w = record { kind = k; text = text }

    single : (ts : List Lexeme) → map word_of ts ≡ w ∷ [] → One P ts
    single [] e = absurd (cc e)
    single (l ∷ []) e =
        let same : word_of l ≡ w = cc in
        one l (means l (ap (λ (v : Word). v.kind) same) (ap (λ (v : Word). v.text) same))
    single (l ∷ m ∷ ts) e = absurd (cc e)

itself : (text : List ℕ) → bytes_eq text text ≡ true
itself text = (bytes_eq-Decides text text).1 refl

-- a reserved word
pub reserved : (text : List ℕ) → is_reserved text ≡ true → Reads EndsName text (One (Is text))
reserved text is = word kind.Reserved text is (λ rest q. q) (λ l k t. rw (k, t) (itself text))

-- a sign
pub sign_before : (text : List ℕ) → is_sign text ≡ true → Reads (λ rest. ends_sign text rest ≡ true) text (One (Is text))
sign_before text is = word kind.Sign text is (λ rest q. q) (λ l k t. rw (k, t) (itself text))

-- a sign that no rest makes longer
pub long_sign : {Q : List ℕ → Type 0} (text : List ℕ) → is_sign text ≡ true →
    ((rest : List ℕ) → ends_sign text rest ≡ true) → Reads Q text (One (Is text))
long_sign text is apart = before text (λ rest q. apart rest) (sign_before text is)

pub sign : {Q : List ℕ → Type 0} (c : ℕ) → is_sign (c ∷ []) ≡ true →
    ((b : ℕ) → ends_sign (c ∷ []) (b ∷ []) ≡ true) → Reads Q (c ∷ []) (One (Is (c ∷ [])))
sign c is apart = long_sign (c ∷ []) is ends
  where
    ends : (rest : List ℕ) → ends_sign (c ∷ []) rest ≡ true
    ends [] = refl
    ends (b ∷ rest) = apart b

-- the number 1
pub number_one : Reads (λ rest. ends_number rest ≡ true) (codes "1") (One IsOne)
number_one = word (kind.Number (pos 1)) (codes "1") (omega arith, sym (decimal_digit 1 (omega arith))) (λ rest q. q) (λ l k t. k)

-- a lower name, and an upper one
pub lower_name : (text : List ℕ) → IsWordOf kind.Lower text → Reads EndsName text (One (λ k. IsLower k × (k.text ≡ text)))
lower_name text is = word kind.Lower text is (λ rest q. q) (λ l k t. (k, t))

pub upper_name : (text : List ℕ) → IsWordOf kind.Upper text → Reads EndsName text (One (λ k. IsUpper k × (k.text ≡ text)))
upper_name text is = word kind.Upper text is (λ rest q. q) (λ l k t. (k, t))

-- with a blank behind it
one_only : (P : Lexeme → Type 0) (ts : List Lexeme) → Two (One P) Empty ts → One P ts
one_only P _ (two _ _ (one k is) empty) = one k is

-- a sign with a blank behind it
pub spaced : {Q : List ℕ → Type 0} (c : ℕ) → is_sign (c ∷ []) ≡ true →
    ((b : ℕ) → ends_sign (c ∷ []) (b ∷ []) ≡ true) → Reads Q (c ∷ codes " ") (One (Is (c ∷ [])))
spaced c is apart = so (c ∷ codes " ") (one_only (Is (c ∷ [])))
    (both (c ∷ []) (codes " ") (λ rest q. tt) (sign {Q = Any} c is apart) (blank 32 refl))

-- `rec` and a blank
pub rec_word : {Q : List ℕ → Type 0} → Reads Q (codes "rec ") (One (Is (codes "rec")))
rec_word = so (codes "rec ") (one_only (Is (codes "rec")))
    (both (codes "rec") (codes " ") (λ rest q. refl) (reserved (codes "rec") refl) (blank 32 refl))

-- `->` and a blank
pub arrow_sign : {Q : List ℕ → Type 0} → Reads Q (codes "-> ") (One (Is (codes "->")))
arrow_sign = so (codes "-> ") (one_only (Is (codes "->")))
    (both (codes "->") (codes " ") (λ rest q. tt) (long_sign {Q = Any} (codes "->") refl (λ rest. refl)) (blank 32 refl))

-- the arrows
pub arrow_reads : {Q : List ℕ → Type 0} (u : Use) → Reads Q (arrow_text u) (λ ts. IsArrow ts u)
arrow_reads Many = so (codes " -> ") stands (both (codes " ") (codes "-> ") (λ rest q. tt) (blank {Q = Any} 32 refl) arrow_sign)
  where
    stands : (ts : List Lexeme) → Two Empty (One (Is (codes "->"))) ts → IsArrow ts Many
    stands _ (two _ _ empty (one k is)) = many k is
arrow_reads Once = so (codes " 1-> ") stands (both (codes " ") (codes "1-> ")
    (λ rest q. tt) (blank {Q = Any} 32 refl) (both (codes "1") (codes "-> ") (λ rest q. refl) number_one arrow_sign))
  where
    stands : (ts : List Lexeme) → Two Empty (Two (One IsOne) (One (Is (codes "->")))) ts → IsArrow ts Once
    stands _ (two _ _ empty (two _ _ (one n is) (one k is'))) = once n k is is'

-- base types
pub base_reads : (b : Base) → Reads EndsName (base_text b) (λ ts. IsBase ts b)
base_reads base.Int = so (codes "Int") stands (reserved (codes "Int") refl)
  where
    stands : (ts : List Lexeme) → One (Is (codes "Int")) ts → IsBase ts base.Int
    stands _ (one k is) = int k is
base_reads base.Bool = so (codes "Bool") stands (reserved (codes "Bool") refl)
  where
    stands : (ts : List Lexeme) → One (Is (codes "Bool")) ts → IsBase ts base.Bool
    stands _ (one k is) = bool k is
base_reads base.Char = so (codes "Char") stands (reserved (codes "Char") refl)
  where
    stands : (ts : List Lexeme) → One (Is (codes "Char")) ts → IsBase ts base.Char
    stands _ (one k is) = char k is
base_reads base.Unit = so (codes "()") stands (both (codes "(") (codes ")")
    (λ rest q. tt) (sign {Q = Any} (byte "(") refl (λ b. refl)) (sign (byte ")") refl (λ b. refl)))
  where
    stands : (ts : List Lexeme) → Two (One (Is (codes "("))) (One (Is (codes ")"))) ts → IsBase ts base.Unit
    stands _ (two _ _ (one k is) (one c is')) = unit k c is is'

-- two parts between parentheses
pub parts_of_pair : {P Q : List Lexeme → Type 0} (left right : List ℕ) → Reads EndsName left P → Reads EndsName right Q →
    Reads EndsName (in_parens (left ++ codes ", " ++ right))
    (Two (Two (One (Is (codes "("))) (Two (Two P (One (Is (codes ",")))) Q)) (One (Is (codes ")"))))
parts_of_pair left right l r =
    both (codes "(" ++ (left ++ codes ", " ++ right)) (codes ")") (λ rest q. refl)
    (both (codes "(") (left ++ codes ", " ++ right) (λ rest q. tt) (sign {Q = Any} (byte "(") refl (λ b. refl))
    (both (left ++ codes ", ") right (λ rest q. tt)
    (both left (codes ", ") (λ rest q. refl) l (spaced {Q = Any} (byte ",") refl (λ b. refl))) r))
    (sign (byte ")") refl (λ b. refl))
