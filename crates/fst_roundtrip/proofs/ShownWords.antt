-- What is read back but for its places, and words with blanks around them.
use Rattle.std.proofs.Common.{◌≡◌, true, ℕ, List, ◌++◌, refl, subst, sym}
use Rattle.std.specs.Prelude.{codes}
use Rattle.std.proofs.lemmas.List.{append-nil}
use Rattle.fst_lexer.specs.Classes.{is_reserved}
use Rattle.fst_lexer.specs.Spelling.{is_sign, ends_sign}
use Rattle.fst_reading.specs.Lexeme.{Lexeme, Is}
use Rattle.fst_roundtrip.proofs.Spelled.{Reads, Any, Empty, empty, One, Two, two, so, both, blank, reserved, sign_before}

-- lexemes that are such a phrase, the same as this one but for its places
pub record Shown {A B : Type 0} (Form : List Lexeme → A → Type 0) (bare : A → B) (x : A) (ts : List Lexeme) : Type 0 where
  pub wrote : A
  pub form : Form ts wrote
  pub same : bare wrote ≡ bare x

-- the same as a phrase of another form, which it has since it is the same
pub reshown_same : {A B : Type 0} {Q : List ℕ → Type 0} {F G : List Lexeme → A → Type 0} {bare : A → B} (text : List ℕ) (x : A) →
    ((ts : List Lexeme) (w : A) → bare w ≡ bare x → F ts w → G ts w) →
    Reads Q text (Shown F bare x) → Reads Q text (Shown G bare x)
reshown_same text x f r = so text (λ ts s. record { wrote = s.wrote; form = f ts s.wrote s.same s.form; same = s.same }) r

-- the same as a phrase of another form
pub reshown : {A B : Type 0} {Q : List ℕ → Type 0} {F G : List Lexeme → A → Type 0} {bare : A → B} (text : List ℕ) (x : A) →
    ((ts : List Lexeme) (w : A) → F ts w → G ts w) →
    Reads Q text (Shown F bare x) → Reads Q text (Shown G bare x)
reshown text x f r = reshown_same text x (λ ts w same. f ts w) r

-- with a blank behind it
pub blank_behind : {Q R : List ℕ → Type 0} {P : List Lexeme → Type 0} (text : List ℕ) →
    ((rest : List ℕ) → R rest → Q (codes " " ++ rest)) → Reads Q text P → Reads R (text ++ codes " ") P
blank_behind {R = R} {P = P} text apart r = so (text ++ codes " ") first (both text (codes " ") apart r (blank {Q = R} 32 refl))
  where
    first : (ts : List Lexeme) → Two P Empty ts → P ts
    first _ (two us _ x empty) = subst P (sym (append-nil us)) x

-- with a blank before it
pub blank_before : {Q : List ℕ → Type 0} {P : List Lexeme → Type 0} (text : List ℕ) → Reads Q text P →
    Reads Q (codes " " ++ text) P
blank_before {P = P} text r = so (codes " " ++ text) second (both (codes " ") text (λ rest q. tt) (blank {Q = Any} 32 refl) r)
  where
    second : (ts : List Lexeme) → Two Empty P ts → P ts
    second _ (two _ us empty x) = x

-- a reserved word with a blank behind it
pub word_blank : {Q : List ℕ → Type 0} (text : List ℕ) → is_reserved text ≡ true → Reads Q (text ++ codes " ") (One (Is text))
word_blank text is = blank_behind text (λ rest q. refl) (reserved text is)

-- a sign with a blank behind it
pub sign_blank : {Q : List ℕ → Type 0} (text : List ℕ) → is_sign text ≡ true →
    ((rest : List ℕ) → ends_sign text (codes " " ++ rest) ≡ true) → Reads Q (text ++ codes " ") (One (Is text))
sign_blank text is apart = blank_behind text (λ rest q. apart rest) (sign_before text is)
