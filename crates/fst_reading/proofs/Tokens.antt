-- What the tests on single tokens say.
use Rattle.std.proofs.Common.{◌≡◌, ℕ, zero, suc, ◌⊎◌, inl, inr, Bool, true, false, List, [], Option, Some, None, refl, ap, ◌∙◌, pos}
use Rattle.std.specs.Str.{bytes_eq}
use Rattle.std.proofs.lemmas.Slice.Eq.{bytes_eq-Decides}
use Rattle.fst_lexer.specs.declared.token.TokenKind.{TokenKind}
use Rattle.fst_lexer.specs.declared.token.TokenKind.TheVariants as kind
use Rattle.fst_reading.specs.Lexeme.{Lexeme, spells_by, spells, Is, IsLower, IsUpper, IsOne, lower_by, lower_of, upper_by, upper_of, one_by, is_one}
use Rattle.fst_reading.specs.Reading.{only}
use Rattle.fst_base.specs.Choice.{choose}
use Rattle.fst_base.proofs.Bools.{same_text}

-- a reserved word or a sign, made up
abbrev pub fixed : List ℕ → ℕ → Lexeme
fixed w n = record { kind = kind.Reserved; at = n; text = w }

abbrev pub a_lower : ℕ → Lexeme
a_lower n = record { kind = kind.Lower; at = n; text = [] }

abbrev pub an_upper : ℕ → Lexeme
an_upper n = record { kind = kind.Upper; at = n; text = [] }

pub fixed_is : (w : List ℕ) (n : ℕ) → Is w (fixed w n)
fixed_is w n = (bytes_eq-Decides w w).1 refl

-- two words are spelled alike where they are the same
spelled_by : (t : TokenKind) (w v text : List ℕ) → spells_by t w text ≡ true → spells_by t v text ≡ bytes_eq w v
spelled_by kind.Reserved w v text e = ap (λ z. bytes_eq z v) (same_text text w e)
spelled_by kind.Sign w v text e = ap (λ z. bytes_eq z v) (same_text text w e)
spelled_by _ w v text e = absurd cc

pub spelled : (w v : List ℕ) (k : Lexeme) → Is w k → spells v k ≡ bytes_eq w v
spelled w v k e = spelled_by k.kind w v k.text e

-- a token that is one word is no other
pub no_other : (w v : List ℕ) (k : Lexeme) → bytes_eq w v ≡ false → Is w k → spells v k ≡ false
no_other w v k n e = spelled w v k e ∙ n

abbrev here : Option (Unit {0})
here = Some tt

pub only_is : (test : Lexeme → Bool) (k : Lexeme) (x : Unit {0}) → only test k ≡ Some x → test k ≡ true
unfolding only choose
only_is test k x e = of_test (test k) refl e
  where
    of_test : (b : Bool) → test k ≡ b → choose b here None ≡ Some x → test k ≡ true
    of_test true is g = is
    of_test false is g = absurd cc

pub is_only : (test : Lexeme → Bool) (k : Lexeme) → test k ≡ true → only test k ≡ Some tt
unfolding only choose
is_only test k e = rw e refl

pub lower_is : (k x : Lexeme) → lower_of k ≡ Some x → IsLower k × (k ≡ x)
lower_is k x e = of_kind k.kind refl e
  where
    of_kind : (t : TokenKind) → k.kind ≡ t → lower_by t k ≡ Some x → IsLower k × (k ≡ x)
    of_kind kind.Lower is g = (is, (let same : k ≡ x = cc in same))
    of_kind _ is g = absurd cc

pub is_lower : (k : Lexeme) → IsLower k → lower_of k ≡ Some k
is_lower k e = rw e refl

pub upper_is : (k x : Lexeme) → upper_of k ≡ Some x → IsUpper k × (k ≡ x)
upper_is k x e = of_kind k.kind refl e
  where
    of_kind : (t : TokenKind) → k.kind ≡ t → upper_by t k ≡ Some x → IsUpper k × (k ≡ x)
    of_kind kind.Upper is g = (is, (let same : k ≡ x = cc in same))
    of_kind _ is g = absurd cc

pub is_upper : (k : Lexeme) → IsUpper k → upper_of k ≡ Some k
is_upper k e = rw e refl

pub one_is : (k : Lexeme) → is_one k ≡ true → IsOne k
one_is k e = of_kind k.kind refl e
  where
    of_kind : (t : TokenKind) → k.kind ≡ t → one_by t ≡ true → IsOne k
    of_kind (kind.Number (pos (suc zero))) is g = is
    of_kind _ is g = absurd cc

pub is_one_so : (k : Lexeme) → IsOne k → is_one k ≡ true
is_one_so k e = rw e refl

-- a number is no word and no sign
pub one_spells : (w : List ℕ) (k : Lexeme) → IsOne k → spells w k ≡ false
one_spells w k e = rw e refl

pub word_not_one : (w : List ℕ) (k : Lexeme) → Is w k → is_one k ≡ false
word_not_one w k e = of_kind k.kind e
  where
    of_kind : (t : TokenKind) → spells_by t w k.text ≡ true → one_by t ≡ false
    of_kind kind.Reserved g = refl
    of_kind kind.Sign g = refl
    of_kind _ g = absurd cc

-- the token is a reserved word or a sign with this text
pub spelled_so : (t : TokenKind) (w text : List ℕ) → bytes_eq text w ≡ true → (t ≡ kind.Reserved) ⊎
    (t ≡ kind.Sign) → spells_by t w text ≡ true
spelled_so t w text e (inl is) = rw is e
spelled_so t w text e (inr is) = rw is e

-- a value that is there is one
pub some_is : {A : Type 0} (x y : A) → Some x ≡ Some y → x ≡ y
some_is x y e = cc
