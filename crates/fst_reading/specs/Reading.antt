-- Reading from the front of a list of tokens.
use Rattle.std.specs.Prelude.{ℕ, zero, suc, Bool, false, List, [], ◌∷◌, length, Option, Some, None, Result, Ok, Err}
use Rattle.fst_reading.specs.Lexeme.{Lexeme, spells, start}
use Rattle.fst_base.specs.Choice.{choose}

-- why reading stopped, and what was left there
pub data HaltOf (T : Type 0) : Type 0 where
  Syntax : List T → HaltOf T
  Deep : List T → HaltOf T

-- why reading lexemes stopped
abbrev pub Halt : Type 0
Halt = HaltOf Lexeme

-- reads a value and leaves what stands behind it
abbrev pub ReaderOf : Type 0 → Type 0 → Type 0
ReaderOf T A = List T → Result (A × List T) (HaltOf T)

-- reads a value from the front of lexemes
abbrev pub Reader : Type 0 → Type 0
Reader A = ReaderOf Lexeme A

-- a step and what follows it
unfoldable pub bind : {A B : Type 0} → Result A Halt → (A → Result B Halt) → Result B Halt
bind (Ok x) f = f x
bind (Err e) f = Err e

-- no token
unfoldable pub give : {A : Type 0} → A → Reader A
give x ts = Ok (x, ts)

-- one reader, and then another behind what it read
unfoldable pub andthen : {A B : Type 0} → Reader A → (A → Reader B) → Reader B
andthen f g ts = bind (f ts) (λ x. g x.0 x.1)

infixl 10 ◌>>=◌
-- one reader, and then another by what it read
abbrev pub ◌>>=◌ : {A B : Type 0} → Reader A → (A → Reader B) → Reader B
f >>= g = andthen f g

-- what a function makes of what is read
unfoldable pub map_reader : {A B : Type 0} → (A → B) → Reader A → Reader B
map_reader h f ts = bind (f ts) (λ x. Ok (h x.0, x.1))

-- what is read behind a token, by what the token stands for
abbrev pub switch_on : {A S : Type 0} → Option S → (S → Lexeme → Reader A) → Lexeme → Reader A
switch_on (Some s) f k ts = f s k ts
switch_on None f k ts = Err (Syntax (k ∷ ts))

-- one token that stands for something, and behind it a reader by what it stands for
unfoldable pub switch : {A S : Type 0} → (Lexeme → Option S) → (S → Lexeme → Reader A) → Reader A
switch p f [] = Err (Syntax [])
switch p f (k ∷ ts) = switch_on (p k) f k ts

-- one token that stands for something
abbrev pub one : {A : Type 0} → (Lexeme → Option A) → Reader A
one p = switch p (λ x k. give x)

-- the token that passes this test
unfoldable pub only : (Lexeme → Bool) → Lexeme → Option (Unit {0})
only test k = choose (test k) (Some tt) None

-- the token that is this reserved word or sign
abbrev pub word : List ℕ → Reader (Unit {0})
word w = one (only (spells w))

-- a reader that is told where its phrase begins
abbrev pub with_start : {A : Type 0} → (ℕ → Reader A) → Reader A
with_start f ts = f (start ts) ts

-- the end of the tokens
unfoldable pub finish : Reader (Unit {0})
finish [] = Ok (tt, [])
finish (k ∷ ts) = Err (Syntax (k ∷ ts))

-- whether the first token passes a test
abbrev pub begins : (Lexeme → Bool) → List Lexeme → Bool
begins test [] = false
begins test (k ∷ ts) = test k

-- what stands behind the first token
abbrev pub behind : List Lexeme → List Lexeme
behind [] = []
behind (k ∷ ts) = ts

-- behind a token that passes a test one reader, and else another
unfoldable pub on : {A : Type 0} → (Lexeme → Bool) → Reader A → Reader A → Reader A
on test f g ts = choose (begins test ts) (f (behind ts)) (g ts)

-- one behind the other, with a sign between each two: at most so many
unfoldable pub sep_by_within : {A : Type 0} → (Lexeme → Bool) → Reader A → ℕ → Reader (List A)
sep_by_within test f zero ts = Err (Syntax ts)
sep_by_within test f (suc n) ts = (f >>= λ a. on test
    (map_reader (λ bs. a ∷ bs) (sep_by_within test f n)) (give (a ∷ []))) ts

-- one behind the other, with a sign between each two
abbrev pub sep_by : {A : Type 0} → (Lexeme → Bool) → Reader A → Reader (List A)
sep_by test f ts = sep_by_within test f (length ts) ts

-- one reader where the first token passes a test, and else another
unfoldable pub when : {A : Type 0} → (Lexeme → Bool) → Reader A → Reader A → Reader A
when test f g ts = choose (begins test ts) (f ts) (g ts)

-- nothing, since what begins with a token that passes this test would be too deep
unfoldable pub shut : {A : Type 0} → (Lexeme → Bool) → Reader A
shut test ts = choose (begins test ts) (Err (Deep ts)) (Err (Syntax ts))

-- a step for each token that begins one, with the readers of what is inside it: at most so many, and each with one less
unfoldable pub repeat : {A B : Type 0} → (Lexeme → Bool) →
    (List B → A → Reader A) → List B → A → Reader A
repeat test step [] x = when test (shut test) (give x)
repeat test step (b ∷ bs) x = when test (step (b ∷ bs) x >>= repeat test step bs) (give x)

-- one behind the other as long as one begins: at most so many
unfoldable pub many_within : {A : Type 0} → (Lexeme → Bool) → Reader A → ℕ → Reader (List A)
many_within test f zero = give []
many_within test f (suc n) = when test (f >>= λ a. map_reader (λ bs. a ∷ bs) (many_within test f n))
    (give [])

-- one behind the other as long as one begins
abbrev pub many : {A : Type 0} → (Lexeme → Bool) → Reader A → Reader (List A)
many test f ts = many_within test f (length ts) ts
