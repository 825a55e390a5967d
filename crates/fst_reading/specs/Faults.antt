-- Where a phrase stands, where tokens stop being one, and where they are nested too deep.
use Rattle.std.specs.Prelude.{◌≡◌, ℕ, ◌≤◌, ◌<◌, Bool, true, false, List, [], ◌∷◌, ◌++◌, length, map, ⊤}
use Rattle.fst_base.specs.Limits.{most_nested}
use Rattle.fst_reading.specs.declared.fault.SyntaxFault.{SyntaxFault}
use Rattle.fst_reading.specs.declared.fault.SyntaxFault.TheVariants as fault
use Rattle.fst_reading.specs.Lexeme.{Lexeme}

-- a kind of phrase: its tokens, what they stand for, and how deep each of them is nested
abbrev pub PhraseOf : Type 0 → Type 0 → Type 1
PhraseOf T A = List T → A → List ℕ → Type 0

-- a kind of phrase of lexemes
abbrev pub Phrase : Type 0 → Type 1
Phrase A = PhraseOf Lexeme A

-- the same number for each of these tokens
abbrev pub level : ℕ → List Lexeme → List ℕ
level n ts = map (λ k. n) ts

-- no number is over the limit
abbrev pub IsWithinLimit : ℕ → List ℕ → Type 0
IsWithinLimit limit [] = Unit {0}
IsWithinLimit limit (n ∷ ns) = (n ≤ limit) × IsWithinLimit limit ns

-- the tokens begin with a phrase, and what is left can't make it longer
pub record Begins {T A : Type 0} (P : PhraseOf T A) (more : List T → Bool) (ts : List T) (x : A)
    (rest : List T) : Type 0 where
  pub tokens : List T
  pub nests : List ℕ
  pub parts : ts ≡ tokens ++ rest
  pub phrase : P tokens x nests
  pub ended : more rest ≡ false

-- so they do, and none of the phrase's tokens is over the limit
abbrev pub BeginsWithinLimit : {T A : Type 0} → ℕ → PhraseOf T A →
    (List T → Bool) → List T → A → List T → Type 0
BeginsWithinLimit limit P more ts x rest =
    (b : Begins P more ts x rest) × IsWithinLimit limit b.nests

-- some phrase begins with these tokens, none of which is over the limit
pub record IsViablePrefix {T A : Type 0} (limit : ℕ) (P : PhraseOf T A) (ts : List T) : Type 0 where
  pub others : List T
  pub value : A
  pub nests : List ℕ
  pub further : List ℕ
  pub phrase : P (ts ++ others) value (nests ++ further)
  pub count : length nests ≡ length ts
  pub low : IsWithinLimit limit nests

-- no phrase goes on behind these tokens with the first one here, or ends where none is left
abbrev pub NoneGoesOn : {T A : Type 0} → PhraseOf T A → (List T → Bool) → List T → List T → Type 0
NoneGoesOn {T} {A} P more ts [] = (x : A) (rest : List T) → Begins P more ts x rest → ⊥
NoneGoesOn {T} {A} P more ts (k ∷ here) =
    (others : List T) (x : A) (rest : List T) → Begins P more (ts ++ k ∷ others) x rest → ⊥

-- the tokens stop being a phrase here: those in front can go on, and with what is here none can
pub record IsFirstError {T A : Type 0} (limit : ℕ) (P : PhraseOf T A) (more : List T → Bool)
    (ts here : List T) : Type 0 where
  pub tokens : List T
  pub parts : ts ≡ tokens ++ here
  pub goes_on : IsViablePrefix limit P tokens
  pub none : NoneGoesOn P more tokens here

-- in some phrase that begins with the tokens up to and with the first one here, that one is the first over the limit
pub record IsTooDeep {T A : Type 0} (limit : ℕ) (P : PhraseOf T A) (ts here : List T) : Type 0 where
  pub tokens : List T
  pub token : T
  pub after : List T
  pub others : List T
  pub value : A
  pub nests : List ℕ
  pub nest : ℕ
  pub further : List ℕ
  pub parts : ts ≡ tokens ++ here
  pub is_here : here ≡ token ∷ after
  pub phrase : P (tokens ++ token ∷ others) value (nests ++ nest ∷ further)
  pub count : length nests ≡ length tokens
  pub low : IsWithinLimit limit nests
  pub over : limit < nest

-- a token is left
abbrev pub is_left : {T : Type 0} → List T → Bool
is_left [] = false
is_left (k ∷ ts) = true

-- why these tokens don't begin with such a phrase; the function says where tokens stand
abbrev pub Refuses : {T A : Type 0} → PhraseOf T A → (List T → Bool) →
    (List T → ℕ) → List T → SyntaxFault → Type 0
Refuses {T} P more where_is ts (fault.Syntax at) = (here : List T) ×
    (at ≡ where_is here) × IsFirstError most_nested P more ts here
Refuses {T} P more where_is ts (fault.TooDeep at) = (here : List T) ×
    (at ≡ where_is here) × IsTooDeep most_nested P ts here
Refuses P more where_is ts fault.Memory = ⊤
