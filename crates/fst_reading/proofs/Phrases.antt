-- What is to be shown of a reader: that it reads just the phrases of a kind, and stops at the first token with which none goes on.
use Rattle.std.proofs.Common.{◌≡◌, ℕ, suc, ◌<◌, Bool, true, false, List, [], ◌∷◌, ◌++◌, length, Option, Some, Result, Ok, Err}
use Rattle.fst_reading.specs.Lexeme.{Lexeme, start}
use Rattle.fst_reading.specs.Faults.{PhraseOf, Phrase, IsWithinLimit}
use Rattle.fst_reading.specs.Reading.{HaltOf, Halt, Syntax, Deep, ReaderOf, Reader}

-- what was left where reading stopped
abbrev pub left : {T : Type 0} → HaltOf T → List T
left (Syntax s) = s
left (Deep s) = s

-- the tokens begin with a phrase of which no token is over the limit
pub record Found {T A : Type 0} (limit : ℕ) (P : PhraseOf T A) (ts : List T) (x : A) (rest : List T) : Type 0 where
  pub tokens : List T
  pub nests : List ℕ
  pub parts : ts ≡ tokens ++ rest
  pub phrase : P tokens x nests
  pub low : IsWithinLimit limit nests

-- where the limit was met: this token is over it, and is the first of those that complete the phrase
pub record IsOver {T : Type 0} (limit : ℕ) (s others : List T) (high : List ℕ) : Type 0 where
  pub token : T
  pub after : List T
  pub further : List T
  pub nest : ℕ
  pub nests : List ℕ
  pub here : s ≡ token ∷ after
  pub first : others ≡ token ∷ further
  pub highest : high ≡ nest ∷ nests
  pub over : limit < nest

abbrev pub Over : {T : Type 0} → HaltOf T → ℕ → List T → List ℕ → Type 0
Over (Syntax s) limit others high = Unit {0}
Over (Deep s) limit others high = IsOver limit s others high

-- some phrase begins with the tokens in front of the place where reading stopped, none of which is over the limit
pub record StoppedAt {T A : Type 0} (limit : ℕ) (P : PhraseOf T A) (h : HaltOf T) (ts : List T) : Type 0 where
  pub tokens : List T
  pub others : List T
  pub value : A
  pub nests : List ℕ
  pub high : List ℕ
  pub parts : ts ≡ tokens ++ left h
  pub phrase : P (tokens ++ others) value (nests ++ high)
  pub count : length nests ≡ length tokens
  pub low : IsWithinLimit limit nests
  pub over : Over h limit others high

-- so it does, and it begins where the tokens do
pub record Stopped {A : Type 0} (limit : ℕ) (P : Phrase A) (h : Halt) (ts : List Lexeme) : Type 0 where
  pub tokens : List Lexeme
  pub others : List Lexeme
  pub value : A
  pub nests : List ℕ
  pub high : List ℕ
  pub parts : ts ≡ tokens ++ left h
  pub phrase : P (tokens ++ others) value (nests ++ high)
  pub count : length nests ≡ length tokens
  pub low : IsWithinLimit limit nests
  pub over : Over h limit others high
  pub begins_so : 0 < length (tokens ++ others) → start (tokens ++ others) ≡ start ts

-- a phrase and what stands behind it is read, or refused at its first token over the limit
pub data Outcome {T A : Type 0} (limit : ℕ) (f : ReaderOf T A) (us : List T) (x : A) (ns : List ℕ) (rest : List T) : Type 0 where
  whole : IsWithinLimit limit ns → f (us ++ rest) ≡ Ok (x, rest) → Outcome limit f us x ns rest
  deep : (pre v : List T) (k : T) (low high : List ℕ) (n : ℕ) → us ≡ pre ++ k ∷ v → ns ≡ low ++ n ∷ high →
      length low ≡ length pre → IsWithinLimit limit low → limit < n →
      f (us ++ rest) ≡ Err (Deep (k ∷ v ++ rest)) → Outcome limit f us x ns rest

-- what is left by a step
abbrev pub left_by : {T A : Type 0} → Result (A × List T) (HaltOf T) → List T
left_by (Ok x) = x.1
left_by (Err h) = left h

-- the same step with other tokens left
abbrev pub leaving : {T A : Type 0} → Result (A × List T) (HaltOf T) → List T → Result (A × List T) (HaltOf T)
leaving (Ok x) s = Ok (x.0, s)
leaving (Err (Syntax t)) s = Err (Syntax s)
leaving (Err (Deep t)) s = Err (Deep s)

-- where the first step stops no later than at this token, the second is the same with other tokens behind it
abbrev pub SameUpTo : {T A : Type 0} → T → List T → List T → Result (A × List T) (HaltOf T) → Result (A × List T) (HaltOf T) →
    Type 0
SameUpTo {T} k r r' a b = (w : List T) → left_by a ≡ w ++ k ∷ r → b ≡ leaving a (w ++ k ∷ r')

-- the reader reads just these phrases; behind one of them it looks for more where this test says so
pub record ReadsJust {T A : Type 0} (limit : ℕ) (f : ReaderOf T A) (P : PhraseOf T A) (more : List T → Bool) : Type 0 where
  pub found : (ts : List T) (x : A) (rest : List T) → f ts ≡ Ok (x, rest) → Found limit P ts x rest
  pub stopped : (ts : List T) (h : HaltOf T) → f ts ≡ Err h → StoppedAt limit P h ts
  pub reads : (us : List T) (x : A) (ns : List ℕ) (rest : List T) → P us x ns → more rest ≡ false → Outcome limit f us x ns rest
  pub alike : (k : T) (r r' w : List T) → SameUpTo k r r' (f (w ++ k ∷ r)) (f (w ++ k ∷ r'))

-- so it does, and where it stops the phrase begins where the tokens do
pub record Reads {A : Type 0} (limit : ℕ) (f : Reader A) (P : Phrase A) (more : List Lexeme → Bool) : Type 0 where
  pub found : (ts : List Lexeme) (x : A) (rest : List Lexeme) → f ts ≡ Ok (x, rest) → Found limit P ts x rest
  pub stopped : (ts : List Lexeme) (h : Halt) → f ts ≡ Err h → Stopped limit P h ts
  pub reads : (us : List Lexeme) (x : A) (ns : List ℕ) (rest : List Lexeme) → P us x ns → more rest ≡ false →
      Outcome limit f us x ns rest
  pub alike : (k : Lexeme) (r r' w : List Lexeme) → SameUpTo k r r' (f (w ++ k ∷ r)) (f (w ++ k ∷ r'))
  pub counted : (us : List Lexeme) (x : A) (ns : List ℕ) → P us x ns → length ns ≡ length us

pub reads_just : {A : Type 0} {limit : ℕ} {f : Reader A} {P : Phrase A} {more : List Lexeme → Bool} → Reads limit f P more →
    ReadsJust limit f P more
reads_just r = record {
  found = r.found;
  stopped = λ ts h e.
      let q = r.stopped ts h e in
      record {
        tokens = q.tokens;
        others = q.others;
        value = q.value;
        nests = q.nests;
        high = q.high;
        parts = q.parts;
        phrase =
            q.phrase;
        count = q.count;
        low = q.low;
        over = q.over;
      };
  reads = r.reads;
  alike = r.alike;
}

-- nothing goes on
abbrev pub never : List Lexeme → Bool
never ts = false

-- no token
pub data Give {A : Type 0} (x : A) : List Lexeme → A → List ℕ → Type 0 where
  nothing : Give x [] x []

-- one phrase and then another
pub data Then {A B : Type 0} (P : Phrase A) (Q : A → Phrase B) : List Lexeme → B → List ℕ → Type 0 where
  pair : (ts us vs : List Lexeme) (x : A) (y : B) (ns ms ks : List ℕ) → P us x ms → Q x vs y ks → ts ≡ us ++ vs → ns ≡ ms ++ ks →
      Then P Q ts y ns

-- a phrase that stands for what a function makes of it
pub data Mapped {A B : Type 0} (h : A → B) (P : Phrase A) : List Lexeme → B → List ℕ → Type 0 where
  made : (ts : List Lexeme) (x : A) (ns : List ℕ) → P ts x ns → Mapped h P ts (h x) ns

-- a token that stands for something, and behind it a phrase by what it stands for
pub data Switch {A S : Type 0} (d : ℕ) (p : Lexeme → Option S) (P : S → Lexeme → Phrase A) : List Lexeme → A → List ℕ →
    Type 0 where
  first : (k : Lexeme) (s : S) (ts : List Lexeme) (x : A) (ns : List ℕ) → p k ≡ Some s → P s k ts x ns →
      Switch d p P (k ∷ ts) x (d ∷ ns)

-- a phrase behind a token that passes a test, or another phrase
pub data On {A : Type 0} (d : ℕ) (test : Lexeme → Bool) (P Q : Phrase A) : List Lexeme → A → List ℕ → Type 0 where
  taken : (k : Lexeme) (ts : List Lexeme) (x : A) (ns : List ℕ) → test k ≡ true → P ts x ns → On d test P Q (k ∷ ts) x (d ∷ ns)
  other : (ts : List Lexeme) (x : A) (ns : List ℕ) → Q ts x ns → On d test P Q ts x ns

-- a phrase by where it begins
pub data Located {A : Type 0} (P : ℕ → Phrase A) : List Lexeme → A → List ℕ → Type 0 where
  at : (k : Lexeme) (ts : List Lexeme) (x : A) (ns : List ℕ) → P k.at (k ∷ ts) x ns → Located P (k ∷ ts) x ns

-- one behind the other, with a token that passes a test between each two
pub data Separated {A : Type 0} (d : ℕ) (test : Lexeme → Bool) (P : Phrase A) : List Lexeme → List A → List ℕ → Type 0 where
  last : (ts : List Lexeme) (x : A) (ns : List ℕ) → P ts x ns → Separated d test P ts (x ∷ []) ns
  further : (ts us vs : List Lexeme) (k : Lexeme) (x : A) (xs : List A) (ns ms ks : List ℕ) →
      P us x ms → test k ≡ true → Separated d test P vs xs ks → ts ≡ us ++ k ∷ vs → ns ≡ ms ++ d ∷ ks →
      Separated d test P ts (x ∷ xs) ns

-- one of two phrases
pub data Either {A : Type 0} (P Q : Phrase A) : List Lexeme → A → List ℕ → Type 0 where
  one : (ts : List Lexeme) (x : A) (ns : List ℕ) → P ts x ns → Either P Q ts x ns
  other : (ts : List Lexeme) (x : A) (ns : List ℕ) → Q ts x ns → Either P Q ts x ns

-- step behind step, the first one nested so deep, and each other one deeper than the one before it
pub data Repeat {A : Type 0} (S : ℕ → A → Phrase A) : ℕ → A → List Lexeme → A → List ℕ → Type 0 where
  enough : (e : ℕ) (x : A) → Repeat S e x [] x []
  again : (ts us vs : List Lexeme) (e : ℕ) (x y z : A) (ns ms ks : List ℕ) →
      S e x us y ms → Repeat S (suc e) y vs z ks → ts ≡ us ++ vs → ns ≡ ms ++ ks → Repeat S e x ts z ns

-- one behind the other
pub data Many {A : Type 0} (P : Phrase A) : List Lexeme → List A → List ℕ → Type 0 where
  none : Many P [] [] []
  some : (ts us vs : List Lexeme) (x : A) (xs : List A) (ns ms ks : List ℕ) → P us x ms → Many P vs xs ks → ts ≡ us ++ vs →
      ns ≡ ms ++ ks → Many P ts (x ∷ xs) ns
