-- Words and names as phrases, a phrase behind one of them, and samples of phrases.
use Rattle.std.proofs.Common.{◌≡◌, ℕ, suc, ◌+◌, ◌≤◌, ◌<◌, Bool, List, [], ◌∷◌, ◌++◌, length, Option, Some, refl, sym, ap, ◌∙◌, arith}
use Rattle.fst_reading.specs.Lexeme.{Lexeme, spells, Is, start, lower_of, upper_of}
use Rattle.fst_reading.specs.Faults.{Phrase, level}
use Rattle.fst_reading.specs.Reading.{Reader, andthen, only, word, begins}
use Rattle.fst_reading.specs.Reading as reading
use Rattle.fst_reading.proofs.Phrases as phrase
use Rattle.fst_reading.proofs.Phrases.{Reads, never, nothing, Then, Mapped, made, first}
use Rattle.fst_reading.proofs.Steps.{SomePhrase}
use Rattle.fst_reading.proofs.Parts.{One, reads_one}
use Rattle.fst_reading.proofs.Sequences.{reads_then}
use Rattle.fst_reading.proofs.Tokens.{fixed, fixed_is, a_lower, an_upper, is_only}
use Rattle.std.specs.Prelude.{codes}

-- this reserved word or sign, with this nesting
abbrev pub Word : ℕ → List ℕ → Phrase (Unit {0})
Word d w = One d (only (spells w))

pub word_at : (d : ℕ) (w : List ℕ) (c : Lexeme) → Is w c → Word d w (c ∷ []) tt (d ∷ [])
word_at d w c is = first c tt [] tt [] (is_only (spells w) c is) nothing

-- the same phrase, said of equal things
pub moved : {A : Type 0} (P : Phrase A) (ts us : List Lexeme) (x y : A) (ns ms : List ℕ) → ts ≡ us → x ≡ y → ns ≡ ms → P us y ms →
    P ts x ns
moved P ts us x y ns ms a b c p = rw (a, b, c) p

-- the tokens begin with one of which this is so
abbrev pub BeginsWith : (Lexeme → Type 0) → ℕ → List Lexeme → List ℕ → Type 0
BeginsWith Q d ts ns = (k : Lexeme) × (us : List Lexeme) × (ms : List ℕ) × (ts ≡ k ∷ us) × (ns ≡ d ∷ ms) × Q k

pub filled_by : (Q : Lexeme → Type 0) (d : ℕ) (ts : List Lexeme) (ns : List ℕ) → BeginsWith Q d ts ns → 0 < length ts
filled_by Q d ts ns b = omega (arith, ap length b.3)

-- a phrase in front begins where the whole does
pub front_start : (Q : Lexeme → Type 0) (d : ℕ) (us vs ws : List Lexeme) (ms : List ℕ) (k : Lexeme) → BeginsWith Q d us ms →
    k ∷ ws ≡ us ++ vs → start us ≡ k.at
front_start Q d us vs ws ms k b e =
    let whole : k ∷ ws ≡ b.0 ∷ (b.1 ++ vs) = e ∙ ap (λ (w : List Lexeme). w ++ vs) b.3 in
    let same : k ≡ b.0 = cc in
    ap start b.3 ∙ ap (λ (z : Lexeme). z.at) (sym same)

pub level_count : (n : ℕ) (ts : List Lexeme) → length (level n ts) ≡ length ts
level_count n [] = refl
level_count n (k ∷ ts) = ap suc (level_count n ts)

pub level_append : (n : ℕ) (ts us : List Lexeme) → level n (ts ++ us) ≡ level n ts ++ level n us
level_append n [] us = refl
level_append n (k ∷ ts) us = ap (λ (w : List ℕ). n ∷ w) (level_append n ts us)

pub sample_word : (d : ℕ) (w : List ℕ) → SomePhrase (Word d w)
sample_word d w = record {
  tokens = fixed w 0 ∷ [];
  value = tt;
  nests = d ∷ [];
  phrase =
      first (fixed w 0) tt [] tt [] (is_only (spells w) (fixed w 0) (fixed_is w 0)) nothing;
}

pub sample_mapped : {A B : Type 0} (h : A → B) (P : Phrase A) → SomePhrase P → SomePhrase (Mapped h P)
sample_mapped h P s = record {
  tokens = s.tokens;
  value = h s.value;
  nests = s.nests;
  phrase =
      made s.tokens s.value s.nests s.phrase;
}

pub sample_then : {A B : Type 0} (P : Phrase A) (Q : A → Phrase B) → SomePhrase P →
    ((x : A) → SomePhrase (Q x)) → SomePhrase (Then P Q)
sample_then P Q s q =
    let t = q s.value in
    record {
      tokens = s.tokens ++ t.tokens;
      value = t.value;
      nests = s.nests ++ t.nests;
      phrase =
          phrase.pair _ s.tokens t.tokens s.value t.value _ s.nests t.nests s.phrase t.phrase refl refl;
    }

pub one_filled : {A : Type 0} (d : ℕ) (p : Lexeme → Option A) (us : List Lexeme) (x : A) (ns : List ℕ) → One d p us x ns →
    0 < length us
one_filled d p _ _ _ (first k s ts x ns e q) = omega arith

-- one token, and then a phrase
module _ {A B : Type 0} (limit d : ℕ) (low : d ≤ limit) (p : Lexeme → Option A)
    (samples : (n : ℕ) → (k : Lexeme) × (x : A) × (k.at ≡ n) × (p k ≡ Some x))
    (g : A → Reader B) (Q : A → Phrase B) (more : List Lexeme → Bool) (s : (x : A) → Reads limit (g x) (Q x) more)
    (some : (x : A) → SomePhrase (Q x)) where
  pub reads_first : Reads limit (andthen (reading.one p) g) (Then (One d p) Q) more
  reads_first = reads_then limit (reading.one p) g (One d p) Q never more (reads_one limit d low p samples) s some
      (one_filled d p) (λ us x ns vs y ms rest q stop. refl)

pub words : (w : List ℕ) (n : ℕ) → (k : Lexeme) × (x : Unit {0}) × (k.at ≡ n) × (only (spells w) k ≡ Some x)
words w n = (fixed w n, tt, refl, is_only (spells w) (fixed w n) (fixed_is w n))

pub lowers : (n : ℕ) → (k : Lexeme) × (x : Lexeme) × (k.at ≡ n) × (lower_of k ≡ Some x)
lowers n = (a_lower n, a_lower n, refl, refl)

pub uppers : (n : ℕ) → (k : Lexeme) × (x : Lexeme) × (k.at ≡ n) × (upper_of k ≡ Some x)
uppers n = (an_upper n, an_upper n, refl, refl)

pub reads_word : (limit d : ℕ) → d ≤ limit → (w : List ℕ) → Reads limit (word w) (Word d w) never
reads_word limit d low w = reads_one limit d low (only (spells w)) (words w)

pub sample_one : {A : Type 0} (d : ℕ) (p : Lexeme → Option A) →
    ((n : ℕ) → (k : Lexeme) × (x : A) × (k.at ≡ n) × (p k ≡ Some x)) → SomePhrase (One d p)
sample_one d p s = let a = s 0 in record {
  tokens = a.0 ∷ [];
  value = a.1;
  nests = d ∷ [];
  phrase =
      first a.0 a.1 [] a.1 [] a.3 nothing;
}

-- a comma stands here
abbrev pub comma : List Lexeme → Bool
comma ts = begins (spells (codes ",")) ts
