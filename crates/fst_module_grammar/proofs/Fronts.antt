-- Phrases by what stands at their front, taken apart and put together.
use Rattle.std.proofs.Common.{ℕ, List, [], ◌∷◌, ◌++◌, refl, sym, subst}
use Rattle.fst_reading.specs.Lexeme.{Lexeme, Is, IsLower, IsUpper, lower_of, upper_of}
use Rattle.fst_reading.specs.Faults.{Phrase}
use Rattle.fst_reading.proofs.Words.{Word, word_at, moved}
use Rattle.fst_reading.proofs.Phrases as phrase
use Rattle.fst_reading.proofs.Phrases.{nothing, Then, Mapped, made, first}
use Rattle.fst_reading.proofs.Parts.{One}
use Rattle.fst_reading.proofs.Tokens.{only_is, lower_is, is_lower, upper_is, is_upper}
use Rattle.fst_reading.specs.Lexeme.{spells}

-- what holds of one phrase behind another holds of both together
pub by_then : {A B : Type 0} (P : Phrase A) (Q : A → Phrase B) (G : Phrase B) →
    ((us vs : List Lexeme) (x : A) (y : B) (ms ks : List ℕ) → P us x ms → Q x vs y ks → G (us ++ vs) y (ms ++ ks)) →
    (ts : List Lexeme) (y : B) (ns : List ℕ) → Then P Q ts y ns → G ts y ns
by_then P Q G f _ _ _ (phrase.pair ts us vs x y ns ms ks p q parts nests) =
    moved G ts (us ++ vs) y y ns (ms ++ ks) parts refl nests (f us vs x y ms ks p q)

-- and what holds of what a function makes of a phrase
pub by_mapped : {A B : Type 0} (h : A → B) (P : Phrase A) (G : Phrase B) →
    ((ts : List Lexeme) (x : A) (ns : List ℕ) → P ts x ns → G ts (h x) ns) →
    (ts : List Lexeme) (y : B) (ns : List ℕ) → Mapped h P ts y ns → G ts y ns
by_mapped h P G f _ _ _ (made ts x ns p) = f ts x ns p

-- a reserved word or a sign, and behind it a phrase
module _ {B : Type 0} (d : ℕ) (w : List ℕ) (Q : Phrase B) where
  pub by_word : (G : Phrase B) → ((k : Lexeme) (vs : List Lexeme) (y : B) (ks : List ℕ) → Is w k → Q vs y ks →
      G (k ∷ vs) y (d ∷ ks)) →
      (ts : List Lexeme) (y : B) (ns : List ℕ) → Then (Word d w) (λ (u : Unit {0}). Q) ts y ns → G ts y ns
  by_word G f = by_then (Word d w) (λ (u : Unit {0}). Q) G of_word
    where
      of_word : (us vs : List Lexeme) (x : Unit {0}) (y : B) (ms ks : List ℕ) → Word d w us x ms → Q vs y ks →
          G (us ++ vs) y (ms ++ ks)
      of_word _ vs _ y _ ks (first k x _ _ _ e nothing) q = f k vs y ks (only_is (spells w) k x e) q

  pub then_word : (k : Lexeme) (vs : List Lexeme) (y : B) (ks : List ℕ) → Is w k → Q vs y ks → Then (Word d w)
      (λ (u : Unit {0}). Q) (k ∷ vs) y (d ∷ ks)
  then_word k vs y ks is q = phrase.pair _ (k ∷ []) vs tt y _ (d ∷ []) ks (word_at d w k is) q refl refl

-- a name, and behind it a phrase
module _ {B : Type 0} (d : ℕ) (Q : Lexeme → Phrase B) where
  pub by_lower : (G : Phrase B) → ((k : Lexeme) (vs : List Lexeme) (y : B) (ks : List ℕ) → IsLower k → Q k vs y ks →
      G (k ∷ vs) y (d ∷ ks)) →
      (ts : List Lexeme) (y : B) (ns : List ℕ) → Then (One d lower_of) Q ts y ns → G ts y ns
  by_lower G f = by_then (One d lower_of) Q G of_name
    where
      of_name : (us vs : List Lexeme) (x : Lexeme) (y : B) (ms ks : List ℕ) → One d lower_of us x ms → Q x vs y ks →
          G (us ++ vs) y (ms ++ ks)
      of_name _ vs _ y _ ks (first k x _ _ _ e nothing) q = let n = lower_is k x e in
          f k vs y ks n.0 (subst (λ z. Q z vs y ks) (sym n.1) q)

  pub then_lower : (k : Lexeme) (vs : List Lexeme) (y : B) (ks : List ℕ) → IsLower k → Q k vs y ks →
      Then (One d lower_of) Q (k ∷ vs) y (d ∷ ks)
  then_lower k vs y ks is q = phrase.pair _ (k ∷ []) vs k y _ (d ∷ []) ks (first k k [] k [] (is_lower k is) nothing) q refl refl

  pub by_upper : (G : Phrase B) → ((k : Lexeme) (vs : List Lexeme) (y : B) (ks : List ℕ) → IsUpper k → Q k vs y ks →
      G (k ∷ vs) y (d ∷ ks)) →
      (ts : List Lexeme) (y : B) (ns : List ℕ) → Then (One d upper_of) Q ts y ns → G ts y ns
  by_upper G f = by_then (One d upper_of) Q G of_name
    where
      of_name : (us vs : List Lexeme) (x : Lexeme) (y : B) (ms ks : List ℕ) → One d upper_of us x ms → Q x vs y ks →
          G (us ++ vs) y (ms ++ ks)
      of_name _ vs _ y _ ks (first k x _ _ _ e nothing) q = let n = upper_is k x e in
          f k vs y ks n.0 (subst (λ z. Q z vs y ks) (sym n.1) q)

  pub then_upper : (k : Lexeme) (vs : List Lexeme) (y : B) (ks : List ℕ) → IsUpper k → Q k vs y ks →
      Then (One d upper_of) Q (k ∷ vs) y (d ∷ ks)
  then_upper k vs y ks is q = phrase.pair _ (k ∷ []) vs k y _ (d ∷ []) ks (first k k [] k [] (is_upper k is) nothing) q refl refl
