-- Where a reader ended, nothing stands with which it would have gone on.
use Rattle.std.proofs.Common.{◌≡◌, inl, inr, Bool, false, List, [], ◌∷◌, Ok, sym, ap}
use Rattle.fst_reading.specs.Lexeme.{Lexeme}
use Rattle.fst_reading.specs.Faults.{is_left}
use Rattle.fst_reading.specs.Reading.{Reader, andthen, map_reader, finish, begins, behind, on}
use Rattle.fst_reading.proofs.Steps.{bind_ok, mapped_is, ok_is}
use Rattle.fst_base.proofs.Choices.{chosen}

-- what is left by the reader isn't this
abbrev pub Ends : {A : Type 0} → Reader A → (List Lexeme → Bool) → Type 0
Ends {A} f more = (ts : List Lexeme) (x : A) (rest : List Lexeme) → f ts ≡ Ok (x, rest) → more rest ≡ false

module _ {A B : Type 0} (more : List Lexeme → Bool) where
  pub ends_mapped : (h : A → B) (f : Reader A) → Ends f more → Ends (map_reader h f) more
  ends_mapped h f p ts y rest e = let a = mapped_is h f ts y rest e in p ts a.0 rest a.1

  pub ends_then : (f : Reader A) (g : A → Reader B) → ((x : A) → Ends (g x) more) → Ends (andthen f g) more
  unfolding andthen
  ends_then f g p ts y rest e = let a = bind_ok _ _ (y, rest) e in p a.0.0 a.0.1 y rest a.2

pub ends_on : {A : Type 0} (more : List Lexeme → Bool) (test : Lexeme → Bool) (f g : Reader A) → Ends f more →
    ((ts : List Lexeme) (x : A) (rest : List Lexeme) → begins test ts ≡ false → g ts ≡ Ok (x, rest) → more rest ≡ false) →
    Ends (on test f g) more
unfolding on
ends_on more test f g p q ts x rest e = elim (chosen _ _ _ _ e) [ inl h ↦ p (behind ts) x rest h.1 | inr h ↦ q ts x rest h.0 h.1 ]

pub ends_finish : Ends finish is_left
unfolding finish
ends_finish [] x rest e = let same = ok_is (tt, []) (x, rest) e in ap (λ (p : Unit {0} × List Lexeme). is_left p.1) (sym same)
ends_finish (k ∷ ts) x rest e = absurd cc
