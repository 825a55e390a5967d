-- Steps of a chain, each with what may be opened in one operand less.
use Rattle.std.proofs.Common.{◌≡◌, ℕ, zero, suc, ◌-◌, ◌<◌, Bool, true, false, List, [], ◌∷◌, Option, Some, Ok, Err, refl, arith}
use Rattle.fst_terms.specs.declared.term.Op.{Op}
use Rattle.fst_terms.specs.TermTree as term
use Rattle.fst_terms.specs.TermTree.{TermTree}
use Rattle.fst_reading.specs.declared.stop.Stop.{Stop}
use Rattle.fst_reading.specs.declared.stop.Stop.TheVariants as stop
use Rattle.fst_reading.specs.Lexeme.{Lexeme}
use Rattle.fst_reading.specs.Reading.{Deep, Reader, bind, give, andthen, map_reader, switch, when, shut, begins, repeat}
use Rattle.fst_reading.specs.Gives.{Fails}
use Rattle.fst_module_grammar.specs.TermReading.{Inside, inside, is_op, chain_with}
use Rattle.fst_base.specs.Choice.{choose}

module _ {A : Type 0} (test : Lexeme → Bool) (step : Inside → A → Reader A) (x : A) (ts : List Lexeme) where
  pub repeat_stops : (es : Inside) → begins test ts ≡ false → repeat test step es x ts ≡ Ok (x, ts)
  unfolding repeat when give choose
  repeat_stops [] b = rw b refl
  repeat_stops (e ∷ es) b = rw b refl

  pub repeat_shut : begins test ts ≡ true → repeat test step (inside 0) x ts ≡ Err (Deep ts)
  unfolding inside repeat when shut choose
  repeat_shut b = rw b refl

  pub repeat_goes_on : (n : ℕ) (y : A) (rest : List Lexeme) → 0 < n → begins test ts ≡ true →
      step (inside n) x ts ≡ Ok (y, rest) →
      repeat test step (inside n) x ts ≡ repeat test step (inside (n - 1)) y rest
  unfolding inside repeat when andthen bind choose
  repeat_goes_on zero y rest lt b h = absurd (omega arith)
  repeat_goes_on (suc n) y rest lt b h = let e : suc n - 1 ≡ n = omega arith in rw (e, b, h) refl

  pub repeat_fails : (n : ℕ) (e : Stop) → 0 < n → begins test ts ≡ true → Fails e (step (inside n) x ts) →
      Fails e (repeat test step (inside n) x ts)
  unfolding inside repeat when andthen bind choose
  repeat_fails zero e lt b h = absurd (omega arith)
  repeat_fails (suc n) stop.Memory lt b h = tt
  repeat_fails (suc n) (stop.Syntax us) lt b h = rw (b, h) refl
  repeat_fails (suc n) (stop.TooDeep us) lt b h = rw (b, h) refl

module _ (p : Lexeme → Option Op) (operand : Inside → Reader TermTree) (at : ℕ) (t : TermTree) (ts : List Lexeme) where
  abbrev test : Lexeme → Bool
  test k = is_op (p k)

  abbrev step : Inside → TermTree → Reader TermTree
  step es t = switch p (λ o k. map_reader (term.operate at o t) (operand es))

  pub chain_stops : (es : Inside) → begins test ts ≡ false → chain_with p operand at es t ts ≡ Ok (t, ts)
  unfolding chain_with
  chain_stops es b = repeat_stops test step t ts es b

  module _ (k : Lexeme) (o : Op) (us : List Lexeme) (parts : ts ≡ k ∷ us) (is : p k ≡ Some o) where
    sign : begins test ts ≡ true
    sign = rw (parts, is) refl

    pub chain_shut : chain_with p operand at (inside 0) t ts ≡ Err (Deep ts)
    unfolding chain_with
    chain_shut = repeat_shut test step t ts sign

    step_reads : (es : Inside) (u : TermTree) (rest : List Lexeme) → operand es us ≡ Ok (u, rest) →
        step es t ts ≡ Ok (term.operate at o t u, rest)
    unfolding switch map_reader bind
    step_reads es u rest h = rw (parts, is, h) refl

    step_fails : (es : Inside) (e : Stop) → Fails e (operand es us) → Fails e (step es t ts)
    unfolding switch map_reader bind
    step_fails es stop.Memory h = tt
    step_fails es (stop.Syntax vs) h = rw (parts, is, h) refl
    step_fails es (stop.TooDeep vs) h = rw (parts, is, h) refl

    pub chain_goes_on : (n : ℕ) (u : TermTree) (rest : List Lexeme) → 0 < n → operand (inside n) us ≡ Ok (u, rest) →
        chain_with p operand at (inside n) t ts ≡ chain_with p operand at (inside (n - 1)) (term.operate at o t u) rest
    unfolding chain_with
    chain_goes_on n u rest lt h = repeat_goes_on test step t ts n (term.operate at o t u) rest lt sign
        (step_reads (inside n) u rest h)

    pub chain_fails : (n : ℕ) (e : Stop) → 0 < n → Fails e (operand (inside n) us) →
        Fails e (chain_with p operand at (inside n) t ts)
    unfolding chain_with
    chain_fails n e lt h = repeat_fails test step t ts n e lt sign (step_fails (inside n) e h)
