-- Steps of an application and of a constructor's arguments, each with what may be opened in one operand less.
use Rattle.std.proofs.Common.{◌≡◌, ℕ, ◌-◌, ◌<◌, true, false, List, [], ◌∷◌, ◌++◌, Ok, Err, refl, ap}
use Rattle.fst_terms.specs.TermTree as term
use Rattle.fst_terms.specs.TermTree.{TermTree}
use Rattle.fst_terms.specs.ModelView.{terms_of}
use Rattle.fst_reading.specs.declared.stop.Stop.{Stop}
use Rattle.fst_reading.specs.declared.stop.Stop.TheVariants as stop
use Rattle.fst_reading.specs.Lexeme.{Lexeme}
use Rattle.fst_reading.specs.Reading.{Deep, Reader, bind, map_reader, begins}
use Rattle.fst_reading.specs.Gives.{Fails}
use Rattle.fst_module_grammar.specs.TermReading.{Inside, inside, starts_atom, atom_with, append_term, applications_with, arguments_with}
use Rattle.fst_syntax.proofs.Chains.{repeat_stops, repeat_shut, repeat_goes_on, repeat_fails}

-- an atom behind others
module _ {A : Type 0} (make : A → TermTree → A) where
  abbrev step : Inside → A → Reader A
  step es x = map_reader (make x) (atom_with es)

  step_reads : (es : Inside) (x : A) (ts : List Lexeme) (u : TermTree) (rest : List Lexeme) → atom_with es ts ≡ Ok (u, rest) →
      step es x ts ≡ Ok (make x u, rest)
  unfolding map_reader bind
  step_reads es x ts u rest h = rw h refl

  step_fails : (es : Inside) (x : A) (ts : List Lexeme) (e : Stop) → Fails e (atom_with es ts) → Fails e (step es x ts)
  unfolding map_reader bind
  step_fails es x ts stop.Memory h = tt
  step_fails es x ts (stop.Syntax us) h = rw h refl
  step_fails es x ts (stop.TooDeep us) h = rw h refl

module _ (at : ℕ) (t : TermTree) (ts : List Lexeme) where
  pub applications_stop : (es : Inside) → begins starts_atom ts ≡ false → applications_with at es t ts ≡ Ok (t, ts)
  unfolding applications_with
  applications_stop es b = repeat_stops starts_atom (step (term.apply at)) t ts es b

  pub applications_shut : begins starts_atom ts ≡ true → applications_with at (inside 0) t ts ≡ Err (Deep ts)
  unfolding applications_with
  applications_shut b = repeat_shut starts_atom (step (term.apply at)) t ts b

  pub applications_go_on : (n : ℕ) (u : TermTree) (rest : List Lexeme) → 0 < n → begins starts_atom ts ≡ true →
      atom_with (inside n) ts ≡ Ok (u, rest) →
      applications_with at (inside n) t ts ≡ applications_with at (inside (n - 1)) (term.apply at t u) rest
  unfolding applications_with
  applications_go_on n u rest lt b h = repeat_goes_on starts_atom (step (term.apply at)) t ts n (term.apply at t u) rest lt b
      (step_reads (term.apply at) (inside n) t ts u rest h)

  pub applications_fail : (n : ℕ) (e : Stop) → 0 < n → begins starts_atom ts ≡ true → Fails e (atom_with (inside n) ts) →
      Fails e (applications_with at (inside n) t ts)
  unfolding applications_with
  applications_fail n e lt b h = repeat_fails starts_atom (step (term.apply at)) t ts n e lt b
      (step_fails (term.apply at) (inside n) t ts e h)

appended_of : (us : List TermTree) (u : TermTree) → append_term (terms_of us) u ≡ terms_of (us ++ u ∷ [])
appended_of [] u = refl
appended_of (x ∷ us) u = ap (term.term x) (appended_of us u)

module _ (us : List TermTree) (ts : List Lexeme) where
  pub arguments_stop : (es : Inside) → begins starts_atom ts ≡ false → arguments_with es (terms_of us) ts ≡ Ok (terms_of us, ts)
  unfolding arguments_with
  arguments_stop es b = repeat_stops starts_atom (step append_term) (terms_of us) ts es b

  pub arguments_shut : begins starts_atom ts ≡ true → arguments_with (inside 0) (terms_of us) ts ≡ Err (Deep ts)
  unfolding arguments_with
  arguments_shut b = repeat_shut starts_atom (step append_term) (terms_of us) ts b

  pub arguments_go_on : (n : ℕ) (u : TermTree) (rest : List Lexeme) → 0 < n → begins starts_atom ts ≡ true →
      atom_with (inside n) ts ≡ Ok (u, rest) →
      arguments_with (inside n) (terms_of us) ts ≡ arguments_with (inside (n - 1)) (terms_of (us ++ u ∷ [])) rest
  unfolding arguments_with
  arguments_go_on n u rest lt b h =
      let one = repeat_goes_on starts_atom (step append_term) (terms_of us) ts n (append_term (terms_of us) u) rest lt b
      (step_reads append_term (inside n) (terms_of us) ts u rest h) in
      rw (← appended_of us u) one

  pub arguments_fail : (n : ℕ) (e : Stop) → 0 < n → begins starts_atom ts ≡ true → Fails e (atom_with (inside n) ts) →
      Fails e (arguments_with (inside n) (terms_of us) ts)
  unfolding arguments_with
  arguments_fail n e lt b h = repeat_fails starts_atom (step append_term) (terms_of us) ts n e lt b
      (step_fails append_term (inside n) (terms_of us) ts e h)
