-- The reader where the nesting is used up.
use Rattle.std.proofs.Common.{◌≡◌, ℕ, ◌<◌, inl, inr, Bool, true, false, List, [], ◌∷◌, ◌++◌, length, Result, Ok, Err, refl, ap, subst}
use Rattle.fst_reading.specs.Lexeme.{Lexeme, start}
use Rattle.fst_reading.specs.Faults.{Phrase}
use Rattle.fst_reading.proofs.Steps.{err_is, same_front, SomePhrase}
use Rattle.fst_reading.specs.Reading.{Halt, Syntax, Deep, begins, shut}
use Rattle.fst_reading.proofs.Phrases.{left, Found, Over, Stopped, Outcome, deep, SameUpTo, Reads}
use Rattle.fst_base.specs.Choice.{choose}
use Rattle.fst_base.proofs.Choices.{chosen, choose_true}

abbrev refused : {A : Type 0} → Halt → Result (A × List Lexeme) Halt
refused h = Err h

-- where a phrase would be too deep none is read
module _ {A : Type 0} (limit : ℕ) (test : Lexeme → Bool) (P : Phrase A) (more : List Lexeme → Bool)
    (sample : (n : ℕ) → (s : SomePhrase P) × (start s.tokens ≡ n))
    (opens : (k : Lexeme) → test k ≡ true → (others : List Lexeme) × (x : A) × (n : ℕ) ×
    (ns : List ℕ) × P (k ∷ others) x (n ∷ ns) × (limit < n))
    (begun : (us : List Lexeme) (x : A) (ns : List ℕ) → P us x ns → (k : Lexeme) × (v : List Lexeme) × (n : ℕ) × (ms : List ℕ) ×
    (us ≡ k ∷ v) × (ns ≡ n ∷ ms) × (test k ≡ true) × (limit < n))
    (count : (us : List Lexeme) (x : A) (ns : List ℕ) → P us x ns → length ns ≡ length us) where
  shut_deep : (ts : List Lexeme) (h : Halt) → begins test ts ≡ true → Deep ts ≡ h → Stopped limit P h ts
  shut_deep [] h b e = absurd cc
  shut_deep (k ∷ ts) h b e =
      let o = opens k b in
      record {
        tokens = [];
        others = k ∷ o.0;
        value = o.1;
        nests = [];
        high = o.2 ∷ o.3;
        parts = ap left e;
        phrase = o.4;
        count = refl;
        low = tt;
        over = subst (λ z. Over z limit (k ∷ o.0) (o.2 ∷ o.3)) e
            (record {
              token = k;
              after = ts;
              further = o.0;
              nest = o.2;
              nests = o.3;
              here = refl;
              first = refl;
              highest = refl;
              over = o.5;
            });
        begins_so = λ lt. refl;
      }

  shut_stopped : (ts : List Lexeme) (h : Halt) → shut {A = A} test ts ≡ Err h → Stopped limit P h ts
  unfolding shut
  shut_stopped ts h e = elim (chosen _ _ _ _ e) [
    | inl b ↦ shut_deep ts h b.0 (err_is _ _ b.1)
    | inr b ↦
        let q = sample (start ts) in
        let is : Syntax ts ≡ h = err_is _ _ b.1 in
        record {
          tokens = [];
          others = q.0.tokens;
          value = q.0.value;
          nests = [];
          high = q.0.nests;
          parts = ap left is;
          phrase = q.0.phrase;
          count = refl;
          low = tt;
          over = subst (λ z. Over z limit q.0.tokens q.0.nests) is tt;
          begins_so = λ lt. q.1;
        }
  ]

  shut_reads : (us : List Lexeme) (x : A) (ns : List ℕ) (rest : List Lexeme) → P us x ns → more rest ≡ false →
      Outcome limit (shut test) us x ns rest
  unfolding shut
  shut_reads us x ns rest p stop =
      let b = begun us x ns p in
      let is : us ++ rest ≡ b.0 ∷ (b.1 ++ rest) = ap (λ (w : List Lexeme). w ++ rest) b.4 in
      deep [] b.1 b.0 [] b.3 b.2 b.4 b.5 refl tt b.7 (rw is (choose_true _ _ _ b.6))

  shut_alike : (k : Lexeme) (t t' w : List Lexeme) → SameUpTo k t t' (shut {A = A} test (w ++ k ∷ t)) (shut test (w ++ k ∷ t'))
  unfolding shut choose
  shut_alike k t t' [] = of_test (test k)
    where
      of_test : (b : Bool) → SameUpTo k t t' (choose b (refused {A = A} (Deep (k ∷ t))) (refused (Syntax (k ∷ t))))
          (choose b (refused {A = A} (Deep (k ∷ t'))) (refused (Syntax (k ∷ t'))))
      of_test true u is = ap (λ z. Err (Deep z)) (same_front [] u k t t' is)
      of_test false u is = ap (λ z. Err (Syntax z)) (same_front [] u k t t' is)
  shut_alike k t t' (c ∷ w) = of_test (test c)
    where
      of_test : (b : Bool) → SameUpTo k t t' (choose b (refused {A = A} (Deep (c ∷ (w ++ k ∷ t))))
          (refused (Syntax (c ∷ (w ++ k ∷ t))))) (choose b (refused {A = A} (Deep (c ∷ (w ++ k ∷ t'))))
          (refused (Syntax (c ∷ (w ++ k ∷ t')))))
      of_test true u is = ap (λ z. Err (Deep z)) (same_front (c ∷ w) u k t t' is)
      of_test false u is = ap (λ z. Err (Syntax z)) (same_front (c ∷ w) u k t t' is)

  shut_found : (ts : List Lexeme) (x : A) (rest : List Lexeme) → shut test ts ≡ Ok (x, rest) → Found limit P ts x rest
  unfolding shut
  shut_found ts x rest e = elim (chosen _ _ _ _ e) [ inl b ↦ absurd (let is = b.1 in cc) | inr b ↦ absurd (let is = b.1 in cc) ]

  pub reads_shut : Reads limit (shut test) P more
  reads_shut = record { found = shut_found; stopped = shut_stopped; reads = shut_reads; alike = shut_alike; counted = count }
