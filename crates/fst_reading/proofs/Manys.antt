-- Readers of one phrase behind the other, as long as one begins.
use Rattle.std.proofs.Common.{◌≡◌, ℕ, zero, suc, ◌+◌, ◌≤◌, ◌<◌, Bool, true, false, List, [], ◌∷◌, ◌++◌, length, Result, Ok, Err, refl, sym, ap, subst, ◌∙◌, arith, length-append}
use Rattle.fst_reading.specs.Lexeme.{Lexeme}
use Rattle.fst_reading.specs.Faults.{Phrase}
use Rattle.fst_reading.specs.Reading.{Halt, Reader, bind, give, andthen, map_reader, begins, when, many_within, many}
use Rattle.fst_reading.proofs.Phrases.{Outcome, whole, deep, SameUpTo, Reads, never, Give, nothing, Then, pair, Mapped, made, Either, one, other, Many, none, some}
use Rattle.fst_reading.proofs.Parts.{reads_give, reads_mapped, reads_as, reads_until}
use Rattle.fst_reading.proofs.Sequences.{reads_then}
use Rattle.fst_reading.proofs.Repeats.{reads_when}
use Rattle.fst_base.specs.Choice.{choose}

module _ {A : Type 0} (limit : ℕ) (test : Lexeme → Bool) (f : Reader A) (P : Phrase A) (more stop : List Lexeme → Bool)
    (r : Reads limit f P more)
    (begun : (us : List Lexeme) (x : A) (ns : List ℕ) → P us x ns → (k : Lexeme) × (v : List Lexeme) × (us ≡ k ∷ v) ×
    (test k ≡ true))
    (sign : (k : Lexeme) (ts : List Lexeme) → test k ≡ true → more (k ∷ ts) ≡ false)
    (end_ : (rest : List Lexeme) → stop rest ≡ false → (more rest ≡ false) × (begins test rest ≡ false)) where
  filled : (us : List Lexeme) (x : A) (ns : List ℕ) → P us x ns → 0 < length us
  filled us x ns p = let b = begun us x ns p in omega (arith, ap length b.2)

  -- at most so many
  abbrev AtMost : ℕ → Phrase (List A)
  AtMost n us xs ns = Many P us xs ns × (length xs ≤ n)

  -- one, and at most so many behind it
  abbrev Further : ℕ → Phrase (List A)
  Further n = Then P (λ a. Mapped (λ bs. a ∷ bs) (AtMost n))

  to : (n : ℕ) (us : List Lexeme) (ys : List A) (ns : List ℕ) → Either (Further n) (Give []) us ys ns → AtMost (suc n) us ys ns
  to n _ _ _ (one _ _ _ (pair ts us vs x ys ns ms ks p q parts nests)) = by_rest vs ys ks q parts nests
    where
      by_rest : (vs : List Lexeme) (ys : List A) (ks : List ℕ) → Mapped (λ bs. x ∷ bs) (AtMost n) vs ys ks → ts ≡ us ++ vs →
          ns ≡ ms ++ ks → AtMost (suc n) ts ys ns
      by_rest _ _ _ (made vs xs ks q) parts nests = (some ts us vs x xs ns ms ks p q.0 parts nests, omega (arith, q.1))
  to n _ _ _ (other _ _ _ nothing) = (none, omega arith)

  from : (n : ℕ) (us : List Lexeme) (ys : List A) (ns : List ℕ) → AtMost (suc n) us ys ns → Either (Further n) (Give []) us ys ns
  from n _ _ _ (some ts us vs x xs ns ms ks p q parts nests, le) =
      one ts (x ∷ xs) ns (pair ts us vs x (x ∷ xs) ns ms ks p (made vs xs ks (q, omega (arith, le))) parts nests)
  from n _ _ _ (none, le) = other [] [] [] nothing

  opened : (n : ℕ) (us : List Lexeme) (ys : List A) (ns : List ℕ) (rest : List Lexeme) → Further n us ys ns →
      begins test (us ++ rest) ≡ true
  opened n _ _ _ rest (pair ts us vs x y ns ms ks p q parts nests) =
      let b = begun us x ms p in
      ap (λ (w : List Lexeme). begins test (w ++ rest)) (parts ∙ ap (λ (w : List Lexeme). w ++ vs) b.2) ∙ b.3

  free : (us : List Lexeme) (ys : List A) (ns : List ℕ) (rest : List Lexeme) → Give [] us ys ns → stop rest ≡ false →
      begins test (us ++ rest) ≡ false
  free _ _ _ rest nothing st = (end_ rest st).1

  next : (x : A) (n : ℕ) (vs : List Lexeme) (ys : List A) (ks : List ℕ) (rest : List Lexeme) → Mapped
      (λ bs. x ∷ bs) (AtMost n) vs ys ks → stop rest ≡ false → more (vs ++ rest) ≡ false
  next x n _ _ _ rest (made _ _ _ (none, le)) st = (end_ rest st).0
  next x n _ _ _ rest (made _ _ _ (some ts us vs y ys ns ms ks p q parts nests, le)) st =
      let b = begun us y ms p in
      ap (λ (w : List Lexeme). more (w ++ rest)) (parts ∙ ap (λ (w : List Lexeme). w ++ vs) b.2)
      ∙ sign b.0 ((b.1 ++ vs) ++ rest) b.3

  gives : Reads {A = List A} limit (give []) (Give []) stop
  gives = reads_until limit (give []) (Give []) never stop (reads_give limit []) (λ ts st. refl)

  few : (us : List Lexeme) (ys : List A) (ns : List ℕ) → Give [] us ys ns → AtMost 0 us ys ns
  few _ _ _ nothing = (none, omega arith)

  no_more : (us : List Lexeme) (ys : List A) (ns : List ℕ) → AtMost 0 us ys ns → Give [] us ys ns
  no_more _ _ _ (none, le) = nothing
  no_more _ _ _ (some ts us vs x xs ns ms ks p q parts nests, le) = absurd (omega (arith, le))

  reads_within : (n : ℕ) → Reads limit (many_within test f n) (AtMost n) stop
  unfolding many_within
  reads_within zero = reads_as limit _ (Give []) (AtMost 0) stop gives few no_more
  reads_within (suc n) =
      reads_as limit _ (Either (Further n) (Give [])) (AtMost (suc n)) stop
      (reads_when limit test _ (give []) (Further n) (Give []) stop
      (reads_then limit f (λ a. map_reader (λ bs. a ∷ bs) (many_within test f n)) P
      (λ a. Mapped (λ bs. a ∷ bs) (AtMost n)) more stop
      r (λ a. reads_mapped limit (λ bs. a ∷ bs) (many_within test f n) (AtMost n) stop (reads_within n))
      (λ a. record { tokens = []; value = a ∷ []; nests = []; phrase = made [] [] [] (none, omega arith) })
      filled (λ us x ns vs ys ms rest q st. next x n vs ys ms rest q st))
      gives (opened n) free)
      (to n) (from n)

  abbrev kept : A → List A × List Lexeme → Result (List A × List Lexeme) Halt
  kept a y = Ok (a ∷ y.0, y.1)

  -- as many steps as there are tokens are enough
  enough : (n m : ℕ) (ts : List Lexeme) → length ts ≤ n → length ts ≤ m → many_within test f n ts ≡ many_within test f m ts
  unfolding many_within when choose give andthen bind map_reader
  enough zero zero ts le le' = refl
  enough zero (suc m) [] le le' = refl
  enough zero (suc m) (k ∷ ts) le le' = absurd (omega (arith, le))
  enough (suc n) zero [] le le' = refl
  enough (suc n) zero (k ∷ ts) le le' = absurd (omega (arith, le'))
  enough (suc n) (suc m) ts le le' = ap (λ z. choose (begins test ts) z (Ok ([], ts)))
      (step (λ s a b. enough n m s a b) (f ts) refl)
    where
      step : ((s : List Lexeme) → length s ≤ n → length s ≤ m → many_within test f n s ≡ many_within test f m s) →
          (v : Result (A × List Lexeme) Halt) → f ts ≡ v →
          bind (f ts) (λ x. bind (many_within test f n x.1) (kept x.0)) ≡ bind (f ts)
          (λ x. bind (many_within test f m x.1) (kept x.0))
      step inner (Ok x) e =
          let q = r.found ts x.0 x.1 e in
          let some = filled q.tokens x.0 q.nests q.phrase in
          let shorter = ap length q.parts ∙ length-append q.tokens x.1 in
          rw e (ap (λ z. bind z (kept x.0)) (inner x.1 (omega (arith, le, some, shorter)) (omega (arith, le', some, shorter))))
      step inner (Err h) e = rw e refl

  counts : (us : List Lexeme) (xs : List A) (ns : List ℕ) → Many P us xs ns → length xs ≤ length us
  counts _ _ _ none = omega arith
  counts _ _ _ (some ts us vs x xs ns ms ks p q parts nests) =
      omega (arith, filled us x ms p, counts vs xs ks q, ap length parts, length-append us vs)

  all_counted : (us : List Lexeme) (xs : List A) (ns : List ℕ) → Many P us xs ns → length ns ≡ length us
  all_counted _ _ _ none = refl
  all_counted _ _ _ (some ts us vs x xs ns ms ks p q parts nests) =
      omega (
        arith,
        r.counted us x ms p,
        all_counted vs xs ks q,
        ap length parts,
        ap length nests,
        length-append us vs,
        length-append ms ks,
      )

  same_outcome : (us : List Lexeme) (xs : List A) (ns : List ℕ) (rest : List Lexeme) →
      Outcome limit (many_within test f (length (us ++ rest))) us xs ns rest → Outcome limit (many test f) us xs ns rest
  same_outcome us xs ns rest (whole lows e) = whole lows e
  same_outcome us xs ns rest (deep pre v c lo highs m a b l o h g) = deep pre v c lo highs m a b l o h g

  many_alike : (k : Lexeme) (t t' w : List Lexeme) → SameUpTo k t t' (many test f (w ++ k ∷ t)) (many test f (w ++ k ∷ t'))
  many_alike k t t' w =
      let n = length (w ++ k ∷ t) + length (w ++ k ∷ t') in
      let is = enough (length (w ++ k ∷ t)) n (w ++ k ∷ t) (omega arith) (omega arith) in
      let is' = enough (length (w ++ k ∷ t')) n (w ++ k ∷ t') (omega arith) (omega arith) in
      subst (λ z. SameUpTo k t t' z (many test f (w ++ k ∷ t'))) (sym is)
      (subst (λ z. SameUpTo k t t' (many_within test f n (w ++ k ∷ t)) z) (sym is') ((reads_within n).alike k t t' w))

  pub reads_many : Reads limit (many test f) (Many P) stop
  reads_many = record {
    found = λ ts xs rest e. let q = (reads_within (length ts)).found ts xs rest e in
        record { tokens = q.tokens; nests = q.nests; parts = q.parts; phrase = q.phrase.0; low = q.low };
    stopped = λ ts h e. let q = (reads_within (length ts)).stopped ts h e in
        record {
          tokens = q.tokens;
          others = q.others;
          value = q.value;
          nests = q.nests;
          high = q.high;
          parts = q.parts;
          phrase =
              q.phrase.0;
          count = q.count;
          low = q.low;
          over = q.over;
          begins_so = q.begins_so;
        };
    reads = λ us xs ns rest q st. same_outcome us xs ns rest
        ((reads_within (length (us ++ rest))).reads us xs ns rest
        (q, omega (arith, counts us xs ns q, length-append us rest)) st);
    alike = many_alike;
    counted = all_counted;
  }
