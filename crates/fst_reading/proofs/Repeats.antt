-- Readers that go on by the first token, and steps one behind the other.
use Rattle.std.proofs.Common.{◌≡◌, ℕ, suc, ◌+◌, ◌<◌, inl, inr, Bool, true, false, List, [], ◌∷◌, ◌++◌, length, Ok, Err, refl, ap, ◌∙◌, arith, length-append}
use Rattle.fst_reading.specs.Lexeme.{Lexeme, start}
use Rattle.fst_reading.specs.Faults.{Phrase}
use Rattle.fst_reading.proofs.Steps.{start_more, SomePhrase}
use Rattle.fst_reading.specs.Reading.{Halt, Reader, give, begins, when, shut, repeat}
use Rattle.fst_reading.proofs.Phrases.{Found, Stopped, Outcome, whole, deep, SameUpTo, Reads, never, Give, nothing, Then, pair, Either, one, other, Repeat, enough, again}
use Rattle.fst_reading.proofs.Parts.{reads_give, reads_as, reads_until}
use Rattle.fst_reading.proofs.Sequences.{reads_then}
use Rattle.fst_reading.proofs.Shut.{reads_shut}
use Rattle.fst_base.specs.Choice.{choose}
use Rattle.fst_base.proofs.Choices.{chosen, choose_true, choose_false}

-- one reader where the first token passes a test, and else another
module _ {A : Type 0} (limit : ℕ) (test : Lexeme → Bool) (f g : Reader A) (P Q : Phrase A) (more : List Lexeme → Bool)
    (r : Reads limit f P more) (s : Reads limit g Q more)
    (opens : (us : List Lexeme) (x : A) (ns : List ℕ) (rest : List Lexeme) → P us x ns → begins test (us ++ rest) ≡ true)
    (free : (us : List Lexeme) (x : A) (ns : List ℕ) (rest : List Lexeme) → Q us x ns → more rest ≡ false →
    begins test (us ++ rest) ≡ false) where
  when_found : (ts : List Lexeme) (y : A) (rest : List Lexeme) → when test f g ts ≡ Ok (y, rest) →
      Found limit (Either P Q) ts y rest
  unfolding when
  when_found ts y rest e = elim (chosen _ _ _ _ e) [
    | inl h ↦ let q = r.found ts y rest h.1 in record {
      tokens = q.tokens;
      nests = q.nests;
      parts = q.parts;
      phrase =
          one q.tokens y q.nests q.phrase;
      low = q.low;
    }
    | inr h ↦ let q = s.found ts y rest h.1 in record {
      tokens = q.tokens;
      nests = q.nests;
      parts = q.parts;
      phrase =
          other q.tokens y q.nests q.phrase;
      low = q.low;
    }
  ]

  when_stopped : (ts : List Lexeme) (h : Halt) → when test f g ts ≡ Err h → Stopped limit (Either P Q) h ts
  unfolding when
  when_stopped ts h e = elim (chosen _ _ _ _ e) [
    | inl c ↦
        let q = r.stopped ts h c.1 in
        record {
          tokens = q.tokens;
          others = q.others;
          value = q.value;
          nests = q.nests;
          high = q.high;
          parts = q.parts;
          phrase = one (q.tokens ++ q.others) q.value (q.nests ++ q.high) q.phrase;
          count = q.count;
          low = q.low;
          over = q.over;
          begins_so = q.begins_so;
        }
    | inr c ↦
        let q = s.stopped ts h c.1 in
        record {
          tokens = q.tokens;
          others = q.others;
          value = q.value;
          nests = q.nests;
          high = q.high;
          parts = q.parts;
          phrase = other (q.tokens ++ q.others) q.value (q.nests ++ q.high) q.phrase;
          count = q.count;
          low = q.low;
          over = q.over;
          begins_so = q.begins_so;
        }
  ]

  when_reads : (ts : List Lexeme) (y : A) (ns : List ℕ) (rest : List Lexeme) → Either P Q ts y ns → more rest ≡ false →
      Outcome limit (when test f g) ts y ns rest
  unfolding when
  when_reads _ _ _ rest (one ts x ns q) stop = of_rest (r.reads ts x ns rest q stop)
    where
      of_rest : Outcome limit f ts x ns rest → Outcome limit (when test f g) ts x ns rest
      of_rest (whole lows e) = whole lows (choose_true _ _ _ (opens ts x ns rest q) ∙ e)
      of_rest (deep pre v c lows highs n a b l o p e) =
          deep pre v c lows highs n a b l o p (choose_true _ _ _ (opens ts x ns rest q) ∙ e)
  when_reads _ _ _ rest (other ts x ns q) stop = of_rest (s.reads ts x ns rest q stop)
    where
      of_rest : Outcome limit g ts x ns rest → Outcome limit (when test f g) ts x ns rest
      of_rest (whole lows e) = whole lows (choose_false _ _ _ (free ts x ns rest q stop) ∙ e)
      of_rest (deep pre v c lows highs n a b l o p e) =
          deep pre v c lows highs n a b l o p (choose_false _ _ _ (free ts x ns rest q stop) ∙ e)

  when_alike : (k : Lexeme) (t t' w : List Lexeme) → SameUpTo k t t' (when test f g (w ++ k ∷ t)) (when test f g (w ++ k ∷ t'))
  unfolding when choose
  when_alike k t t' [] = by_test (test k)
    where
      by_test : (b : Bool) → SameUpTo k t t' (choose b (f (k ∷ t)) (g (k ∷ t))) (choose b (f (k ∷ t')) (g (k ∷ t')))
      by_test true u is = r.alike k t t' [] u is
      by_test false u is = s.alike k t t' [] u is
  when_alike k t t' (c ∷ w) = by_test (test c)
    where
      by_test : (b : Bool) → SameUpTo k t t' (choose b (f (c ∷ (w ++ k ∷ t))) (g (c ∷ (w ++ k ∷ t))))
          (choose b (f (c ∷ (w ++ k ∷ t'))) (g (c ∷ (w ++ k ∷ t'))))
      by_test true u is = r.alike k t t' (c ∷ w) u is
      by_test false u is = s.alike k t t' (c ∷ w) u is

  when_counted : (ts : List Lexeme) (y : A) (ns : List ℕ) → Either P Q ts y ns → length ns ≡ length ts
  when_counted _ _ _ (one ts x ns q) = r.counted ts x ns q
  when_counted _ _ _ (other ts x ns q) = s.counted ts x ns q

  pub reads_when : Reads limit (when test f g) (Either P Q) more
  reads_when = record {
    found = when_found;
    stopped = when_stopped;
    reads = when_reads;
    alike = when_alike;
    counted =
        when_counted;
  }

-- what is nested so deep may open this much more: nothing where it is too deep itself, and else up to the limit
abbrev pub Fits : {B : Type 0} → ℕ → List B → ℕ → Type 0
Fits limit [] e = limit < e
Fits limit (b ∷ bs) e = e + length bs ≡ limit

-- and one deeper it may open one less
pub fits_next : {B : Type 0} (limit : ℕ) (b : B) (bs : List B) (e : ℕ) → Fits limit (b ∷ bs) e → Fits limit bs (suc e)
fits_next limit b [] e is = omega (arith, is)
fits_next limit b (c ∷ bs) e is = omega (arith, is)

-- step behind step, as long as one begins
module _ {A B : Type 0} (limit : ℕ) (test : Lexeme → Bool) (step : List B → A → Reader A) (S : ℕ → A → Phrase A)
    (more stop : List Lexeme → Bool)
    (Good : List B → Type 0) (tail : (b : B) (bs : List B) → Good (b ∷ bs) → Good bs)
    (r : (b : B) (bs : List B) (e : ℕ) → Good (b ∷ bs) → Fits limit (b ∷ bs) e →
    (x : A) → Reads limit (step (b ∷ bs) x) (S e x) more)
    (some : (e n : ℕ) (x : A) → (s : SomePhrase (S e x)) × (start s.tokens ≡ n))
    (opens : (e : ℕ) (x : A) (k : Lexeme) → test k ≡ true → (others : List Lexeme) × (y : A) ×
    (ns : List ℕ) × S e x (k ∷ others) y (e ∷ ns))
    (begun : (e : ℕ) (x : A) (us : List Lexeme) (y : A) (ns : List ℕ) → S e x us y ns → (k : Lexeme) × (v : List Lexeme) ×
    (ms : List ℕ) × (us ≡ k ∷ v) × (ns ≡ e ∷ ms) × (test k ≡ true))
    (count : (e : ℕ) (x : A) (us : List Lexeme) (y : A) (ns : List ℕ) → S e x us y ns → length ns ≡ length us)
    (sign : (k : Lexeme) (ts : List Lexeme) → test k ≡ true → more (k ∷ ts) ≡ false)
    (end_ : (rest : List Lexeme) → stop rest ≡ false → (more rest ≡ false) × (begins test rest ≡ false)) where
  filled : (e : ℕ) (x : A) (us : List Lexeme) (y : A) (ns : List ℕ) → S e x us y ns → 0 < length us
  filled e x us y ns p = let b = begun e x us y ns p in omega (arith, ap length b.3)

  -- the further steps, each one deeper
  abbrev Further : ℕ → A → Phrase A
  Further e x = Then (S e x) (λ y. Repeat S (suc e) y)

  to : (e : ℕ) (x : A) (us : List Lexeme) (y : A) (ns : List ℕ) → Either (Further e x) (Give x) us y ns → Repeat S e x us y ns
  to e x _ _ _ (one _ _ _ (pair ts us vs y z ns ms ks p q parts nests)) = again ts us vs e x y z ns ms ks p q parts nests
  to e x _ _ _ (other _ _ _ nothing) = enough e x

  from : (e : ℕ) (x : A) (us : List Lexeme) (y : A) (ns : List ℕ) → Repeat S e x us y ns → Either (Further e x) (Give x) us y ns
  from _ _ _ _ _ (again ts us vs e x y z ns ms ks p q parts nests) = one ts z ns (pair ts us vs y z ns ms ks p q parts nests)
  from _ _ _ _ _ (enough e x) = other [] x [] nothing

  repeat_count : (e : ℕ) (x : A) (us : List Lexeme) (y : A) (ns : List ℕ) → Repeat S e x us y ns → length ns ≡ length us
  repeat_count _ _ _ _ _ (enough e x) = refl
  repeat_count _ _ _ _ _ (again ts us vs e x y z ns ms ks p q parts nests) =
      omega (
        arith,
        count e x us y ms p,
        repeat_count (suc e) y vs z ks q,
        ap length parts,
        ap length nests,
        length-append ms ks,
        length-append us vs,
      )

  further_count : (e : ℕ) (x : A) (us : List Lexeme) (y : A) (ns : List ℕ) → Further e x us y ns → length ns ≡ length us
  further_count e x _ _ _ (pair ts us vs y z ns ms ks p q parts nests) =
      omega (
        arith,
        count e x us y ms p,
        repeat_count (suc e) y vs z ks q,
        ap length parts,
        ap length nests,
        length-append ms ks,
        length-append us vs,
      )

  opened : (e : ℕ) (x : A) (us : List Lexeme) (y : A) (ns : List ℕ) (rest : List Lexeme) → Further e x us y ns →
      begins test (us ++ rest) ≡ true
  opened e x _ _ _ rest (pair ts us vs y z ns ms ks p q parts nests) =
      let b = begun e x us y ms p in
      ap (λ (w : List Lexeme). begins test (w ++ rest)) (parts ∙ ap (λ (w : List Lexeme). w ++ vs) b.3) ∙ b.5

  free : (x : A) (us : List Lexeme) (y : A) (ns : List ℕ) (rest : List Lexeme) → Give x us y ns → stop rest ≡ false →
      begins test (us ++ rest) ≡ false
  free x _ _ _ rest nothing st = (end_ rest st).1

  next : (e : ℕ) (y : A) (vs : List Lexeme) (z : A) (ks : List ℕ) (rest : List Lexeme) → Repeat S e y vs z ks →
      stop rest ≡ false → more (vs ++ rest) ≡ false
  next _ _ _ _ _ rest (enough e x) st = (end_ rest st).0
  next _ _ _ _ _ rest (again ts us vs e x y z ns ms ks p q parts nests) st =
      let b = begun e x us y ms p in
      ap (λ (w : List Lexeme). more (w ++ rest)) (parts ∙ ap (λ (w : List Lexeme). w ++ vs) b.3)
      ∙ sign b.0 ((b.1 ++ vs) ++ rest) b.5

  gives : (x : A) → Reads limit (give x) (Give x) stop
  gives x = reads_until limit (give x) (Give x) never stop (reads_give limit x) (λ ts st. refl)

  pub reads_repeat : (bs : List B) (e : ℕ) → Good bs → Fits limit bs e →
      (x : A) → Reads limit (repeat test step bs x) (Repeat S e x) stop
  unfolding repeat
  reads_repeat [] e good is x =
      reads_as limit _ (Either (Further e x) (Give x)) (Repeat S e x) stop
      (reads_when limit test (shut test) (give x) (Further e x) (Give x) stop
      (reads_shut limit test (Further e x) stop
      (λ n. let s = some e n x in (
        record {
          tokens = s.0.tokens ++ [];
          value = s.0.value;
          nests = s.0.nests ++ [];
          phrase =
              pair _ s.0.tokens [] s.0.value s.0.value _ s.0.nests [] s.0.phrase (enough (suc e) s.0.value) refl refl;
        },
        start_more s.0.tokens [] n (filled e x _ _ _ s.0.phrase) s.1,
      ))
      (λ k t. let o = opens e x k t in (
        o.0 ++ [],
        o.1,
        e,
        o.2 ++ [],
        pair _ (k ∷ o.0) [] o.1 o.1 _ (e ∷ o.2) [] o.3 (enough (suc e) o.1) refl refl,
        is,
      ))
      (λ us y ns p. deep_begun us y ns p)
      (λ us y ns p. further_count e x us y ns p))
      (gives x) (opened e x) (free x))
      (to e x) (from e x)
    where
      deep_begun : (us : List Lexeme) (y : A) (ns : List ℕ) → Further e x us y ns → (k : Lexeme) × (v : List Lexeme) × (n : ℕ) ×
          (ms : List ℕ) × (us ≡ k ∷ v) × (ns ≡ n ∷ ms) × (test k ≡ true) × (limit < n)
      deep_begun _ _ _ (pair ts us vs y z ns ms ks p q parts nests) =
          let b = begun e x us y ms p in (
            b.0,
            b.1 ++ vs,
            e,
            b.2 ++ ks,
            parts ∙ ap (λ (w : List Lexeme). w ++ vs) b.3,
            nests ∙ ap (λ (w : List ℕ). w ++ ks) b.4,
            b.5,
            is,
          )
  reads_repeat (b ∷ bs) e good is x =
      reads_as limit _ (Either (Further e x) (Give x)) (Repeat S e x) stop
      (reads_when limit test _ (give x) (Further e x) (Give x) stop
      (reads_then limit (step (b ∷ bs) x) (repeat test step bs) (S e x) (λ y. Repeat S (suc e) y) more stop
      (r b bs e good is x) (λ y. reads_repeat bs (suc e) (tail b bs good) (fits_next limit b bs e is) y)
      (λ y. record { tokens = []; value = y; nests = []; phrase = enough (suc e) y })
      (filled e x) (λ us y ns vs z ms rest q st. next (suc e) y vs z ms rest q st))
      (gives x) (opened e x) (free x))
      (to e x) (from e x)
