-- The reader that is told where its phrase begins, by its laws.
use Rattle.std.proofs.Common.{◌≡◌, ℕ, ◌<◌, Bool, false, List, [], ◌∷◌, ◌++◌, length, Ok, Err, refl, sym, ap, subst, ◌∙◌, arith}
use Rattle.fst_reading.specs.Lexeme.{Lexeme, start}
use Rattle.fst_reading.specs.Faults.{Phrase}
use Rattle.fst_reading.proofs.Steps.{start_more}
use Rattle.fst_reading.specs.Reading.{Halt, Reader, with_start}
use Rattle.fst_reading.proofs.Phrases.{Found, Stopped, Outcome, whole, deep, SameUpTo, Reads, Located, at}

-- a phrase that has a token, by where it begins
pub locate : {A : Type 0} (P : ℕ → Phrase A) (n : ℕ) (ts : List Lexeme) (x : A) (ns : List ℕ) → 0 < length ts → start ts ≡ n →
    P n ts x ns → Located P ts x ns
locate P n [] x ns lt e p = absurd (omega arith)
locate P n (k ∷ ts) x ns lt e p = at k ts x ns (subst (λ z. P z (k ∷ ts) x ns) (sym e) p)

start_alike : (k : Lexeme) (t t' w : List Lexeme) → start (w ++ k ∷ t) ≡ start (w ++ k ∷ t')
start_alike k t t' [] = refl
start_alike k t t' (c ∷ w) = refl

-- a reader that is told where its phrase begins
module _ {A : Type 0} (limit : ℕ) (f : ℕ → Reader A) (P : ℕ → Phrase A) (more : List Lexeme → Bool)
    (r : (n : ℕ) → Reads limit (f n) (P n) more)
    (filled : (n : ℕ) (us : List Lexeme) (x : A) (ns : List ℕ) → P n us x ns → 0 < length us) where
  located_found : (ts : List Lexeme) (y : A) (rest : List Lexeme) → with_start f ts ≡ Ok (y, rest) →
      Found limit (Located P) ts y rest
  located_found ts y rest e =
      let q = (r (start ts)).found ts y rest e in
      let some = filled _ _ _ _ q.phrase in
      record {
        tokens = q.tokens;
        nests = q.nests;
        parts = q.parts;
        low = q.low;
        phrase = locate P (start ts) q.tokens y q.nests some
            (sym (start_more q.tokens rest (start q.tokens) some refl) ∙ ap start (sym q.parts)) q.phrase;
      }

  located_stopped : (ts : List Lexeme) (h : Halt) → with_start f ts ≡ Err h → Stopped limit (Located P) h ts
  located_stopped ts h e =
      let q = (r (start ts)).stopped ts h e in
      record {
        tokens = q.tokens;
        others = q.others;
        value = q.value;
        nests = q.nests;
        high = q.high;
        parts = q.parts;
        phrase = locate P (start ts) (q.tokens ++ q.others) q.value (q.nests ++ q.high) (filled _ _ _ _ q.phrase)
            (q.begins_so (filled _ _ _ _ q.phrase)) q.phrase;
        count = q.count;
        low = q.low;
        over = q.over;
        begins_so = q.begins_so;
      }

  located_reads : (ts : List Lexeme) (y : A) (ns : List ℕ) (rest : List Lexeme) → Located P ts y ns → more rest ≡ false →
      Outcome limit (with_start f) ts y ns rest
  located_reads _ _ _ rest (at k ts x ns q) stop = of_same ((r k.at).reads (k ∷ ts) x ns rest q stop)
    where
      of_same : Outcome limit (f k.at) (k ∷ ts) x ns rest → Outcome limit (with_start f) (k ∷ ts) x ns rest
      of_same (whole lows e) = whole lows e
      of_same (deep pre v c lows highs n a b l o p e) = deep pre v c lows highs n a b l o p e

  located_alike : (k : Lexeme) (t t' w : List Lexeme) → SameUpTo k t t' (with_start f (w ++ k ∷ t)) (with_start f (w ++ k ∷ t'))
  located_alike k t t' w =
      subst (λ z. SameUpTo k t t' (f (start (w ++ k ∷ t)) (w ++ k ∷ t)) (f z (w ++ k ∷ t'))) (start_alike k t t' w)
      ((r (start (w ++ k ∷ t))).alike k t t' w)

  located_counted : (ts : List Lexeme) (y : A) (ns : List ℕ) → Located P ts y ns → length ns ≡ length ts
  located_counted _ _ _ (at k ts x ns q) = (r k.at).counted (k ∷ ts) x ns q

  pub reads_located : Reads limit (with_start f) (Located P) more
  reads_located = record {
    found = located_found;
    stopped = located_stopped;
    reads = located_reads;
    alike = located_alike;
    counted = located_counted;
  }
