-- The readers of chains have the laws of readers.
use Rattle.std.proofs.Common.{◌≡◌, ℕ, suc, ◌<◌, Bool, true, false, List, [], ◌∷◌, ◌++◌, length, Option, Some, None, refl, ap, ◌∙◌, arith, length-append}
use Rattle.fst_terms.specs.declared.term.Op.{Op}
use Rattle.fst_terms.specs.TermTree as term
use Rattle.fst_terms.specs.TermTree.{TermTree}
use Rattle.fst_reading.specs.Lexeme.{Lexeme, start}
use Rattle.fst_reading.specs.Faults.{Phrase}
use Rattle.fst_reading.proofs.Steps.{SomePhrase}
use Rattle.fst_reading.specs.Reading.{Reader, map_reader, switch, begins}
use Rattle.fst_reading.proofs.Phrases.{Reads, pair, Mapped, made, first, Located, Repeat, enough, again}
use Rattle.fst_reading.proofs.Words.{sample_mapped}
use Rattle.fst_reading.proofs.Parts.{Sample, reads_mapped, reads_switch, reads_as}
use Rattle.fst_reading.proofs.Sequences.{reads_then}
use Rattle.fst_reading.proofs.Repeats.{Fits, fits_next, reads_repeat}
use Rattle.fst_module_grammar.specs.TermReading.{Inside, is_op, next, chain_with, chain}
use Rattle.fst_module_grammar.proofs.Lefts.{Left, Right, left_filled, to_left, of_left}
use Rattle.fst_module_grammar.proofs.ChainPhrases.{Step}
use Rattle.fst_reading.proofs.Located.{reads_located, locate}

-- what fits still fits behind the first operand
pub fits_behind : (limit : ℕ) (es : Inside) (d : ℕ) → Fits limit es d → Fits limit (next es) (suc d)
fits_behind limit [] d is = omega (arith, is)
fits_behind limit (e ∷ es) d is = fits_next limit e es d is

module _ (limit : ℕ) (p : Lexeme → Option Op) (operand : Inside → Reader TermTree) (P : ℕ → Phrase TermTree)
    (more stop : List Lexeme → Bool)
    (Good : Inside → Type 0) (nil : Good []) (tail : (e : Reader TermTree) (es : Inside) → Good (e ∷ es) → Good es)
    (r : (es : Inside) (d : ℕ) → Good es → Fits limit es d → Reads limit (operand es) (P d) more)
    (sample : (d n : ℕ) → (s : SomePhrase (P d)) × (start s.tokens ≡ n))
    (filled : (d : ℕ) (us : List Lexeme) (t : TermTree) (ns : List ℕ) → P d us t ns → 0 < length us)
    (count : (d : ℕ) (us : List Lexeme) (t : TermTree) (ns : List ℕ) → P d us t ns → length ns ≡ length us)
    (ops : (n : ℕ) → (k : Lexeme) × (o : Op) × (k.at ≡ n) × (p k ≡ Some o))
    (sign : (k : Lexeme) (ts : List Lexeme) → is_op (p k) ≡ true → more (k ∷ ts) ≡ false)
    (end_ : (rest : List Lexeme) → stop rest ≡ false → (more rest ≡ false) × (begins (λ k. is_op (p k)) rest ≡ false)) where
  abbrev operate_with : ℕ → Inside → TermTree → Reader TermTree
  operate_with at es t = switch p (λ o k. map_reader (term.operate at o t) (operand es))

  step_sample : (at d n : ℕ) (t : TermTree) → Sample p (λ o k. Mapped (term.operate at o t) (P d)) n
  step_sample at d n t =
      let k = ops n in
      record {
        token = k.0;
        meaning = k.1;
        place_is = k.2;
        is = k.3;
        rest =
            sample_mapped (term.operate at k.1 t) (P d) (sample d 0).0;
      }

  reads_step : (at : ℕ) (e : Reader TermTree) (es : Inside) (d : ℕ) → Good (e ∷ es) → Fits limit (e ∷ es) d →
      (t : TermTree) → Reads limit (operate_with at (e ∷ es) t) (Step p P at d t) more
  reads_step at e es d good fits t =
      reads_switch limit d (omega (arith, fits)) p (λ o k. map_reader (term.operate at o t) (operand (e ∷ es)))
      (λ o k. Mapped (term.operate at o t) (P d)) more
      (λ o k. reads_mapped limit (term.operate at o t) (operand (e ∷ es)) (P d) more (r (e ∷ es) d good fits))
      (λ n. step_sample at d n t)

  some_step : (at d n : ℕ) (t : TermTree) → (s : SomePhrase (Step p P at d t)) × (start s.tokens ≡ n)
  some_step at d n t =
      let s = step_sample at d n t in (
        record {
          tokens = s.token ∷ s.rest.tokens;
          value = s.rest.value;
          nests = d ∷ s.rest.nests;
          phrase =
              first s.token s.meaning s.rest.tokens s.rest.value s.rest.nests s.is s.rest.phrase;
        },
        s.place_is,
      )

  opens : (at d : ℕ) (t : TermTree) (k : Lexeme) → is_op (p k) ≡ true → (others : List Lexeme) × (y : TermTree) ×
      (ns : List ℕ) × Step p P at d t (k ∷ others) y (d ∷ ns)
  opens at d t k is = by_op (p k) refl is
    where
      by_op : (o : Option Op) → p k ≡ o → is_op o ≡ true → (others : List Lexeme) × (y : TermTree) ×
          (ns : List ℕ) × Step p P at d t (k ∷ others) y (d ∷ ns)
      by_op (Some o) e g = let s = sample_mapped (term.operate at o t) (P d) (sample d 0).0 in
          (s.tokens, s.value, s.nests, first k o s.tokens s.value s.nests e s.phrase)
      by_op None e g = absurd cc

  begun : (at d : ℕ) (t : TermTree) (us : List Lexeme) (y : TermTree) (ns : List ℕ) → Step p P at d t us y ns →
      (k : Lexeme) × (v : List Lexeme) × (ms : List ℕ) × (us ≡ k ∷ v) × (ns ≡ d ∷ ms) × (is_op (p k) ≡ true)
  begun at d t _ _ _ (first k o us y ns e q) = (k, us, ns, refl, refl, ap is_op e)

  step_count : (at d : ℕ) (t : TermTree) (us : List Lexeme) (y : TermTree) (ns : List ℕ) → Step p P at d t us y ns →
      length ns ≡ length us
  step_count at d t _ _ _ (first k o _ _ _ e (made us u ns q)) = ap suc (count d us u ns q)

  reads_steps : (at : ℕ) (es : Inside) (d : ℕ) → Good es → Fits limit es d →
      (t : TermTree) → Reads limit (chain_with p operand at es t) (Repeat (Step p P at) d t) stop
  unfolding chain_with
  reads_steps at es d good fits t =
      reads_repeat limit (λ k. is_op (p k)) (operate_with at) (Step p P at) more stop Good tail
      (λ e es d good fits t. reads_step at e es d good fits t)
      (λ d n t. some_step at d n t) (λ d t k is. opens at d t k is) (λ d t us y ns q. begun at d t us y ns q)
      (λ d t us y ns q. step_count at d t us y ns q) sign end_ es d good fits t

  good_next : (es : Inside) → Good es → Good (next es)
  good_next [] good = nil
  good_next (e ∷ es) good = tail e es good

  followed : (at d : ℕ) (t : TermTree) (vs : List Lexeme) (y : TermTree) (ms : List ℕ) (rest : List Lexeme) →
      Repeat (Step p P at) d t vs y ms → stop rest ≡ false → more (vs ++ rest) ≡ false
  followed at _ _ _ _ _ rest (enough d t) st = (end_ rest st).0
  followed at _ _ _ _ _ rest (again ts us vs d t y z ns ms ks s q parts nests) st =
      let b = begun at d t us y ms s in
      ap (λ (w : List Lexeme). more (w ++ rest)) (parts ∙ ap (λ (w : List Lexeme). w ++ vs) b.3)
      ∙ sign b.0 ((b.1 ++ vs) ++ rest) b.5

  right_filled : (at d : ℕ) (us : List Lexeme) (t : TermTree) (ns : List ℕ) → Right (P d) (Step p P) d (filled d) at us t ns →
      0 < length us
  right_filled at d _ _ _ (pair ts us vs t y ns ms ks q s parts nests) =
      omega (arith, filled d us t ms q, ap length parts, length-append us vs)

  -- a chain is read as it is put together
  pub reads_chain : (es : Inside) (d : ℕ) → Good es → Fits limit es d →
      Reads limit (chain p operand es) (Located (λ at. Right (P d) (Step p P) d (filled d) at)) stop
  unfolding chain
  reads_chain es d good fits =
      reads_located limit _ _ stop
      (λ at. reads_then limit (operand es) (chain_with p operand at (next es)) (P d)
      (λ t. Repeat (Step p P at) (suc d) t) more stop (r es d good fits)
      (λ t. reads_steps at (next es) (suc d) (good_next es good) (fits_behind limit es d fits) t)
      (λ t. record { tokens = []; value = t; nests = []; phrase = enough (suc d) t })
      (filled d) (λ us t ns vs y ms rest q st. followed at (suc d) t vs y ms rest q st))
      (λ at us t ns q. right_filled at d us t ns q)

  -- a chain is read, by what it is put together from
  module _ (Q : ℕ → Phrase TermTree) (to : (d c : ℕ) (ts : List Lexeme) (t : TermTree) (ns : List ℕ) →
      Left (P d) (Step p P) d c ts t ns → Q d ts t ns)
      (from : (d : ℕ) (ts : List Lexeme) (t : TermTree) (ns : List ℕ) → Q d ts t ns →
      (c : ℕ) × Left (P d) (Step p P) d c ts t ns) where
    as_read : (d : ℕ) (ts : List Lexeme) (t : TermTree) (ns : List ℕ) → Located
        (λ n. Right (P d) (Step p P) d (filled d) n) ts t ns → Q d ts t ns
    as_read d _ _ _ (Located.at k ts t ns q) = let l = to_left (P d) (Step p P) d (filled d) k.at (k ∷ ts) t ns refl q in
        to d l.0 (k ∷ ts) t ns l.1

    read_as : (d : ℕ) (ts : List Lexeme) (t : TermTree) (ns : List ℕ) → Q d ts t ns → Located
        (λ n. Right (P d) (Step p P) d (filled d) n) ts t ns
    read_as d ts t ns q =
        let l = from d ts t ns q in
        locate (λ n. Right (P d) (Step p P) d (filled d) n) (start ts) ts t ns
        (left_filled (P d) (Step p P) d (filled d) l.0 ts t ns l.1) refl
        (of_left (P d) (Step p P) d (filled d) l.0 ts t ns l.1)

    pub reads_chain_as : (es : Inside) (d : ℕ) → Good es → Fits limit es d → Reads limit (chain p operand es) (Q d) stop
    reads_chain_as es d good fits = reads_as limit _ (Located (λ n. Right (P d) (Step p P) d (filled d) n)) (Q d) stop
        (reads_chain es d good fits) (as_read d) (read_as d)
