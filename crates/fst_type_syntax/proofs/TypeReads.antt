-- The readers of types have the laws of readers.
use Rattle.std.proofs.Common.{◌≡◌, ℕ, zero, suc, ◌+◌, ◌≤◌, ◌<◌, ◌⊎◌, inl, inr, Bool, false, ◌||◌, List, [], ◌∷◌, ◌++◌, length, Some, refl, sym, ap, ◌∙◌, arith, length-append}
use Rattle.std.specs.Prelude.{codes}
use Rattle.std.specs.Str.{bytes_eq}
use Rattle.fst_types.specs.declared.base.Base.{Base}
use Rattle.fst_types.specs.declared.base.Base.TheVariants as base
use Rattle.fst_types.specs.declared.kind.Use.TheVariants.{Once}
use Rattle.fst_types.specs.WrittenTree as written
use Rattle.fst_types.specs.WrittenTree.{WrittenTree, WrittenBranches}
use Rattle.fst_type_syntax.specs.declared.starts.Start.{Start}
use Rattle.fst_type_syntax.specs.declared.starts.Start.TheVariants as begin
use Rattle.fst_reading.specs.Lexeme.{Lexeme, spells, Is, start, lower_of, upper_of, is_one}
use Rattle.fst_type_syntax.specs.Grammar.{int, IsType, single, arrow, IsSeq, rec, atom, chain, IsAtom, skip, send, receive, close, wait, select, offer, plain, lower, upper, group, pair, IsAlts, last, further, IsAlt, alt}
use Rattle.fst_type_syntax.specs.Nesting.{type_nests, seq_nests, atom_nests, alts_nests, alt_nests}
use Rattle.fst_reading.specs.Faults.{level}
use Rattle.fst_reading.specs.Reading.{Reader, map_reader, only, word, begins, on, sep_by, shut}
use Rattle.fst_type_syntax.specs.TypeReading.{base_named, base_word, start_named, start_of, base_at, alt_with, choice_with, pair_with, paren_with, begun_with, atom_with, rec_with, chain_with, seq_with, arrow_with, type_with, starts_type, seq_at, type_at}
use Rattle.fst_reading.proofs.Phrases as phrase
use Rattle.fst_reading.proofs.Phrases.{Reads, never, Give, nothing, Then, Mapped, made, first, On, taken, other, at}
use Rattle.fst_reading.proofs.Steps.{SomePhrase}
use Rattle.fst_reading.proofs.Parts.{One, Sample, reads_give, reads_one, reads_mapped, reads_switch, reads_on, reads_as, reads_until}
use Rattle.fst_reading.proofs.Sequences.{reads_then, reads_separated}
use Rattle.fst_reading.proofs.Shut.{reads_shut}
use Rattle.fst_reading.proofs.Tokens.{fixed, fixed_is, a_lower, an_upper, no_other, only_is, one_is, word_not_one, one_spells}
use Rattle.fst_type_syntax.proofs.TypePhrases.{BaseP, AltP, BaseR, base_to, base_from, AltR, alt_to, alt_from, AltsR, ChoiceR, PairR, ClosedR, ParenR, BegunR, AtomR, atom_to, atom_from, RecR, ChainR, SeqR, seq_to, seq_from, IsBegun, StartsType, atom_begins, seq_begins, ArrowR, TypeR, type_to, type_from, type_begins}
use Rattle.fst_base.specs.Choice.{choose}
use Rattle.fst_type_syntax.proofs.TypeTokens.{is_base_word, no_base, means_start, no_start, no_type, starts_with}
use Rattle.fst_reading.proofs.Words.{Word, BeginsWith, filled_by, sample_word, sample_mapped, sample_then, one_filled, reads_first, words, lowers, uppers, reads_word, level_count}
use Rattle.std.proofs.lemmas.Bool.{or_parts}
use Rattle.fst_type_syntax.specs.Derives.{SeqPhrase, TypePhrase, AtomPhrase, lengthens_seq, lengthens}
use Rattle.fst_reading.proofs.Located.{reads_located}

-- samples
pub sample_seq : (d n : ℕ) → SomePhrase (SeqPhrase d)
sample_seq d n = record {
  tokens = fixed (codes "Skip") n ∷ [];
  value = written.skip n;
  nests = d ∷ [];
  phrase =
      (atom _ _ (skip (fixed (codes "Skip") n) (fixed_is (codes "Skip") n)), refl);
}

pub sample_type : (d n : ℕ) → SomePhrase (TypePhrase d)
sample_type d n = let s = sample_seq (suc d) n in
    record { tokens = s.tokens; value = s.value; nests = s.nests; phrase = (single _ _ s.phrase.0, s.phrase.1) }

base_words : (n : ℕ) → (k : Lexeme) × (x : Base) × (k.at ≡ n) × (base_word k ≡ Some x)
base_words n = (fixed (codes "Int") n, base.Int, refl, is_base_word base.Int (fixed (codes "Int") n) (fixed_is (codes "Int") n))

no_paren : (d : ℕ) (us : List Lexeme) (b : Base) (ns : List ℕ) (rest : List Lexeme) → One d base_word us b ns →
    never rest ≡ false → begins (spells (codes "(")) (us ++ rest) ≡ false
unfolding base_named choose
no_paren d _ _ _ rest (first k b _ _ _ e nothing) stop = no_base (codes "(") k b refl e

pub reads_base : (limit d : ℕ) → d ≤ limit → Reads limit base_at (BaseP d) never
unfolding base_at
reads_base limit d low =
    reads_as limit base_at (BaseR d) (BaseP d) never
    (reads_on limit d low (spells (codes "(")) _ _ _ _ never
    (reads_mapped limit _ (word (codes ")")) (Word d (codes ")")) never (reads_word limit d low (codes ")")))
    (reads_one limit d low base_word base_words) (no_paren d)) (base_to d) (base_from d)

-- the readers of the types inside, and what is known of them
module _ (limit d : ℕ) (low : d ≤ limit) (seq type : Reader WrittenTree) (rs : Reads limit seq (SeqPhrase (suc d)) lengthens_seq)
    (rt : Reads limit type (TypePhrase d) lengthens) where
  reads_alt : Reads limit (alt_with seq type) (AltP d) lengthens_seq
  unfolding alt_with
  reads_alt =
      reads_as limit _ (AltR d) (AltP d) lengthens_seq
      (reads_first limit d low upper_of uppers _ _ lengthens_seq
      (λ l. reads_first limit d low (only (spells (codes ":"))) (words (codes ":")) _ _ lengthens_seq
      (λ c. reads_mapped limit _ seq (SeqPhrase (suc d)) lengthens_seq rs)
      (λ c. sample_mapped _ (SeqPhrase (suc d)) (sample_seq (suc d) 0)))
      (λ l. sample_then (Word d (codes ":")) _ (sample_word d (codes ":"))
      (λ c. sample_mapped _ (SeqPhrase (suc d)) (sample_seq (suc d) 0))))
      (alt_to d) (alt_from d)

  -- a branch made up
  sample_alt : (n : ℕ) → (s : SomePhrase (AltP d)) × (0 < length s.tokens) × (start s.tokens ≡ n)
  sample_alt n =
      let s = sample_seq (suc d) 0 in (
        record {
          tokens = an_upper n ∷ fixed (codes ":") 0 ∷ s.tokens;
          value = ([], s.value);
          nests = d ∷ d ∷ s.nests;
          phrase = (
            alt (an_upper n) (fixed (codes ":") 0) s.tokens s.value refl (fixed_is (codes ":") 0) s.phrase.0,
            ap
                (λ (w : List ℕ). d ∷ d ∷ w) s.phrase.1,
          );
        },
        omega arith,
        refl,
      )

  alt_filled : (us : List Lexeme) (x : List ℕ × WrittenTree) (ns : List ℕ) → AltP d us x ns → 0 < length us
  alt_filled us x ns p = of_read (alt_from d us x ns p)
    where
      of_read : AltR d us x ns → 0 < length us
      of_read (phrase.pair ts us' vs y z ns' ms ks q r parts nests) =
          omega (arith, one_filled d upper_of us' y ms q, ap length parts, length-append us' vs)

  -- what may stand behind branches to make them more
  abbrev comma : List Lexeme → Bool
  comma ts = lengthens_seq ts || begins (spells (codes ",")) ts

  reads_alts : Reads limit (sep_by (spells (codes ",")) (alt_with seq type)) (AltsR d) comma
  reads_alts =
      reads_separated limit d low (spells (codes ",")) (alt_with seq type)
      (AltP d) lengthens_seq comma reads_alt sample_alt alt_filled
      (λ k ts is. no_other (codes ",") (codes ";") k refl is) (λ rest stop. or_parts _ _ stop)

  no_more_alts : (us : List Lexeme) (y : WrittenTree) (ns : List ℕ) (rest : List Lexeme) (h : Unit {0} → WrittenTree) →
      Mapped h (Word d (codes "}")) us y ns → comma (us ++ rest) ≡ false
  no_more_alts _ _ _ rest h (made _ _ _ (first c x _ _ _ e nothing)) =
      let is = only_is (spells (codes "}")) c x e in
      rw (no_other (codes "}") (codes ";") c refl is, no_other (codes "}") (codes ",") c refl is) refl

  alts_filled : (us : List Lexeme) (xs : List (List ℕ × WrittenTree)) (ns : List ℕ) → AltsR d us xs ns → 0 < length us
  alts_filled _ _ _ (phrase.last ts x ns p) = alt_filled ts x ns p
  alts_filled _ _ _ (phrase.further ts us vs k x xs ns ms ks p is q parts nests) =
      omega (arith, ap length parts, length-append us (k ∷ vs))

  reads_choice : (make : WrittenBranches → WrittenTree) → Reads limit (choice_with seq type make) (ChoiceR d make) never
  unfolding choice_with
  reads_choice make =
      reads_first limit d low (only (spells (codes "{"))) (words (codes "{")) _ _ never
      (λ o. reads_then limit _ _ (AltsR d) _ comma never reads_alts
      (λ bs. reads_mapped limit _ (word (codes "}")) (Word d (codes "}")) never (reads_word limit d low (codes "}")))
      (λ bs. sample_mapped _ (Word d (codes "}")) (sample_word d (codes "}"))) alts_filled
      (λ us x ns vs y ms rest q stop. no_more_alts vs y ms rest _ q))
      (λ o. sample_then (AltsR d) _ (let a = sample_alt 0 in
      record {
        tokens = a.0.tokens;
        value = a.0.value ∷ [];
        nests = a.0.nests;
        phrase =
            phrase.last a.0.tokens a.0.value a.0.nests a.0.phrase;
      })
      (λ bs. sample_mapped _ (Word d (codes "}")) (sample_word d (codes "}"))))

  type_filled : (us : List Lexeme) (x : WrittenTree) (ns : List ℕ) → TypePhrase d us x ns → 0 < length us
  type_filled us x ns p = filled_by StartsType (suc d) us ns (type_begins d us x ns p)

  -- no type lengthens on with a parenthesis or a comma
  goes_not : (w : List ℕ) (k : Lexeme) (ts : List Lexeme) → bytes_eq w (codes ";") ≡ false → bytes_eq w (codes "->") ≡ false →
      Is w k → lengthens (k ∷ ts) ≡ false
  goes_not w k ts a b is = rw (no_other w (codes ";") k a is, no_other w (codes "->") k b is, word_not_one w k is) refl

  goes_not_closed : (h : Unit {0} → WrittenTree) (us : List Lexeme) (y : WrittenTree) (ns : List ℕ) (rest : List Lexeme) →
      Mapped h (Word d (codes ")")) us y ns → lengthens (us ++ rest) ≡ false
  goes_not_closed h _ _ _ rest (made _ _ _ (first c x _ _ _ e nothing)) =
      goes_not (codes ")") c rest refl refl (only_is (spells (codes ")")) c x e)

  reads_pair : (k : Lexeme) (t : WrittenTree) → Reads limit (pair_with seq type k.at t) (PairR d k t) never
  unfolding pair_with
  reads_pair k t =
      reads_then limit _ _ (TypePhrase d) _ lengthens never rt
      (λ u. reads_mapped limit _ (word (codes ")")) (Word d (codes ")")) never (reads_word limit d low (codes ")")))
      (λ u. sample_mapped _ (Word d (codes ")")) (sample_word d (codes ")"))) type_filled
      (λ us x ns vs y ms rest q stop. goes_not_closed _ vs y ms rest q)

  closed_free : (h : Unit {0} → WrittenTree) (us : List Lexeme) (y : WrittenTree) (ns : List ℕ) (rest : List Lexeme) →
      Mapped h (Word d (codes ")")) us y ns → never rest ≡ false → begins (spells (codes ",")) (us ++ rest) ≡ false
  closed_free h _ _ _ rest (made _ _ _ (first c x _ _ _ e nothing)) stop =
      no_other (codes ")") (codes ",") c refl (only_is (spells (codes ")")) c x e)

  reads_closed : (k : Lexeme) (t : WrittenTree) →
      Reads limit (on (spells (codes ",")) (pair_with seq type k.at t) (map_reader (λ c. t) (word (codes ")"))))
      (ClosedR d k t) never
  reads_closed k t =
      reads_on limit d low (spells (codes ",")) _ _ _ _ never (reads_pair k t)
      (reads_mapped limit _ (word (codes ")")) (Word d (codes ")")) never (reads_word limit d low (codes ")")))
      (closed_free _)

  closed_goes : (k : Lexeme) (t : WrittenTree) (us : List Lexeme) (y : WrittenTree) (ns : List ℕ) (rest : List Lexeme) →
      ClosedR d k t us y ns → lengthens (us ++ rest) ≡ false
  closed_goes k t _ _ _ rest (taken c ts _ _ is p) = goes_not (codes ",") c (ts ++ rest) refl refl is
  closed_goes k t _ _ _ rest (other us y ns p) = goes_not_closed _ us y ns rest p

  type_no_close : (k : Lexeme) (us : List Lexeme) (y : WrittenTree) (ns : List ℕ) (rest : List Lexeme) →
      Then (TypePhrase d) (ClosedR d k) us y ns → never rest ≡ false → begins (spells (codes ")")) (us ++ rest) ≡ false
  unfolding start_named base_named choose
  type_no_close k _ _ _ rest (phrase.pair ts us vs t y ns ms ks p q parts nests) stop =
      let b = type_begins d us t ms p in
      let is : ts ++ rest ≡ b.0 ∷ (b.1 ++ vs ++ rest) = ap
      (λ (w : List Lexeme). w ++ rest) (parts ∙ ap (λ (w : List Lexeme). w ++ vs) b.3) in
      ap (begins (spells (codes ")"))) is ∙ no_type (codes ")") b.0 refl refl b.5

  reads_paren : (k : Lexeme) → Reads limit (paren_with seq type k.at) (ParenR d k) never
  unfolding paren_with
  reads_paren k =
      reads_on limit d low (spells (codes ")")) _ _ _ _ never (reads_give limit (written.plain k.at base.Unit))
      (reads_then limit _ _ (TypePhrase d) (ClosedR d k) lengthens never rt (reads_closed k)
      (λ t.
      let s = sample_mapped (λ (c : Unit {0}). t) (Word d (codes ")")) (sample_word d (codes ")")) in
      record { tokens = s.tokens; value = s.value; nests = s.nests; phrase = other _ _ _ s.phrase })
      type_filled (λ us x ns vs y ms rest q stop. closed_goes k x vs y ms rest q))
      (type_no_close k)

  reads_begun : (s : Start) (k : Lexeme) → Reads limit (begun_with seq type s k) (BegunR d s k) never
  reads_begun begin.Skip k = reads_give limit (written.skip k.at)
  reads_begun begin.Send k = reads_mapped limit _ base_at (BaseP d) never (reads_base limit d low)
  reads_begun begin.Receive k = reads_mapped limit _ base_at (BaseP d) never (reads_base limit d low)
  reads_begun begin.Close k = reads_give limit (written.close k.at)
  reads_begun begin.Wait k = reads_give limit (written.wait k.at)
  reads_begun begin.Select k = reads_choice (written.select k.at)
  reads_begun begin.Offer k = reads_choice (written.offer k.at)
  reads_begun begin.Paren k = reads_paren k
  reads_begun begin.Name k = reads_give limit (written.named k.at k.text)
  reads_begun (begin.Word b) k = reads_give limit (written.plain k.at b)

  sample_begun : (n : ℕ) → Sample start_of (BegunR d) n
  sample_begun n = record {
    token = fixed (codes "Skip") n;
    meaning = begin.Skip;
    place_is = refl;
    is = means_start begin.Skip (fixed (codes "Skip") n) (fixed_is (codes "Skip") n);
    rest = record { tokens = []; value = written.skip n; nests = []; phrase = nothing };
  }

  pub reads_atom : Reads limit (atom_with seq type) (AtomPhrase d) never
  unfolding atom_with
  reads_atom = reads_as limit _ (AtomR d) (AtomPhrase d) never
      (reads_switch limit d low start_of (begun_with seq type) (BegunR d) never reads_begun sample_begun) (atom_to d)
      (atom_from d)

  reads_rec : (n : ℕ) → Reads limit (rec_with seq type n) (RecR d n) lengthens_seq
  unfolding rec_with
  reads_rec n =
      reads_first limit d low lower_of lowers _ _ lengthens_seq
      (λ x. reads_first limit d low (only (spells (codes "."))) (words (codes ".")) _ _ lengthens_seq
      (λ c. reads_mapped limit _ seq (SeqPhrase (suc d)) lengthens_seq rs)
      (λ c. sample_mapped _ (SeqPhrase (suc d)) (sample_seq (suc d) 0)))
      (λ x. sample_then (Word d (codes ".")) _ (sample_word d (codes "."))
      (λ c. sample_mapped _ (SeqPhrase (suc d)) (sample_seq (suc d) 0)))

  nothing_free : {A : Type 0} (test : Lexeme → Bool) (t : A) (us : List Lexeme) (y : A) (ns : List ℕ) (rest : List Lexeme) →
      Give t us y ns → begins test rest ≡ false → begins test (us ++ rest) ≡ false
  nothing_free test t _ _ _ rest nothing stop = stop

  atom_filled : (us : List Lexeme) (x : WrittenTree) (ns : List ℕ) → AtomPhrase d us x ns → 0 < length us
  atom_filled us x ns p = filled_by IsBegun d us ns (atom_begins d us x ns p)

  reads_chain : (n : ℕ) → Reads limit (chain_with seq type n) (ChainR d n) lengthens_seq
  unfolding chain_with
  reads_chain n =
      reads_then limit _ _ (AtomPhrase d) _ never lengthens_seq reads_atom
      (λ t. reads_on limit d low (spells (codes ";")) _ _ _ _ lengthens_seq
      (reads_mapped limit _ seq (SeqPhrase (suc d)) lengthens_seq rs)
      (reads_until limit _ _ never lengthens_seq (reads_give limit t) (λ ts stop. refl))
      (λ us y ns rest q stop. nothing_free (spells (codes ";")) t us y ns rest q stop))
      (λ t. record { tokens = []; value = t; nests = []; phrase = other _ _ _ nothing }) atom_filled
      (λ us x ns vs y ms rest q stop. refl)

  chain_begins : (n : ℕ) (us : List Lexeme) (y : WrittenTree) (ns : List ℕ) → ChainR d n us y ns → BeginsWith IsBegun d us ns
  chain_begins n _ _ _ (phrase.pair ts us vs t y ns ms ks p q parts nests) =
      let b = atom_begins d us t ms p in
      (b.0, b.1 ++ vs, b.2 ++ ks, parts ∙ ap (λ (w : List Lexeme). w ++ vs) b.3, nests ∙ ap (λ (w : List ℕ). w ++ ks) b.4, b.5)

  no_rec : (n : ℕ) (us : List Lexeme) (y : WrittenTree) (ns : List ℕ) (rest : List Lexeme) → ChainR d n us y ns →
      lengthens_seq rest ≡ false → begins (spells (codes "rec")) (us ++ rest) ≡ false
  unfolding start_named base_named choose
  no_rec n us y ns rest p stop =
      let b = chain_begins n us y ns p in
      ap (λ (w : List Lexeme). begins (spells (codes "rec")) (w ++ rest)) b.3 ∙ no_start (codes "rec") b.0 b.5.0 refl b.5.1

  seq_inside_filled : (n : ℕ) (us : List Lexeme) (y : WrittenTree) (ns : List ℕ) →
      On d (spells (codes "rec")) (RecR d n) (ChainR d n) us y ns → 0 < length us
  seq_inside_filled n _ _ _ (taken k ts x ns is p) = omega arith
  seq_inside_filled n _ _ _ (other us y ns p) = filled_by IsBegun d us ns (chain_begins n us y ns p)

  pub reads_seq_with : Reads limit (seq_with seq type) (SeqPhrase d) lengthens_seq
  unfolding seq_with
  reads_seq_with =
      reads_as limit _ (SeqR d) (SeqPhrase d) lengthens_seq
      (reads_located limit _ _ lengthens_seq (λ n. reads_on limit d low (spells (codes "rec")) _ _ _ _ lengthens_seq (reads_rec n)
      (reads_chain n) (no_rec n)) seq_inside_filled)
      (seq_to d) (seq_from d)

-- one level further out: a type is read
module _ (limit d : ℕ) (low : suc d ≤ limit) (seq type : Reader WrittenTree)
    (rs : Reads limit seq (SeqPhrase (suc (suc d))) lengthens_seq) (rt : Reads limit type (TypePhrase (suc d)) lengthens) where
  arrow_free : (n : ℕ) (t : WrittenTree) (us : List Lexeme) (y : WrittenTree) (ns : List ℕ) (rest : List Lexeme) →
      On (suc d) is_one (Then (Word (suc d) (codes "->"))
      (λ (c : Unit {0}). Mapped (written.arrow n Once t) (TypePhrase (suc d)))) (Give t) us y ns → lengthens rest ≡ false →
      begins (spells (codes "->")) (us ++ rest) ≡ false
  arrow_free n t _ _ _ rest (taken k ts x ns is p) stop = one_spells (codes "->") k (one_is k is)
  arrow_free n t _ _ _ rest (other _ _ _ nothing) stop = (or_parts _ _ (or_parts _ _ stop).1).0

  one_free : (t : WrittenTree) (us : List Lexeme) (y : WrittenTree) (ns : List ℕ) (rest : List Lexeme) → Give t us y ns →
      lengthens rest ≡ false → begins is_one (us ++ rest) ≡ false
  one_free t _ _ _ rest nothing stop = (or_parts _ _ (or_parts _ _ stop).1).1

  reads_arrow : (n : ℕ) (t : WrittenTree) → Reads limit (arrow_with seq type n t) (ArrowR d n t) lengthens
  unfolding arrow_with
  reads_arrow n t =
      reads_on limit (suc d) low (spells (codes "->")) _ _ _ _ lengthens
      (reads_mapped limit _ type (TypePhrase (suc d)) lengthens rt)
      (reads_on limit (suc d) low is_one _ _ _ _ lengthens
      (reads_first limit (suc d) low (only (spells (codes "->"))) (words (codes "->")) _ _ lengthens
      (λ c. reads_mapped limit _ type (TypePhrase (suc d)) lengthens rt)
      (λ c. sample_mapped _ (TypePhrase (suc d)) (sample_type (suc d) 0)))
      (reads_until limit _ _ never lengthens (reads_give limit t) (λ ts stop. refl)) (one_free t))
      (arrow_free n t)

  arrow_semi : (n : ℕ) (t : WrittenTree) (us : List Lexeme) (y : WrittenTree) (ns : List ℕ) (rest : List Lexeme) →
      ArrowR d n t us y ns → lengthens rest ≡ false → lengthens_seq (us ++ rest) ≡ false
  arrow_semi n t _ _ _ rest (taken k ts x ns is p) stop = no_other (codes "->") (codes ";") k refl is
  arrow_semi n t _ _ _ rest (other _ _ _ (taken k ts x ns is p)) stop = one_spells (codes ";") k (one_is k is)
  arrow_semi n t _ _ _ rest (other _ _ _ (other _ _ _ nothing)) stop = (or_parts _ _ stop).0

  seq_filled : (us : List Lexeme) (y : WrittenTree) (ns : List ℕ) → SeqPhrase (suc d) us y ns → 0 < length us
  seq_filled us y ns p = filled_by StartsType (suc d) us ns (seq_begins (suc d) us y ns p)

  type_inside_filled : (n : ℕ) (us : List Lexeme) (y : WrittenTree) (ns : List ℕ) →
      Then (SeqPhrase (suc d)) (ArrowR d n) us y ns → 0 < length us
  type_inside_filled n _ _ _ (phrase.pair ts us vs t y ns ms ks p q parts nests) =
      omega (arith, seq_filled us t ms p, ap length parts, length-append us vs)

  pub reads_type_with : Reads limit (type_with seq type) (TypePhrase d) lengthens
  unfolding type_with
  reads_type_with =
      reads_as limit _ (TypeR d) (TypePhrase d) lengthens
      (reads_located limit _ _ lengthens
      (λ n. reads_then limit _ _ (SeqPhrase (suc d)) (ArrowR d n) lengthens_seq lengthens
      (reads_seq_with limit (suc d) low seq type rs rt) (λ t. reads_arrow n t)
      (λ t. record { tokens = []; value = t; nests = []; phrase = other _ _ _ (other _ _ _ nothing) }) seq_filled
      (λ us x ns vs y ms rest q stop. arrow_semi n x vs y ms rest q stop))
      type_inside_filled)
      (type_to d) (type_from d)

mutual
  -- one number for each token
  pub seq_count : (n : ℕ) {ts : List Lexeme} {t : WrittenTree} (s : IsSeq ts t) → length (seq_nests n s) ≡ length ts
  seq_count n (rec k x d ts t is name dot s) = omega (arith, seq_count (suc n) s)
  seq_count n (atom ts t a) = atom_count n a
  seq_count n (chain ts us all k t u a is s parts) =
      omega (
        arith,
        atom_count n a,
        seq_count (suc n) s,
        ap length parts,
        length-append ts (k ∷ us),
        length-append (atom_nests n a) (n ∷ seq_nests (suc n) s),
      )

  pub type_count : (n : ℕ) {ts : List Lexeme} {t : WrittenTree} (s : IsType ts t) → length (type_nests n s) ≡ length ts
  type_count n (single ts t s) = seq_count (suc n) s
  type_count n (arrow ts ks us all t u uses s a r parts) =
      omega (
        arith,
        seq_count (suc n) s,
        type_count (suc n) r,
        level_count (suc n) ks,
        ap length parts,
        length-append ts (ks ++ us),
        length-append ks us,
        length-append (seq_nests (suc n) s) (level (suc n) ks ++ type_nests (suc n) r),
        length-append (level (suc n) ks) (type_nests (suc n) r),
      )

  pub atom_count : (n : ℕ) {ts : List Lexeme} {t : WrittenTree} (s : IsAtom ts t) → length (atom_nests n s) ≡ length ts
  atom_count n (skip k is) = refl
  atom_count n (send k ts b is s) = ap suc (level_count n ts)
  atom_count n (receive k ts b is s) = ap suc (level_count n ts)
  atom_count n (close k is) = refl
  atom_count n (wait k is) = refl
  atom_count n (select k o c ts all bs is opens s closes parts) =
      omega (arith, alts_count n s, ap length parts, length-append ts (c ∷ []), length-append (alts_nests n s) (n ∷ []))
  atom_count n (offer k o c ts all bs is opens s closes parts) =
      omega (arith, alts_count n s, ap length parts, length-append ts (c ∷ []), length-append (alts_nests n s) (n ∷ []))
  atom_count n (plain ts b s) = level_count n ts
  atom_count n (lower k is) = refl
  atom_count n (upper k is) = refl
  atom_count n (group k c ts all t is s closes parts) =
      omega (arith, type_count n s, ap length parts, length-append ts (c ∷ []), length-append (type_nests n s) (n ∷ []))
  atom_count n (pair k m c ts us all t u is s comma r closes parts) =
      omega (
        arith,
        type_count n s,
        type_count n r,
        ap length parts,
        length-append ts (m ∷ (us ++ c ∷ [])),
        length-append us (c ∷ []),
        length-append (type_nests n s) (n ∷ (type_nests n r ++ n ∷ [])),
        length-append (type_nests n r) (n ∷ []),
      )

  alts_count : (n : ℕ) {ts : List Lexeme} {bs : WrittenBranches} (s : IsAlts ts bs) → length (alts_nests n s) ≡ length ts
  alts_count n (last ts l t a) = alt_count n a
  alts_count n (further ts us all k l t bs a is s parts) =
      omega (
        arith,
        alt_count n a,
        alts_count n s,
        ap length parts,
        length-append ts (k ∷ us),
        length-append (alt_nests n a) (n ∷ alts_nests n s),
      )

  alt_count : (n : ℕ) {ts : List Lexeme} {l : List ℕ} {t : WrittenTree} (s : IsAlt ts l t) → length (alt_nests n s) ≡ length ts
  alt_count n (alt l c ts t is colon s) = omega (arith, seq_count (suc n) s)

-- what makes a type of a token that begins one
record Opening (d : ℕ) (k : Lexeme) : Type 0 where
  others : List Lexeme
  value : WrittenTree
  nests : List ℕ
  phrase : SeqPhrase d (k ∷ others) value (d ∷ nests)

by_atom : (d : ℕ) (k : Lexeme) (s : Start) → start_of k ≡ Some s → SomePhrase (BegunR d s k) → Opening d k
by_atom d k s e q =
    let a = atom_to d _ _ _ (first k s q.tokens q.value q.nests e q.phrase) in
    record { others = q.tokens; value = q.value; nests = q.nests; phrase = (atom _ _ a.0, a.1) }

sample_choice : (d : ℕ) (make : WrittenBranches → WrittenTree) → SomePhrase (ChoiceR d make)
sample_choice d make =
    let s = sample_seq (suc d) 0 in
    let l = an_upper 0 in
    let c = fixed (codes ":") 0 in
    let a : AltP d (l ∷ c ∷ s.tokens) ([], s.value) (d ∷ d ∷ s.nests) =
    (alt l c s.tokens s.value refl (fixed_is (codes ":") 0) s.phrase.0, ap (λ (w : List ℕ). d ∷ d ∷ w) s.phrase.1) in
    sample_then (Word d (codes "{")) _ (sample_word d (codes "{"))
    (λ o. sample_then (AltsR d) _ (record {
      tokens = l ∷ c ∷ s.tokens;
      value =
          ([], s.value) ∷ [];
      nests = d ∷ d ∷ s.nests;
      phrase = phrase.last (l ∷ c ∷ s.tokens) ([], s.value) (d ∷ d ∷ s.nests) a;
    })
    (λ bs. sample_mapped _ (Word d (codes "}")) (sample_word d (codes "}"))))

sample_base : (d : ℕ) → SomePhrase (BaseP d)
sample_base d = record {
  tokens = fixed (codes "Int") 0 ∷ [];
  value = base.Int;
  nests = d ∷ [];
  phrase =
      (int (fixed (codes "Int") 0) (fixed_is (codes "Int") 0), refl);
}

pub opening_by : (d : ℕ) (k : Lexeme) (s : Start) → SomePhrase (BegunR d s k)
opening_by d k begin.Skip = record { tokens = []; value = written.skip k.at; nests = []; phrase = nothing }
opening_by d k begin.Send = sample_mapped (written.send k.at) (BaseP d) (sample_base d)
opening_by d k begin.Receive = sample_mapped (written.receive k.at) (BaseP d) (sample_base d)
opening_by d k begin.Close = record { tokens = []; value = written.close k.at; nests = []; phrase = nothing }
opening_by d k begin.Wait = record { tokens = []; value = written.wait k.at; nests = []; phrase = nothing }
opening_by d k begin.Select = sample_choice d (written.select k.at)
opening_by d k begin.Offer = sample_choice d (written.offer k.at)
opening_by d k begin.Paren =
    record {
      tokens = fixed (codes ")") 0 ∷ [];
      value = written.plain k.at base.Unit;
      nests = d ∷ [];
      phrase =
          taken (fixed (codes ")") 0) [] _ [] (fixed_is (codes ")") 0) nothing;
    }
opening_by d k begin.Name = record { tokens = []; value = written.named k.at k.text; nests = []; phrase = nothing }
opening_by d k (begin.Word b) = record { tokens = []; value = written.plain k.at b; nests = []; phrase = nothing }

opening : (d : ℕ) (k : Lexeme) → StartsType k → Opening d k
opening d k e = of_start (starts_with k e)
  where
    of_start : Is (codes "rec") k ⊎ ((s : Start) × (start_of k ≡ Some s)) → Opening d k
    of_start (inl is) =
        let s = sample_seq (suc d) 0 in
        record {
          others = a_lower 0 ∷ fixed (codes ".") 0 ∷ s.tokens;
          value = written.rec k.at [] s.value;
          nests = d ∷ d ∷ s.nests;
          phrase = (
            rec k (a_lower 0) (fixed (codes ".") 0) s.tokens s.value is refl (fixed_is (codes ".") 0) s.phrase.0,
            ap
                (λ (w : List ℕ). d ∷ d ∷ d ∷ w) s.phrase.1,
          );
        }
    of_start (inr s) = by_atom d k s.0 s.1 (opening_by d k s.0)

shut_seq : (limit d : ℕ) → limit < d → Reads limit (shut starts_type) (SeqPhrase d) lengthens_seq
unfolding sample_seq
shut_seq limit d over =
    reads_shut limit starts_type (SeqPhrase d) lengthens_seq (λ n. (sample_seq d n, refl))
    (λ k e. let o = opening d k e in (o.others, o.value, d, o.nests, o.phrase, over))
    (λ us x ns p. let b = seq_begins d us x ns p in (b.0, b.1, d, b.2, b.3, b.4, b.5, over))
    (λ us x ns p. ap length (sym p.1) ∙ seq_count d p.0)

shut_type : (limit d : ℕ) → limit < suc d → Reads limit (shut starts_type) (TypePhrase d) lengthens
unfolding sample_type sample_seq
shut_type limit d over =
    reads_shut limit starts_type (TypePhrase d) lengthens (λ n. (sample_type d n, refl))
    (λ k e. let o = opening (suc d) k e in (o.others, o.value, suc d, o.nests, (single _ _ o.phrase.0, o.phrase.1), over))
    (λ us x ns p. let b = type_begins d us x ns p in (b.0, b.1, suc d, b.2, b.3, b.4, b.5, over))
    (λ us x ns p. ap length (sym p.1) ∙ type_count d p.0)

mutual
  unfolding seq_at type_at

  -- each `seqtype` is read where it isn't too deep
  pub reads_seq : (limit n d : ℕ) → d + n ≡ suc limit → Reads limit (seq_at n) (SeqPhrase d) lengthens_seq
  reads_seq limit zero d e = shut_seq limit d (omega arith)
  reads_seq limit (suc n) d e = reads_seq_with limit d (omega arith) (seq_at n) (type_at n)
      (reads_seq limit n (suc d) (omega arith)) (reads_type limit n d (omega arith))

  -- and each type
  pub reads_type : (limit n d : ℕ) → d + n ≡ limit → Reads limit (type_at n) (TypePhrase d) lengthens
  reads_type limit zero d e = shut_type limit d (omega arith)
  reads_type limit (suc n) d e = reads_type_with limit d (omega arith) (seq_at n) (type_at n)
      (reads_seq limit n (suc (suc d)) (omega arith)) (reads_type limit n (suc d) (omega arith))
