-- A reader with its laws answers exactly what stands there: a phrase, where it stops, or where it is too deep.
use Rattle.std.proofs.Common.{◌≡◌, ℕ, ◌+◌, ◌<◌, Bool, false, List, [], ◌∷◌, ◌++◌, length, Result, Ok, Err, refl, sym, ap, subst, ◌∙◌, arith, append_assoc, length-append}
use Rattle.std.proofs.lemmas.List.{append-nil}
use Rattle.fst_reading.specs.Faults.{PhraseOf, IsWithinLimit, Begins, BeginsWithinLimit, NoneGoesOn, IsFirstError, IsTooDeep}
use Rattle.fst_reading.specs.Reading.{HaltOf, Syntax, Deep, ReaderOf}
use Rattle.fst_reading.proofs.Phrases.{StoppedAt, Outcome, whole, deep, left_by, leaving, ReadsJust}
use Rattle.fst_reading.proofs.Lists.{one_first, first_behind, none_over}
use Rattle.fst_base.proofs.Lists.{Cuts, shorter, same, longer, cuts, one_cut}

abbrev failed : {T A : Type 0} → HaltOf T → Result A (HaltOf T)
failed h = Err h

deep_is : {T A : Type 0} (s t : List T) → failed {A = A} (Deep s) ≡ failed (Deep t) → s ≡ t
deep_is s t e = cc

module _ {T A : Type 0} (limit : ℕ) (f : ReaderOf T A) (P : PhraseOf T A) (more : List T → Bool) (r : ReadsJust limit f P more)
    (ends : (ts : List T) (x : A) (rest : List T) → f ts ≡ Ok (x, rest) → more rest ≡ false) (free : more [] ≡ false) where
  -- a phrase at the front is read, or refused as too deep
  answered : (ts : List T) (x : A) (rest : List T) (b : Begins P more ts x rest) → Outcome limit f b.tokens x b.nests rest
  answered ts x rest b = r.reads b.tokens x b.nests rest b.phrase b.ended

  pub is_read : (ts : List T) (x : A) (rest : List T) → f ts ≡ Ok (x, rest) → BeginsWithinLimit limit P more ts x rest
  is_read ts x rest e =
      let q = r.found ts x rest e in
      (record { tokens = q.tokens; nests = q.nests; parts = q.parts; phrase = q.phrase; ended = ends ts x rest e }, q.low)

  pub too_deep : (ts s : List T) → f ts ≡ Err (Deep s) → IsTooDeep limit P ts s
  too_deep ts s e =
      let q = r.stopped ts (Deep s) e in
      let o = q.over in
      record {
        tokens = q.tokens;
        token = o.token;
        after = o.after;
        others = o.further;
        value = q.value;
        nests = q.nests;
        nest = o.nest;
        further = o.nests;
        parts = q.parts;
        is_here = o.here;
        phrase = subst (λ z. P (q.tokens ++ o.token ∷ o.further) q.value (q.nests ++ z)) o.highest
            (subst (λ z. P (q.tokens ++ z) q.value (q.nests ++ q.high)) o.first q.phrase);
        count = q.count;
        low = q.low;
        over = o.over;
      }

  -- a phrase is never refused as no phrase
  never_syntax : (ts : List T) (x : A) (rest s : List T) → Begins P more ts x rest → f ts ≡ Err (Syntax s) → ⊥
  never_syntax ts x rest s b e = of_outcome (answered ts x rest b)
    where
      here : f (b.tokens ++ rest) ≡ Err (Syntax s)
      here = ap f (sym b.parts) ∙ e

      of_outcome : Outcome limit f b.tokens x b.nests rest → ⊥
      of_outcome (whole low d) = let both = sym d ∙ here in cc
      of_outcome (deep pre v k low high n a c l o q d) = let both = sym d ∙ here in cc

  -- what was refused at a token is so whatever stands behind it
  syntax_again : (ts pre : List T) (k : T) (after others : List T) → ts ≡ pre ++ k ∷ after → f ts ≡ Err (Syntax (k ∷ after)) →
      f (pre ++ k ∷ others) ≡ Err (Syntax (k ∷ others))
  syntax_again ts pre k after others is e =
      let here : f (pre ++ k ∷ after) ≡ Err (Syntax (k ∷ after)) = ap f (sym is) ∙ e in
      let again = r.alike k after others pre [] (ap left_by here) in
      again ∙ ap (λ z. leaving z (k ∷ others)) here

  deep_again : (ts pre : List T) (k : T) (after others : List T) → ts ≡ pre ++ k ∷ after → f ts ≡ Err (Deep (k ∷ after)) →
      f (pre ++ k ∷ others) ≡ Err (Deep (k ∷ others))
  deep_again ts pre k after others is e =
      let here : f (pre ++ k ∷ after) ≡ Err (Deep (k ∷ after)) = ap f (sym is) ∙ e in
      let again = r.alike k after others pre [] (ap left_by here) in
      again ∙ ap (λ z. leaving z (k ∷ others)) here

  pub stops : (ts s : List T) → f ts ≡ Err (Syntax s) → IsFirstError limit P more ts s
  stops ts s e = of_rest s (r.stopped ts (Syntax s) e) e
    where
      of_rest : (z : List T) → StoppedAt limit P (Syntax z) ts → f ts ≡ Err (Syntax z) → IsFirstError limit P more ts z
      of_rest [] q g = record {
        tokens = q.tokens;
        parts = q.parts;
        goes_on = record {
          others = q.others;
          value = q.value;
          nests = q.nests;
          further = q.high;
          phrase = q.phrase;
          count =
              q.count;
          low = q.low;
        };
        none = λ x rest b. never_syntax q.tokens x rest [] b (ap f (sym (q.parts ∙ append-nil q.tokens)) ∙ g);
      }
      of_rest (k ∷ z) q g = record {
        tokens = q.tokens;
        parts = q.parts;
        goes_on = record {
          others = q.others;
          value = q.value;
          nests = q.nests;
          further = q.high;
          phrase = q.phrase;
          count =
              q.count;
          low = q.low;
        };
        none = λ others x rest b. never_syntax (q.tokens ++ k ∷ others) x rest (k ∷ others) b
            (syntax_again ts q.tokens k z others q.parts g);
      }

  -- what stands there is what is answered
  pub read_gives : (ts : List T) (x : A) (rest : List T) → BeginsWithinLimit limit P more ts x rest → f ts ≡ Ok (x, rest)
  read_gives ts x rest b = of_outcome (answered ts x rest b.0)
    where
      of_outcome : Outcome limit f b.0.tokens x b.0.nests rest → f ts ≡ Ok (x, rest)
      of_outcome (whole low d) = ap f b.0.parts ∙ d
      of_outcome (deep pre v k low high n a c l o q d) = absurd (none_over limit low high n (subst (IsWithinLimit limit) c b.1) q)

  -- the first token over the limit is refused
  first_over : (pre : List T) (k : T) (others : List T) (x : A) (low : List ℕ) (n : ℕ) (high : List ℕ) →
      P (pre ++ k ∷ others) x (low ++ n ∷ high) →
      length low ≡ length pre → IsWithinLimit limit low → limit < n → f (pre ++ k ∷ others) ≡ Err (Deep (k ∷ others))
  first_over pre k others x low n high p count below over = of_outcome (r.reads (pre ++ k ∷ others) x (low ++ n ∷ high) [] p free)
    where
      of_outcome : Outcome limit f (pre ++ k ∷ others) x (low ++ n ∷ high) [] → f (pre ++ k ∷ others) ≡ Err (Deep (k ∷ others))
      of_outcome (whole lows d) = absurd (none_over limit low high n lows over)
      of_outcome (deep pre' v c lows highs m a b l o q d) =
          let place = one_first limit low lows n m high highs b below o over q in
          let cut = one_cut pre (k ∷ others) pre' (c ∷ v) a (omega (arith, place, l, count)) in
          ap f (sym (append-nil (pre ++ k ∷ others))) ∙ d ∙ ap (λ (w : List T). Err (Deep w)) (append-nil (c ∷ v) ∙ sym cut.1)

  pub deep_gives : (ts s : List T) → IsTooDeep limit P ts s → f ts ≡ Err (Deep s)
  deep_gives ts s d =
      let there = first_over d.tokens d.token d.others d.value d.nests d.nest d.further d.phrase d.count d.low d.over in
      let is : ts ≡ d.tokens ++ d.token ∷ d.after = d.parts ∙ ap (λ (w : List T). d.tokens ++ w) d.is_here in
      ap f is ∙ deep_again (d.tokens ++ d.token ∷ d.others) d.tokens d.token d.others d.after refl there ∙ ap
      (λ (w : List T). Err (Deep w)) (sym d.is_here)

  -- a phrase that goes on with the token here, or ends where none is left, is no place to stop
  no_phrase : (ts here : List T) (x : A) (ns : List ℕ) (others : List T) → NoneGoesOn P more ts here →
      (k : T) (after : List T) → here ≡ k ∷ after → P (ts ++ k ∷ others) x ns → ⊥
  no_phrase ts [] x ns others none k after is p = absurd cc
  no_phrase ts (c ∷ here) x ns others none k after is p =
      let head : k ≡ c = cc in
      none others x [] (record {
        tokens = ts ++ c ∷ others;
        nests = ns;
        parts = sym (append-nil (ts ++ c ∷ others));
        phrase =
            subst (λ z. P (ts ++ z ∷ others) x ns) head p;
        ended = free;
      })

  pub stops_gives : (ts s : List T) → IsFirstError limit P more ts s → f ts ≡ Err (Syntax s)
  stops_gives ts s z = of_step (f ts) refl
    where
      no_value : (x : A) (rest here : List T) → ts ≡ z.tokens ++ here → NoneGoesOn P more z.tokens here →
          Begins P more ts x rest → ⊥
      no_value x rest [] is none b = none x rest (subst (λ w. Begins P more w x rest) (is ∙ append-nil z.tokens) b)
      no_value x rest (k ∷ here) is none b = none here x rest (subst (λ w. Begins P more w x rest) is b)

      of_syntax : (t : List T) (q : StoppedAt limit P (Syntax t) ts) → f ts ≡ Err (Syntax t) → Cuts q.tokens t z.tokens s → t ≡ s
      of_syntax t q e (shorter k m a b) =
          let again = syntax_again ts q.tokens k (m ++ s) (m ++ z.goes_on.others) (q.parts ∙ ap (λ (w : List T). q.tokens ++ w) b)
          (e ∙ ap (λ (w : List T). Err (Syntax w)) b) in
          let front : z.tokens ++ z.goes_on.others ≡ q.tokens ++ k ∷ (m ++ z.goes_on.others) = ap
          (λ (w : List T). w ++ z.goes_on.others) a ∙ append_assoc q.tokens (k ∷ m) z.goes_on.others in
          absurd (never_syntax (z.tokens ++ z.goes_on.others) z.goes_on.value [] _
          (record {
            tokens = z.tokens ++ z.goes_on.others;
            nests = z.goes_on.nests ++ z.goes_on.further;
            parts =
                sym (append-nil _);
            phrase = z.goes_on.phrase;
            ended = free;
          }) (ap f front ∙ again))
      of_syntax t q e (same a b) = b
      of_syntax t q e (longer k m a b) =
          absurd (no_phrase z.tokens s q.value (q.nests ++ q.high) (m ++ q.others) z.none k (m ++ t) b
          (subst (λ w. P w q.value (q.nests ++ q.high))
          (ap (λ (w : List T). w ++ q.others) a ∙ append_assoc z.tokens (k ∷ m) q.others) q.phrase))

      of_deep : (t : List T) (d : IsTooDeep limit P ts t) → f ts ≡ Err (Deep t) → Cuts d.tokens t z.tokens s → ⊥
      of_deep t d e (shorter k m a b) =
          let again = deep_again ts d.tokens k (m ++ s) (m ++ z.goes_on.others) (d.parts ∙ ap (λ (w : List T). d.tokens ++ w) b)
          (e ∙ ap (λ (w : List T). Err (Deep w)) b) in
          let front : z.tokens ++ z.goes_on.others ≡ d.tokens ++ k ∷ (m ++ z.goes_on.others) = ap
          (λ (w : List T). w ++ z.goes_on.others) a ∙ append_assoc d.tokens (k ∷ m) z.goes_on.others in
          of_outcome (k ∷ (m ++ z.goes_on.others)) (ap f front ∙ again)
          (omega (arith, ap length a, length-append d.tokens (k ∷ m)))
          (omega (arith, length-append d.tokens (k ∷ (m ++ z.goes_on.others)), ap length front))
          (r.reads (z.tokens ++ z.goes_on.others) z.goes_on.value
          (z.goes_on.nests ++ z.goes_on.further) [] z.goes_on.phrase free)
        where
          of_outcome : (w : List T) → f (z.tokens ++ z.goes_on.others) ≡ Err (Deep w) → length d.tokens < length z.tokens →
              length (z.tokens ++ z.goes_on.others) ≡ length d.tokens + length w →
              Outcome limit f (z.tokens ++ z.goes_on.others) z.goes_on.value (z.goes_on.nests ++ z.goes_on.further) [] → ⊥
          of_outcome w there lt long (whole low g) = let both = sym g ∙ ap f (append-nil (z.tokens ++ z.goes_on.others))
              ∙ there in cc
          of_outcome w there lt long (deep pre v c lows highs n i j l o h g) =
              let both = deep_is (c ∷ v ++ []) w (sym g ∙ ap f (append-nil (z.tokens ++ z.goes_on.others)) ∙ there) in
              let far = first_behind limit lows z.goes_on.nests n highs z.goes_on.further (sym j) z.goes_on.low h in
              absurd (omega (
                arith,
                far,
                l,
                lt,
                long,
                z.goes_on.count,
                ap length both,
                ap length (append-nil (c ∷ v)),
                ap length i,
                length-append pre (c ∷ v),
              ))
      of_deep t d e (same a b) =
          absurd (no_phrase z.tokens s d.value (d.nests ++ d.nest ∷ d.further) d.others z.none d.token d.after (sym b ∙ d.is_here)
          (subst (λ w. P (w ++ d.token ∷ d.others) d.value (d.nests ++ d.nest ∷ d.further)) a d.phrase))
      of_deep t d e (longer k m a b) =
          absurd (no_phrase z.tokens s d.value (d.nests ++ d.nest ∷ d.further) (m ++ d.token ∷ d.others) z.none k (m ++ t) b
          (subst (λ w. P w d.value (d.nests ++ d.nest ∷ d.further))
          (ap (λ (w : List T). w ++ d.token ∷ d.others) a ∙ append_assoc z.tokens (k ∷ m) (d.token ∷ d.others)) d.phrase))

      of_step : (v : Result _ (HaltOf T)) → f ts ≡ v → f ts ≡ Err (Syntax s)
      of_step (Ok x) e = absurd (no_value x.0 x.1 s z.parts z.none (is_read ts x.0 x.1 e).0)
      of_step (Err (Syntax t)) e =
          let q = r.stopped ts (Syntax t) e in
          e ∙ ap (λ (w : List T). Err (Syntax w)) (of_syntax t q e (cuts q.tokens t z.tokens s (sym q.parts ∙ z.parts)))
      of_step (Err (Deep t)) e =
          let d = too_deep ts t e in
          absurd (of_deep t d e (cuts d.tokens t z.tokens s (sym d.parts ∙ z.parts)))
