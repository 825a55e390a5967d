-- Readers one behind the other: the laws of the parts give the laws of the whole.
use Rattle.std.proofs.Common.{◌≡◌, ℕ, zero, suc, ◌≤◌, ◌<◌, inl, inr, Bool, true, false, List, [], ◌∷◌, ◌++◌, length, Result, Ok, Err, refl, sym, ap, subst, ◌∙◌, arith, append_assoc, length-append}
use Rattle.fst_reading.specs.Lexeme.{Lexeme, start}
use Rattle.fst_reading.specs.Faults.{Phrase}
use Rattle.fst_reading.proofs.Steps.{IsWithinLimit-append, bind_ok, bind_err, bind_with, bind_without, err_is, tail_of, same_front, over_longer, start_front, start_more, give_is, give_never, mapped_is, mapped_err, left_mapped, SomePhrase}
use Rattle.fst_reading.specs.Reading.{Halt, Syntax, Deep, Reader, bind, give, andthen, map_reader, begins, on, sep_by_within, sep_by}
use Rattle.fst_reading.proofs.Phrases.{left, Found, Over, Stopped, Outcome, whole, deep, left_by, leaving, SameUpTo, Reads, Then, pair, Separated, last, further}
use Rattle.fst_base.specs.Choice.{choose}
use Rattle.fst_base.proofs.Choices.{chosen}

-- two readers go on alike behind a reader's value
module _ {A B : Type 0} (limit : ℕ) (f : Reader A) (g g' : A → Reader B) (P : Phrase A) (more : List Lexeme → Bool)
    (r : Reads limit f P more)
    (back : (x : A) (ts : List Lexeme) → (us : List Lexeme) × (ts ≡ us ++ left_by (g x ts))) (k : Lexeme) (t t' w : List Lexeme)
    (same : (x : A) (v : List Lexeme) → f (w ++ k ∷ t) ≡ Ok (x, v ++ k ∷ t) → f (w ++ k ∷ t') ≡ Ok (x, v ++ k ∷ t') →
    SameUpTo k t t' (g x (v ++ k ∷ t)) (g' x (v ++ k ∷ t'))) where
  pub go_on_alike : SameUpTo k t t' (andthen f g (w ++ k ∷ t)) (andthen f g' (w ++ k ∷ t'))
  unfolding andthen bind
  go_on_alike = of_step (f (w ++ k ∷ t)) refl
    where
      of_step : (v : Result _ Halt) → f (w ++ k ∷ t) ≡ v →
          SameUpTo k t t' (bind (f (w ++ k ∷ t)) (λ x. g x.0 x.1)) (bind (f (w ++ k ∷ t')) (λ x. g' x.0 x.1))
      of_step (Ok x) e = rw e (λ u is.
          let before = back x.0 x.1 in
          let at : x.1 ≡ (before.0 ++ u) ++ k ∷ t = before.1 ∙ ap (λ (z : List Lexeme). before.0 ++ z) is
          ∙ sym (append_assoc before.0 u (k ∷ t)) in
          let other : f (w ++ k ∷ t') ≡ Ok (x.0, (before.0 ++ u) ++ k ∷ t') = (rw e at (r.alike k t t' w)) (before.0 ++ u) at in
          let behind_ = same x.0 (before.0 ++ u) (e ∙ ap (λ (z : List Lexeme). Ok (x.0, z)) at) other u
          (ap (λ z. left_by (g x.0 z)) (sym at) ∙ is) in
          rw other (behind_ ∙ ap (λ z. leaving (g x.0 z) (u ++ k ∷ t')) (sym at)))
      of_step (Err (Syntax z)) e = rw e (λ u is. let both = rw e at (r.alike k t t' w) in rw (both u is) refl)
      of_step (Err (Deep z)) e = rw e (λ u is. let both = rw e at (r.alike k t t' w) in rw (both u is) refl)

front : (us vs ws : List Lexeme) → (0 < length vs → start vs ≡ start ws) → 0 < length (us ++ vs) →
    start (us ++ vs) ≡ start (us ++ ws)
front [] vs ws same lt = same lt
front (k ∷ us) vs ws same lt = refl

-- one phrase, which has a token where it isn't read, and then another
module _ {A B : Type 0} (limit : ℕ) (f : Reader A) (g : A → Reader B) (P : Phrase A) (Q : A → Phrase B)
    (more last : List Lexeme → Bool)
    (r : Reads limit f P more) (s : (x : A) → Reads limit (g x) (Q x) last) (some : (x : A) → SomePhrase (Q x))
    (starts : (ts : List Lexeme) (h : Halt) (e : f ts ≡ Err h) →
    0 < length ((r.stopped ts h e).tokens ++ (r.stopped ts h e).others))
    (next : (us : List Lexeme) (x : A) (ns vs : List Lexeme) (y : B) (ms : List ℕ) (rest : List Lexeme) → Q x vs y ms →
    last rest ≡ false → more (vs ++ rest) ≡ false) where
  then_found : (ts : List Lexeme) (y : B) (rest : List Lexeme) → andthen f g ts ≡ Ok (y, rest) → Found limit (Then P Q) ts y rest
  unfolding andthen
  then_found ts y rest e =
      let a = bind_ok _ _ (y, rest) e in
      let p = r.found ts a.0.0 a.0.1 a.1 in
      let q = (s a.0.0).found a.0.1 y rest a.2 in
      record {
        tokens = p.tokens ++ q.tokens;
        nests = p.nests ++ q.nests;
        parts = p.parts ∙ ap (λ (w : List Lexeme). p.tokens ++ w) q.parts ∙ sym (append_assoc p.tokens q.tokens rest);
        phrase = pair _ p.tokens q.tokens a.0.0 y _ p.nests q.nests p.phrase q.phrase refl refl;
        low = IsWithinLimit-append limit p.nests q.nests p.low q.low;
      }

  then_stopped : (ts : List Lexeme) (h : Halt) → andthen f g ts ≡ Err h → Stopped limit (Then P Q) h ts
  unfolding andthen
  then_stopped ts h e = elim (bind_err _ _ h e) [
    | inl a ↦
        let p = r.stopped ts h a in
        let q = some p.value in
        record {
          tokens = p.tokens;
          others = p.others ++ q.tokens;
          value = q.value;
          nests = p.nests;
          high = p.high ++ q.nests;
          parts = p.parts;
          phrase = pair _ (p.tokens ++ p.others) q.tokens p.value q.value _ (p.nests ++ p.high) q.nests p.phrase q.phrase
              (sym (append_assoc p.tokens p.others q.tokens)) (sym (append_assoc p.nests p.high q.nests));
          count = p.count;
          low = p.low;
          over = over_longer h limit p.others q.tokens p.high q.nests p.over;
          begins_so = λ lt. ap start (sym (append_assoc p.tokens p.others q.tokens))
              ∙ start_more (p.tokens ++ p.others) q.tokens (start ts) (starts ts h a) (p.begins_so (starts ts h a));
        }
    | inr a ↦
        let p = r.found ts a.0.0 a.0.1 a.1 in
        let q = (s a.0.0).stopped a.0.1 h a.2 in
        let n = r.counted p.tokens a.0.0 p.nests p.phrase in
        record {
          tokens = p.tokens ++ q.tokens;
          others = q.others;
          value = q.value;
          nests = p.nests ++ q.nests;
          high = q.high;
          parts = p.parts ∙ ap (λ (w : List Lexeme). p.tokens ++ w) q.parts ∙ sym (append_assoc p.tokens q.tokens (left h));
          phrase = pair _ p.tokens (q.tokens ++ q.others) a.0.0 q.value _ p.nests (q.nests ++ q.high) p.phrase q.phrase
              (append_assoc p.tokens q.tokens q.others) (append_assoc p.nests q.nests q.high);
          count = omega (arith, n, q.count, length-append p.nests q.nests, length-append p.tokens q.tokens);
          low = IsWithinLimit-append limit p.nests q.nests p.low q.low;
          over = q.over;
          begins_so = λ lt.
              let whole_ = append_assoc p.tokens q.tokens q.others in
              ap start whole_ ∙ front p.tokens (q.tokens ++ q.others) a.0.1 q.begins_so (omega (arith, lt, ap length whole_))
              ∙ ap start (sym p.parts);
        }
  ]

  then_reads : (ts : List Lexeme) (y : B) (ns : List ℕ) (rest : List Lexeme) → Then P Q ts y ns → last rest ≡ false →
      Outcome limit (andthen f g) ts y ns rest
  unfolding andthen
  then_reads _ _ _ rest (pair ts us vs x y ns ms ks p q parts nests) stop =
      of_first (r.reads us x ms (vs ++ rest) p (next us x us vs y ks rest q stop)) ((s x).reads vs y ks rest q stop)
    where
      is : ts ++ rest ≡ us ++ (vs ++ rest)
      is = ap (λ (w : List Lexeme). w ++ rest) parts ∙ append_assoc us vs rest

      of_first : Outcome limit f us x ms (vs ++ rest) → Outcome limit (g x) vs y ks rest →
          Outcome limit (andthen f g) ts y ns rest
      of_first (whole low e) (whole high d) = whole (rw nests (IsWithinLimit-append limit ms ks low high))
          (rw is (bind_with _ _ (x, vs ++ rest) e ∙ d))
      of_first (whole low e) (deep pre v k lows highs n a b c l o d) =
          deep (us ++ pre) v k (ms ++ lows) highs n (parts ∙ ap (λ (w : List Lexeme). us ++ w) a
          ∙ sym (append_assoc us pre (k ∷ v)))
          (nests ∙ ap (λ (w : List ℕ). ms ++ w) b ∙ sym (append_assoc ms lows (n ∷ highs)))
          (omega (arith, c, r.counted us x ms p, length-append ms lows, length-append us pre))
          (IsWithinLimit-append limit ms lows low l) o (rw is (bind_with _ _ (x, vs ++ rest) e ∙ d))
      of_first (deep pre v k lows highs n a b c l o d) second =
          deep pre (v ++ vs) k lows (highs ++ ks) n (parts ∙ ap (λ (w : List Lexeme). w ++ vs) a ∙ append_assoc pre (k ∷ v) vs)
          (nests ∙ ap (λ (w : List ℕ). w ++ ks) b ∙ append_assoc lows (n ∷ highs) ks) c l o
          (rw is (bind_without _ _ _ d) ∙ ap (λ (w : List Lexeme). Err (Deep (k ∷ w))) (sym (append_assoc v vs rest)))

  then_alike : (k : Lexeme) (t t' w : List Lexeme) → SameUpTo k t t' (andthen f g (w ++ k ∷ t)) (andthen f g (w ++ k ∷ t'))
  then_alike k t t' w =
      go_on_alike limit f g g P more r (λ x ts. tail_of limit (g x) (Q x) last (s x) ts) k t t' w
      (λ x v e e'. (s x).alike k t t' v)

  then_counted : (ts : List Lexeme) (y : B) (ns : List ℕ) → Then P Q ts y ns → length ns ≡ length ts
  then_counted _ _ _ (pair ts us vs x y ns ms ks p q parts nests) =
      omega (
        arith,
        r.counted us x ms p,
        (s x).counted vs y ks q,
        ap length parts,
        ap length nests,
        length-append ms ks,
        length-append us vs,
      )

  pub reads_behind : Reads limit (andthen f g) (Then P Q) last
  reads_behind = record {
    found = then_found;
    stopped = then_stopped;
    reads = then_reads;
    alike = then_alike;
    counted =
        then_counted;
  }

-- one phrase that has a token, and then another
module _ {A B : Type 0} (limit : ℕ) (f : Reader A) (g : A → Reader B) (P : Phrase A) (Q : A → Phrase B)
    (more last : List Lexeme → Bool)
    (r : Reads limit f P more) (s : (x : A) → Reads limit (g x) (Q x) last) (some : (x : A) → SomePhrase (Q x))
    (filled : (us : List Lexeme) (x : A) (ns : List ℕ) → P us x ns → 0 < length us)
    (next : (us : List Lexeme) (x : A) (ns vs : List Lexeme) (y : B) (ms : List ℕ) (rest : List Lexeme) → Q x vs y ms →
    last rest ≡ false → more (vs ++ rest) ≡ false) where
  pub reads_then : Reads limit (andthen f g) (Then P Q) last
  reads_then = reads_behind limit f g P Q more last r s some (λ ts h e. filled _ _ _ (r.stopped ts h e).phrase) next

-- one behind the other, with a token that passes a test between each two
module _ {A : Type 0} (limit d : ℕ) (low : d ≤ limit) (test : Lexeme → Bool) (f : Reader A) (P : Phrase A)
    (more stop : List Lexeme → Bool) (r : Reads limit f P more)
    (some : (n : ℕ) → (s : SomePhrase P) × (0 < length s.tokens) × (start s.tokens ≡ n))
    (filled : (us : List Lexeme) (x : A) (ns : List ℕ) → P us x ns → 0 < length us)
    (sign : (k : Lexeme) (ts : List Lexeme) → test k ≡ true → more (k ∷ ts) ≡ false)
    (last_ : (rest : List Lexeme) → stop rest ≡ false → (more rest ≡ false) × (begins test rest ≡ false)) where
  abbrev tail_with : ℕ → A → Reader (List A)
  tail_with n a = on test (map_reader (λ bs. a ∷ bs) (sep_by_within test f n)) (give (a ∷ []))

  before : (n n' : ℕ) (x : A) (c : Lexeme) (s s' : List Lexeme) (k : Lexeme) (t t' : List Lexeme) →
      ((u : List Lexeme) → c ∷ s ≡ u ++ k ∷ t → c ∷ s' ≡ u ++ k ∷ t') →
      SameUpTo k t t' (sep_by_within test f n s) (sep_by_within test f n' s') →
      SameUpTo k t t' (tail_with n x (c ∷ s)) (tail_with n' x (c ∷ s'))
  unfolding on map_reader give choose bind
  before n n' x c s s' k t t' front inner = by_test (test c)
    where
      of_value : (v v' : Result (List A × List Lexeme) Halt) → SameUpTo k t t' v v' →
          SameUpTo k t t' (bind v (λ z. Ok (x ∷ z.0, z.1))) (bind v' (λ z. Ok (x ∷ z.0, z.1)))
      of_value (Ok y) v' h u is = rw (h u is) refl
      of_value (Err (Syntax y)) v' h u is = rw (h u is) refl
      of_value (Err (Deep y)) v' h u is = rw (h u is) refl

      by_test : (b : Bool) → SameUpTo k t t' (choose b (map_reader (λ bs. x ∷ bs) (sep_by_within test f n) s)
          (give (x ∷ []) (c ∷ s))) (choose b (map_reader (λ bs. x ∷ bs) (sep_by_within test f n') s') (give (x ∷ []) (c ∷ s')))
      by_test true u is = of_value (sep_by_within test f n s) (sep_by_within test f n' s') inner u is
      by_test false u is = ap (λ z. Ok (x ∷ [], z)) (front u is)

  glue_last : (ts : List Lexeme) (x : A) (ns : List ℕ) (rest s : List Lexeme) (ys : List A) → (x ∷ []) ≡ ys → s ≡ rest →
      (q : Found limit P ts x s) → Found limit (Separated d test P) ts ys rest
  glue_last ts x ns rest s ys value tail q =
      record {
        tokens = q.tokens;
        nests = q.nests;
        parts = q.parts ∙ ap (λ (w : List Lexeme). q.tokens ++ w) tail;
        phrase = subst (λ z. Separated d test P q.tokens z q.nests) value (last q.tokens x q.nests q.phrase);
        low = q.low;
      }

  within_found : (n : ℕ) (ts : List Lexeme) (ys : List A) (rest : List Lexeme) → sep_by_within test f n ts ≡ Ok (ys, rest) →
      Found limit (Separated d test P) ts ys rest
  unfolding sep_by_within andthen on
  within_found zero ts ys rest e = absurd cc
  within_found (suc n) ts ys rest e =
      let a = bind_ok _ _ (ys, rest) e in
      by_rest (λ us zs g. within_found n us zs rest g) a.0.0 a.0.1 (r.found ts a.0.0 a.0.1 a.1) a.2
    where
      by_rest : ((us : List Lexeme) (zs : List A) → sep_by_within test f n us ≡ Ok (zs, rest) →
          Found limit (Separated d test P) us zs rest) →
          (x : A) (s : List Lexeme) → Found limit P ts x s →
          on test (map_reader (λ bs. x ∷ bs) (sep_by_within test f n)) (give (x ∷ [])) s ≡ Ok (ys, rest) →
          Found limit (Separated d test P) ts ys rest
      by_rest inner x [] q g = elim (chosen _ _ _ _ g) [
        | inl c ↦ absurd cc
        | inr c ↦ let same = give_is (x ∷ []) [] ys rest c.1 in glue_last ts x [] rest [] ys same.0 same.1 q
      ]
      by_rest inner x (k ∷ s) q g = elim (chosen _ _ _ _ g) [
        | inl c ↦
            let b = mapped_is (λ bs. x ∷ bs) (sep_by_within test f n) s ys rest c.1 in
            let o = inner s b.0 b.1 in
            record {
              tokens = q.tokens ++ k ∷ o.tokens;
              nests = q.nests ++ d ∷ o.nests;
              parts = q.parts ∙ ap (λ (w : List Lexeme). q.tokens ++ k ∷ w) o.parts
                  ∙ sym (append_assoc q.tokens (k ∷ o.tokens) rest);
              phrase = subst (λ z. Separated d test P (q.tokens ++ k ∷ o.tokens) z (q.nests ++ d ∷ o.nests)) b.2
                  (further _ q.tokens o.tokens k x b.0 _ q.nests o.nests q.phrase c.0 o.phrase refl refl);
              low = IsWithinLimit-append limit q.nests (d ∷ o.nests) q.low (low, o.low);
            }
        | inr c ↦ let same = give_is (x ∷ []) (k ∷ s) ys rest c.1 in glue_last ts x [] rest (k ∷ s) ys same.0 same.1 q
      ]

  within_stopped : (n : ℕ) (ts : List Lexeme) (h : Halt) → sep_by_within test f n ts ≡ Err h →
      Stopped limit (Separated d test P) h ts
  unfolding sep_by_within andthen on
  within_stopped zero ts h e =
      let is : h ≡ Syntax ts = sym (err_is _ _ e) in
      let q = some (start ts) in
      record {
        tokens = [];
        others = q.0.tokens;
        value = q.0.value ∷ [];
        nests = [];
        high = q.0.nests;
        parts = sym (ap left is);
        phrase = last q.0.tokens q.0.value q.0.nests q.0.phrase;
        count = refl;
        low = tt;
        over = subst (λ (z : Halt). Over z limit q.0.tokens q.0.nests) (sym is) tt;
        begins_so = λ lt. q.2;
      }
  within_stopped (suc n) ts h e = elim (bind_err _ _ h e) [
    | inl g ↦
        let q = r.stopped ts h g in
        record {
          tokens = q.tokens;
          others = q.others;
          value = q.value ∷ [];
          nests = q.nests;
          high = q.high;
          parts = q.parts;
          phrase = last (q.tokens ++ q.others) q.value (q.nests ++ q.high) q.phrase;
          count = q.count;
          low = q.low;
          over = q.over;
          begins_so = q.begins_so;
        }
    | inr g ↦ by_rest (λ us z. within_stopped n us h z) g.0.0 g.0.1 (r.found ts g.0.0 g.0.1 g.1) g.2
  ]
    where
      by_rest : ((us : List Lexeme) → sep_by_within test f n us ≡ Err h → Stopped limit (Separated d test P) h us) →
          (x : A) (s : List Lexeme) → Found limit P ts x s →
          on test (map_reader (λ bs. x ∷ bs) (sep_by_within test f n)) (give (x ∷ [])) s ≡ Err h →
          Stopped limit (Separated d test P) h ts
      by_rest inner x [] q g = elim (chosen _ _ _ _ g) [ inl c ↦ absurd cc | inr c ↦ absurd (give_never (x ∷ []) [] h c.1) ]
      by_rest inner x (k ∷ s) q g = elim (chosen _ _ _ _ g) [
        | inl c ↦
            let o = inner s (mapped_err (λ bs. x ∷ bs) (sep_by_within test f n) s h c.1) in
            record {
              tokens = q.tokens ++ k ∷ o.tokens;
              others = o.others;
              value = x ∷ o.value;
              nests = q.nests ++ d ∷ o.nests;
              high = o.high;
              parts = q.parts ∙ ap (λ (w : List Lexeme). q.tokens ++ k ∷ w) o.parts
                  ∙ sym (append_assoc q.tokens (k ∷ o.tokens) (left h));
              phrase = further _ q.tokens (o.tokens ++ o.others) k x o.value _ q.nests (o.nests ++ o.high) q.phrase c.0 o.phrase
                  (append_assoc q.tokens (k ∷ o.tokens) o.others) (append_assoc q.nests (d ∷ o.nests) o.high);
              count = omega (
                arith,
                r.counted q.tokens x q.nests q.phrase,
                o.count,
                length-append q.nests (d ∷ o.nests),
                length-append q.tokens (k ∷ o.tokens),
              );
              low = IsWithinLimit-append limit q.nests (d ∷ o.nests) q.low (low, o.low);
              over = o.over;
              begins_so = λ lt. ap start (append_assoc q.tokens (k ∷ o.tokens) o.others)
                  ∙ start_front q.tokens (k ∷ (o.tokens ++ o.others)) (k ∷ s) (filled _ _ _ q.phrase) ∙ ap start (sym q.parts);
            }
        | inr c ↦ absurd (give_never (x ∷ []) (k ∷ s) h c.1)
      ]

  within_tail : (n : ℕ) (ts : List Lexeme) → (us : List Lexeme) × (ts ≡ us ++ left_by (sep_by_within test f n ts))
  within_tail n ts = of_step (sep_by_within test f n ts) refl
    where
      of_step : (v : Result _ Halt) → sep_by_within test f n ts ≡ v → (us : List Lexeme) × (ts ≡ us ++ left_by v)
      of_step (Ok x) e = let p = within_found n ts x.0 x.1 e in (p.tokens, p.parts)
      of_step (Err h) e = let p = within_stopped n ts h e in (p.tokens, p.parts)

  within_reads : (n : ℕ) (ts : List Lexeme) (ys : List A) (ns : List ℕ) (rest : List Lexeme) → Separated d test P ts ys ns →
      stop rest ≡ false → length (ts ++ rest) ≤ n →
      Outcome limit (sep_by_within test f n) ts ys ns rest
  unfolding sep_by_within andthen on map_reader give choose
  within_reads zero _ _ _ rest (last ts x ns p) end le = absurd (omega (arith, filled ts x ns p, length-append ts rest))
  within_reads zero _ _ _ rest (further ts us vs k x xs ns ms ks p is q parts nests) end le =
      absurd (omega (arith, filled us x ms p, ap length parts, length-append us (k ∷ vs), length-append ts rest))
  within_reads (suc n) _ _ _ rest (last ts x ns p) end le = of_first (r.reads ts x ns rest p (last_ rest end).0)
    where
      of_first : Outcome limit f ts x ns rest → Outcome limit (sep_by_within test f (suc n)) ts (x ∷ []) ns rest
      of_first (whole lows e) = whole lows (bind_with _ _ (x, rest) e ∙ rw (last_ rest end).1 refl)
      of_first (deep pre v c lows highs m a b l o g e) = deep pre v c lows highs m a b l o g (bind_without _ _ _ e)
  within_reads (suc n) _ _ _ rest (further ts us vs k x xs ns ms ks p is q parts nests) end le =
      of_first (r.reads us x ms (k ∷ (vs ++ rest)) p (sign k (vs ++ rest) is))
      (within_reads n vs xs ks rest q end (omega (
        arith,
        le,
        filled us x ms p,
        ap length parts,
        length-append us (k ∷ vs),
        length-append ts rest,
        length-append vs rest,
      )))
    where
      same : ts ++ rest ≡ us ++ (k ∷ (vs ++ rest))
      same = ap (λ (w : List Lexeme). w ++ rest) parts ∙ append_assoc us (k ∷ vs) rest

      goes : (e : f (us ++ (k ∷ (vs ++ rest))) ≡ Ok (x, k ∷ (vs ++ rest))) →
          sep_by_within test f (suc n) (ts ++ rest) ≡ bind (sep_by_within test f n (vs ++ rest)) (λ z. Ok (x ∷ z.0, z.1))
      goes e = rw same (bind_with _ _ (x, k ∷ (vs ++ rest)) e ∙ rw is refl)

      of_first : Outcome limit f us x ms (k ∷ (vs ++ rest)) → Outcome limit (sep_by_within test f n) vs xs ks rest →
          Outcome limit (sep_by_within test f (suc n)) ts (x ∷ xs) ns rest
      of_first (whole lows e) (whole others g) = whole (rw nests (IsWithinLimit-append limit ms (d ∷ ks) lows (low, others)))
          (goes e ∙ bind_with _ _ (xs, rest) g)
      of_first (whole lows e) (deep pre v c lo highs m a b l o h g) =
          deep (us ++ k ∷ pre) v c (ms ++ d ∷ lo) highs m
          (parts ∙ ap (λ (w : List Lexeme). us ++ k ∷ w) a ∙ sym (append_assoc us (k ∷ pre) (c ∷ v)))
          (nests ∙ ap (λ (w : List ℕ). ms ++ d ∷ w) b ∙ sym (append_assoc ms (d ∷ lo) (m ∷ highs)))
          (omega (arith, l, r.counted us x ms p, length-append ms (d ∷ lo), length-append us (k ∷ pre)))
          (IsWithinLimit-append limit ms (d ∷ lo) lows (low, o)) h (goes e ∙ bind_without _ _ _ g)
      of_first (deep pre v c lo highs m a b l o h g) second =
          deep pre (v ++ k ∷ vs) c lo (highs ++ d ∷ ks) m
          (parts ∙ ap (λ (w : List Lexeme). w ++ k ∷ vs) a ∙ append_assoc pre (c ∷ v) (k ∷ vs))
          (nests ∙ ap (λ (w : List ℕ). w ++ d ∷ ks) b ∙ append_assoc lo (m ∷ highs) (d ∷ ks)) l o h
          (rw same (bind_without _ _ _ g) ∙ ap (λ (w : List Lexeme). Err (Deep (c ∷ w))) (sym (append_assoc v (k ∷ vs) rest)))

  tail_back : (n : ℕ) (x : A) (ts : List Lexeme) → (us : List Lexeme) × (ts ≡ us ++ left_by (tail_with n x ts))
  unfolding on map_reader give choose
  tail_back n x [] = ([], refl)
  tail_back n x (k ∷ ts) = of_test (test k)
    where
      of_test : (b : Bool) → (us : List Lexeme) × ((k ∷ ts) ≡ us ++ left_by
          (choose b (map_reader (λ bs. x ∷ bs) (sep_by_within test f n) ts) (give (x ∷ []) (k ∷ ts))))
      of_test true =
          let back = within_tail n ts in (
            k ∷ back.0,
            ap (λ (w : List Lexeme). k ∷ w)
                (back.1 ∙ ap (λ (w : List Lexeme). back.0 ++ w)
                (sym (left_mapped (λ (bs : List A). x ∷ bs) (sep_by_within test f n ts)))),
          )
      of_test false = ([], refl)

  at_end : (n n' : ℕ) (x : A) (k : Lexeme) (t t' : List Lexeme) →
      SameUpTo k t t' (tail_with n x (k ∷ t)) (tail_with n' x (k ∷ t'))
  unfolding on map_reader give choose
  at_end n n' x k t t' = by_test (test k)
    where
      by_test : (b : Bool) → SameUpTo k t t' (choose b (map_reader (λ bs. x ∷ bs) (sep_by_within test f n) t)
          (give (x ∷ []) (k ∷ t))) (choose b (map_reader (λ bs. x ∷ bs) (sep_by_within test f n') t') (give (x ∷ []) (k ∷ t')))
      by_test true u is =
          let back = within_tail n t in
          let same = left_mapped (λ (bs : List A). x ∷ bs) (sep_by_within test f n t) in
          absurd (omega (
            arith,
            ap length back.1,
            ap length (sym same ∙ is),
            length-append back.0 (left_by (sep_by_within test f n t)),
            length-append u (k ∷ t),
          ))
      by_test false u is = ap (λ z. Ok (x ∷ [], z)) (same_front [] u k t t' is)

  all_counted : (ts : List Lexeme) (ys : List A) (ns : List ℕ) → Separated d test P ts ys ns → length ns ≡ length ts
  all_counted _ _ _ (last ts x ns p) = r.counted ts x ns p
  all_counted _ _ _ (further ts us vs k x xs ns ms ks p is q parts nests) =
      omega (
        arith,
        r.counted us x ms p,
        all_counted vs xs ks q,
        ap length parts,
        ap length nests,
        length-append us (k ∷ vs),
        length-append ms (d ∷ ks),
      )

  within_alike : (n n' : ℕ) (k : Lexeme) (t t' w : List Lexeme) → length (w ++ k ∷ t) ≤ n → length (w ++ k ∷ t') ≤ n' →
      SameUpTo k t t' (sep_by_within test f n (w ++ k ∷ t)) (sep_by_within test f n' (w ++ k ∷ t'))
  unfolding sep_by_within
  within_alike zero n' k t t' w le le' = absurd (omega (arith, length-append w (k ∷ t)))
  within_alike (suc n) zero k t t' w le le' = absurd (omega (arith, length-append w (k ∷ t')))
  within_alike (suc n) (suc n') k t t' w le le' =
      go_on_alike limit f (tail_with n) (tail_with n') P more r (tail_back n) k t t' w
      (λ x v e e'. by_rest (λ u a b. within_alike n n' k t t' u a b) x v (r.found (w ++ k ∷ t) x (v ++ k ∷ t) e)
      (r.found (w ++ k ∷ t') x (v ++ k ∷ t') e'))
    where
      by_rest : ((u : List Lexeme) → length (u ++ k ∷ t) ≤ n → length (u ++ k ∷ t') ≤ n' →
          SameUpTo k t t' (sep_by_within test f n (u ++ k ∷ t)) (sep_by_within test f n' (u ++ k ∷ t'))) →
          (x : A) (v : List Lexeme) → Found limit P (w ++ k ∷ t) x (v ++ k ∷ t) → Found limit P (w ++ k ∷ t') x (v ++ k ∷ t') →
          SameUpTo k t t' (tail_with n x (v ++ k ∷ t)) (tail_with n' x (v ++ k ∷ t'))
      by_rest inner x [] q q' = at_end n n' x k t t'
      by_rest inner x (c ∷ v) q q' =
          before n n' x c (v ++ k ∷ t) (v ++ k ∷ t') k t t' (λ u is. same_front (c ∷ v) u k t t' is)
          (inner v (omega (arith, le, ap length q.parts, length-append q.tokens (c ∷ (v ++ k ∷ t))))
          (omega (arith, le', ap length q'.parts, length-append q'.tokens (c ∷ (v ++ k ∷ t')))))

  pub reads_separated : Reads limit (sep_by test f) (Separated d test P) stop
  reads_separated = record {
    found = λ ts x rest e. within_found (length ts) ts x rest e;
    stopped = λ ts h e. within_stopped (length ts) ts h e;
    reads = λ us x ns rest q end. same_outcome us x ns rest (within_reads (length (us ++ rest)) us x ns rest q end (omega arith));
    alike = λ k t t' w. within_alike (length (w ++ k ∷ t)) (length (w ++ k ∷ t')) k t t' w (omega arith) (omega arith);
    counted = all_counted;
  }
    where
      same_outcome : (us : List Lexeme) (x : List A) (ns : List ℕ) (rest : List Lexeme) →
          Outcome limit (sep_by_within test f (length (us ++ rest))) us x ns rest → Outcome limit (sep_by test f) us x ns rest
      same_outcome us x ns rest (whole lows e) = whole lows e
      same_outcome us x ns rest (deep pre v c lo highs m a b l o h g) = deep pre v c lo highs m a b l o h g
