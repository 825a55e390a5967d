-- The readers of single parts, by their laws.
use Rattle.std.proofs.Common.{◌≡◌, ℕ, suc, ◌≤◌, inl, inr, Bool, true, false, List, [], ◌∷◌, ◌++◌, length, Option, Some, None, Result, Ok, Err, refl, sym, ap, subst, ◌∙◌, arith, length-append}
use Rattle.fst_reading.specs.Lexeme.{Lexeme, start}
use Rattle.fst_reading.specs.Faults.{Phrase}
use Rattle.fst_reading.proofs.Steps.{bind_ok, bind_err, bind_with, bind_without, ok_is, err_is, tail_of, same_front, SomePhrase}
use Rattle.fst_reading.specs.Reading.{Halt, Syntax, Deep, Reader, bind, give, map_reader, switch_on, switch, one, finish, begins, on}
use Rattle.fst_reading.proofs.Phrases.{left, Found, Over, Stopped, Outcome, whole, deep, left_by, SameUpTo, Reads, never, Give, nothing, Mapped, made, Switch, first, On, taken, other, at}
use Rattle.fst_base.specs.Choice.{choose}
use Rattle.fst_base.proofs.Choices.{chosen, choose_true, choose_false}

-- no token
pub reads_give : {A : Type 0} (limit : ℕ) (x : A) → Reads limit (give x) (Give x) never
unfolding give
reads_give limit x = record {
  found = λ ts y rest e.
      let same = ok_is (x, ts) (y, rest) e in
      let value : x ≡ y = ap (λ (p : _ × List Lexeme). p.0) same in
      let tail : ts ≡ rest = ap (λ (p : _ × List Lexeme). p.1) same in
      record { tokens = []; nests = []; parts = tail; phrase = subst (λ z. Give x [] z []) value nothing; low = tt };
  stopped = λ ts h e. absurd cc;
  reads = given;
  alike = λ k r r' w v e. let same : w ++ k ∷ r' ≡ v ++ k ∷ r' = same_front w v k r r' e in ap (λ s. Ok (x, s)) same;
  counted = given_count;
}
  where
    given : (us : List Lexeme) (y : _) (ns : List ℕ) (rest : List Lexeme) → Give x us y ns → never rest ≡ false →
        Outcome limit (give x) us y ns rest
    given _ _ _ rest nothing stop = whole tt refl

    given_count : (us : List Lexeme) (y : _) (ns : List ℕ) → Give x us y ns → length ns ≡ length us
    given_count _ _ _ nothing = refl

-- what a function makes of a phrase
module _ {A B : Type 0} (limit : ℕ) (h : A → B) (f : Reader A) (P : Phrase A) (more : List Lexeme → Bool)
    (r : Reads limit f P more) where
  mapped_alike : (k : Lexeme) (s s' w : List Lexeme) →
      SameUpTo k s s' (map_reader h f (w ++ k ∷ s)) (map_reader h f (w ++ k ∷ s'))
  unfolding map_reader bind
  mapped_alike k s s' w = of_step (f (w ++ k ∷ s)) refl
    where
      of_step : (v : Result _ Halt) → f (w ++ k ∷ s) ≡ v →
          SameUpTo k s s' (bind (f (w ++ k ∷ s)) (λ x. Ok (h x.0, x.1))) (bind (f (w ++ k ∷ s')) (λ x. Ok (h x.0, x.1)))
      of_step (Ok x) e = rw e (λ u is. let same = rw e at (r.alike k s s' w) in rw (same u is) refl)
      of_step (Err (Syntax t)) e = rw e (λ u is. let same = rw e at (r.alike k s s' w) in rw (same u is) refl)
      of_step (Err (Deep t)) e = rw e (λ u is. let same = rw e at (r.alike k s s' w) in rw (same u is) refl)

  mapped_found : (ts : List Lexeme) (y : B) (rest : List Lexeme) → map_reader h f ts ≡ Ok (y, rest) →
      Found limit (Mapped h P) ts y rest
  unfolding map_reader
  mapped_found ts y rest e =
      let a = bind_ok _ _ (y, rest) e in
      let p = r.found ts a.0.0 a.0.1 a.1 in
      let same = ok_is (h a.0.0, a.0.1) (y, rest) a.2 in
      let value : h a.0.0 ≡ y = ap (λ (p : B × List Lexeme). p.0) same in
      let tail : a.0.1 ≡ rest = ap (λ (p : B × List Lexeme). p.1) same in
      record {
        tokens = p.tokens;
        nests = p.nests;
        parts = p.parts ∙ ap (λ (s : List Lexeme). p.tokens ++ s) tail;
        phrase = subst (λ z. Mapped h P p.tokens z p.nests) value (made p.tokens a.0.0 p.nests p.phrase);
        low = p.low;
      }

  mapped_stopped : (ts : List Lexeme) (d : Halt) → map_reader h f ts ≡ Err d → Stopped limit (Mapped h P) d ts
  unfolding map_reader
  mapped_stopped ts d e = elim (bind_err _ _ d e) [
    | inl g ↦
        let p = r.stopped ts d g in
        record {
          tokens = p.tokens;
          others = p.others;
          value = h p.value;
          nests = p.nests;
          high = p.high;
          parts = p.parts;
          phrase = made (p.tokens ++ p.others) p.value (p.nests ++ p.high) p.phrase;
          count = p.count;
          low = p.low;
          over = p.over;
          begins_so = p.begins_so;
        }
    | inr g ↦ absurd (let is = g.2 in cc)
  ]

  mapped_reads : (us : List Lexeme) (y : B) (ns : List ℕ) (rest : List Lexeme) → Mapped h P us y ns → more rest ≡ false →
      Outcome limit (map_reader h f) us y ns rest
  unfolding map_reader
  mapped_reads _ _ _ rest (made us x ns p) stop = of_outcome (r.reads us x ns rest p stop)
    where
      of_outcome : Outcome limit f us x ns rest → Outcome limit (map_reader h f) us (h x) ns rest
      of_outcome (whole low e) = whole low (bind_with _ _ (x, rest) e)
      of_outcome (deep pre v k low high n a b c d o e) = deep pre v k low high n a b c d o (bind_without _ _ _ e)

  mapped_counted : (us : List Lexeme) (y : B) (ns : List ℕ) → Mapped h P us y ns → length ns ≡ length us
  mapped_counted _ _ _ (made us x ns p) = r.counted us x ns p

  pub reads_mapped : Reads limit (map_reader h f) (Mapped h P) more
  reads_mapped = record {
    found = mapped_found;
    stopped = mapped_stopped;
    reads = mapped_reads;
    alike = mapped_alike;
    counted =
        mapped_counted;
  }

-- a token that stands for something, with a phrase behind it, that begins at a place
pub record Sample {A S : Type 0} (p : Lexeme → Option S) (P : S → Lexeme → Phrase A) (n : ℕ) : Type 0 where
  pub token : Lexeme
  pub meaning : S
  pub place_is : token.at ≡ n
  pub is : p token ≡ Some meaning
  pub rest : SomePhrase (P meaning token)

-- a token that stands for something, and what stands behind it
module _ {A S : Type 0} (limit d : ℕ) (low : d ≤ limit) (p : Lexeme → Option S) (f : S → Lexeme → Reader A)
    (P : S → Lexeme → Phrase A) (more : List Lexeme → Bool)
    (r : (s : S) (k : Lexeme) → Reads limit (f s k) (P s k) more) (sample : (n : ℕ) → Sample p P n) where
  switched_found : (k : Lexeme) (o : Option S) (ts : List Lexeme) (y : A) (rest : List Lexeme) → p k ≡ o →
      switch_on o f k ts ≡ Ok (y, rest) → Found limit (Switch d p P) (k ∷ ts) y rest
  switched_found k (Some s) ts y rest is e =
      let q = (r s k).found ts y rest e in
      record {
        tokens = k ∷ q.tokens;
        nests = d ∷ q.nests;
        parts = ap (λ (w : List Lexeme). k ∷ w) q.parts;
        phrase =
            first k s q.tokens y q.nests is q.phrase;
        low = (low, q.low);
      }
  switched_found k None ts y rest is e = absurd cc

  switch_found : (ts : List Lexeme) (y : A) (rest : List Lexeme) → switch p f ts ≡ Ok (y, rest) →
      Found limit (Switch d p P) ts y rest
  unfolding switch
  switch_found [] y rest e = absurd cc
  switch_found (k ∷ ts) y rest e = switched_found k (p k) ts y rest refl e

  -- no phrase is read at the first token
  none_here : (ts : List Lexeme) (h : Halt) → h ≡ Syntax ts → Stopped limit (Switch d p P) h ts
  none_here ts h e =
      let q = sample (start ts) in
      record {
        tokens = [];
        others = q.token ∷ q.rest.tokens;
        value = q.rest.value;
        nests = [];
        high = d ∷ q.rest.nests;
        parts = sym (ap left e);
        phrase = first q.token q.meaning q.rest.tokens q.rest.value q.rest.nests q.is q.rest.phrase;
        count = refl;
        low = tt;
        over = subst (λ (z : Halt). Over z limit (q.token ∷ q.rest.tokens) (d ∷ q.rest.nests)) (sym e) tt;
        begins_so = λ lt. q.place_is;
      }

  switched_stopped : (k : Lexeme) (o : Option S) (ts : List Lexeme) (h : Halt) → p k ≡ o → switch_on o f k ts ≡ Err h →
      Stopped limit (Switch d p P) h (k ∷ ts)
  switched_stopped k (Some s) ts h is e =
      let q = (r s k).stopped ts h e in
      record {
        tokens = k ∷ q.tokens;
        others = q.others;
        value = q.value;
        nests = d ∷ q.nests;
        high = q.high;
        parts = ap (λ (w : List Lexeme). k ∷ w) q.parts;
        phrase = first k s (q.tokens ++ q.others) q.value (q.nests ++ q.high) is q.phrase;
        count = ap suc q.count;
        low = (low, q.low);
        over = q.over;
        begins_so = λ lt. refl;
      }
  switched_stopped k None ts h is e = none_here (k ∷ ts) h (sym (err_is _ _ e))

  switch_stopped : (ts : List Lexeme) (h : Halt) → switch p f ts ≡ Err h → Stopped limit (Switch d p P) h ts
  unfolding switch
  switch_stopped [] h e = none_here [] h (sym (err_is _ _ e))
  switch_stopped (k ∷ ts) h e = switched_stopped k (p k) ts h refl e

  switch_reads : (ts : List Lexeme) (y : A) (ns : List ℕ) (rest : List Lexeme) → Switch d p P ts y ns → more rest ≡ false →
      Outcome limit (switch p f) ts y ns rest
  unfolding switch
  switch_reads _ _ _ rest (first k s ts x ns is q) stop = of_rest ((r s k).reads ts x ns rest q stop)
    where
      of_rest : Outcome limit (f s k) ts x ns rest → Outcome limit (switch p f) (k ∷ ts) x (d ∷ ns) rest
      of_rest (whole lows e) = whole (low, lows) (rw is e)
      of_rest (deep pre v c lows highs n a b l o q e) =
          deep (k ∷ pre) v c (d ∷ lows) highs n (ap (λ (w : List Lexeme). k ∷ w) a) (ap (λ (w : List ℕ). d ∷ w) b) (ap suc l)
          (low, o) q (rw is e)

  switch_alike : (k : Lexeme) (t t' w : List Lexeme) → SameUpTo k t t' (switch p f (w ++ k ∷ t)) (switch p f (w ++ k ∷ t'))
  unfolding switch
  switch_alike k t t' [] = at_end (p k)
    where
      at_end : (o : Option S) → SameUpTo k t t' (switch_on o f k t) (switch_on o f k t')
      at_end (Some s) u is =
          let back = tail_of limit (f s k) (P s k) more (r s k) t in
          absurd (omega (
            arith,
            ap length back.1,
            ap length is,
            length-append back.0 (left_by (f s k t)),
            length-append u (k ∷ t),
          ))
      at_end None u is = ap (λ z. Err (Syntax z)) (same_front [] u k t t' is)
  switch_alike k t t' (c ∷ w) = before (p c)
    where
      before : (o : Option S) → SameUpTo k t t' (switch_on o f c (w ++ k ∷ t)) (switch_on o f c (w ++ k ∷ t'))
      before (Some s) u is = (r s c).alike k t t' w u is
      before None u is = ap (λ z. Err (Syntax z)) (same_front (c ∷ w) u k t t' is)

  switch_counted : (ts : List Lexeme) (y : A) (ns : List ℕ) → Switch d p P ts y ns → length ns ≡ length ts
  switch_counted _ _ _ (first k s ts x ns is q) = ap suc ((r s k).counted ts x ns q)

  pub reads_switch : Reads limit (switch p f) (Switch d p P) more
  reads_switch = record {
    found = switch_found;
    stopped = switch_stopped;
    reads = switch_reads;
    alike = switch_alike;
    counted =
        switch_counted;
  }

-- one token that stands for something
abbrev pub One : {A : Type 0} → ℕ → (Lexeme → Option A) → Phrase A
One d p = Switch d p (λ x k. Give x)

pub reads_one : {A : Type 0} (limit d : ℕ) → d ≤ limit → (p : Lexeme → Option A) →
    ((n : ℕ) → (k : Lexeme) × (x : A) × (k.at ≡ n) × (p k ≡ Some x)) → Reads limit (one p) (One d p) never
reads_one limit d low p sample =
    reads_switch limit d low p (λ x k. give x) (λ x k. Give x) never (λ x k. reads_give limit x)
    (λ n. let s = sample n in record {
      token = s.0;
      meaning = s.1;
      place_is = s.2;
      is = s.3;
      rest =
          record { tokens = []; value = s.1; nests = []; phrase = nothing };
    })

-- one reader behind a token that passes a test, and else another
module _ {A : Type 0} (limit d : ℕ) (low : d ≤ limit) (test : Lexeme → Bool) (f g : Reader A) (P Q : Phrase A)
    (more : List Lexeme → Bool)
    (r : Reads limit f P more) (s : Reads limit g Q more)
    (free : (us : List Lexeme) (x : A) (ns : List ℕ) (rest : List Lexeme) → Q us x ns → more rest ≡ false →
    begins test (us ++ rest) ≡ false) where
  on_found : (ts : List Lexeme) (y : A) (rest : List Lexeme) → on test f g ts ≡ Ok (y, rest) →
      Found limit (On d test P Q) ts y rest
  unfolding on
  on_found [] y rest e = elim (chosen _ _ _ _ e) [
    | inl h ↦ absurd cc
    | inr h ↦ let q = s.found [] y rest h.1 in record {
      tokens = q.tokens;
      nests = q.nests;
      parts = q.parts;
      phrase =
          other q.tokens y q.nests q.phrase;
      low = q.low;
    }
  ]
  on_found (k ∷ ts) y rest e = elim (chosen _ _ _ _ e) [
    | inl h ↦
        let q = r.found ts y rest h.1 in
        record {
          tokens = k ∷ q.tokens;
          nests = d ∷ q.nests;
          parts = ap (λ (w : List Lexeme). k ∷ w) q.parts;
          phrase =
              taken k q.tokens y q.nests h.0 q.phrase;
          low = (low, q.low);
        }
    | inr h ↦ let q = s.found (k ∷ ts) y rest h.1 in
        record { tokens = q.tokens; nests = q.nests; parts = q.parts; phrase = other q.tokens y q.nests q.phrase; low = q.low }
  ]

  else_stopped : (ts : List Lexeme) (h : Halt) → g ts ≡ Err h → Stopped limit (On d test P Q) h ts
  else_stopped ts h e =
      let q = s.stopped ts h e in
      record {
        tokens = q.tokens;
        others = q.others;
        value = q.value;
        nests = q.nests;
        high = q.high;
        parts = q.parts;
        phrase = other (q.tokens ++ q.others) q.value (q.nests ++ q.high) q.phrase;
        count = q.count;
        low = q.low;
        over = q.over;
        begins_so = q.begins_so;
      }

  on_stopped : (ts : List Lexeme) (h : Halt) → on test f g ts ≡ Err h → Stopped limit (On d test P Q) h ts
  unfolding on
  on_stopped [] h e = elim (chosen _ _ _ _ e) [ inl c ↦ absurd cc | inr c ↦ else_stopped [] h c.1 ]
  on_stopped (k ∷ ts) h e = elim (chosen _ _ _ _ e) [
    | inl c ↦
        let q = r.stopped ts h c.1 in
        record {
          tokens = k ∷ q.tokens;
          others = q.others;
          value = q.value;
          nests = d ∷ q.nests;
          high = q.high;
          parts = ap (λ (w : List Lexeme). k ∷ w) q.parts;
          phrase = taken k (q.tokens ++ q.others) q.value (q.nests ++ q.high) c.0 q.phrase;
          count = ap suc q.count;
          low = (low, q.low);
          over = q.over;
          begins_so = λ lt. refl;
        }
    | inr c ↦ else_stopped (k ∷ ts) h c.1
  ]

  on_reads : (ts : List Lexeme) (y : A) (ns : List ℕ) (rest : List Lexeme) → On d test P Q ts y ns → more rest ≡ false →
      Outcome limit (on test f g) ts y ns rest
  unfolding on
  on_reads _ _ _ rest (taken k ts x ns is q) stop = of_rest (r.reads ts x ns rest q stop)
    where
      of_rest : Outcome limit f ts x ns rest → Outcome limit (on test f g) (k ∷ ts) x (d ∷ ns) rest
      of_rest (whole lows e) = whole (low, lows) (choose_true _ _ _ is ∙ e)
      of_rest (deep pre v c lows highs n a b l o q e) =
          deep (k ∷ pre) v c (d ∷ lows) highs n (ap (λ (w : List Lexeme). k ∷ w) a) (ap (λ (w : List ℕ). d ∷ w) b) (ap suc l)
          (low, o) q (choose_true _ _ _ is ∙ e)
  on_reads _ _ _ rest (other ts x ns q) stop = of_rest (s.reads ts x ns rest q stop)
    where
      of_rest : Outcome limit g ts x ns rest → Outcome limit (on test f g) ts x ns rest
      of_rest (whole lows e) = whole lows (choose_false _ _ _ (free ts x ns rest q stop) ∙ e)
      of_rest (deep pre v c lows highs n a b l o p e) =
          deep pre v c lows highs n a b l o p (choose_false _ _ _ (free ts x ns rest q stop) ∙ e)

  on_alike : (k : Lexeme) (t t' w : List Lexeme) → SameUpTo k t t' (on test f g (w ++ k ∷ t)) (on test f g (w ++ k ∷ t'))
  unfolding on choose
  on_alike k t t' [] = at_end (test k) refl
    where
      at_end : (b : Bool) → test k ≡ b → SameUpTo k t t' (choose b (f t) (g (k ∷ t))) (choose b (f t') (g (k ∷ t')))
      at_end true e u is =
          let back = tail_of limit f P more r t in
          absurd (omega (arith, ap length back.1, ap length is, length-append back.0 (left_by (f t)), length-append u (k ∷ t)))
      at_end false e u is = s.alike k t t' [] u is
  on_alike k t t' (c ∷ w) = before (test c)
    where
      before : (b : Bool) → SameUpTo k t t' (choose b (f (w ++ k ∷ t)) (g (c ∷ (w ++ k ∷ t))))
          (choose b (f (w ++ k ∷ t')) (g (c ∷ (w ++ k ∷ t'))))
      before true u is = r.alike k t t' w u is
      before false u is = s.alike k t t' (c ∷ w) u is

  on_counted : (ts : List Lexeme) (y : A) (ns : List ℕ) → On d test P Q ts y ns → length ns ≡ length ts
  on_counted _ _ _ (taken k ts x ns is q) = ap suc (r.counted ts x ns q)
  on_counted _ _ _ (other ts x ns q) = s.counted ts x ns q

  pub reads_on : Reads limit (on test f g) (On d test P Q) more
  reads_on = record { found = on_found; stopped = on_stopped; reads = on_reads; alike = on_alike; counted = on_counted }

-- the end of the tokens
pub data End : List Lexeme → Unit {0} → List ℕ → Type 0 where
  ended : End [] tt []

abbrev pub any : List Lexeme → Bool
any [] = false
any (k ∷ ts) = true

pub reads_finish : (limit : ℕ) → Reads limit finish End any
unfolding finish
reads_finish limit = record {
  found = end_found;
  stopped = end_stopped;
  reads = end_reads;
  alike = end_alike;
  counted =
      end_counted;
}
  where
    end_found : (ts : List Lexeme) (x : Unit {0}) (rest : List Lexeme) → finish ts ≡ Ok (x, rest) → Found limit End ts x rest
    end_found [] x rest e =
        let same = ok_is (tt, []) (x, rest) e in
        record { tokens = []; nests = []; parts = ap (λ (p : Unit {0} × List Lexeme). p.1) same; phrase = ended; low = tt }
    end_found (k ∷ ts) x rest e = absurd cc

    end_stopped : (ts : List Lexeme) (h : Halt) → finish ts ≡ Err h → Stopped limit End h ts
    end_stopped [] h e = absurd cc
    end_stopped (k ∷ ts) h e =
        let is : h ≡ Syntax (k ∷ ts) = sym (err_is _ _ e) in
        record {
          tokens = [];
          others = [];
          value = tt;
          nests = [];
          high = [];
          parts = sym (ap left is);
          phrase = ended;
          count = refl;
          low = tt;
          over = subst (λ (z : Halt). Over z limit [] []) (sym is) tt;
          begins_so = λ lt. absurd (omega arith);
        }

    end_reads : (us : List Lexeme) (x : Unit {0}) (ns : List ℕ) (rest : List Lexeme) → End us x ns → any rest ≡ false →
        Outcome limit finish us x ns rest
    end_reads _ _ _ [] ended stop = whole tt refl
    end_reads _ _ _ (k ∷ rest) ended stop = absurd cc

    end_alike : (k : Lexeme) (r r' w : List Lexeme) → SameUpTo k r r' (finish (w ++ k ∷ r)) (finish (w ++ k ∷ r'))
    end_alike k r r' [] u is = ap (λ z. Err (Syntax z)) (same_front [] u k r r' is)
    end_alike k r r' (c ∷ w) u is = ap (λ z. Err (Syntax z)) (same_front (c ∷ w) u k r r' is)

    end_counted : (us : List Lexeme) (x : Unit {0}) (ns : List ℕ) → End us x ns → length ns ≡ length us
    end_counted _ _ _ ended = refl

-- the same phrases by other facts
module _ {A : Type 0} (limit : ℕ) (f : Reader A) (P Q : Phrase A) (more : List Lexeme → Bool) (r : Reads limit f P more)
    (to : (us : List Lexeme) (x : A) (ns : List ℕ) → P us x ns → Q us x ns)
    (from : (us : List Lexeme) (x : A) (ns : List ℕ) → Q us x ns → P us x ns) where
  pub reads_as : Reads limit f Q more
  reads_as = record {
    found = λ ts x rest e. let q = r.found ts x rest e in
        record { tokens = q.tokens; nests = q.nests; parts = q.parts; phrase = to _ _ _ q.phrase; low = q.low };
    stopped = λ ts h e. let q = r.stopped ts h e in
        record {
          tokens = q.tokens;
          others = q.others;
          value = q.value;
          nests = q.nests;
          high = q.high;
          parts = q.parts;
          phrase =
              to _ _ _ q.phrase;
          count = q.count;
          low = q.low;
          over = q.over;
          begins_so = q.begins_so;
        };
    reads = λ us x ns rest q stop. r.reads us x ns rest (from us x ns q) stop;
    alike = r.alike;
    counted = λ us x ns q. r.counted us x ns (from us x ns q);
  }

-- a reader that looks for no more than another test says
module _ {A : Type 0} (limit : ℕ) (f : Reader A) (P : Phrase A) (more less : List Lexeme → Bool) (r : Reads limit f P more)
    (so : (ts : List Lexeme) → less ts ≡ false → more ts ≡ false) where
  pub reads_until : Reads limit f P less
  reads_until = record {
    found = r.found;
    stopped = r.stopped;
    alike = r.alike;
    counted = r.counted;
    reads =
        λ us x ns rest q stop. r.reads us x ns rest q (so rest stop);
  }
