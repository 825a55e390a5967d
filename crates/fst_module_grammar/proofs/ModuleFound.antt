-- What the reader of modules reads is a module, and where it stops some module goes on.
use Rattle.std.proofs.Common.{◌≡◌, ℕ, zero, suc, ◌≤◌, ◌⊎◌, inl, inr, Bool, true, false, List, [], ◌∷◌, ◌++◌, length, Result, Ok, Err, refl, sym, ap, subst, ◌∙◌, arith, append_assoc, length-append}
use Rattle.std.proofs.lemmas.List.{append-nil}
use Rattle.fst_terms.specs.ModuleTree.{Declared}
use Rattle.fst_reading.specs.Lexeme.{Lexeme}
use Rattle.fst_reading.specs.Faults.{IsWithinLimit, BeginsWithinLimit}
use Rattle.fst_reading.specs.Reading.{HaltOf, Halt, Syntax, Deep, andthen, finish}
use Rattle.fst_reading.proofs.Phrases.{left, IsOver, Over, StoppedAt, Stopped, reads_just}
use Rattle.fst_reading.proofs.Steps.{IsWithinLimit-append, bind_ok, mapped_is}
use Rattle.fst_reading.proofs.Parts.{any}
use Rattle.fst_reading.proofs.Exactness.{is_read}
use Rattle.fst_module_grammar.specs.Grammar.{Lined, lexemes_of, AreInside, IsDecl, IsModule, none, decl}
use Rattle.fst_module_grammar.specs.Nesting.{decl_nests, module_nests}
use Rattle.fst_module_grammar.specs.DeclReading.{decl_whole}
use Rattle.fst_module_grammar.specs.ModuleReading.{in_line, next_lines, last_of, in_front, cons_decl, module_within}
use Rattle.fst_module_grammar.specs.Derives.{ModulePhrase}
use Rattle.fst_module_grammar.proofs.DeclPhrases.{DeclP}
use Rattle.fst_module_grammar.proofs.DeclReads.{reads_decl_whole, decl_filled}
use Rattle.fst_module_grammar.proofs.Lines.{lines_are, inside_line, unlined_append, cut, last_is, unlined_length, all_inside, unlined_inside, all_are_inside, inside_append, inside_front}
use Rattle.fst_base.proofs.Choices.{chosen}

abbrev pub read : List Declared → List Lined → List Declared × List Lined
read ds rest = (ds, rest)

abbrev ok : {A E : Type 0} → A → Result A E
ok x = Ok x

pub ok_same : {A E : Type 0} (x y : A) → ok {E = E} x ≡ ok y → x ≡ y
ok_same x y e = cc

abbrev err : {A E : Type 0} → E → Result A E
err x = Err x

pub err_same : {A E : Type 0} (x y : E) → err {A = A} x ≡ err y → x ≡ y
err_same x y e = cc

-- the parts of what was read
pub followed_ok : (a : Result Declared (HaltOf Lined)) (r : Result (List Declared × List Lined) (HaltOf Lined))
    (y : List Declared × List Lined) → cons_decl a r ≡ Ok y →
    (d : Declared) × (x : List Declared × List Lined) × (a ≡ Ok d) × (r ≡ Ok x) × (y ≡ read (d ∷ x.0) x.1)
followed_ok (Ok d) (Ok x) y e = (d, x, refl, refl, sym (ok_same (d ∷ x.0, x.1) y e))
followed_ok (Ok d) (Err h) y e = absurd cc
followed_ok (Err h) r y e = absurd cc

pub followed_err : (a : Result Declared (HaltOf Lined)) (r : Result (List Declared × List Lined) (HaltOf Lined))
    (h : HaltOf Lined) → cons_decl a r ≡ Err h →
    (a ≡ Err h) ⊎ ((d : Declared) × (a ≡ Ok d) × (r ≡ Err h))
followed_err (Ok d) (Ok x) h e = absurd cc
followed_err (Ok d) (Err g) h e = inr (d, refl, ap Err (err_same g h e))
followed_err (Err g) r h e = inl (ap Err (err_same g h e))

pub in_front_ok : (line more : List Lined) (r : Result (Declared × List Lexeme) Halt) (d : Declared) →
    in_front line more r ≡ Ok d → (rest : List Lexeme) × (r ≡ Ok (d, rest))
in_front_ok line more (Ok x) d e = (x.1, ap (λ z. Ok (z, x.1)) (ok_same x.0 d e))
in_front_ok line more (Err (Syntax s)) d e = absurd cc
in_front_ok line more (Err (Deep s)) d e = absurd cc

-- where a declaration stopped, in its line and the lines behind it
abbrev pub in_lines : List Lined → List Lined → Halt → HaltOf Lined
in_lines line more (Syntax s) = Syntax (last_of (length s) line ++ more)
in_lines line more (Deep s) = Deep (last_of (length s) line ++ more)

pub in_front_err : (line more : List Lined) (r : Result (Declared × List Lexeme) Halt) (h : HaltOf Lined) →
    in_front line more r ≡ Err h → (g : Halt) × (r ≡ Err g) × (h ≡ in_lines line more g)
in_front_err line more (Ok x) h e = absurd cc
in_front_err line more (Err (Syntax s)) h e = (Syntax s, refl, sym (err_same (Syntax (last_of (length s) line ++ more)) h e))
in_front_err line more (Err (Deep s)) h e = (Deep s, refl, sym (err_same (Deep (last_of (length s) line ++ more)) h e))

pub left_in_lines : (line more : List Lined) (g : Halt) → left (in_lines line more g) ≡ last_of (length (left g)) line ++ more
left_in_lines line more (Syntax s) = refl
left_in_lines line more (Deep s) = refl

finish_ends : (us rest : List Lexeme) (u : Unit {0}) → finish us ≡ Ok (u, rest) → any rest ≡ false
unfolding finish
finish_ends [] rest u e = ap (λ (p : Unit {0} × List Lexeme). any p.1) (sym (ok_same (tt, []) (u, rest) e))
finish_ends (k ∷ us) rest u e = absurd cc

none_found : (limit : ℕ) (ds : List Declared) (rest : List Lined) → read [] [] ≡ read ds rest → (rest ≡ []) ×
    (s : IsModule [] ds) × IsWithinLimit limit (module_nests s)
none_found limit ds rest e = subst (λ (p : List Declared × List Lined). (p.1 ≡ []) ×
    (s : IsModule [] p.0) × IsWithinLimit limit (module_nests s)) e (refl, none, tt)

-- a token by its parts
as_lined : (c : Lined) (b : Bool) (k : Lexeme) → c.first ≡ b → c.lexeme ≡ k → record { first = b; lexeme = k } ≡ c
as_lined c b k e g = λ i. record { first = sym e i; lexeme = sym g i }

inside_next : (front : List Lined) (c : Lined) (back : List Lined) → AreInside (front ++ c ∷ back) → c.first ≡ false
inside_next [] c back all = all.0
inside_next (k ∷ front) c back all = inside_next front c back all.1

-- these tokens are a line, or the front of one
abbrev pub IsLine : List Lined → Type 0
IsLine [] = Unit {0}
IsLine (k ∷ ts) = (k.first ≡ true) × AreInside ts

module _ (limit : ℕ) where
  -- behind a declaration that was read nothing is left
  pub decl_ends : (ts : List Lexeme) (d : Declared) (rest : List Lexeme) → decl_whole limit ts ≡ Ok (d, rest) → any rest ≡ false
  unfolding decl_whole andthen
  decl_ends ts d rest e =
      let a = bind_ok _ _ (d, rest) e in
      let b = mapped_is _ _ a.0.1 d rest a.2 in
      finish_ends a.0.1 rest b.0 b.1

  -- a declaration that is read stands there, and no token of it is over the limit
  pub decl_read : (ts : List Lexeme) (d : Declared) (rest : List Lexeme) → decl_whole limit ts ≡ Ok (d, rest) →
      (s : IsDecl ts d) × IsWithinLimit limit (decl_nests s)
  decl_read ts d rest e = of_rest rest (is_read limit (decl_whole limit) DeclP any
      (reads_just (reads_decl_whole limit)) decl_ends refl ts d rest e)
    where
      of_rest : (rest : List Lexeme) → BeginsWithinLimit limit DeclP any ts d rest →
          (s : IsDecl ts d) × IsWithinLimit limit (decl_nests s)
      of_rest [] b = low_decl (subst (λ z. DeclP z d b.0.nests) (sym (b.0.parts ∙ append-nil b.0.tokens)) b.0.phrase) b.1
        where
          low_decl : {ns : List ℕ} (p : DeclP ts d ns) → IsWithinLimit limit ns →
              (s : IsDecl ts d) × IsWithinLimit limit (decl_nests s)
          low_decl p low = (p.0, subst (IsWithinLimit limit) (sym p.1) low)
      of_rest (k ∷ rest) b = absurd (let end = b.0.ended in cc)

  -- a module of one declaration more
  pub one_more : (k : Lined) (ts us all : List Lined) (d : Declared) (ds : List Declared) (ns ms : List ℕ) → k.first ≡ true →
      AreInside ts → DeclP (k.lexeme ∷ lexemes_of ts) d ns → ModulePhrase us ds ms → all ≡ k ∷ ts ++ us →
      ModulePhrase all (d ∷ ds) (ns ++ ms)
  one_more k ts us all d ds ns ms first inside p q parts = (
    decl k ts us all d ds first inside p.0 q.0 parts,
    (let e : decl_nests p.0 ++ module_nests q.0 ≡ ns ++ ms = rw (p.1, q.1) refl in e),
  )

  more_found : (k : Lined) (ts : List Lined) (ds : List Declared) (rest : List Lined) (d : Declared)
      (x : List Declared × List Lined) → k.first ≡ true →
      (s : IsDecl (k.lexeme ∷ lexemes_of (in_line ts)) d) × IsWithinLimit limit (decl_nests s) →
      (x.1 ≡ []) × (s : IsModule (next_lines ts) x.0) × IsWithinLimit limit (module_nests s) → read ds rest ≡ read (d ∷ x.0) x.1 →
      (rest ≡ []) × (s : IsModule (k ∷ ts) ds) × IsWithinLimit limit (module_nests s)
  more_found k ts ds rest d x first s m e =
      subst (λ (p : List Declared × List Lined). (p.1 ≡ []) × (s : IsModule (k ∷ ts) p.0) × IsWithinLimit limit (module_nests s))
      (sym e) (
        m.0,
        decl k (in_line ts) (next_lines ts) (k ∷ ts) d x.0 first (inside_line ts) s.0 m.1
            (ap (λ (w : List Lined). k ∷ w) (lines_are ts)),
        IsWithinLimit-append limit (decl_nests s.0) (module_nests m.1) s.1 m.2,
      )

  pub within_found : (n : ℕ) (ts : List Lined) (ds : List Declared) (rest : List Lined) →
      module_within limit n ts ≡ Ok (ds, rest) → (rest ≡ []) × (s : IsModule ts ds) × IsWithinLimit limit (module_nests s)
  unfolding module_within
  within_found zero [] ds rest e = none_found limit ds rest (ok_same ([], []) (ds, rest) e)
  within_found (suc n) [] ds rest e = none_found limit ds rest (ok_same ([], []) (ds, rest) e)
  within_found zero (k ∷ ts) ds rest e = absurd cc
  within_found (suc n) (k ∷ ts) ds rest e = elim (chosen _ _ _ _ e) [
    | inl b ↦
        let f = followed_ok _ _ (ds, rest) b.1 in
        let p = in_front_ok (k ∷ in_line ts) (next_lines ts) _ f.0 f.2 in
        let s = decl_read (k.lexeme ∷ lexemes_of (in_line ts)) f.0 p.0 p.1 in
        let m = within_found n (next_lines ts) f.1.0 f.1.1 f.3 in
        more_found k ts ds rest f.0 f.1 b.0 s m f.4
    | inr b ↦ absurd (let g = b.1 in cc)
  ]

  -- what goes on behind the tokens of a line, or as a line where there are none
  abbrev behind : List Lined → List Lexeme → List Lined
  behind [] [] = []
  behind [] (k ∷ ts) = record { first = true; lexeme = k } ∷ all_inside ts
  behind (c ∷ front) ts = all_inside ts

  line_front : (front back : List Lined) → IsLine (front ++ back) → IsLine front
  line_front [] back l = tt
  line_front (k ∷ front) back l = (l.0, inside_front front back l.1)

  -- a declaration is a module of one line
  line_module : (front : List Lined) (a others : List Lexeme) (d : Declared) (ns : List ℕ) → lexemes_of front ≡ a → IsLine front →
      DeclP (a ++ others) d ns → ModulePhrase (front ++ behind front others) (d ∷ []) (ns ++ [])
  line_module [] a [] d ns e l p = absurd (omega (arith, decl_filled (a ++ []) d ns p, ap length (append-nil a), ap length e))
  line_module [] a (k ∷ others) d ns e l p =
      one_more (record { first = true; lexeme = k }) (all_inside others) [] _ d [] ns [] refl (all_are_inside others)
      (subst (λ w. DeclP w d ns) (ap (λ (w : List Lexeme). w ++ k ∷ others) (sym e) ∙ ap
      (λ (w : List Lexeme). k ∷ w) (sym (unlined_inside others))) p) (none, refl)
      (ap (λ (w : List Lined). record { first = true; lexeme = k } ∷ w) (sym (append-nil (all_inside others))))
  line_module (k ∷ front) a others d ns e l p =
      one_more k (front ++ all_inside others) [] _ d [] ns [] l.0
      (inside_append front (all_inside others) l.1 (all_are_inside others))
      (subst (λ w. DeclP w d ns) (ap (λ (w : List Lexeme). w ++ others) (sym e) ∙ ap
      (λ (w : List Lexeme). k.lexeme ∷ w) (ap (λ (w : List Lexeme). lexemes_of front ++ w) (sym (unlined_inside others))
      ∙ sym (unlined_append front (all_inside others)))) p) (none, refl)
      (ap (λ (w : List Lined). k ∷ w) (sym (append-nil (front ++ all_inside others))))

  -- the token over the limit, as it stands in its line
  over_in_line : (front back : List Lined) (s others : List Lexeme) (high : List ℕ) → IsLine (front ++ back) →
      lexemes_of back ≡ s → IsOver limit s others high →
      (more : List Lined) → IsOver limit (back ++ more) (behind front others) high
  over_in_line front [] s others high l e o more = absurd (let both = e ∙ o.here in cc)
  over_in_line [] (c ∷ back) s others high l e o more =
      let same : c.lexeme ∷ lexemes_of back ≡ o.token ∷ o.after = e ∙ o.here in
      let head : c.lexeme ≡ o.token = cc in
      record {
        token = c;
        after = back ++ more;
        further = all_inside o.further;
        nest = o.nest;
        nests = o.nests;
        here = refl;
        first = ap (behind []) o.first ∙ ap (λ (z : Lined). z ∷ all_inside o.further) (as_lined c true o.token l.0 head);
        highest = o.highest;
        over = o.over;
      }
  over_in_line (k ∷ front) (c ∷ back) s others high l e o more =
      let same : c.lexeme ∷ lexemes_of back ≡ o.token ∷ o.after = e ∙ o.here in
      let head : c.lexeme ≡ o.token = cc in
      record {
        token = c;
        after = back ++ more;
        further = all_inside o.further;
        nest = o.nest;
        nests = o.nests;
        here = refl;
        first = ap all_inside o.first ∙ ap (λ (z : Lined). z ∷ all_inside o.further)
            (as_lined c false o.token (inside_next front c back l.1) head);
        highest = o.highest;
        over = o.over;
      }

  over_in_lines : (line front back more : List Lined) (g : Halt) (others : List Lexeme) (high : List ℕ) → line ≡ front ++ back →
      IsLine line → lexemes_of back ≡ left g → Over g limit others high →
      Over (in_lines line more g) limit (behind front others) high
  over_in_lines line front back more (Syntax s) others high parts l e o = tt
  over_in_lines line front back more (Deep s) others high parts l e o =
      subst (λ (z : List Lined). IsOver limit (z ++ more) (behind front others) high)
      (sym (ap (last_of (length s)) parts ∙ last_is front back s e))
      (over_in_line front back s others high (subst IsLine parts l) e o more)

  -- where a declaration stops, some module goes on
  stopped_in_line : (k : Lined) (ts : List Lined) (g : Halt) → k.first ≡ true →
      Stopped limit DeclP g (k.lexeme ∷ lexemes_of (in_line ts)) →
      StoppedAt limit ModulePhrase (in_lines (k ∷ in_line ts) (next_lines ts) g) (k ∷ ts)
  stopped_in_line k ts g first q =
      let line = k ∷ in_line ts in
      let c = cut line q.tokens (left g) q.parts in
      let l : IsLine line = (first, inside_line ts) in
      record {
        tokens = c.front;
        others = behind c.front q.others;
        value = q.value ∷ [];
        nests = q.nests;
        high = q.high ++ [];
        parts = ap (λ (w : List Lined). k ∷ w) (lines_are ts) ∙ ap (λ (w : List Lined). w ++ next_lines ts) c.parts
            ∙ append_assoc c.front c.back (next_lines ts)
            ∙ ap (λ (w : List Lined). c.front ++ w) (ap
            (λ (w : List Lined). w ++ next_lines ts)
            (sym (ap (last_of (length (left g))) c.parts ∙ last_is c.front c.back (left g) c.back_is))
            ∙ sym (left_in_lines line (next_lines ts) g));
        phrase = subst (ModulePhrase (c.front ++ behind c.front q.others) (q.value ∷ [])) (append_assoc q.nests q.high [])
            (line_module c.front q.tokens q.others q.value (q.nests ++ q.high) c.front_is
            (line_front c.front c.back (subst IsLine c.parts l)) q.phrase);
        count = q.count ∙ ap length (sym c.front_is) ∙ unlined_length c.front;
        low = q.low;
        over = subst (Over (in_lines line (next_lines ts) g) limit (behind c.front q.others)) (sym (append-nil q.high))
            (over_in_lines line c.front c.back (next_lines ts) g q.others q.high c.parts l c.back_is q.over);
      }

  -- behind a whole declaration some module goes on where the rest does
  stopped_behind : (k : Lined) (ts : List Lined) (d : Declared) (h : HaltOf Lined) → k.first ≡ true →
      (s : IsDecl (k.lexeme ∷ lexemes_of (in_line ts)) d) × IsWithinLimit limit (decl_nests s) →
      StoppedAt limit ModulePhrase h (next_lines ts) →
      StoppedAt limit ModulePhrase h (k ∷ ts)
  stopped_behind k ts d h first s q = record {
    tokens = k ∷ in_line ts ++ q.tokens;
    others = q.others;
    value = d ∷ q.value;
    nests = decl_nests s.0 ++ q.nests;
    high = q.high;
    parts = ap (λ (w : List Lined). k ∷ w) (lines_are ts ∙ ap (λ (w : List Lined). in_line ts ++ w) q.parts
        ∙ sym (append_assoc (in_line ts) q.tokens (left h)));
    phrase = subst (ModulePhrase (k ∷ (in_line ts ++ q.tokens) ++ q.others) (d ∷ q.value))
        (sym (append_assoc (decl_nests s.0) q.nests q.high))
        (one_more k (in_line ts) (q.tokens ++ q.others) _ d q.value (decl_nests s.0) (q.nests ++ q.high) first (inside_line ts)
        (s.0, refl) q.phrase (ap (λ (w : List Lined). k ∷ w) (append_assoc (in_line ts) q.tokens q.others)));
    count = omega (
      arith,
      (reads_decl_whole limit).counted (k.lexeme ∷ lexemes_of (in_line ts)) d (decl_nests s.0) (s.0, refl),
      unlined_length (in_line ts),
      q.count,
      length-append (decl_nests s.0) q.nests,
      length-append (in_line ts) q.tokens,
    );
    low = IsWithinLimit-append limit (decl_nests s.0) q.nests s.1 q.low;
    over = q.over;
  }

  -- where no line begins, some module stops
  stopped_at_once : (ts : List Lined) (h : HaltOf Lined) → Syntax ts ≡ h → StoppedAt limit ModulePhrase h ts
  stopped_at_once ts h e = subst (λ z. StoppedAt limit ModulePhrase z ts) e
      (record {
        tokens = [];
        others = [];
        value = [];
        nests = [];
        high = [];
        parts = refl;
        phrase =
            (none, refl);
        count = refl;
        low = tt;
        over = tt;
      })

  shorter_rest : (k : Lined) (ts : List Lined) (n : ℕ) → length (k ∷ ts) ≤ suc n → length (next_lines ts) ≤ n
  shorter_rest k ts n le = omega (arith, le, ap length (lines_are ts), length-append (in_line ts) (next_lines ts))

  pub within_stopped : (n : ℕ) (ts : List Lined) (h : HaltOf Lined) → length ts ≤ n → module_within limit n ts ≡ Err h →
      StoppedAt limit ModulePhrase h ts
  unfolding module_within
  within_stopped zero [] h le e = absurd cc
  within_stopped (suc n) [] h le e = absurd cc
  within_stopped zero (k ∷ ts) h le e = absurd (omega (arith, le))
  within_stopped (suc n) (k ∷ ts) h le e = elim (chosen _ _ _ _ e) [
    | inl b ↦ elim (followed_err _ _ h b.1) [
      | inl f ↦
          let g = in_front_err (k ∷ in_line ts) (next_lines ts) _ h f in
          subst (λ z. StoppedAt limit ModulePhrase z (k ∷ ts)) (sym g.2)
          (stopped_in_line k ts g.0 b.0 ((reads_decl_whole limit).stopped (k.lexeme ∷ lexemes_of (in_line ts)) g.0 g.1))
      | inr f ↦
          let p = in_front_ok (k ∷ in_line ts) (next_lines ts) _ f.0 f.1 in
          stopped_behind k ts f.0 h b.0 (decl_read (k.lexeme ∷ lexemes_of (in_line ts)) f.0 p.0 p.1)
          (within_stopped n (next_lines ts) h (shorter_rest k ts n le) f.2)
    ]
    | inr b ↦ stopped_at_once (k ∷ ts) h (err_same (Syntax (k ∷ ts)) h b.1)
  ]
