-- Where the reader of modules stops doesn't depend on what stands behind.
use Rattle.std.proofs.Common.{◌≡◌, ℕ, zero, suc, ◌≤◌, ◌<◌, Bool, true, false, List, [], ◌∷◌, ◌++◌, length, Result, Ok, Err, refl, sym, ap, subst, ◌∙◌, arith, append_assoc, length-append}
use Rattle.std.proofs.lemmas.List.{append-nil}
use Rattle.fst_terms.specs.ModuleTree.{Declared}
use Rattle.fst_reading.specs.Lexeme.{Lexeme}
use Rattle.fst_reading.specs.Faults.{IsWithinLimit, is_left}
use Rattle.fst_reading.specs.Reading.{HaltOf, Halt, Syntax, Deep}
use Rattle.fst_reading.proofs.Phrases.{left, left_by, leaving, Outcome, whole, deep, SameUpTo, ReadsJust}
use Rattle.fst_base.proofs.Choices.{choose_false}
use Rattle.fst_base.proofs.Lists.{one_cut}
use Rattle.fst_module_grammar.specs.Grammar.{Lined, lexemes_of, AreInside}
use Rattle.fst_module_grammar.specs.DeclReading.{decl_whole}
use Rattle.fst_module_grammar.specs.ModuleReading.{in_line, next_lines, last_of, in_front, cons_decl, module_within, module_at}
use Rattle.fst_module_grammar.specs.Derives.{ModulePhrase}
use Rattle.fst_module_grammar.proofs.DeclReads.{reads_decl_whole}
use Rattle.fst_module_grammar.proofs.Lines.{BeginsLine, lines_are, inside_line, begins_next, unlined_append, cut, last_is, inside_append}
use Rattle.fst_module_grammar.proofs.ModuleFound.{IsLine, within_found, within_stopped}
use Rattle.fst_module_grammar.proofs.ModuleReads.{by_lines, within_reads}

-- what is behind both lists is no more than what is in front
same_front : (p q r : List Lined) → p ++ r ≡ q ++ r → p ≡ q
same_front p q r e = (one_cut p r q r e (omega (arith, ap length e, length-append p r, length-append q r))).0

-- a stop with other tokens left, in lines and without them
abbrev put : Halt → List Lined → HaltOf Lined
put (Syntax s) ts = Syntax ts
put (Deep s) ts = Deep ts

abbrev keep : Halt → List Lexeme → Halt
keep (Syntax s) ts = Syntax ts
keep (Deep s) ts = Deep ts

in_front_put : (line more : List Lined) (g : Halt) →
    in_front line more (Err g) ≡ Err (put g (last_of (length (left g)) line ++ more))
in_front_put line more (Syntax s) = refl
in_front_put line more (Deep s) = refl

in_front_keep : (line more : List Lined) (g : Halt) (s : List Lexeme) →
    in_front line more (Err (keep g s)) ≡ Err (put g (last_of (length s) line ++ more))
in_front_keep line more (Syntax t) s = refl
in_front_keep line more (Deep t) s = refl

left_put : (g : Halt) (ts : List Lined) → left (put g ts) ≡ ts
left_put (Syntax s) ts = refl
left_put (Deep s) ts = refl

abbrev stop : HaltOf Lined → Result (List Declared × List Lined) (HaltOf Lined)
stop h = Err h

leaving_put : (g : Halt) (ts us : List Lined) → leaving (stop (put g ts)) us ≡ stop (put g us)
leaving_put (Syntax s) ts us = refl
leaving_put (Deep s) ts us = refl

abbrev decl_stop : Halt → Result (Declared × List Lexeme) Halt
decl_stop h = Err h

leaving_keep : (g : Halt) (s : List Lexeme) → leaving (decl_stop g) s ≡ decl_stop (keep g s)
leaving_keep (Syntax t) s = refl
leaving_keep (Deep t) s = refl

-- the first token begins no line
abbrev BeginsNot : List Lined → Type 0
BeginsNot [] = ⊥
BeginsNot (k ∷ ts) = k.first ≡ false

module _ (k : Lined) (t t' : List Lined) where
  -- the same stop
  stops_alike : (a b : Result (List Declared × List Lined) (HaltOf Lined)) (g : Halt) (front : List Lined) →
      a ≡ stop (put g (front ++ k ∷ t)) → b ≡ stop (put g (front ++ k ∷ t')) → SameUpTo k t t' a b
  stops_alike a b g front e e' u is =
      let same = same_front front u (k ∷ t) (sym (ap left_by e ∙ left_put g (front ++ k ∷ t)) ∙ is) in
      e' ∙ ap (λ (w : List Lined). stop (put g (w ++ k ∷ t'))) same
      ∙ sym (ap (λ z. leaving z (u ++ k ∷ t')) e ∙ leaving_put g (front ++ k ∷ t) (u ++ k ∷ t'))

  -- a stop further behind
  stops_behind : (a b : Result (List Declared × List Lined) (HaltOf Lined)) → length (left_by a) ≤ length t → SameUpTo k t t' a b
  stops_behind a b le u is = absurd (omega (arith, le, ap length is, length-append u (k ∷ t)))

  followed_alike : (d : Declared) (a b : Result (List Declared × List Lined) (HaltOf Lined)) → SameUpTo k t t' a b →
      SameUpTo k t t' (cons_decl (Ok d) a) (cons_decl (Ok d) b)
  followed_alike d (Ok x) b same u is = ap (cons_decl (Ok d)) (same u is)
  followed_alike d (Err (Syntax s)) b same u is = ap (cons_decl (Ok d)) (same u is)
  followed_alike d (Err (Deep s)) b same u is = ap (cons_decl (Ok d)) (same u is)

module _ (limit : ℕ) where
  abbrev Alike : ℕ → ℕ → Lined → List Lined → List Lined → List Lined → Type 0
  Alike n n' k t t' w = SameUpTo k t t' (module_within limit n (w ++ k ∷ t)) (module_within limit n' (w ++ k ∷ t'))

  -- where no line begins
  at_once : (n : ℕ) (c : Lined) (ts : List Lined) → c.first ≡ false → module_within limit (suc n) (c ∷ ts) ≡ Err (Syntax (c ∷ ts))
  unfolding module_within
  at_once n c ts e = choose_false _ _ _ e

  once_alike : (n n' : ℕ) (k : Lined) (t t' w : List Lined) → BeginsNot (w ++ k ∷ t) → Alike (suc n) (suc n') k t t' w
  once_alike n n' k t t' [] e = stops_alike k t t' _ _ (Syntax []) [] (at_once n k t e) (at_once n' k t' e)
  once_alike n n' k t t' (c ∷ w) e = stops_alike k t t' _ _ (Syntax []) (c ∷ w) (at_once n c (w ++ k ∷ t) e)
      (at_once n' c (w ++ k ∷ t') e)

  -- the line ends in front
  line_alike : (n n' : ℕ) (c k : Lined) (ts us t t' : List Lined) → c.first ≡ true → AreInside ts → BeginsLine (us ++ k ∷ t) →
      BeginsLine (us ++ k ∷ t') → Alike n n' k t t' us → Alike (suc n) (suc n') k t t' (c ∷ ts ++ us)
  line_alike n n' c k ts us t t' first inside begins begins' same =
      subst (λ z. SameUpTo k t t' z (module_within limit (suc n') ((c ∷ ts ++ us) ++ k ∷ t'))) (sym (step n t begins))
      (subst (λ z. SameUpTo k t t' (cons_decl (in_front (c ∷ ts) (us ++ k ∷ t) read) (module_within limit n (us ++ k ∷ t))) z)
      (sym (step n' t' begins')) (of_read read))
    where
      read : Result (Declared × List Lexeme) Halt
      read = decl_whole limit (c.lexeme ∷ lexemes_of ts)

      step : (m : ℕ) (v : List Lined) → BeginsLine (us ++ k ∷ v) →
          module_within limit (suc m) ((c ∷ ts ++ us) ++ k ∷ v) ≡ cons_decl (in_front (c ∷ ts) (us ++ k ∷ v) read)
          (module_within limit m (us ++ k ∷ v))
      step m v b = ap (λ (w : List Lined). module_within limit (suc m) (c ∷ w)) (append_assoc ts us (k ∷ v))
          ∙ by_lines limit m c ts (us ++ k ∷ v) first inside b

      of_read : (r : Result (Declared × List Lexeme) Halt) →
          SameUpTo k t t' (cons_decl (in_front (c ∷ ts) (us ++ k ∷ t) r) (module_within limit n (us ++ k ∷ t)))
          (cons_decl (in_front (c ∷ ts) (us ++ k ∷ t') r) (module_within limit n' (us ++ k ∷ t')))
      of_read (Ok x) = followed_alike k t t' x.0 _ _ same
      of_read (Err g) =
          let s = last_of (length (left g)) (c ∷ ts) in
          let stopped : (m : ℕ) (v : List Lined) → cons_decl (in_front (c ∷ ts) (us ++ k ∷ v) (Err g))
          (module_within limit m (us ++ k ∷ v)) ≡ stop (put g ((s ++ us) ++ k ∷ v)) =
          λ m v. ap (λ z. cons_decl z (module_within limit m (us ++ k ∷ v))) (in_front_put (c ∷ ts) (us ++ k ∷ v) g) ∙ ap
          (λ (w : List Lined). stop (put g w)) (sym (append_assoc s us (k ∷ v))) in
          stops_alike k t t' _ _ g (s ++ us) (stopped n t) (stopped n' t')

  -- what is left behind a declaration is no more than the lines behind it
  left_behind : (n : ℕ) (d : Declared) (ts : List Lined) → length ts ≤ n →
      length (left_by (cons_decl (Ok d) (module_within limit n ts))) ≤ length ts
  left_behind n d ts le = of_step (module_within limit n ts) refl
    where
      of_step : (r : Result (List Declared × List Lined) (HaltOf Lined)) → module_within limit n ts ≡ r →
          length (left_by (cons_decl (Ok d) r)) ≤ length ts
      of_step (Ok x) e = let f = within_found limit n ts x.0 x.1 e in omega (arith, ap length f.0)
      of_step (Err h) e = let q = within_stopped limit n ts h le e in
          omega (arith, ap length q.parts, length-append q.tokens (left h))

  -- tokens as a line and the lines behind it
  whole_line : (pre : List Lined) (k : Lined) (t : List Lined) → pre ++ k ∷ t ≡ (pre ++ k ∷ in_line t) ++ next_lines t
  whole_line pre k t = ap (λ (w : List Lined). pre ++ k ∷ w) (lines_are t) ∙ sym (append_assoc pre (k ∷ in_line t) (next_lines t))

  line_step : (n : ℕ) (line more : List Lined) → 0 < length line → IsLine line → BeginsLine more →
      module_within limit (suc n) (line ++ more) ≡ cons_decl (in_front line more (decl_whole limit (lexemes_of line)))
      (module_within limit n more)
  line_step n [] more lt l b = absurd (omega (arith, lt))
  line_step n (c ∷ ts) more lt l b = by_lines limit n c ts more l.0 l.1 b

  -- the token stands within the line
  within_alike : (n n' : ℕ) (k : Lined) (pre t t' : List Lined) → IsLine (pre ++ k ∷ in_line t) → IsLine (pre ++ k ∷ in_line t') →
      length t ≤ n → Alike (suc n) (suc n') k t t' pre
  within_alike n n' k pre t t' l l' le =
      subst (λ z. SameUpTo k t t' z (module_within limit (suc n') (pre ++ k ∷ t'))) (sym (step n t l))
      (of_read (decl_whole limit (lexemes_of (pre ++ k ∷ in_line t))) refl)
    where
      step : (m : ℕ) (v : List Lined) → IsLine (pre ++ k ∷ in_line v) →
          module_within limit (suc m) (pre ++ k ∷ v) ≡ cons_decl
          (in_front (pre ++ k ∷ in_line v) (next_lines v) (decl_whole limit (lexemes_of (pre ++ k ∷ in_line v))))
          (module_within limit m (next_lines v))
      step m v line = ap (module_within limit (suc m)) (whole_line pre k v)
          ∙ line_step m (pre ++ k ∷ in_line v) (next_lines v) (omega (arith, length-append pre (k ∷ in_line v))) line
          (begins_next v)

      few : length (next_lines t) ≤ length t
      few = omega (arith, ap length (lines_are t), length-append (in_line t) (next_lines t))

      of_stop : (g : Halt) → decl_whole limit (lexemes_of (pre ++ k ∷ in_line t)) ≡ Err g →
          SameUpTo k t t' (cons_decl (in_front (pre ++ k ∷ in_line t) (next_lines t) (Err g))
          (module_within limit n (next_lines t))) (module_within limit (suc n') (pre ++ k ∷ t'))
      of_stop g e u is =
          let line = pre ++ k ∷ in_line t in
          let r = reads_decl_whole limit in
          let q = r.stopped (lexemes_of line) g e in
          let c = cut line q.tokens (left g) q.parts in
          let last : last_of (length (left g)) line ≡ c.back = ap (last_of (length (left g))) c.parts
          ∙ last_is c.front c.back (left g) c.back_is in
          let here : cons_decl (in_front line (next_lines t) (Err g)) (module_within limit n (next_lines t)) ≡ stop
          (put g (c.back ++ next_lines t)) =
          ap (λ z. cons_decl z (module_within limit n (next_lines t))) (in_front_put line (next_lines t) g) ∙ ap
          (λ (w : List Lined). stop (put g (w ++ next_lines t))) last in
          let whole : c.back ++ next_lines t ≡ (u ++ k ∷ in_line t) ++ next_lines t =
          sym (ap left_by here ∙ left_put g (c.back ++ next_lines t)) ∙ is ∙ whole_line u k t in
          let back : c.back ≡ u ++ k ∷ in_line t = same_front c.back (u ++ k ∷ in_line t) (next_lines t) whole in
          let front : pre ≡ c.front ++ u = same_front pre (c.front ++ u) (k ∷ in_line t)
          (c.parts ∙ ap (λ (w : List Lined). c.front ++ w) back ∙ sym (append_assoc c.front u (k ∷ in_line t))) in
          let left_is : left_by (decl_whole limit (lexemes_of pre ++ k.lexeme ∷ lexemes_of (in_line t))) ≡ lexemes_of u
          ++ k.lexeme ∷ lexemes_of (in_line t) =
          ap (λ z. left_by (decl_whole limit z)) (sym (unlined_append pre (k ∷ in_line t))) ∙ ap left_by e ∙ sym c.back_is
          ∙ ap lexemes_of back ∙ unlined_append u (k ∷ in_line t) in
          let again = r.alike k.lexeme (lexemes_of (in_line t)) (lexemes_of (in_line t')) (lexemes_of pre)
          (lexemes_of u) left_is in
          let s = lexemes_of u ++ k.lexeme ∷ lexemes_of (in_line t') in
          let read : decl_whole limit (lexemes_of (pre ++ k ∷ in_line t')) ≡ decl_stop (keep g s) =
          ap (decl_whole limit) (unlined_append pre (k ∷ in_line t')) ∙ again ∙ ap
          (λ z. leaving z s) (ap (decl_whole limit) (sym (unlined_append pre (k ∷ in_line t))) ∙ e) ∙ leaving_keep g s in
          let last' : last_of (length s) (pre ++ k ∷ in_line t') ≡ u ++ k ∷ in_line t' =
          ap (last_of (length s)) (ap (λ (w : List Lined). w ++ k ∷ in_line t') front ∙ append_assoc c.front u (k ∷ in_line t'))
          ∙ last_is c.front (u ++ k ∷ in_line t') s (unlined_append u (k ∷ in_line t')) in
          step n' t' l' ∙ ap (λ z. cons_decl (in_front (pre ++ k ∷ in_line t') (next_lines t') z)
          (module_within limit n' (next_lines t'))) read
          ∙ ap (λ z. cons_decl z (module_within limit n' (next_lines t')))
          (in_front_keep (pre ++ k ∷ in_line t') (next_lines t') g s)
          ∙ ap (λ (w : List Lined). stop (put g w)) (ap (λ (w : List Lined). w ++ next_lines t') last' ∙ sym (whole_line u k t'))
          ∙ sym (ap (λ z. leaving z (u ++ k ∷ t')) here ∙ leaving_put g (c.back ++ next_lines t) (u ++ k ∷ t'))

      of_read : (r : Result (Declared × List Lexeme) Halt) → decl_whole limit (lexemes_of (pre ++ k ∷ in_line t)) ≡ r →
          SameUpTo k t t' (cons_decl (in_front (pre ++ k ∷ in_line t) (next_lines t)
          (decl_whole limit (lexemes_of (pre ++ k ∷ in_line t)))) (module_within limit n (next_lines t)))
          (module_within limit (suc n') (pre ++ k ∷ t'))
      of_read (Ok x) e = rw e (stops_behind k t t' _ _
          (omega (arith, few, left_behind n x.0 (next_lines t) (omega (arith, le, few)))))
      of_read (Err g) e = rw e (of_stop g e)

  -- where the first line ends in a list of tokens: at a token that begins one, or nowhere
  all_alike : (n n' : ℕ) (k : Lined) (t t' w : List Lined) → length (w ++ k ∷ t) ≤ n → length (w ++ k ∷ t') ≤ n' →
      Alike n n' k t t' w
  all_alike zero n' k t t' w le le' = absurd (omega (arith, le, length-append w (k ∷ t)))
  all_alike (suc n) zero k t t' w le le' = absurd (omega (arith, le', length-append w (k ∷ t')))
  all_alike (suc n) (suc n') k t t' [] le le' = by_first k.first refl
    where
      by_first : (b : Bool) → k.first ≡ b → Alike (suc n) (suc n') k t t' []
      by_first false e = once_alike n n' k t t' [] e
      by_first true e = within_alike n n' k [] t t' (e, inside_line t) (e, inside_line t') (omega (arith, le))
  all_alike (suc n) (suc n') k t t' (c ∷ w) le le' =
      by_first c.first refl (λ us few few'. all_alike n n' k t t' us few few')
    where
      by_first : (b : Bool) → c.first ≡ b → ((us : List Lined) → length (us ++ k ∷ t) ≤ n → length (us ++ k ∷ t') ≤ n' →
          Alike n n' k t t' us) → Alike (suc n) (suc n') k t t' (c ∷ w)
      by_first false e again = once_alike n n' k t t' (c ∷ w) e
      by_first true e again = by_next (next_lines w) refl k.first refl
        where
          shorter : (v : List Lined) → length (next_lines w ++ k ∷ v) ≤ length (w ++ k ∷ v)
          shorter v = omega (
            arith,
            ap length (lines_are w),
            length-append (in_line w) (next_lines w),
            length-append w (k ∷ v),
            length-append (next_lines w) (k ∷ v),
          )

          here : Alike n n' k t t' (next_lines w)
          here = again (next_lines w) (omega (arith, le, shorter t)) (omega (arith, le', shorter t'))

          by_line : BeginsLine (next_lines w ++ k ∷ t) → BeginsLine (next_lines w ++ k ∷ t') →
              Alike (suc n) (suc n') k t t' (c ∷ w)
          by_line b b' = subst (λ (z : List Lined). Alike (suc n) (suc n') k t t' (c ∷ z)) (sym (lines_are w))
              (line_alike n n' c k (in_line w) (next_lines w) t t' e (inside_line w) b b' here)

          by_next : (us : List Lined) → next_lines w ≡ us → (b : Bool) → k.first ≡ b → Alike (suc n) (suc n') k t t' (c ∷ w)
          by_next (j ∷ us) is b g =
              let begins : j.first ≡ true = subst BeginsLine is (begins_next w) in
              by_line (rw is begins) (rw is begins)
          by_next [] is true g = by_line (rw is g) (rw is g)
          by_next [] is false g =
              let all : AreInside w = subst AreInside (sym
              (lines_are w ∙ ap (λ (z : List Lined). in_line w ++ z) is ∙ append-nil (in_line w))) (inside_line w) in
              within_alike n n' k (c ∷ w) t t' (e, inside_append w (k ∷ in_line t) all (g, inside_line t))
              (e, inside_append w (k ∷ in_line t') all (g, inside_line t')) (omega (arith, le, length-append w (k ∷ t)))

  -- what is left is nothing
  pub module_ends : (ts : List Lined) (ds : List Declared) (rest : List Lined) → module_at limit ts ≡ Ok (ds, rest) →
      is_left rest ≡ false
  unfolding module_at
  module_ends ts ds rest e = ap is_left (within_found limit (length ts) ts ds rest e).0

  read : (us : List Lined) (ds : List Declared) (ns : List ℕ) (rest : List Lined) → ModulePhrase us ds ns → is_left rest ≡ false →
      Outcome limit (module_at limit) us ds ns rest
  unfolding module_at
  read us ds ns [] p st = of_within (within_reads limit (length us) us ds p.0 (omega arith)) p.1
    where
      same : module_at limit (us ++ []) ≡ module_within limit (length us) (us ++ [])
      same = ap (λ (n : ℕ). module_within limit n (us ++ [])) (ap length (append-nil us))

      of_within : {ms : List ℕ} → Outcome limit (module_within limit (length us)) us ds ms [] → ms ≡ ns →
          Outcome limit (module_at limit) us ds ns []
      of_within (whole low e) g = whole (subst (IsWithinLimit limit) g low) (same ∙ e)
      of_within (deep pre v c low high n a b l o q e) g = deep pre v c low high n a (sym g ∙ b) l o q (same ∙ e)
  read us ds ns (k ∷ rest) p st = absurd cc

  pub reads_module : ReadsJust limit (module_at limit) ModulePhrase is_left
  unfolding module_at
  reads_module = record {
    found = λ ts ds rest e.
        let f = within_found limit (length ts) ts ds rest e in
        record {
          tokens = ts;
          nests = _;
          parts = sym (append-nil ts) ∙ ap (λ (w : List Lined). ts ++ w) (sym f.0);
          phrase =
              (f.1, refl);
          low = f.2;
        };
    stopped = λ ts h e. within_stopped limit (length ts) ts h (omega arith) e;
    reads = λ us ds ns rest p st. read us ds ns rest p st;
    alike = λ k t t' w. all_alike (length (w ++ k ∷ t)) (length (w ++ k ∷ t')) k t t' w (omega arith) (omega arith);
  }
