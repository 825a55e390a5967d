-- The reader of modules has the laws of readers.
use Rattle.std.proofs.Common.{◌≡◌, ℕ, zero, suc, ◌≤◌, true, List, [], ◌∷◌, ◌++◌, length, Ok, Err, refl, sym, ap, subst, ◌∙◌, arith, append_assoc, length-append}
use Rattle.std.proofs.lemmas.List.{append-nil}
use Rattle.fst_terms.specs.ModuleTree.{Declared}
use Rattle.fst_reading.specs.Lexeme.{Lexeme}
use Rattle.fst_reading.specs.Reading.{Deep}
use Rattle.fst_reading.proofs.Phrases.{Outcome, whole, deep}
use Rattle.fst_reading.proofs.Steps.{IsWithinLimit-append}
use Rattle.fst_module_grammar.specs.Grammar.{Lined, lexemes_of, AreInside, IsModule, none, decl}
use Rattle.fst_module_grammar.specs.Nesting.{decl_nests, module_nests}
use Rattle.fst_module_grammar.specs.DeclReading.{decl_whole}
use Rattle.fst_module_grammar.specs.ModuleReading.{next_lines, last_of, in_front, cons_decl, module_within}
use Rattle.fst_module_grammar.proofs.DeclReads.{reads_decl_whole}
use Rattle.fst_module_grammar.proofs.Lines.{BeginsLine, line_is, module_begins, unlined_length, cut, last_is}
use Rattle.fst_base.proofs.Choices.{choose_true}

module _ (limit : ℕ) where
  -- a line that begins one, and the lines behind it
  pub by_lines : (n : ℕ) (k : Lined) (ts us : List Lined) → k.first ≡ true → AreInside ts → BeginsLine us →
      module_within limit (suc n) (k ∷ ts ++ us) ≡ cons_decl (in_front (k ∷ ts) us (decl_whole limit (k.lexeme ∷ lexemes_of ts)))
      (module_within limit n us)
  unfolding module_within
  by_lines n k ts us first inside begins =
      let l = line_is ts us inside begins in
      choose_true _ _ _ first
      ∙ ap (λ (w : List Lined). cons_decl (in_front (k ∷ w) (next_lines (ts ++ us)) (decl_whole limit (k.lexeme ∷ lexemes_of w)))
      (module_within limit n (next_lines (ts ++ us)))) l.0
      ∙ ap (λ (w : List Lined). cons_decl (in_front (k ∷ ts) w (decl_whole limit (k.lexeme ∷ lexemes_of ts)))
      (module_within limit n w)) l.1

  -- a module is read, or refused at its first token over the limit
  abbrev ReadWithin : ℕ → (us : List Lined) (ds : List Declared) → List ℕ → Type 0
  ReadWithin n us ds ns = Outcome limit (module_within limit n) us ds ns []

  more_read : (n : ℕ) (k : Lined) (ts us : List Lined) (d : Declared) (ds : List Declared) (ns ms : List ℕ) → k.first ≡ true →
      AreInside ts → BeginsLine us → length ns ≡ length (k ∷ ts) →
      Outcome limit (decl_whole limit) (k.lexeme ∷ lexemes_of ts) d ns [] → ReadWithin n us ds ms →
      ReadWithin (suc n) (k ∷ ts ++ us) (d ∷ ds) (ns ++ ms)
  more_read n k ts us d ds ns ms first inside begins count (whole low e) second = of_rest second
    where
      is_read : decl_whole limit (k.lexeme ∷ lexemes_of ts) ≡ Ok (d, [])
      is_read = ap (decl_whole limit) (sym (append-nil (k.lexeme ∷ lexemes_of ts))) ∙ e

      step : module_within limit (suc n) ((k ∷ ts ++ us) ++ []) ≡ cons_decl (Ok d) (module_within limit n us)
      step = ap (module_within limit (suc n)) (append-nil (k ∷ ts ++ us)) ∙ by_lines n k ts us first inside begins ∙ ap
          (λ z. cons_decl (in_front (k ∷ ts) us z) (module_within limit n us)) is_read

      of_rest : ReadWithin n us ds ms → ReadWithin (suc n) (k ∷ ts ++ us) (d ∷ ds) (ns ++ ms)
      of_rest (whole lows g) = whole (IsWithinLimit-append limit ns ms low lows)
          (step ∙ ap (cons_decl (Ok d)) (ap (module_within limit n) (sym (append-nil us)) ∙ g))
      of_rest (deep pre v c lows highs m a b l o q g) =
          deep (k ∷ ts ++ pre) v c (ns ++ lows) highs m
          (ap (λ (w : List Lined). k ∷ w) (ap (λ (w : List Lined). ts ++ w) a ∙ sym (append_assoc ts pre (c ∷ v))))
          (ap (λ (w : List ℕ). ns ++ w) b ∙ sym (append_assoc ns lows (m ∷ highs)))
          (omega (arith, count, l, length-append ns lows, length-append ts pre)) (IsWithinLimit-append limit ns lows low o) q
          (step ∙ ap (cons_decl (Ok d)) (ap (module_within limit n) (sym (append-nil us)) ∙ g))
  more_read n k ts us d ds ns ms first inside begins count (deep pre v c lows highs m a b l o q e) second =
      let x = cut (k ∷ ts) pre (c ∷ v) a in
      of_cut x.front x.back x.parts x.front_is x.back_is
    where
      stops : decl_whole limit (k.lexeme ∷ lexemes_of ts) ≡ Err (Deep (c ∷ v))
      stops = ap (decl_whole limit) (sym (append-nil (k.lexeme ∷ lexemes_of ts))) ∙ e ∙ ap
          (λ (w : List Lexeme). Err (Deep (c ∷ w))) (append-nil v)

      step : module_within limit (suc n) ((k ∷ ts ++ us) ++ []) ≡ Err (Deep (last_of (length (c ∷ v)) (k ∷ ts) ++ us))
      step = ap (module_within limit (suc n)) (append-nil (k ∷ ts ++ us)) ∙ by_lines n k ts us first inside begins ∙ ap
          (λ z. cons_decl (in_front (k ∷ ts) us z) (module_within limit n us)) stops

      of_cut : (front back : List Lined) → k ∷ ts ≡ front ++ back → lexemes_of front ≡ pre → lexemes_of back ≡ c ∷ v →
          ReadWithin (suc n) (k ∷ ts ++ us) (d ∷ ds) (ns ++ ms)
      of_cut front [] parts f r = absurd (cc r)
      of_cut front (j ∷ back) parts f r =
          deep front (back ++ us) j lows (highs ++ ms) m
          (ap (λ (w : List Lined). w ++ us) parts ∙ append_assoc front (j ∷ back) us)
          (ap (λ (w : List ℕ). w ++ ms) b ∙ append_assoc lows (m ∷ highs) ms)
          (omega (arith, l, ap length f, unlined_length front)) o q
          (step ∙ ap (λ (w : List Lined). Err (Deep (w ++ us)))
          (ap (last_of (length (c ∷ v))) parts ∙ last_is front (j ∷ back) (c ∷ v) r) ∙ ap
          (λ (w : List Lined). Err (Deep (j ∷ w))) (sym (append-nil (back ++ us))))

  pub within_reads : (n : ℕ) (us : List Lined) (ds : List Declared) (m : IsModule us ds) → length us ≤ n →
      ReadWithin n us ds (module_nests m)
  unfolding module_within
  within_reads zero _ _ none le = whole tt refl
  within_reads (suc n) _ _ none le = whole tt refl
  within_reads zero _ _ (decl k ts us all d ds first inside is m parts) le = absurd (omega (arith, le, ap length parts))
  within_reads (suc n) _ _ (decl k ts us all d ds first inside is m parts) le =
      let r = reads_decl_whole limit in
      subst (λ (w : List Lined). ReadWithin (suc n) w (d ∷ ds) (decl_nests is ++ module_nests m)) (sym parts)
      (more_read n k ts us d ds (decl_nests is) (module_nests m) first inside (module_begins us ds m)
      (r.counted (k.lexeme ∷ lexemes_of ts) d (decl_nests is) (is, refl) ∙ ap suc (unlined_length ts))
      (r.reads (k.lexeme ∷ lexemes_of ts) d (decl_nests is) [] (is, refl) refl)
      (within_reads n us ds m (omega (arith, le, ap length parts, length-append ts us))))
