-- The readers of terms have the laws of readers.
use Rattle.std.proofs.Common.{◌≡◌, ℕ, suc, ◌+◌, ◌≤◌, ◌<◌, Bool, false, List, ◌++◌, length, refl, ap, ◌∙◌, arith, append_assoc}
use Rattle.std.specs.Prelude.{codes}
use Rattle.fst_types.specs.declared.kind.Use.{Use}
use Rattle.fst_types.specs.WrittenTree.{WrittenTree}
use Rattle.fst_terms.specs.TermTree as term
use Rattle.fst_terms.specs.TermTree.{TermTree}
use Rattle.fst_reading.specs.Lexeme.{Lexeme, spells, IsLower, lower_of}
use Rattle.fst_type_syntax.specs.Grammar.{IsArrow, many, once}
use Rattle.fst_reading.specs.Faults.{Phrase}
use Rattle.fst_reading.specs.Reading.{Reader, give, andthen, map_reader, one, only, word, begins, on}
use Rattle.fst_type_syntax.specs.TypeReading.{seq_at}
use Rattle.fst_reading.proofs.Phrases as phrase
use Rattle.fst_reading.proofs.Phrases.{Reads, never, Give, nothing, Then, Mapped, first}
use Rattle.fst_reading.proofs.Steps.{SomePhrase}
use Rattle.fst_reading.proofs.Parts.{One, reads_give, reads_mapped, reads_on, reads_until}
use Rattle.fst_reading.proofs.Sequences.{reads_then}
use Rattle.fst_type_syntax.specs.Derives.{SeqPhrase, lengthens_seq}
use Rattle.fst_type_syntax.proofs.Laws.{seq_begins, reads_seq, sample_seq}
use Rattle.fst_reading.proofs.Words.{Word, reads_first, words, lowers, sample_word, sample_then}
use Rattle.fst_module_grammar.specs.Grammar.{bound}
use Rattle.fst_module_grammar.specs.declared.starts.ExprStart.{ExprStart}
use Rattle.fst_module_grammar.specs.declared.starts.ExprStart.TheVariants.{Let, If, Lambda, Case, Match}
use Rattle.fst_module_grammar.specs.declared.starts.Arms.TheVariants as by
use Rattle.fst_module_grammar.specs.TermReading.{case_arm_with, match_arm_with, arms_with, choice_with, if_with, in_with, split_with, let_with, arrow_at, lambda_with, expr_begun_with}
use Rattle.fst_module_grammar.proofs.AtomPhrases.{ExprP}
use Rattle.fst_module_grammar.proofs.AtomReads.{expr_filled}
use Rattle.fst_module_grammar.proofs.ArmPhrases.{ArrowP, CaseArmR, MatchArmR}
use Rattle.fst_module_grammar.proofs.ArmReads.{reads_arrow, reads_case_arm, reads_match_arm, case_arm_filled, match_arm_filled, reads_arms}
use Rattle.fst_module_grammar.proofs.Samples.{sample_lower, sample_term, sample_case_arm, sample_match_arm, sample_in, sample_bound, sample_equals, sample_second, sample_else, sample_result, sample_parameter, sample_cases, sample_matches}
use Rattle.fst_module_grammar.proofs.ExprPhrases.{BetweenR, InR, NamedR, SplitR, ElseR, IfR, ResultR, LambdaR, ArmsR, CasesR, MatchesR, BegunR, BehindR}
use Rattle.fst_module_grammar.proofs.Follows.{after_expr, Ends, in_, then_, else_, of_, with_, ends_expr}
use Rattle.fst_module_grammar.proofs.Fronts.{by_word}
use Rattle.fst_reading.proofs.Tokens.{no_other, lower_is, one_spells}
use Rattle.std.proofs.lemmas.Bool.{or_parts}

-- a lower name is no reserved word and no sign
pub name_spells : (w : List ℕ) (k : Lexeme) → IsLower k → spells w k ≡ false
name_spells w k is = rw is refl

-- the reader of the terms inside, and what is known of it
module _ (limit d n : ℕ) (low : d + n ≡ limit) (e : Reader TermTree) (r : Reads limit e (ExprP (suc d)) after_expr) where
  fits : d ≤ limit
  fits = omega (arith, low)

  reads_term : (h : TermTree → TermTree) → Reads limit (map_reader h e) (Mapped h (ExprP (suc d))) after_expr
  reads_term h = reads_mapped limit h e (ExprP (suc d)) after_expr r

  -- a term, a word that ends it, and what follows
  module _ (w : List ℕ) (ends : Ends w) (g : TermTree → Reader TermTree) (Q : TermTree → Phrase TermTree)
      (more : List Lexeme → Bool)
      (s : (t : TermTree) → Reads limit (g t) (Q t) more) (some : (t : TermTree) → SomePhrase (Q t)) where
    closed : (t : TermTree) (us : List Lexeme) (y : TermTree) (ns : List ℕ) (rest : List Lexeme) → Then (Word d w)
        (λ (u : Unit {0}). Q t) us y ns → after_expr (us ++ rest) ≡ false
    closed t us y ns rest = by_word d w (Q t) (λ us y ns. after_expr (us ++ rest) ≡ false)
        (λ k us y ns is q. ends_expr w ends k (us ++ rest) is) us y ns

    reads_between : Reads limit (andthen e (λ t. andthen (word w) (λ u. g t))) (BetweenR d w Q) more
    reads_between =
        reads_then limit e _ (ExprP (suc d)) _ after_expr more r
        (λ t. reads_first limit d fits (only (spells w)) (words w) (λ u. g t) (λ u. Q t) more (λ u. s t) (λ u. some t))
        (λ t. sample_then (Word d w) _ (sample_word d w) (λ u. some t)) (expr_filled (suc d))
        (λ us x ns vs y ms rest q st. closed x vs y ms rest q)

  reads_in : (make : TermTree → TermTree → TermTree) → Reads limit (in_with e make) (InR d make) after_expr
  unfolding in_with
  reads_in make = reads_between (codes "in") in_ (λ t. map_reader (make t) e) (λ t. Mapped (make t) (ExprP (suc d))) after_expr
      (λ t. reads_term (make t)) (λ t. sample_term d (make t))

  reads_named : (k : Lexeme) → Reads limit (andthen (one lower_of)
      (λ x. andthen (word (codes "=")) (λ q. in_with e (term.let_in k.at (bound x))))) (NamedR d k) after_expr
  reads_named k =
      reads_first limit d fits lower_of lowers _ _ after_expr
      (λ x. reads_first limit d fits (only (spells (codes "="))) (words (codes "=")) _ _ after_expr
      (λ u. reads_in (term.let_in k.at (bound x))) (λ u. sample_in d (term.let_in k.at (bound x))))
      (λ x. sample_bound d k x)

  reads_split : (k : Lexeme) → Reads limit (split_with e k.at) (SplitR d k) after_expr
  unfolding split_with
  reads_split k =
      reads_first limit d fits lower_of lowers _ _ after_expr
      (λ x. reads_first limit d fits (only (spells (codes ","))) (words (codes ",")) _ _ after_expr
      (λ m. reads_first limit d fits lower_of lowers _ _ after_expr
      (λ y. reads_first limit d fits (only (spells (codes ")"))) (words (codes ")")) _ _ after_expr
      (λ c. reads_first limit d fits (only (spells (codes "="))) (words (codes "=")) _ _ after_expr
      (λ u. reads_in (term.split k.at (bound x) (bound y))) (λ u. sample_in d (term.split k.at (bound x) (bound y))))
      (λ c. sample_then (Word d (codes "=")) _ (sample_word d (codes "="))
      (λ v. sample_in d (term.split k.at (bound x) (bound y)))))
      (λ y. sample_equals d k x y))
      (λ m. sample_then (One d lower_of) _ (sample_lower d) (λ y. sample_equals d k x y)))
      (λ x. sample_second d k x)

  no_paren : (k : Lexeme) (us : List Lexeme) (y : TermTree) (ns : List ℕ) (rest : List Lexeme) → NamedR d k us y ns →
      after_expr rest ≡ false → begins (spells (codes "(")) (us ++ rest) ≡ false
  no_paren k _ _ _ rest (phrase.pair ts us vs _ _ _ _ _ (first l x _ _ _ g nothing) q parts nests) st =
      ap (λ (w : List Lexeme). begins (spells (codes "(")) (w ++ rest)) parts ∙ name_spells (codes "(") l (lower_is l x g).0

  reads_let : (k : Lexeme) → Reads limit (let_with e k.at) (BegunR d Let k) after_expr
  unfolding let_with
  reads_let k = reads_on limit d fits (spells (codes "(")) _ _ _ _ after_expr (reads_split k) (reads_named k) (no_paren k)

  reads_else : (k : Lexeme) (t : TermTree) → Reads limit
      (andthen e (λ u. andthen (word (codes "else")) (λ l. map_reader (term.if_else k.at t u) e))) (ElseR d k t) after_expr
  reads_else k t = reads_between (codes "else") else_ (λ u. map_reader (term.if_else k.at t u) e)
      (λ u. Mapped (term.if_else k.at t u) (ExprP (suc d))) after_expr (λ u. reads_term (term.if_else k.at t u))
      (λ u. sample_term d (term.if_else k.at t u))

  reads_if : (k : Lexeme) → Reads limit (if_with e k.at) (IfR d k) after_expr
  unfolding if_with
  reads_if k = reads_between (codes "then") then_ _ (λ t. ElseR d k t) after_expr (λ t. reads_else k t) (λ t. sample_else d k t)

  seq_filled : (us : List Lexeme) (t : WrittenTree) (ns : List ℕ) → SeqPhrase (suc d) us t ns → 0 < length us
  seq_filled us t ns p = let b = seq_begins (suc d) us t ns p in omega (arith, ap length b.3)

  arrow_filled : (us : List Lexeme) (u : Use) (ns : List ℕ) → ArrowP d us u ns → 0 < length us
  arrow_filled us u ns p = of_arrow p.0
    where
      of_arrow : {us : List Lexeme} {u : Use} → IsArrow us u → 0 < length us
      of_arrow (many k is) = omega arith
      of_arrow (once m k is is') = omega arith

  no_semi : (us : List Lexeme) (u : Use) → IsArrow us u → (rest : List Lexeme) → lengthens_seq (us ++ rest) ≡ false
  no_semi _ _ (many k is) rest = no_other (codes "->") (codes ";") k refl is
  no_semi _ _ (once m k is is') rest = one_spells (codes ";") m is

  no_semi_behind : (k x : Lexeme) (t : WrittenTree) (us : List Lexeme) (y : TermTree) (ns : List ℕ) (rest : List Lexeme) →
      ResultR d k x t us y ns → lengthens_seq (us ++ rest) ≡ false
  no_semi_behind k x t _ _ _ rest (phrase.pair ts us vs uses _ _ _ _ p q parts nests) =
      ap (λ (w : List Lexeme). lengthens_seq (w ++ rest)) parts ∙ ap lengthens_seq (append_assoc us vs rest)
      ∙ no_semi us uses p.0 (vs ++ rest)

  reads_lambda : (k : Lexeme) → Reads limit (lambda_with e n k.at) (LambdaR d k) after_expr
  unfolding lambda_with
  reads_lambda k =
      reads_first limit d fits lower_of lowers _ _ after_expr
      (λ x. reads_first limit d fits (only (spells (codes ":"))) (words (codes ":")) _ _ after_expr
      (λ c. reads_then limit (seq_at n) _ (SeqPhrase (suc d)) _ lengthens_seq after_expr
      (reads_seq limit n (suc d) (omega (arith, low)))
      (λ t. reads_then limit arrow_at _ (ArrowP d) _ never after_expr (reads_arrow limit d fits)
      (λ uses. reads_term (term.lambda k.at uses t (bound x))) (λ uses. sample_term d (term.lambda k.at uses t (bound x)))
      arrow_filled (λ us u ns vs y ms rest q st. refl))
      (λ t. sample_result d k x t) seq_filled (λ us t ns vs y ms rest q st. no_semi_behind k x t vs y ms rest q))
      (λ c. sample_then (SeqPhrase (suc d)) _ (sample_seq (suc d) 0) (λ t. sample_result d k x t)))
      (λ x. sample_parameter d k x)

  reads_cases : (k : Lexeme) (t : TermTree) → Reads limit (map_reader (term.case_of k.at t) (arms_with e (case_arm_with e)))
      (CasesR d k t) never
  reads_cases k t =
      reads_mapped limit (term.case_of k.at t) (arms_with e (case_arm_with e)) (ArmsR d (CaseArmR d)) never
      (reads_arms limit d fits e r (case_arm_with e) (CaseArmR d) (reads_case_arm limit d fits e r) (sample_case_arm d)
      (case_arm_filled d))

  reads_matches : (k : Lexeme) (t : TermTree) →
      Reads limit (map_reader (term.match_with k.at t) (arms_with e (match_arm_with e))) (MatchesR d k t) never
  reads_matches k t =
      reads_mapped limit (term.match_with k.at t) (arms_with e (match_arm_with e)) (ArmsR d (MatchArmR d)) never
      (reads_arms limit d fits e r (match_arm_with e) (MatchArmR d) (reads_match_arm limit d fits e r) (sample_match_arm d)
      (match_arm_filled d))

  reads_case : (k : Lexeme) → Reads limit (choice_with e by.Case k.at) (BegunR d Case k) never
  unfolding choice_with
  reads_case k = reads_between (codes "of") of_ _ (λ t. CasesR d k t) never (λ t. reads_cases k t) (λ t. sample_cases d k t)

  reads_match : (k : Lexeme) → Reads limit (choice_with e by.Match k.at) (BegunR d Match k) never
  unfolding choice_with
  reads_match k = reads_between (codes "with") with_ _ (λ t. MatchesR d k t) never (λ t. reads_matches k t)
      (λ t. sample_matches d k t)

  pub reads_begun : (s : ExprStart) (k : Lexeme) → Reads limit (expr_begun_with e n s k) (BegunR d s k) after_expr
  reads_begun Let k = reads_let k
  reads_begun If k = reads_if k
  reads_begun Lambda k = reads_lambda k
  reads_begun Case k = reads_until limit (choice_with e by.Case k.at) (BegunR d Case k) never after_expr (reads_case k)
      (λ ts st. refl)
  reads_begun Match k = reads_until limit (choice_with e by.Match k.at) (BegunR d Match k) never after_expr (reads_match k)
      (λ ts st. refl)

  pub reads_behind_or : (at : ℕ) (t : TermTree) →
      Reads limit (on (spells (codes ";")) (map_reader (term.seq at t) e) (give t)) (BehindR d at t) after_expr
  reads_behind_or at t =
      reads_on limit d fits (spells (codes ";")) _ _ _ _ after_expr (reads_term (term.seq at t))
      (reads_until limit (give t) (Give t) never after_expr (reads_give limit t) (λ ts st. refl)) free
    where
      free : (us : List Lexeme) (y : TermTree) (ns : List ℕ) (rest : List Lexeme) → Give t us y ns → after_expr rest ≡ false →
          begins (spells (codes ";")) (us ++ rest) ≡ false
      free _ _ _ rest nothing st = (or_parts _ _ st).1
