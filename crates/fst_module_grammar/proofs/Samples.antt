-- Phrases made up, as what goes on behind tokens where any phrase will do.
use Rattle.std.proofs.Common.{◌≡◌, ℕ, suc, ◌<◌, List, [], ◌∷◌, length, refl, arith}
use Rattle.std.specs.Prelude.{codes}
use Rattle.fst_types.specs.declared.kind.Use.TheVariants as how
use Rattle.fst_types.specs.WrittenTree.{WrittenTree}
use Rattle.fst_terms.specs.TermTree as term
use Rattle.fst_terms.specs.TermTree.{TermTree, TermArms}
use Rattle.fst_reading.specs.Lexeme.{Lexeme, start, lower_of}
use Rattle.fst_type_syntax.specs.Grammar.{many}
use Rattle.fst_reading.specs.Faults.{Phrase}
use Rattle.fst_reading.proofs.Steps.{SomePhrase}
use Rattle.fst_reading.proofs.Phrases as phrase
use Rattle.fst_reading.proofs.Phrases.{nothing, Mapped, made, first, other}
use Rattle.fst_reading.proofs.Words.{Word, sample_word, sample_mapped, sample_then}
use Rattle.fst_reading.proofs.Parts.{One}
use Rattle.fst_type_syntax.specs.Derives.{SeqPhrase}
use Rattle.fst_type_syntax.proofs.Laws.{sample_seq}
use Rattle.fst_reading.proofs.Tokens.{fixed, fixed_is, a_lower, an_upper}
use Rattle.fst_module_grammar.specs.Grammar.{bound, none}
use Rattle.fst_module_grammar.specs.declared.starts.ExprStart.{ExprStart}
use Rattle.fst_module_grammar.specs.declared.starts.ExprStart.TheVariants.{Let, If, Lambda, Case, Match}
use Rattle.fst_module_grammar.specs.TermReading.{Arm, arms}
use Rattle.fst_module_grammar.proofs.AtomPhrases.{ExprP}
use Rattle.fst_module_grammar.proofs.AtomReads.{sample_expr}
use Rattle.fst_module_grammar.proofs.ArmPhrases.{ArrowP, BodyR, then_body, CaseArmR, case_arm_from, MatchArmR, match_arm_from, ListR}
use Rattle.fst_module_grammar.proofs.ExprPhrases.{BetweenR, InR, EqualsR, SecondR, ElseR, ResultR, ParameterR, ClosedR, ArmsR, CasesR, MatchesR, BegunR}

pub sample_arrow : (d : ℕ) → SomePhrase (ArrowP d)
sample_arrow d = record {
  tokens = fixed (codes "->") 0 ∷ [];
  value = how.Many;
  nests = d ∷ [];
  phrase =
      (many (fixed (codes "->") 0) (fixed_is (codes "->") 0), refl);
}

pub sample_lower : (d : ℕ) → SomePhrase (One d lower_of)
sample_lower d = record {
  tokens = a_lower 0 ∷ [];
  value = a_lower 0;
  nests = d ∷ [];
  phrase =
      first (a_lower 0) (a_lower 0) [] (a_lower 0) [] refl nothing;
}

-- what a function makes of a term
pub sample_term : {A : Type 0} (d : ℕ) (h : TermTree → A) → SomePhrase (Mapped h (ExprP (suc d)))
sample_term d h = let s = (sample_expr (suc d) 0).0 in
    record { tokens = s.tokens; value = h s.value; nests = s.nests; phrase = made s.tokens s.value s.nests s.phrase }

pub sample_body : (d : ℕ) (make : TermTree → Arm) → SomePhrase (BodyR d make)
sample_body d make =
    let s = (sample_expr (suc d) 0).0 in
    record {
      tokens = fixed (codes "->") 0 ∷ s.tokens;
      value = make s.value;
      nests = d ∷ s.nests;
      phrase =
          then_body d make (fixed (codes "->") 0) s.tokens s.value s.nests (fixed_is (codes "->") 0) s.phrase;
    }

pub sample_case_arm : (d n : ℕ) → (s : SomePhrase (CaseArmR d)) × (0 < length s.tokens) × (start s.tokens ≡ n)
sample_case_arm d n =
    let s = (sample_expr (suc d) 0).0 in
    let a = fixed (codes "->") 0 in (
      record {
        tokens = an_upper n ∷ a ∷ s.tokens;
        value = (bound (an_upper n), ([], s.value));
        nests = d ∷ d ∷ s.nests;
        phrase = case_arm_from d (an_upper n) a [] s.tokens [] s.value s.nests refl none (fixed_is (codes "->") 0) s.phrase;
      },
      omega arith,
      refl,
    )

pub sample_match_arm : (d n : ℕ) → (s : SomePhrase (MatchArmR d)) × (0 < length s.tokens) × (start s.tokens ≡ n)
sample_match_arm d n =
    let s = (sample_expr (suc d) 0).0 in
    let a = fixed (codes "->") 0 in (
      record {
        tokens = an_upper n ∷ a_lower 0 ∷ a ∷ s.tokens;
        value = (bound (an_upper n), (bound (a_lower 0) ∷ [], s.value));
        nests = d ∷ d ∷ d ∷ s.nests;
        phrase = match_arm_from d (an_upper n) (a_lower 0) a s.tokens s.value s.nests refl refl
            (fixed_is (codes "->") 0) s.phrase;
      },
      omega arith,
      refl,
    )

pub sample_closing : (d : ℕ) (bs : List Arm) → SomePhrase (ClosedR d bs)
sample_closing d bs = sample_mapped (λ (c : Unit {0}). arms bs) (Word d (codes "}")) (sample_word d (codes "}"))

-- arms, of which there is one
module _ (d : ℕ) (F : Phrase Arm) (some : (n : ℕ) → (s : SomePhrase F) × (0 < length s.tokens) × (start s.tokens ≡ n)) where
  pub sample_list : SomePhrase (ListR d F)
  sample_list = let a = some 0 in record {
    tokens = a.0.tokens;
    value = a.0.value ∷ [];
    nests = a.0.nests;
    phrase =
        phrase.last a.0.tokens a.0.value a.0.nests a.0.phrase;
  }

  sample_arms : (make : TermArms → TermTree) → SomePhrase (Mapped make (ArmsR d F))
  sample_arms make =
      let s = sample_then (Word d (codes "{")) _ (sample_word d (codes "{"))
      (λ o. sample_then (ListR d F) _ sample_list (λ bs. sample_closing d bs)) in
      record { tokens = s.tokens; value = make s.value; nests = s.nests; phrase = made s.tokens s.value s.nests s.phrase }

-- a term, and behind a word what follows
pub sample_between : (d : ℕ) (w : List ℕ) (Q : TermTree → Phrase TermTree) →
    ((t : TermTree) → SomePhrase (Q t)) → SomePhrase (BetweenR d w Q)
sample_between d w Q some = sample_then (ExprP (suc d)) _ (sample_expr (suc d) 0).0
    (λ t. sample_then (Word d w) _ (sample_word d w) (λ u. some t))

pub sample_in : (d : ℕ) (make : TermTree → TermTree → TermTree) → SomePhrase (InR d make)
sample_in d make = sample_between d (codes "in") (λ t. Mapped (make t) (ExprP (suc d))) (λ t. sample_term d (make t))

pub sample_bound : (d : ℕ) (k x : Lexeme) → SomePhrase
    (phrase.Then (Word d (codes "=")) (λ (u : Unit {0}). InR d (term.let_in k.at (bound x))))
sample_bound d k x = sample_then (Word d (codes "=")) _ (sample_word d (codes "="))
    (λ u. sample_in d (term.let_in k.at (bound x)))

pub sample_equals : (d : ℕ) (k x y : Lexeme) → SomePhrase (EqualsR d k x y)
sample_equals d k x y = sample_then (Word d (codes ")")) _ (sample_word d (codes ")"))
    (λ u. sample_then (Word d (codes "=")) _ (sample_word d (codes "=")) (λ v. sample_in d (term.split k.at (bound x) (bound y))))

pub sample_second : (d : ℕ) (k x : Lexeme) → SomePhrase (SecondR d k x)
sample_second d k x = sample_then (Word d (codes ",")) _ (sample_word d (codes ","))
    (λ u. sample_then (One d lower_of) _ (sample_lower d) (λ y. sample_equals d k x y))

pub sample_else : (d : ℕ) (k : Lexeme) (t : TermTree) → SomePhrase (ElseR d k t)
sample_else d k t = sample_between d (codes "else") (λ u. Mapped (term.if_else k.at t u) (ExprP (suc d)))
    (λ u. sample_term d (term.if_else k.at t u))

pub sample_result : (d : ℕ) (k x : Lexeme) (t : WrittenTree) → SomePhrase (ResultR d k x t)
sample_result d k x t = sample_then (ArrowP d) _ (sample_arrow d) (λ uses. sample_term d (term.lambda k.at uses t (bound x)))

pub sample_parameter : (d : ℕ) (k x : Lexeme) → SomePhrase (ParameterR d k x)
sample_parameter d k x = sample_then (Word d (codes ":")) _ (sample_word d (codes ":"))
    (λ c. sample_then (SeqPhrase (suc d)) _ (sample_seq (suc d) 0) (λ t. sample_result d k x t))

pub sample_cases : (d : ℕ) (k : Lexeme) (t : TermTree) → SomePhrase (CasesR d k t)
sample_cases d k t = sample_arms d (CaseArmR d) (sample_case_arm d) (term.case_of k.at t)

pub sample_matches : (d : ℕ) (k : Lexeme) (t : TermTree) → SomePhrase (MatchesR d k t)
sample_matches d k t = sample_arms d (MatchArmR d) (sample_match_arm d) (term.match_with k.at t)

-- what makes a term of a token that begins one
pub sample_begun : (d : ℕ) (s : ExprStart) (k : Lexeme) → SomePhrase (BegunR d s k)
sample_begun d Let k =
    let s = sample_then (One d lower_of) _ (sample_lower d) (λ x. sample_bound d k x) in
    record { tokens = s.tokens; value = s.value; nests = s.nests; phrase = other _ _ _ s.phrase }
sample_begun d If k = sample_between d (codes "then") (λ t. ElseR d k t) (λ t. sample_else d k t)
sample_begun d Lambda k = sample_then (One d lower_of) _ (sample_lower d) (λ x. sample_parameter d k x)
sample_begun d Case k = sample_between d (codes "of") (λ t. CasesR d k t) (λ t. sample_cases d k t)
sample_begun d Match k = sample_between d (codes "with") (λ t. MatchesR d k t) (λ t. sample_matches d k t)
