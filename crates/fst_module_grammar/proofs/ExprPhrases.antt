-- The phrases of terms that are no operands, put together in the way in which they are read.
use Rattle.std.proofs.Common.{◌≡◌, ℕ, suc, ◌<◌, List, [], ◌∷◌, ◌++◌, length, refl, sym, ap, subst, ◌∙◌, arith, length-append}
use Rattle.std.proofs.lemmas.List.{append-nil}
use Rattle.std.specs.Prelude.{codes}
use Rattle.fst_types.specs.declared.kind.Use.{Use}
use Rattle.fst_types.specs.WrittenTree.{WrittenTree}
use Rattle.fst_terms.specs.TermTree as term
use Rattle.fst_terms.specs.TermTree.{TermTree, TermArms}
use Rattle.fst_reading.specs.Lexeme.{Lexeme, spells, Is, start, lower_of}
use Rattle.fst_reading.specs.Faults.{level, Phrase}
use Rattle.fst_type_syntax.specs.Nesting.{seq_nests}
use Rattle.fst_reading.proofs.Words.{Word, word_at, moved}
use Rattle.fst_reading.proofs.Steps.{start_more}
use Rattle.fst_reading.proofs.Phrases as phrase
use Rattle.fst_reading.proofs.Phrases.{Give, nothing, Then, Mapped, made, Switch, first, On, taken, other, Located, at, Either, one}
use Rattle.fst_reading.proofs.Parts.{One}
use Rattle.fst_type_syntax.specs.Derives.{SeqPhrase}
use Rattle.fst_reading.proofs.Tokens.{only_is}
use Rattle.fst_module_grammar.specs.Grammar.{bound, IsExpr, let_in, split, if_else, lambda, case_of, match_with, one_or, seq}
use Rattle.fst_module_grammar.specs.Nesting.{expr_nests, cases_nests, matches_nests, or_nests}
use Rattle.fst_module_grammar.specs.declared.starts.ExprStart.{ExprStart}
use Rattle.fst_module_grammar.specs.declared.starts.ExprStart.TheVariants.{Let, If, Lambda, Case, Match}
use Rattle.fst_module_grammar.specs.TermReading.{expr_start, Arm, arms}
use Rattle.fst_module_grammar.proofs.AtomPhrases.{ExprP}
use Rattle.fst_module_grammar.proofs.ChainPhrases.{OrP}
use Rattle.fst_module_grammar.proofs.ArmPhrases.{ArrowP, CaseArmR, MatchArmR, ListR, cases_to, cases_from, matches_to, matches_from}
use Rattle.fst_module_grammar.proofs.TermBegins.{or_begins}
use Rattle.fst_module_grammar.proofs.ExprTokens.{MeansExpr, expr_means, means_expr}
use Rattle.fst_module_grammar.proofs.Fronts.{by_then, by_mapped, by_word, then_word, by_lower, then_lower}
use Rattle.fst_reading.proofs.Located.{locate}

-- a term, and behind a word another one
abbrev pub BetweenR : ℕ → List ℕ → (TermTree → Phrase TermTree) → Phrase TermTree
BetweenR d w Q = Then (ExprP (suc d)) (λ (t : TermTree). Then (Word d w) (λ (u : Unit {0}). Q t))

-- behind the `=` of a `let`
abbrev pub InR : ℕ → (TermTree → TermTree → TermTree) → Phrase TermTree
InR d make = BetweenR d (codes "in") (λ (t : TermTree). Mapped (make t) (ExprP (suc d)))

abbrev pub NamedR : ℕ → Lexeme → Phrase TermTree
NamedR d k = Then (One d lower_of) (λ (x : Lexeme). Then (Word d (codes "="))
    (λ (u : Unit {0}). InR d (term.let_in k.at (bound x))))

-- behind the parenthesis of a `let`
abbrev pub EqualsR : ℕ → Lexeme → Lexeme → Lexeme → Phrase TermTree
EqualsR d k x y = Then (Word d (codes ")")) (λ (u : Unit {0}). Then (Word d (codes "="))
    (λ (v : Unit {0}). InR d (term.split k.at (bound x) (bound y))))

abbrev pub SecondR : ℕ → Lexeme → Lexeme → Phrase TermTree
SecondR d k x = Then (Word d (codes ",")) (λ (u : Unit {0}). Then (One d lower_of) (λ (y : Lexeme). EqualsR d k x y))

abbrev pub SplitR : ℕ → Lexeme → Phrase TermTree
SplitR d k = Then (One d lower_of) (λ (x : Lexeme). SecondR d k x)

-- behind `if`
abbrev pub ElseR : ℕ → Lexeme → TermTree → Phrase TermTree
ElseR d k t = BetweenR d (codes "else") (λ (u : TermTree). Mapped (term.if_else k.at t u) (ExprP (suc d)))

abbrev pub IfR : ℕ → Lexeme → Phrase TermTree
IfR d k = BetweenR d (codes "then") (λ (t : TermTree). ElseR d k t)

-- behind `\`
abbrev pub ResultR : ℕ → Lexeme → Lexeme → WrittenTree → Phrase TermTree
ResultR d k x t = Then (ArrowP d) (λ (uses : Use). Mapped (term.lambda k.at uses t (bound x)) (ExprP (suc d)))

abbrev pub ParameterR : ℕ → Lexeme → Lexeme → Phrase TermTree
ParameterR d k x = Then (Word d (codes ":")) (λ (u : Unit {0}). Then (SeqPhrase (suc d)) (λ (t : WrittenTree). ResultR d k x t))

abbrev pub LambdaR : ℕ → Lexeme → Phrase TermTree
LambdaR d k = Then (One d lower_of) (λ (x : Lexeme). ParameterR d k x)

-- arms in braces
abbrev pub ClosedR : ℕ → List Arm → Phrase TermArms
ClosedR d bs = Mapped (λ (c : Unit {0}). arms bs) (Word d (codes "}"))

abbrev pub ArmsR : ℕ → Phrase Arm → Phrase TermArms
ArmsR d F = Then (Word d (codes "{")) (λ (o : Unit {0}). Then (ListR d F) (λ (bs : List Arm). ClosedR d bs))

-- arms behind a term
abbrev pub CasesR : ℕ → Lexeme → TermTree → Phrase TermTree
CasesR d k t = Mapped (term.case_of k.at t) (ArmsR d (CaseArmR d))

abbrev pub MatchesR : ℕ → Lexeme → TermTree → Phrase TermTree
MatchesR d k t = Mapped (term.match_with k.at t) (ArmsR d (MatchArmR d))

-- behind what a term begins with
abbrev pub BegunR : ℕ → ExprStart → Lexeme → Phrase TermTree
BegunR d Let k = On d (spells (codes "(")) (SplitR d k) (NamedR d k)
BegunR d If k = IfR d k
BegunR d Lambda k = LambdaR d k
BegunR d Case k = BetweenR d (codes "of") (λ (t : TermTree). CasesR d k t)
BegunR d Match k = BetweenR d (codes "with") (λ (t : TermTree). MatchesR d k t)

-- an operand, and behind `;` a term
abbrev pub BehindR : ℕ → ℕ → TermTree → Phrase TermTree
BehindR d n t = On d (spells (codes ";")) (Mapped (term.seq n t) (ExprP (suc d))) (Give t)

abbrev pub ThenR : ℕ → Phrase TermTree
ThenR d = Located (λ (n : ℕ). Then (OrP d) (λ (t : TermTree). BehindR d n t))

abbrev pub ExprR : ℕ → Phrase TermTree
ExprR d = Either (Switch d expr_start (BegunR d)) (ThenR d)

-- what holds of each two terms with a word between them
by_between : (d : ℕ) (w : List ℕ) (Q : TermTree → Phrase TermTree) (G : Phrase TermTree) →
    ((us vs : List Lexeme) (k : Lexeme) (t y : TermTree) (ms ks : List ℕ) → ExprP (suc d) us t ms → Is w k → Q t vs y ks →
    G (us ++ k ∷ vs) y (ms ++ d ∷ ks)) →
    (ts : List Lexeme) (y : TermTree) (ns : List ℕ) → BetweenR d w Q ts y ns → G ts y ns
by_between d w Q G f =
    by_then (ExprP (suc d)) (λ (t : TermTree). Then (Word d w) (λ (u : Unit {0}). Q t)) G
    (λ us vs t y ms ks p q. by_word d w (Q t) (λ ws z ls. G (us ++ ws) z (ms ++ ls))
    (λ k ws z ls is r. f us ws k t z ms ls p is r) vs y ks q)

then_between : (d : ℕ) (w : List ℕ) (Q : TermTree → Phrase TermTree) (us vs : List Lexeme) (k : Lexeme) (t y : TermTree)
    (ms ks : List ℕ) → ExprP (suc d) us t ms → Is w k → Q t vs y ks →
    BetweenR d w Q (us ++ k ∷ vs) y (ms ++ d ∷ ks)
then_between d w Q us vs k t y ms ks p is q = phrase.pair _ us (k ∷ vs) t y _ ms (d ∷ ks) p
    (then_word d w (Q t) k vs y ks is q) refl refl

by_in : (d : ℕ) (make : TermTree → TermTree → TermTree) (G : Phrase TermTree) →
    ((us vs : List Lexeme) (k : Lexeme) (t u : TermTree) (ms ks : List ℕ) → ExprP (suc d) us t ms → Is (codes "in") k →
    ExprP (suc d) vs u ks → G (us ++ k ∷ vs) (make t u) (ms ++ d ∷ ks)) →
    (ts : List Lexeme) (y : TermTree) (ns : List ℕ) → InR d make ts y ns → G ts y ns
by_in d make G f =
    by_between d (codes "in") (λ (t : TermTree). Mapped (make t) (ExprP (suc d))) G
    (λ us vs k t y ms ks p is q. by_mapped (make t) (ExprP (suc d)) (λ ws z ls. G (us ++ k ∷ ws) z (ms ++ d ∷ ls))
    (λ ws u ls r. f us ws k t u ms ls p is r) vs y ks q)

then_in : (d : ℕ) (make : TermTree → TermTree → TermTree) (us vs : List Lexeme) (k : Lexeme) (t u : TermTree) (ms ks : List ℕ) →
    ExprP (suc d) us t ms → Is (codes "in") k → ExprP (suc d) vs u ks →
    InR d make (us ++ k ∷ vs) (make t u) (ms ++ d ∷ ks)
then_in d make us vs k t u ms ks p is q = then_between d (codes "in")
    (λ (t : TermTree). Mapped (make t) (ExprP (suc d))) us vs k t (make t u) ms ks p is (made vs u ks q)

named_to : (d : ℕ) (k : Lexeme) → Is (codes "let") k →
    (ts : List Lexeme) (t : TermTree) (ns : List ℕ) → NamedR d k ts t ns → ExprP d (k ∷ ts) t (d ∷ ns)
named_to d k is =
    by_lower d (λ (x : Lexeme). Then (Word d (codes "=")) (λ (u : Unit {0}). InR d (term.let_in k.at (bound x))))
    (λ ts t ns. ExprP d (k ∷ ts) t (d ∷ ns))
    (λ x us t ms name q. by_word d (codes "=") (InR d (term.let_in k.at (bound x)))
    (λ ts t ns. ExprP d (k ∷ x ∷ ts) t (d ∷ d ∷ ns))
    (λ e vs t ks equals q. by_in d (term.let_in k.at (bound x)) (λ ts t ns. ExprP d (k ∷ x ∷ e ∷ ts) t (d ∷ d ∷ d ∷ ns))
    (λ us vs i t u ms ks s of_in r. (
      let_in k x e i us vs _ t u is name equals s.0 of_in r.0 refl,
      (let g : d ∷ d ∷ d ∷ expr_nests (suc d) s.0 ++ d ∷ expr_nests (suc d) r.0 ≡ d ∷ d ∷ d ∷ ms ++ d ∷ ks =
          rw (s.1, r.1) refl in g),
    ))
    vs t ks q) us t ms q)

split_to : (d : ℕ) (k o : Lexeme) → Is (codes "let") k → Is (codes "(") o →
    (ts : List Lexeme) (t : TermTree) (ns : List ℕ) → SplitR d k ts t ns → ExprP d (k ∷ o ∷ ts) t (d ∷ d ∷ ns)
split_to d k o is opens =
    by_lower d (λ (x : Lexeme). SecondR d k x) (λ ts t ns. ExprP d (k ∷ o ∷ ts) t (d ∷ d ∷ ns))
    (λ x us t ms left q. by_word d (codes ",") (Then (One d lower_of) (λ (y : Lexeme). EqualsR d k x y))
    (λ ts t ns. ExprP d (k ∷ o ∷ x ∷ ts) t (d ∷ d ∷ d ∷ ns))
    (λ m us t ms comma q. by_lower d (λ (y : Lexeme). EqualsR d k x y)
    (λ ts t ns. ExprP d (k ∷ o ∷ x ∷ m ∷ ts) t (d ∷ d ∷ d ∷ d ∷ ns))
    (λ y us t ms right q. by_word d (codes ")") (Then (Word d (codes "="))
    (λ (v : Unit {0}). InR d (term.split k.at (bound x) (bound y))))
    (λ ts t ns. ExprP d (k ∷ o ∷ x ∷ m ∷ y ∷ ts) t (d ∷ d ∷ d ∷ d ∷ d ∷ ns))
    (λ c us t ms closes q. by_word d (codes "=") (InR d (term.split k.at (bound x) (bound y)))
    (λ ts t ns. ExprP d (k ∷ o ∷ x ∷ m ∷ y ∷ c ∷ ts) t (d ∷ d ∷ d ∷ d ∷ d ∷ d ∷ ns))
    (λ e us t ms equals q. by_in d (term.split k.at (bound x) (bound y))
    (λ ts t ns. ExprP d (k ∷ o ∷ x ∷ m ∷ y ∷ c ∷ e ∷ ts) t (d ∷ d ∷ d ∷ d ∷ d ∷ d ∷ d ∷ ns))
    (λ us vs i t u ms ks s of_in r. (
      split k o x m y c e i us vs _ t u is opens left comma right closes equals s.0 of_in r.0 refl,
      (let g : d ∷ d ∷ d ∷ d ∷ d ∷ d ∷ d ∷ expr_nests (suc d) s.0 ++ d ∷ expr_nests
          (suc d) r.0 ≡ d ∷ d ∷ d ∷ d ∷ d ∷ d ∷ d ∷ ms ++ d ∷ ks = rw (s.1, r.1) refl in g),
    )) us t ms q) us t ms q) us t ms q) us t ms q) us t ms q)

if_to : (d : ℕ) (k : Lexeme) → Is (codes "if") k →
    (ts : List Lexeme) (t : TermTree) (ns : List ℕ) → IfR d k ts t ns → ExprP d (k ∷ ts) t (d ∷ ns)
if_to d k is =
    by_between d (codes "then") (λ (t : TermTree). ElseR d k t) (λ ts t ns. ExprP d (k ∷ ts) t (d ∷ ns))
    (λ us vs h t y ms ks s then_is q. by_between d (codes "else")
    (λ (u : TermTree). Mapped (term.if_else k.at t u) (ExprP (suc d)))
    (λ ts t ns. ExprP d (k ∷ (us ++ h ∷ ts)) t (d ∷ (ms ++ d ∷ ns)))
    (λ vs ws e u y ks ls r else_is q. by_mapped (term.if_else k.at t u) (ExprP (suc d))
    (λ ts t ns. ExprP d (k ∷ (us ++ (h ∷ (vs ++ e ∷ ts)))) t (d ∷ (ms ++ (d ∷ (ks ++ d ∷ ns)))))
    (λ ws v ls p. (
      if_else k h e us vs ws _ t u v is s.0 then_is r.0 else_is p.0 refl,
      (let g : d ∷ (expr_nests (suc d) s.0 ++ (d ∷ (expr_nests (suc d) r.0 ++ d ∷ expr_nests (suc d) p.0))) ≡ d
          ∷ (ms ++ (d ∷ (ks ++ d ∷ ls))) = rw (s.1, r.1, p.1) refl in g),
    )) ws y ls q) vs y ks q)

lambda_to : (d : ℕ) (k : Lexeme) → Is (codes "\\") k →
    (ts : List Lexeme) (t : TermTree) (ns : List ℕ) → LambdaR d k ts t ns → ExprP d (k ∷ ts) t (d ∷ ns)
lambda_to d k is =
    by_lower d (λ (x : Lexeme). ParameterR d k x) (λ ts t ns. ExprP d (k ∷ ts) t (d ∷ ns))
    (λ x us t ms name q. by_word d (codes ":") (Then (SeqPhrase (suc d)) (λ (t : WrittenTree). ResultR d k x t))
    (λ ts t ns. ExprP d (k ∷ x ∷ ts) t (d ∷ d ∷ ns))
    (λ c us t ms colon q. by_then (SeqPhrase (suc d)) (λ (t : WrittenTree). ResultR d k x t)
    (λ ts t ns. ExprP d (k ∷ x ∷ c ∷ ts) t (d ∷ d ∷ d ∷ ns))
    (λ us vs a t ms ks s q. by_then (ArrowP d) (λ (uses : Use). Mapped (term.lambda k.at uses a (bound x)) (ExprP (suc d)))
    (λ ts t ns. ExprP d (k ∷ x ∷ c ∷ us ++ ts) t (d ∷ d ∷ d ∷ ms ++ ns))
    (λ vs ws uses t ks ls r q. by_mapped (term.lambda k.at uses a (bound x)) (ExprP (suc d))
    (λ ts t ns. ExprP d (k ∷ x ∷ c ∷ us ++ (vs ++ ts)) t (d ∷ d ∷ d ∷ ms ++ (ks ++ ns)))
    (λ ws t ls p. (
      lambda k x c us vs ws _ a uses t is name colon s.0 r.0 p.0 refl,
      (let g : d ∷ d ∷ d ∷ seq_nests (suc d) s.0 ++ (level d vs ++ expr_nests (suc d) p.0) ≡ d ∷ d ∷ d ∷ ms ++ (ks ++ ls) =
          rw (s.1, r.1, p.1) refl in g),
    )) ws t ls q) vs t ks q) us t ms q) us t ms q)

-- what holds of arms in braces
by_arms : (d : ℕ) (F : Phrase Arm) (G : Phrase TermArms) →
    ((o c : Lexeme) (us : List Lexeme) (bs : List Arm) (ms : List ℕ) → Is (codes "{") o → ListR d F us bs ms → Is (codes "}") c →
    G (o ∷ us ++ c ∷ []) (arms bs) (d ∷ ms ++ d ∷ [])) →
    (ts : List Lexeme) (y : TermArms) (ns : List ℕ) → ArmsR d F ts y ns → G ts y ns
by_arms d F G f =
    by_word d (codes "{") (Then (ListR d F) (λ (bs : List Arm). ClosedR d bs)) G
    (λ o us y ms opens q. by_then (ListR d F) (λ (bs : List Arm). ClosedR d bs) (λ ts y ns. G (o ∷ ts) y (d ∷ ns))
    (λ us vs bs y ms ks p q. closed o us bs ms opens p vs y ks q) us y ms q)
  where
    closed : (o : Lexeme) (us : List Lexeme) (bs : List Arm) (ms : List ℕ) → Is (codes "{") o → ListR d F us bs ms →
        (vs : List Lexeme) (y : TermArms) (ks : List ℕ) → ClosedR d bs vs y ks → G (o ∷ us ++ vs) y (d ∷ ms ++ ks)
    closed o us bs ms opens p _ _ _ (made _ _ _ (first c x _ _ _ e nothing)) =
        f o c us bs ms opens p (only_is (spells (codes "}")) c x e)

then_arms : (d : ℕ) (F : Phrase Arm) (o c : Lexeme) (us : List Lexeme) (bs : List Arm) (ms : List ℕ) → Is (codes "{") o →
    ListR d F us bs ms → Is (codes "}") c →
    ArmsR d F (o ∷ us ++ c ∷ []) (arms bs) (d ∷ ms ++ d ∷ [])
then_arms d F o c us bs ms opens p closes =
    then_word d (codes "{") (Then (ListR d F) (λ (bs : List Arm). ClosedR d bs)) o (us ++ c ∷ []) _ (ms ++ d ∷ []) opens
    (phrase.pair _ us (c ∷ []) bs _ _ ms (d ∷ []) p (made (c ∷ []) tt (d ∷ []) (word_at d (codes "}") c closes)) refl refl)

case_to : (d : ℕ) (k : Lexeme) → Is (codes "case") k →
    (ts : List Lexeme) (t : TermTree) (ns : List ℕ) → BegunR d Case k ts t ns → ExprP d (k ∷ ts) t (d ∷ ns)
case_to d k is =
    by_between d (codes "of") (λ (t : TermTree). CasesR d k t) (λ ts t ns. ExprP d (k ∷ ts) t (d ∷ ns))
    (λ us vs f t y ms ks s of_is q. by_mapped (term.case_of k.at t) (ArmsR d (CaseArmR d))
    (λ ts y ns. ExprP d (k ∷ (us ++ f ∷ ts)) y (d ∷ (ms ++ d ∷ ns)))
    (λ vs bs ks q. by_arms d (CaseArmR d) (λ ts y ns. ExprP d (k ∷ (us ++ f ∷ ts)) (term.case_of k.at t y) (d ∷ (ms ++ d ∷ ns)))
    (λ o c vs bs ks opens r closes.
    let a = cases_to d vs bs ks r in (
      case_of k f o c us vs _ t (arms bs) is s.0 of_is opens a.0 closes refl,
      (let g : d ∷ (expr_nests (suc d) s.0 ++ (d ∷ d ∷ cases_nests d a.0 ++ d ∷ [])) ≡ d ∷ (ms ++ (d ∷ d ∷ ks ++ d ∷ [])) =
          rw (s.1, a.1) refl in g),
    )) vs bs ks q) vs y ks q)

match_to : (d : ℕ) (k : Lexeme) → Is (codes "match") k →
    (ts : List Lexeme) (t : TermTree) (ns : List ℕ) → BegunR d Match k ts t ns → ExprP d (k ∷ ts) t (d ∷ ns)
match_to d k is =
    by_between d (codes "with") (λ (t : TermTree). MatchesR d k t) (λ ts t ns. ExprP d (k ∷ ts) t (d ∷ ns))
    (λ us vs f t y ms ks s with_is q. by_mapped (term.match_with k.at t) (ArmsR d (MatchArmR d))
    (λ ts y ns. ExprP d (k ∷ (us ++ f ∷ ts)) y (d ∷ (ms ++ d ∷ ns)))
    (λ vs bs ks q. by_arms d (MatchArmR d) (λ ts y ns. ExprP d (k ∷ (us ++ f ∷ ts)) (term.match_with k.at t y)
    (d ∷ (ms ++ d ∷ ns)))
    (λ o c vs bs ks opens r closes.
    let a = matches_to d vs bs ks r in (
      match_with k f o c us vs _ t (arms bs) is s.0 with_is opens a.0 closes refl,
      (let g : d ∷ (expr_nests (suc d) s.0 ++ (d ∷ d ∷ matches_nests d a.0 ++ d ∷ [])) ≡ d ∷ (ms ++ (d ∷ d ∷ ks ++ d ∷ [])) =
          rw (s.1, a.1) refl in g),
    )) vs bs ks q) vs y ks q)

begun_to : (d : ℕ) (s : ExprStart) (k : Lexeme) → MeansExpr s k →
    (ts : List Lexeme) (t : TermTree) (ns : List ℕ) → BegunR d s k ts t ns → ExprP d (k ∷ ts) t (d ∷ ns)
begun_to d Let k is _ _ _ (taken o ts t ns opens p) = split_to d k o is opens ts t ns p
begun_to d Let k is _ _ _ (other ts t ns p) = named_to d k is ts t ns p
begun_to d If k is ts t ns p = if_to d k is ts t ns p
begun_to d Lambda k is ts t ns p = lambda_to d k is ts t ns p
begun_to d Case k is ts t ns p = case_to d k is ts t ns p
begun_to d Match k is ts t ns p = match_to d k is ts t ns p

behind_to : (d : ℕ) (all : List Lexeme) (us vs : List Lexeme) (t y : TermTree) (ms ks : List ℕ) → start all ≡ start us →
    OrP d us t ms → BehindR d (start all) t vs y ks → ExprP d (us ++ vs) y (ms ++ ks)
behind_to d all us _ t _ ms _ same p (taken k vs _ ks is (made _ u _ q)) =
    moved (ExprP d) (us ++ k ∷ vs) (us ++ k ∷ vs) (term.seq (start all) t u) (term.seq (start us) t u) (ms ++ d ∷ ks)
    (ms ++ d ∷ ks) refl (ap (λ z. term.seq z t u) same) refl (
      seq us vs _ k t u p.0 is q.0 refl,
      (let g : or_nests d p.0 ++ d ∷ expr_nests (suc d) q.0 ≡ ms ++ d ∷ ks =
          rw (p.1, q.1) refl in g),
    )
behind_to d all us _ t _ ms _ same p (other _ _ _ nothing) =
    moved (ExprP d) (us ++ []) us t t (ms ++ []) ms (append-nil us) refl (append-nil ms) (one_or us t p.0, p.1)

pub or_filled : (d : ℕ) (us : List Lexeme) (t : TermTree) (ns : List ℕ) → OrP d us t ns → 0 < length us
or_filled d us t ns p = let b = or_begins d p.0 in omega (arith, ap length b.3)

then_to : (d : ℕ) (ts : List Lexeme) (t : TermTree) (ns : List ℕ) → ThenR d ts t ns → ExprP d ts t ns
then_to d _ _ _ (at k ts t ns (phrase.pair _ us vs x y _ ms ks p q parts nests)) =
    moved (ExprP d) (k ∷ ts) (us ++ vs) t t ns (ms ++ ks) parts refl nests
    (behind_to d (k ∷ ts) us vs x t ms ks (ap start parts ∙ start_more us vs (start us) (or_filled d us x ms p) refl) p q)

pub expr_to : (d : ℕ) (ts : List Lexeme) (t : TermTree) (ns : List ℕ) → ExprR d ts t ns → ExprP d ts t ns
expr_to d _ _ _ (one _ _ _ (first k s ts t ns e p)) = begun_to d s k (expr_means k s e) ts t ns p
expr_to d _ _ _ (other ts t ns p) = then_to d ts t ns p

begun : (d : ℕ) (s : ExprStart) (k : Lexeme) (all ts : List Lexeme) (t : TermTree) (ns : List ℕ) → MeansExpr s k → all ≡ k ∷ ts →
    BegunR d s k ts t ns → ExprR d all t (d ∷ ns)
begun d s k all ts t ns is parts p = moved (ExprR d) all (k ∷ ts) t t (d ∷ ns) (d ∷ ns) parts refl refl
    (one _ _ _ (first k s ts t ns (means_expr s k is) p))

of_expr : (d : ℕ) (ts : List Lexeme) (t : TermTree) (s : IsExpr ts t) → ExprR d ts t (expr_nests d s)
of_expr d _ _ (let_in k x e i ts us all t u is name equals s of_in r parts) =
    begun d Let k all (x ∷ e ∷ ts ++ i ∷ us) _ _ is parts (other _ _ _
    (then_lower d (λ (x : Lexeme). Then (Word d (codes "=")) (λ (u : Unit {0}). InR d (term.let_in k.at (bound x)))) x
    (e ∷ ts ++ i ∷ us) _ _ name
    (then_word d (codes "=") (InR d (term.let_in k.at (bound x))) e (ts ++ i ∷ us) _ _ equals
    (then_in d (term.let_in k.at (bound x)) ts us i t u _ _ (s, refl) of_in (r, refl)))))
of_expr d _ _ (split k o x m y c e i ts us all t u is opens left comma right closes equals s of_in r parts) =
    begun d Let k all (o ∷ x ∷ m ∷ y ∷ c ∷ e ∷ ts ++ i ∷ us) _ _ is parts (taken o (x ∷ m ∷ y ∷ c ∷ e ∷ ts ++ i ∷ us) _ _ opens
    (then_lower d (λ (x : Lexeme). SecondR d k x) x (m ∷ y ∷ c ∷ e ∷ ts ++ i ∷ us) _ _ left
    (then_word d (codes ",") (Then (One d lower_of) (λ (y : Lexeme). EqualsR d k x y)) m (y ∷ c ∷ e ∷ ts ++ i ∷ us) _ _ comma
    (then_lower d (λ (y : Lexeme). EqualsR d k x y) y (c ∷ e ∷ ts ++ i ∷ us) _ _ right
    (then_word d (codes ")") (Then (Word d (codes "=")) (λ (v : Unit {0}). InR d (term.split k.at (bound x) (bound y)))) c
    (e ∷ ts ++ i ∷ us) _ _ closes
    (then_word d (codes "=") (InR d (term.split k.at (bound x) (bound y))) e (ts ++ i ∷ us) _ _ equals
    (then_in d (term.split k.at (bound x) (bound y)) ts us i t u _ _ (s, refl) of_in (r, refl))))))))
of_expr d _ _ (if_else k h e ts us vs all t u v is s then_is r else_is q parts) =
    begun d If k all (ts ++ (h ∷ (us ++ e ∷ vs))) _ _ is parts
    (then_between d (codes "then") (λ (t : TermTree). ElseR d k t) ts (us ++ e ∷ vs) h t _ _ _ (s, refl) then_is
    (then_between d (codes "else") (λ (u : TermTree). Mapped (term.if_else k.at t u) (ExprP (suc d))) us vs e u _ _ _
    (r, refl) else_is (made vs v _ (q, refl))))
of_expr d _ _ (lambda k x c ts ks us all a uses t is name colon s r q parts) =
    begun d Lambda k all (x ∷ c ∷ ts ++ (ks ++ us)) _ _ is parts
    (then_lower d (λ (x : Lexeme). ParameterR d k x) x (c ∷ ts ++ (ks ++ us)) _ _ name
    (then_word d (codes ":") (Then (SeqPhrase (suc d)) (λ (t : WrittenTree). ResultR d k x t)) c (ts ++ (ks ++ us)) _ _ colon
    (phrase.pair _ ts (ks ++ us) a _ _ (seq_nests (suc d) s) (level d ks ++ expr_nests (suc d) q) (s, refl)
    (phrase.pair _ ks us uses _ _ (level d ks) (expr_nests (suc d) q) (r, refl) (made us t _ (q, refl)) refl refl) refl refl)))
of_expr d _ _ (case_of k f o c ts us all t bs is s of_is opens a closes parts) =
    let b = cases_from d us bs a in
    moved (ExprR d) all all (term.case_of k.at t bs) (term.case_of k.at t (arms b.0)) _ _ refl
    (ap (term.case_of k.at t) (sym b.1)) refl
    (begun d Case k all (ts ++ (f ∷ o ∷ us ++ c ∷ [])) _ _ is parts
    (then_between d (codes "of") (λ (t : TermTree). CasesR d k t) ts (o ∷ us ++ c ∷ []) f t _ _ _ (s, refl) of_is
    (made (o ∷ us ++ c ∷ []) (arms b.0) _ (then_arms d (CaseArmR d) o c us b.0 _ opens b.2 closes))))
of_expr d _ _ (match_with k f o c ts us all t bs is s with_is opens a closes parts) =
    let b = matches_from d us bs a in
    moved (ExprR d) all all (term.match_with k.at t bs) (term.match_with k.at t (arms b.0)) _ _ refl
    (ap (term.match_with k.at t) (sym b.1)) refl
    (begun d Match k all (ts ++ (f ∷ o ∷ us ++ c ∷ [])) _ _ is parts
    (then_between d (codes "with") (λ (t : TermTree). MatchesR d k t) ts (o ∷ us ++ c ∷ []) f t _ _ _ (s, refl) with_is
    (made (o ∷ us ++ c ∷ []) (arms b.0) _ (then_arms d (MatchArmR d) o c us b.0 _ opens b.2 closes))))
of_expr d _ _ (one_or ts t s) =
    other ts t _ (locate (λ (n : ℕ). Then (OrP d) (λ (t : TermTree). BehindR d n t)) (start ts) ts t (or_nests d s)
    (or_filled d ts t _ (s, refl)) refl
    (phrase.pair _ ts [] t t _ (or_nests d s) [] (s, refl) (other [] t [] nothing) (sym (append-nil ts))
    (sym (append-nil (or_nests d s)))))
of_expr d _ _ (seq ts us all k t u s is r parts) =
    moved (ExprR d) all (ts ++ k ∷ us) _ _ _ _ parts refl refl (other _ _ _
    (locate (λ (n : ℕ). Then (OrP d) (λ (t : TermTree). BehindR d n t)) (start ts) (ts ++ k ∷ us) _ _
    (omega (arith, length-append ts (k ∷ us))) (start_more ts (k ∷ us) (start ts) (or_filled d ts t _ (s, refl)) refl)
    (phrase.pair _ ts (k ∷ us) t _ _ (or_nests d s) (d ∷ expr_nests (suc d) r) (s, refl)
    (taken k us _ _ is (made us u _ (r, refl))) refl refl)))

pub expr_from : (d : ℕ) (ts : List Lexeme) (t : TermTree) (ns : List ℕ) → ExprP d ts t ns → ExprR d ts t ns
expr_from d ts t ns p = subst (ExprR d ts t) p.1 (of_expr d ts t p.0)
