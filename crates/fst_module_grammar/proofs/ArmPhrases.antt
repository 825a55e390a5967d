-- The phrases of names, arrows and arms, put together in the way in which they are read.
use Rattle.std.proofs.Common.{◌≡◌, ℕ, suc, List, [], ◌∷◌, ◌++◌, refl, sym, ap, subst, ◌∙◌, append_assoc}
use Rattle.std.specs.Prelude.{codes}
use Rattle.fst_types.specs.declared.kind.Use.{Use}
use Rattle.fst_types.specs.declared.kind.Use.TheVariants as how
use Rattle.fst_terms.specs.declared.binder.Binder.{Binder}
use Rattle.fst_terms.specs.TermTree.{TermTree, TermArms, arm, no_arms}
use Rattle.fst_reading.specs.Lexeme.{Lexeme, spells, Is, IsLower, IsUpper, lower_of, upper_of, is_one}
use Rattle.fst_type_syntax.specs.Grammar.{IsArrow, many, once}
use Rattle.fst_reading.specs.Faults.{level, Phrase}
use Rattle.fst_reading.proofs.Words.{Word, word_at, moved}
use Rattle.fst_reading.proofs.Tokens.{only_is, lower_is, is_lower, one_is, is_one_so}
use Rattle.fst_reading.proofs.Phrases as phrase
use Rattle.fst_reading.proofs.Phrases.{nothing, Then, Mapped, made, first, On, taken, other, Separated, Many}
use Rattle.fst_reading.proofs.Parts.{One}
use Rattle.fst_module_grammar.specs.Grammar.{bound, AreNames, none, name, AreCases, last_case, further_case, AreMatches, last_match, further_match}
use Rattle.fst_module_grammar.specs.Nesting.{expr_nests, cases_nests, matches_nests}
use Rattle.fst_module_grammar.specs.TermReading.{Arm, arms}
use Rattle.fst_module_grammar.proofs.AtomPhrases.{ExprP}
use Rattle.fst_module_grammar.proofs.Fronts.{by_then, by_mapped, by_word, then_word, by_lower, then_lower, by_upper, then_upper}

-- names, each of whose tokens has this nesting
abbrev pub NamesP : ℕ → Phrase (List Binder)
NamesP d ts xs ns = (s : AreNames ts xs) × (level d ts ≡ ns)

abbrev pub NamesR : ℕ → Phrase (List Binder)
NamesR d = Many (Mapped bound (One d lower_of))

pub names_to : (d : ℕ) (ts : List Lexeme) (xs : List Binder) (ns : List ℕ) → NamesR d ts xs ns → NamesP d ts xs ns
names_to d _ _ _ phrase.none = (none, refl)
names_to d _ _ _ (phrase.some ts _ vs _ xs ns _ ks (made _ x _ (first k _ _ _ _ e nothing)) q parts nests) =
    let o = names_to d vs xs ks q in
    let n = lower_is k x e in
    moved (NamesP d) ts (k ∷ vs) (bound x ∷ xs) (bound k ∷ xs) ns (d ∷ ks) parts
    (ap (λ (z : Lexeme). bound z ∷ xs) (sym n.1)) nests (name k vs xs n.0 o.0, ap (λ (w : List ℕ). d ∷ w) o.1)

of_names : (d : ℕ) (ts : List Lexeme) (xs : List Binder) → AreNames ts xs → NamesR d ts xs (level d ts)
of_names d _ _ none = phrase.none
of_names d _ _ (name k ts xs is s) =
    phrase.some (k ∷ ts) (k ∷ []) ts (bound k) xs _ (d ∷ []) (level d ts)
    (made (k ∷ []) k (d ∷ []) (first k k [] k [] (is_lower k is) nothing)) (of_names d ts xs s) refl refl

pub names_from : (d : ℕ) (ts : List Lexeme) (xs : List Binder) (ns : List ℕ) → NamesP d ts xs ns → NamesR d ts xs ns
names_from d ts xs ns p = subst (NamesR d ts xs) p.1 (of_names d ts xs p.0)

-- an arrow
abbrev pub ArrowP : ℕ → Phrase Use
ArrowP d ts u ns = (s : IsArrow ts u) × (level d ts ≡ ns)

abbrev pub ArrowR : ℕ → Phrase Use
ArrowR d = On d is_one (Mapped (λ (k : Unit {0}). how.Once) (Word d (codes "->")))
    (Mapped (λ (k : Unit {0}). how.Many) (Word d (codes "->")))

pub arrow_to : (d : ℕ) (ts : List Lexeme) (u : Use) (ns : List ℕ) → ArrowR d ts u ns → ArrowP d ts u ns
arrow_to d _ _ _ (taken n _ _ _ is (made _ _ _ (first k x _ _ _ e nothing))) =
    (once n k (one_is n is) (only_is (spells (codes "->")) k x e), refl)
arrow_to d _ _ _ (other _ _ _ (made _ _ _ (first k x _ _ _ e nothing))) = (many k (only_is (spells (codes "->")) k x e), refl)

of_arrow : (d : ℕ) (ts : List Lexeme) (u : Use) → IsArrow ts u → ArrowR d ts u (level d ts)
of_arrow d _ _ (many k is) = other (k ∷ []) how.Many (d ∷ []) (made (k ∷ []) tt (d ∷ []) (word_at d (codes "->") k is))
of_arrow d _ _ (once n k one is) = taken n (k ∷ []) how.Once (d ∷ []) (is_one_so n one)
    (made (k ∷ []) tt (d ∷ []) (word_at d (codes "->") k is))

pub arrow_from : (d : ℕ) (ts : List Lexeme) (u : Use) (ns : List ℕ) → ArrowP d ts u ns → ArrowR d ts u ns
arrow_from d ts u ns p = subst (ArrowR d ts u) p.1 (of_arrow d ts u p.0)

-- the body of an arm behind its arrow
abbrev pub BodyR : ℕ → (TermTree → Arm) → Phrase Arm
BodyR d make = Then (Word d (codes "->")) (λ (a : Unit {0}). Mapped make (ExprP (suc d)))

-- an arm of a `case`, and of a `match`
abbrev pub CaseArmR : ℕ → Phrase Arm
CaseArmR d = Then (One d upper_of) (λ (l : Lexeme). Then (NamesP d) (λ (xs : List Binder). BodyR d (λ t. (bound l, (xs, t)))))

abbrev pub MatchArmR : ℕ → Phrase Arm
MatchArmR d = Then (One d upper_of) (λ (l : Lexeme). Then (One d lower_of)
    (λ (x : Lexeme). BodyR d (λ t. (bound l, (bound x ∷ [], t)))))

-- what holds of each body behind an arrow
by_body : (d : ℕ) (make : TermTree → Arm) (G : Phrase Arm) →
    ((a : Lexeme) (ts : List Lexeme) (t : TermTree) (ns : List ℕ) → Is (codes "->") a → ExprP (suc d) ts t ns →
    G (a ∷ ts) (make t) (d ∷ ns)) →
    (ts : List Lexeme) (y : Arm) (ns : List ℕ) → BodyR d make ts y ns → G ts y ns
by_body d make G f = by_word d (codes "->") (Mapped make (ExprP (suc d))) G
    (λ a ts y ns is q. by_mapped make (ExprP (suc d)) (λ us z ms. G (a ∷ us) z (d ∷ ms))
    (λ us t ms p. f a us t ms is p) ts y ns q)

pub then_body : (d : ℕ) (make : TermTree → Arm) (a : Lexeme) (ts : List Lexeme) (t : TermTree) (ns : List ℕ) → Is (codes "->") a →
    ExprP (suc d) ts t ns → BodyR d make (a ∷ ts) (make t) (d ∷ ns)
then_body d make a ts t ns is p = then_word d (codes "->") (Mapped make (ExprP (suc d))) a ts (make t) ns is (made ts t ns p)

-- one arm of a `case` with its parts
pub record CaseArm (d : ℕ) (ts : List Lexeme) (b : Arm) (ns : List ℕ) : Type 0 where
  pub label : Lexeme
  pub xs : List Lexeme
  pub arrow : Lexeme
  pub us : List Lexeme
  pub nests : List ℕ
  pub is : IsUpper label
  pub names : AreNames xs b.1.0
  pub arrow_is : Is (codes "->") arrow
  pub body : ExprP (suc d) us b.1.1 nests
  pub label_is : b.0 ≡ bound label
  pub parts : ts ≡ label ∷ xs ++ arrow ∷ us
  pub numbers : ns ≡ d ∷ level d xs ++ d ∷ nests

pub case_arm_to : (d : ℕ) (ts : List Lexeme) (b : Arm) (ns : List ℕ) → CaseArmR d ts b ns → CaseArm d ts b ns
case_arm_to d =
    by_upper d (λ l. Then (NamesP d) (λ (xs : List Binder). BodyR d (λ t. (bound l, (xs, t))))) (CaseArm d)
    (λ l vs b ks upper q. by_then (NamesP d) (λ (xs : List Binder). BodyR d (λ t. (bound l, (xs, t))))
    (λ ws c ls. CaseArm d (l ∷ ws) c (d ∷ ls))
    (λ ws us xs c ms ls s r. by_body d (λ t. (bound l, (xs, t))) (λ us c ls. CaseArm d (l ∷ ws ++ us) c (d ∷ ms ++ ls))
    (λ a us t ls arrow p. record {
      label = l;
      xs = ws;
      arrow = a;
      us = us;
      nests = ls;
      is = upper;
      names = s.0;
      arrow_is = arrow;
      body = p;
      label_is = refl;
      parts = refl;
      numbers = ap (λ (w : List ℕ). d ∷ w ++ d ∷ ls) (sym s.1);
    }) us c ls r) vs b ks q)

pub case_arm_from : (d : ℕ) (l a : Lexeme) (xs ts : List Lexeme) (binders : List Binder) (t : TermTree) (ns : List ℕ) →
    IsUpper l → AreNames xs binders → Is (codes "->") a → ExprP (suc d) ts t ns →
    CaseArmR d (l ∷ xs ++ a ∷ ts) (bound l, (binders, t)) (d ∷ level d xs ++ d ∷ ns)
case_arm_from d l a xs ts binders t ns is names arrow p =
    then_upper d (λ l. Then (NamesP d) (λ (xs : List Binder). BodyR d (λ t. (bound l, (xs, t))))) l (xs ++ a ∷ ts) _
    (level d xs ++ d ∷ ns) is
    (phrase.pair _ xs (a ∷ ts) binders _ _ (level d xs) (d ∷ ns) (names, refl)
    (then_body d (λ t. (bound l, (binders, t))) a ts t ns arrow p) refl refl)

-- one arm of a `match` with its parts
pub record MatchArm (d : ℕ) (ts : List Lexeme) (b : Arm) (ns : List ℕ) : Type 0 where
  pub label : Lexeme
  pub variable : Lexeme
  pub arrow : Lexeme
  pub us : List Lexeme
  pub nests : List ℕ
  pub is : IsUpper label
  pub lower : IsLower variable
  pub arrow_is : Is (codes "->") arrow
  pub body : ExprP (suc d) us b.1.1 nests
  pub binds : b ≡ (bound label, (bound variable ∷ [], b.1.1))
  pub parts : ts ≡ label ∷ variable ∷ arrow ∷ us
  pub numbers : ns ≡ d ∷ d ∷ d ∷ nests

pub match_arm_to : (d : ℕ) (ts : List Lexeme) (b : Arm) (ns : List ℕ) → MatchArmR d ts b ns → MatchArm d ts b ns
match_arm_to d =
    by_upper d (λ l. Then (One d lower_of) (λ (x : Lexeme). BodyR d (λ t. (bound l, (bound x ∷ [], t))))) (MatchArm d)
    (λ l vs b ks upper q. by_lower d (λ (x : Lexeme). BodyR d (λ t. (bound l, (bound x ∷ [], t))))
    (λ ws c ls. MatchArm d (l ∷ ws) c (d ∷ ls))
    (λ x us c ls s r. by_body d (λ t. (bound l, (bound x ∷ [], t))) (λ us c ls. MatchArm d (l ∷ x ∷ us) c (d ∷ d ∷ ls))
    (λ a us t ls arrow p. record {
      label = l;
      variable = x;
      arrow = a;
      us = us;
      nests = ls;
      is = upper;
      lower = s;
      arrow_is = arrow;
      body = p;
      binds = refl;
      parts = refl;
      numbers = refl;
    }) us c ls r) vs b ks q)

pub match_arm_from : (d : ℕ) (l x a : Lexeme) (ts : List Lexeme) (t : TermTree) (ns : List ℕ) → IsUpper l → IsLower x →
    Is (codes "->") a → ExprP (suc d) ts t ns →
    MatchArmR d (l ∷ x ∷ a ∷ ts) (bound l, (bound x ∷ [], t)) (d ∷ d ∷ d ∷ ns)
match_arm_from d l x a ts t ns is lower arrow p =
    then_upper d (λ l. Then (One d lower_of) (λ (x : Lexeme). BodyR d (λ t. (bound l, (bound x ∷ [], t))))) l (x ∷ a ∷ ts) _
    (d ∷ d ∷ ns) is
    (then_lower d (λ (x : Lexeme). BodyR d (λ t. (bound l, (bound x ∷ [], t)))) x (a ∷ ts) _ (d ∷ ns) lower
    (then_body d (λ t. (bound l, (bound x ∷ [], t))) a ts t ns arrow p))

-- arms with commas between them
abbrev pub ListR : ℕ → Phrase Arm → Phrase (List Arm)
ListR d F = Separated d (spells (codes ",")) F

pub cases_to : (d : ℕ) (ts : List Lexeme) (bs : List Arm) (ns : List ℕ) → ListR d (CaseArmR d) ts bs ns →
    (s : AreCases ts (arms bs)) × (cases_nests d s ≡ ns)
cases_to d _ _ _ (phrase.last ts b ns p) =
    let q = case_arm_to d ts b ns p in
    moved (λ ts (bs : TermArms) ns. (s : AreCases ts bs) × (cases_nests d s ≡ ns)) ts (q.label ∷ q.xs ++ q.arrow ∷ q.us)
    (arm b.0 b.1.0 b.1.1 no_arms) (arm (bound q.label) b.1.0 b.1.1 no_arms) ns (d ∷ level d q.xs ++ d ∷ q.nests)
    q.parts (ap (λ (z : Binder). arm z b.1.0 b.1.1 no_arms) q.label_is) q.numbers (
      last_case q.label q.arrow q.xs q.us _ b.1.0 b.1.1 q.is q.names q.arrow_is q.body.0 refl,
      ap
          (λ (w : List ℕ). d ∷ level d q.xs ++ d ∷ w) q.body.1,
    )
cases_to d _ _ _ (phrase.further ts us vs k b bs ns ms ks p is r parts nests) =
    let q = case_arm_to d us b ms p in
    let o = cases_to d vs bs ks r in
    moved (λ ts (bs : TermArms) ns. (s : AreCases ts bs) × (cases_nests d s ≡ ns)) ts
    (q.label ∷ (q.xs ++ (q.arrow ∷ (q.us ++ k ∷ vs)))) (arm b.0 b.1.0 b.1.1 (arms bs))
    (arm (bound q.label) b.1.0 b.1.1 (arms bs)) ns
    (d ∷ (level d q.xs ++ (d ∷ (q.nests ++ d ∷ ks))))
    (parts ∙ ap (λ (w : List Lexeme). w ++ k ∷ vs) q.parts ∙ ap
    (λ (w : List Lexeme). q.label ∷ w) (append_assoc q.xs (q.arrow ∷ q.us) (k ∷ vs)))
    (ap (λ (z : Binder). arm z b.1.0 b.1.1 (arms bs)) q.label_is)
    (nests ∙ ap (λ (w : List ℕ). w ++ d ∷ ks) q.numbers ∙ ap
    (λ (w : List ℕ). d ∷ w) (append_assoc (level d q.xs) (d ∷ q.nests) (d ∷ ks))) (
      further_case q.label q.arrow k q.xs q.us vs _ b.1.0 b.1.1 (arms bs) q.is q.names q.arrow_is q.body.0 is o.0 refl,
      (let e : d ∷ (level d q.xs ++ (d ∷ (expr_nests (suc d) q.body.0 ++ d ∷ cases_nests d o.0))) ≡ d
          ∷ (level d q.xs ++ (d ∷ (q.nests ++ d ∷ ks))) = rw (q.body.1, o.1) refl in e),
    )

pub cases_from : (d : ℕ) (ts : List Lexeme) (bs : TermArms) (s : AreCases ts bs) → (xs : List Arm) ×
    (arms xs ≡ bs) × ListR d (CaseArmR d) ts xs (cases_nests d s)
cases_from d _ _ (last_case l a xs ts all binders t is names arrow s parts) = (
  (bound l, (binders, t)) ∷ [],
  refl,
  moved (ListR d (CaseArmR d)) all (l ∷ xs ++ a ∷ ts) _ _ _ _ parts refl refl
      (phrase.last _ _ _ (case_arm_from d l a xs ts binders t (expr_nests (suc d) s) is names arrow (s, refl))),
)
cases_from d _ _ (further_case l a m xs ts us all binders t bs is names arrow s comma r parts) =
    let o = cases_from d us bs r in (
      (bound l, (binders, t)) ∷ o.0,
      ap (arm (bound l) binders t) o.1,
      phrase.further all (l ∷ xs ++ a ∷ ts) us m (bound l, (binders, t)) o.0 _ (d ∷ level d xs ++ d ∷ expr_nests (suc d) s)
          (cases_nests d r) (case_arm_from d l a xs ts binders t (expr_nests (suc d) s) is names arrow (s, refl)) comma o.2
          (parts ∙ ap (λ (w : List Lexeme). l ∷ w) (sym (append_assoc xs (a ∷ ts) (m ∷ us))))
          (ap (λ (w : List ℕ). d ∷ w) (sym (append_assoc (level d xs) (d ∷ expr_nests (suc d) s) (d ∷ cases_nests d r)))),
    )

pub matches_to : (d : ℕ) (ts : List Lexeme) (bs : List Arm) (ns : List ℕ) → ListR d (MatchArmR d) ts bs ns →
    (s : AreMatches ts (arms bs)) × (matches_nests d s ≡ ns)
matches_to d _ _ _ (phrase.last ts b ns p) =
    let q = match_arm_to d ts b ns p in
    moved (λ ts (bs : TermArms) ns. (s : AreMatches ts bs) × (matches_nests d s ≡ ns)) ts (q.label ∷ q.variable ∷ q.arrow ∷ q.us)
    (arms (b ∷ [])) (arm (bound q.label) (bound q.variable ∷ []) b.1.1 no_arms) ns (d ∷ d ∷ d ∷ q.nests)
    q.parts (ap (λ (z : Arm). arms (z ∷ [])) q.binds) q.numbers (
      last_match q.label q.variable q.arrow q.us b.1.1 q.is q.lower q.arrow_is q.body.0,
      ap
          (λ (w : List ℕ). d ∷ d ∷ d ∷ w) q.body.1,
    )
matches_to d _ _ _ (phrase.further ts us vs k b bs ns ms ks p is r parts nests) =
    let q = match_arm_to d us b ms p in
    let o = matches_to d vs bs ks r in
    moved (λ ts (bs : TermArms) ns. (s : AreMatches ts bs) × (matches_nests d s ≡ ns)) ts
    (q.label ∷ q.variable ∷ q.arrow ∷ q.us ++ k ∷ vs) (arms (b ∷ bs))
    (arm (bound q.label) (bound q.variable ∷ []) b.1.1 (arms bs)) ns (d ∷ d ∷ d ∷ q.nests ++ d ∷ ks)
    (parts ∙ ap (λ (w : List Lexeme). w ++ k ∷ vs) q.parts) (ap (λ (z : Arm). arms (z ∷ bs)) q.binds)
    (nests ∙ ap (λ (w : List ℕ). w ++ d ∷ ks) q.numbers) (
      further_match q.label q.variable q.arrow k q.us vs _ b.1.1 (arms bs) q.is q.lower q.arrow_is q.body.0 is o.0 refl,
      (let e : d ∷ d ∷ d ∷ expr_nests (suc d) q.body.0 ++ d ∷ matches_nests d o.0 ≡ d ∷ d ∷ d ∷ q.nests ++ d ∷ ks =
          rw (q.body.1, o.1) refl in e),
    )

pub matches_from : (d : ℕ) (ts : List Lexeme) (bs : TermArms) (s : AreMatches ts bs) → (xs : List Arm) ×
    (arms xs ≡ bs) × ListR d (MatchArmR d) ts xs (matches_nests d s)
matches_from d _ _ (last_match l x a ts t is lower arrow s) = (
  (bound l, (bound x ∷ [], t)) ∷ [],
  refl,
  phrase.last _ _ _
      (match_arm_from d l x a ts t (expr_nests (suc d) s) is lower arrow (s, refl)),
)
matches_from d _ _ (further_match l x a m ts us all t bs is lower arrow s comma r parts) =
    let o = matches_from d us bs r in (
      (bound l, (bound x ∷ [], t)) ∷ o.0,
      ap (arm (bound l) (bound x ∷ []) t) o.1,
      phrase.further all (l ∷ x ∷ a ∷ ts) us m (bound l, (bound x ∷ [], t)) o.0 _ (d ∷ d ∷ d ∷ expr_nests (suc d) s)
          (matches_nests d r) (match_arm_from d l x a ts t (expr_nests (suc d) s) is lower arrow (s, refl)) comma o.2 parts refl,
    )
