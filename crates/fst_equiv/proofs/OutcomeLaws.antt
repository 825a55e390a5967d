-- Two well-formed types compare in one way at most.
use Rattle.std.proofs.Common.{◌≡◌, ◌∙◌, ◌⊎◌, inl, inr, ℕ, Bool, true, false, List, [], ◌∷◌, ◌++◌, refl, sym, ap, subst}
use Rattle.std.specs.Prelude.{nat_eq, if◌then◌else◌, ⊤}
use Rattle.fst_types.specs.Tree.{Tree, skip, send, receive, close, wait, select, offer, seq, rec, back, var, plain, arrow, pair, named}
use Rattle.fst_types.specs.declared.kind.Kind.{Kind}
use Rattle.fst_kinds.specs.WellFormed.{IsWellFormed, IsSession}
use Rattle.fst_parts.specs.Same.{same_base, same_use}
use Rattle.fst_equiv.specs.Answers.{Answer, Answers, OneAnswer, yes}
use Rattle.fst_equiv.specs.Answers as answer
use Rattle.fst_equiv.specs.Comparison.{is_part, Compared, asked, differing, unless_same, of_part, comparisons, IsYes, AreYes, IsDecisive, IsComparison}
use Rattle.fst_equiv.specs.Outcomes.{IsDecidedBy, Outcome, equal, shape, word, undecided, too_large, HasOutcome, outcome_of, OneOutcome}
use Rattle.fst_equiv.specs.declared.comparing.Same.{Same}
use Rattle.fst_equiv.specs.declared.comparing.Same.TheVariants.{Yes, Shape, Word, Undecided}
use Rattle.fst_equiv.proofs.ComparisonLaws.{yes_split}
use Rattle.fst_equiv.proofs.EqualParts.{function_parts, pair_parts, part_session}

-- the question is one of two session types
abbrev IsOfSessions : Compared → Type 0
IsOfSessions (asked s r) = ((vars : List Kind) × IsSession vars s) × ((vars : List Kind) × IsSession vars r)
IsOfSessions differing = ⊤

-- each question is
abbrev AllOfSessions : List Compared → Type 0
AllOfSessions [] = ⊤
AllOfSessions (c ∷ cs) = IsOfSessions c × AllOfSessions cs

all_sessions : (xs ys : List Compared) → AllOfSessions xs → AllOfSessions ys → AllOfSessions (xs ++ ys)
all_sessions [] ys a b = b
all_sessions (x ∷ xs) ys a b = (a.0, all_sessions xs ys a.1 b)

sessions_from : (xs ys : List Compared) → AllOfSessions (xs ++ ys) → AllOfSessions ys
sessions_from [] ys a = a
sessions_from (x ∷ xs) ys a = sessions_from xs ys a.1

test_sessions : (c : Bool) → AllOfSessions (unless_same c)
test_sessions true = tt
test_sessions false = (tt, tt)

module _ (vars : List Kind) where
  part_sessions : (s r : Tree) (j k : Kind) → is_part s ≡ true → IsWellFormed vars s j → IsWellFormed vars r k →
      AllOfSessions (of_part s r)
  part_sessions s r j k p ws wr = by_form (is_part r) refl
    where
      by_form : (c : Bool) → is_part r ≡ c → AllOfSessions (if c then asked s r ∷ [] else differing ∷ [])
      by_form true q = ((part_session vars s j p ws, part_session vars r k q wr), tt)
      by_form false q = (tt, tt)

  use_sessions : (c : Bool) (xs : List Compared) → AllOfSessions xs → AllOfSessions (if c then xs else differing ∷ [])
  use_sessions true xs h = h
  use_sessions false xs h = (tt, tt)

  -- well-formed types lead to questions of session types
  types_sessions : (t u : Tree) (j k : Kind) → IsWellFormed vars t j → IsWellFormed vars u k → AllOfSessions (comparisons t u)
  types_sessions skip u j k wt wu = part_sessions skip u j k refl wt wu
  types_sessions (send b) u j k wt wu = part_sessions (send b) u j k refl wt wu
  types_sessions (receive b) u j k wt wu = part_sessions (receive b) u j k refl wt wu
  types_sessions close u j k wt wu = part_sessions close u j k refl wt wu
  types_sessions wait u j k wt wu = part_sessions wait u j k refl wt wu
  types_sessions (select bs) u j k wt wu = part_sessions (select bs) u j k refl wt wu
  types_sessions (offer bs) u j k wt wu = part_sessions (offer bs) u j k refl wt wu
  types_sessions (seq s r) u j k wt wu = part_sessions (seq s r) u j k refl wt wu
  types_sessions (rec s) u j k wt wu = part_sessions (rec s) u j k refl wt wu
  types_sessions (back n) u j k wt wu = part_sessions (back n) u j k refl wt wu
  types_sessions (var n) u j k wt wu = part_sessions (var n) u j k refl wt wu
  types_sessions (plain b) (plain c) j k wt wu = test_sessions (same_base b c)
  types_sessions (plain b) u j k wt wu = (tt, tt)
  types_sessions (arrow a s r) (arrow b x y) j k wt wu =
      let p = function_parts vars a s r j wt in
      let q = function_parts vars b x y k wu in
      use_sessions (same_use a b) (comparisons s x ++ comparisons r y)
      (all_sessions (comparisons s x) (comparisons r y) (types_sessions s x p.0.0 q.0.0 p.0.1 q.0.1)
      (types_sessions r y p.1.0 q.1.0 p.1.1 q.1.1))
  types_sessions (arrow a s r) u j k wt wu = (tt, tt)
  types_sessions (pair s r) (pair x y) j k wt wu =
      let p = pair_parts vars s r j wt in
      let q = pair_parts vars x y k wu in
      all_sessions (comparisons s x) (comparisons r y) (types_sessions s x p.0.0 q.0.0 p.0.1 q.0.1)
      (types_sessions r y p.1.0 q.1.0 p.1.1 q.1.1)
  types_sessions (pair s r) u j k wt wu = (tt, tt)
  types_sessions (named n) (named m) j k wt wu = test_sessions (nat_eq n m)
  types_sessions (named n) u j k wt wu = (tt, tt)

-- the first comparison of a list that isn't Yes is one
one_decisive : (budget : ℕ) (xs ys p q : List Compared) (c d : Compared) → AreYes budget xs → AreYes budget ys →
    (IsYes budget c → ⊥) → (IsYes budget d → ⊥) → xs ++ c ∷ p ≡ ys ++ d ∷ q → c ≡ d
one_decisive budget [] [] p q c d a b m n e = cc
one_decisive budget [] (y ∷ ys) p q c d a b m n e =
    let is : y ≡ c = cc in
    absurd (m (subst (IsYes budget) is b.0))
one_decisive budget (x ∷ xs) [] p q c d a b m n e =
    let is : x ≡ d = cc in
    absurd (n (subst (IsYes budget) is a.0))
one_decisive budget (x ∷ xs) (y ∷ ys) p q c d a b m n e = one_decisive budget xs ys p q c d a.1 b.1 m n cc

-- what an answer to the deciding question is to the types
abbrev outcome_by : Answer → Outcome
outcome_by yes = equal
outcome_by (answer.no trace side) = word trace side
outcome_by answer.undecided = undecided
outcome_by answer.too_large = too_large

-- what the comparison that decides makes the outcome
abbrev Gives : ℕ → Outcome → Compared → Type 0
Gives budget o (asked s r) = (a : Answer) × Answers s r budget a × (o ≡ outcome_by a)
Gives budget o differing = o ≡ shape

-- a comparison that isn't Yes and decides
record Decision (budget : ℕ) (cs : List Compared) (o : Outcome) : Type 0 where
  by : Compared
  first : IsDecisive budget cs by
  refuted : IsYes budget by → ⊥
  gives : Gives budget o by

module _ (one : OneAnswer) (budget : ℕ) where
  -- a question with an answer other than Yes isn't Yes
  refuted_by : (s r : Tree) → IsOfSessions (asked s r) → (s ≡ r → ⊥) → (a : Answer) →
      (yes ≡ a → ⊥) → Answers s r budget a → IsYes budget (asked s r) → ⊥
  refuted_by s r w n a other h (inl e) = n e
  refuted_by s r w n a other h (inr e) = other (one w.0.0 w.1.0 s r budget w.0.1 w.1.1 yes a e h)

  -- what answers the deciding question decides
  decision_by : (t u : Tree) → AllOfSessions (comparisons t u) → (a : Answer) →
      (yes ≡ a → ⊥) → IsDecidedBy t u budget a → Decision budget (comparisons t u) (outcome_by a)
  decision_by t u all a other h =
      let first = h.2.first in
      let w = sessions_from first.front (asked h.0 h.1 ∷ first.rest) (subst AllOfSessions first.parts all) in
      record {
        by = asked h.0 h.1;
        first = first;
        refuted = refuted_by h.0 h.1 w.0 h.2.differ a other h.3;
        gives =
            (a, h.3, refl);
      }

  -- all comparisons are Yes, or one decides
  decision : (t u : Tree) → AllOfSessions (comparisons t u) → (o : Outcome) → HasOutcome t u budget o →
      ((o ≡ equal) × AreYes budget (comparisons t u)) ⊎ Decision budget (comparisons t u) o
  decision t u all equal h = inl (refl, h)
  decision t u all shape h = inr (record { by = differing; first = h; refuted = λ d. d; gives = refl })
  decision t u all (word trace side) h = inr (decision_by t u all (answer.no trace side) (λ e. cc) h)
  decision t u all undecided h = inr (decision_by t u all answer.undecided (λ e. cc) h)
  decision t u all too_large h = inr (decision_by t u all answer.too_large (λ e. cc) h)

  -- where one decides, not all are Yes
  not_all : (cs : List Compared) (o : Outcome) → Decision budget cs o → AreYes budget cs → ⊥
  not_all cs o d h =
      let first = d.first in
      d.refuted (yes_split budget first.front (d.by ∷ first.rest) (subst (AreYes budget) first.parts h)).1.0

  -- one comparison makes one outcome
  one_given : (c : Compared) → IsOfSessions c → (a b : Outcome) → Gives budget a c → Gives budget b c → a ≡ b
  one_given (asked s r) w a b g h =
      let answers = one w.0.0 w.1.0 s r budget w.0.1 w.1.1 g.0 h.0 g.1 h.1 in
      g.2 ∙ ap outcome_by answers ∙ sym h.2
  one_given differing w a b g h = g ∙ sym h

  -- two outcomes are one
  one_outcome_of : (t u : Tree) → AllOfSessions (comparisons t u) →
      (a b : Outcome) → HasOutcome t u budget a → HasOutcome t u budget b → a ≡ b
  one_outcome_of t u all a b p q = pick (decision t u all a p) (decision t u all b q)
    where
      pick : ((a ≡ equal) × AreYes budget (comparisons t u)) ⊎ Decision budget (comparisons t u) a →
          ((b ≡ equal) × AreYes budget (comparisons t u)) ⊎ Decision budget (comparisons t u) b → a ≡ b
      pick (inl x) (inl y) = x.0 ∙ sym y.0
      pick (inl x) (inr e) = absurd (not_all (comparisons t u) b e x.1)
      pick (inr d) (inl y) = absurd (not_all (comparisons t u) a d y.1)
      pick (inr d) (inr e) =
          let first = d.first in
          let second = e.first in
          let is = one_decisive budget first.front second.front first.rest second.rest d.by e.by first.before second.before
          d.refuted e.refuted (sym first.parts ∙ second.parts) in
          let w = sessions_from second.front (e.by ∷ second.rest) (subst AllOfSessions second.parts all) in
          one_given e.by w.0 a b (subst (Gives budget a) is d.gives) e.gives

-- where questions of session types have one answer, well-formed types compare in one way
pub one_outcome_by : OneAnswer → OneOutcome
one_outcome_by one t u budget f a b p q = one_outcome_of one budget t u (types_sessions f.0 t u f.1 f.2 f.3 f.4) a b p q

-- what is found is an outcome
pub has_outcome : (t u : Tree) (budget : ℕ) (a : Same) → IsComparison t u budget a → HasOutcome t u budget (outcome_of a)
has_outcome t u budget Yes h = h
has_outcome t u budget Shape h = h
has_outcome t u budget (Word trace side) h = h
has_outcome t u budget (Undecided g pairs) h =
    (h.0, h.1, h.2, record { letters = g.letters.items; rows = g.rules.items; pairs = pairs.items; shown = h.3 })
