-- How two types of any shape compare: node by node from the root, the left part before the right.
use Rattle.std.specs.Prelude.{◌≡◌, ◌⊎◌, ◌++◌, ℕ, Bool, true, false, List, [], ◌∷◌, ⊤, if◌then◌else◌, nat_eq}
use Rattle.fst_types.specs.Tree.{Tree, skip, send, receive, close, wait, select, offer, seq, rec, back, var, plain, arrow, pair, named}
use Rattle.fst_types.specs.declared.kind.Kind.{Kind}
use Rattle.fst_kinds.specs.WellFormed.{IsWellFormed}
use Rattle.fst_lts.specs.Equal.{IsEqual}
use Rattle.fst_parts.specs.Same.{same_base, same_use}
use Rattle.fst_grammar.specs.Translation.{IsTooLarge}
use Rattle.fst_equiv.specs.Answers.{AreFoundEqual}
use Rattle.fst_equiv.specs.Problem.{IsShownDifferent, IsShownSpent}
use Rattle.fst_equiv.specs.declared.comparing.Same.{Same}
use Rattle.fst_equiv.specs.declared.comparing.Same.TheVariants.{Yes, Shape, Word, Undecided}

-- a session type or a variable, told by its form
abbrev pub is_part : Tree → Bool
is_part skip = true
is_part (send b) = true
is_part (receive b) = true
is_part close = true
is_part wait = true
is_part (select bs) = true
is_part (offer bs) = true
is_part (seq s r) = true
is_part (rec s) = true
is_part (back k) = true
is_part (var k) = true
is_part (plain b) = false
is_part (arrow u s r) = false
is_part (pair s r) = false
is_part (named k) = false

-- what two types lead to: the question of two parts, or two forms that differ
pub data Compared : Type 0 where
  asked : Tree → Tree → Compared
  differing : Compared

-- nothing where they are the same, else that they differ
abbrev pub unless_same : Bool → List Compared
unless_same true = []
unless_same false = differing ∷ []

-- the question of a part and a type, if that is a part too
abbrev pub of_part : Tree → Tree → List Compared
of_part s t = if is_part t then asked s t ∷ [] else differing ∷ []

-- what two types lead to, in order
abbrev pub comparisons : Tree → Tree → List Compared
comparisons skip t = of_part skip t
comparisons (send b) t = of_part (send b) t
comparisons (receive b) t = of_part (receive b) t
comparisons close t = of_part close t
comparisons wait t = of_part wait t
comparisons (select bs) t = of_part (select bs) t
comparisons (offer bs) t = of_part (offer bs) t
comparisons (seq s r) t = of_part (seq s r) t
comparisons (rec s) t = of_part (rec s) t
comparisons (back k) t = of_part (back k) t
comparisons (var k) t = of_part (var k) t
comparisons (plain b) (plain c) = unless_same (same_base b c)
comparisons (plain b) _ = differing ∷ []
comparisons (arrow u s r) (arrow v s' r') =
    if same_use u v then comparisons s s' ++ comparisons r r' else differing ∷ []
comparisons (arrow u s r) _ = differing ∷ []
comparisons (pair s r) (pair s' r') = comparisons s s' ++ comparisons r r'
comparisons (pair s r) _ = differing ∷ []
comparisons (named k) (named l) = unless_same (nat_eq k l)
comparisons (named k) _ = differing ∷ []

-- the answer is Yes: two parts are the same tree, or a question's pairs or a basis show that they agree
abbrev pub IsYes : ℕ → Compared → Type 0
IsYes budget (asked s r) = (s ≡ r) ⊎ AreFoundEqual s r budget
IsYes budget differing = ⊥

-- all are Yes
abbrev pub AreYes : ℕ → List Compared → Type 0
AreYes budget [] = ⊤
AreYes budget (c ∷ cs) = IsYes budget c × AreYes budget cs

-- this is the first that isn't Yes
pub record IsDecisive (budget : ℕ) (cs : List Compared) (c : Compared) : Type 0 where
  pub front : List Compared
  pub rest : List Compared
  pub parts : cs ≡ front ++ c ∷ rest
  pub before : AreYes budget front

-- the first that isn't Yes is the question of these two parts
pub record IsDecisiveQuestion (budget : ℕ) (cs : List Compared) (s r : Tree) : Type 0 where
  pub differ : s ≡ r → ⊥
  pub first : IsDecisive budget cs (asked s r)

-- what a list of comparisons comes to, within a budget of pairs for each question
abbrev pub ComesTo : List Compared → ℕ → Same → Type 0
ComesTo cs budget Yes = AreYes budget cs
ComesTo cs budget Shape = IsDecisive budget cs differing
ComesTo cs budget (Word trace side) = (s : Tree) ×
    (r : Tree) × IsDecisiveQuestion budget cs s r × IsShownDifferent s r budget trace.items side
ComesTo cs budget (Undecided g pairs) = (s : Tree) ×
    (r : Tree) × IsDecisiveQuestion budget cs s r ×
    IsShownSpent s r budget g.letters.items g.rules.items pairs.items

-- the first that isn't Yes is a question that is too large
abbrev pub ComesToTooLarge : List Compared → ℕ → Type 0
ComesToTooLarge cs budget = (s : Tree) ×
    (r : Tree) × IsDecisiveQuestion budget cs s r × IsTooLarge s r

-- how two types compare within a budget of pairs for each question
abbrev pub IsComparison : Tree → Tree → ℕ → Same → Type 0
IsComparison t u budget same = ComesTo (comparisons t u) budget same

-- the first comparison of two types that isn't Yes is a question that is too large
abbrev pub IsTooLargeComparison : Tree → Tree → ℕ → Type 0
IsTooLargeComparison t u budget = ComesToTooLarge (comparisons t u) budget

-- both types are well formed, over one list of kinds
abbrev pub AreFormed : Tree → Tree → Type 0
AreFormed t u = (vars : List Kind) × (j : Kind) ×
    (k : Kind) × IsWellFormed vars t j × IsWellFormed vars u k

-- the types are equal over each list of kinds over which both are well formed
abbrev pub AreEqual : Tree → Tree → Type 0
AreEqual t u = (vars : List Kind) (j k : Kind) → IsWellFormed vars t j → IsWellFormed vars u k →
    IsEqual vars t u

-- the answer is that the types differ
abbrev pub IsDifference : Same → Type 0
IsDifference Yes = ⊥
IsDifference Shape = ⊤
IsDifference (Word trace side) = ⊤
IsDifference (Undecided g pairs) = ⊥
