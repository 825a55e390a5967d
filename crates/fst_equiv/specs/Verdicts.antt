-- What a verdict says of two types.
use Rattle.std.specs.Prelude.{ℕ, List, ⊤}
use Rattle.fst_types.specs.Tree.{Tree}
use Rattle.fst_words.specs.declared.grammar.Grammar.{Grammar}
use Rattle.fst_breadth.specs.declared.answers.Found.TheVariants.{Equal, Differ, Spent}
use Rattle.fst_equiv.specs.declared.finding.Finding.{Finding}
use Rattle.fst_equiv.specs.declared.finding.Finding.TheVariants.{Proved, Least, Searched}
use Rattle.fst_equiv.specs.declared.verdict.Certificate.{Certificate}
use Rattle.fst_equiv.specs.declared.verdict.Certificate.TheVariants.{Visited, Basis}
use Rattle.fst_equiv.specs.declared.verdict.Verdict.{Verdict}
use Rattle.fst_equiv.specs.declared.verdict.Verdict.TheVariants.{Yes, No, Undecided}
use Rattle.fst_equiv.specs.Problem.{IsShownEqual, IsProvedEqual, IsShownDifferent, IsShownSpent}
use Rattle.fst_equiv.specs.Answers.{Answer, yes, no, undecided}

-- the certificate shows that two types agree at every depth
abbrev pub Certifies : Tree → Tree → ℕ → Certificate → Type 0
Certifies s r budget (Visited g x y pairs) =
    IsShownEqual s r budget g.letters.items g.rules.items x y pairs.items
Certifies s r budget (Basis g x y proof) =
    IsProvedEqual s r budget g.letters.items g.rules.items x y proof.basis.items proof.chains.items

-- the verdict is right, and what it holds shows it
abbrev pub IsVerdict : Tree → Tree → ℕ → Verdict → Type 0
IsVerdict s r budget (Yes c) = Certifies s r budget c
IsVerdict s r budget (No trace side) = IsShownDifferent s r budget trace.items side
IsVerdict s r budget (Undecided g pairs) =
    IsShownSpent s r budget g.letters.items g.rules.items pairs.items

-- the answer that a verdict gives
abbrev pub answer_of : Verdict → Answer
answer_of (Yes c) = yes
answer_of (No trace side) = no trace.items side
answer_of (Undecided g pairs) = undecided

-- the verdict that what is found of two pruned words gives
abbrev pub verdict_of : Grammar → List ℕ → List ℕ → Finding → Verdict
verdict_of g x y (Proved proof) = Yes (Basis g x y proof)
verdict_of g x y (Least trace side) = No trace side
verdict_of g x y (Searched (Equal pairs)) = Yes (Visited g x y pairs)
verdict_of g x y (Searched (Differ trace side)) = No trace side
verdict_of g x y (Searched (Spent pairs)) = Undecided g pairs

-- the verdict is Yes or No
abbrev pub IsDecided : Verdict → Type 0
IsDecided (Yes c) = ⊤
IsDecided (No trace side) = ⊤
IsDecided (Undecided g pairs) = ⊥
