-- What each answer of the decision says.
use Rattle.std.specs.Prelude.{⊤}
use Rattle.fst_basis.specs.declared.proof.Proof.{Proof}
use Rattle.fst_normed.specs.declared.answers.Decision.{Decision}
use Rattle.fst_normed.specs.declared.answers.Decision.TheVariants.{Alike, Different, Spent}

-- what holds of the proof where the words are found alike
abbrev pub IfAlike : Decision → (Proof → Type 0) → Type 0
IfAlike (Alike p) P = P p
IfAlike Different P = ⊤
IfAlike Spent P = ⊤

-- what holds where they are found different
abbrev pub IfDifferent : Decision → Type 0 → Type 0
IfDifferent (Alike p) P = ⊤
IfDifferent Different P = P
IfDifferent Spent P = ⊤

-- what holds where the rewrites are spent
abbrev pub IfSpent : Decision → Type 0 → Type 0
IfSpent (Alike p) P = ⊤
IfSpent Different P = ⊤
IfSpent Spent P = P
