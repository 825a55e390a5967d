-- What certificates of a Yes give.
use Rattle.std.specs.Prelude.{ℕ, ◌<◌, ◌^◌, List, Bool, length}
use Rattle.fst_types.specs.Tree.{Tree}
use Rattle.fst_types.specs.declared.kind.Kind.{Kind}
use Rattle.fst_types.specs.declared.label.Label.{Label}
use Rattle.fst_kinds.specs.WellFormed.{IsSession}
use Rattle.fst_words.specs.Words.{Productions}
use Rattle.fst_norms.specs.Pruned.{AreUnnormed}
use Rattle.fst_basis.specs.Basis.{IsProof}
use Rattle.fst_basis.specs.declared.proof.Chain.{Chain}
use Rattle.fst_basis.specs.declared.proof.Pair.{Pair}
use Rattle.fst_equiv.specs.Verdicts.{Certifies}
use Rattle.fst_equiv.specs.declared.verdict.Certificate.{Certificate}
use Rattle.fst_equiv.specs.declared.verdict.Certificate.TheVariants.{Visited, Basis}

-- the certificate is that of a Yes on two session types, within a budget of 32 bits
pub record IsOfYes (c : Certificate) : Type 0 where
  pub vars : List Kind
  pub others : List Kind
  pub s : Tree
  pub r : Tree
  pub left : IsSession vars s
  pub right : IsSession others r
  pub budget : ℕ
  pub small : budget < 2 ^ 32
  pub certifies : Certifies s r budget c

-- a proof for two words of a grammar, whose unnormed non-terminals are marked
abbrev pub IsProofIn : List Label → Productions → List ℕ → List ℕ → List Pair → List Chain → Type 0
IsProofIn letters rows x y basis chains = (marks : List Bool) → AreUnnormed rows marks →
    IsProof (length letters) rows marks x y basis chains

-- a proof for the words of a certificate
abbrev pub IsProofOf : Certificate → List Pair → List Chain → Type 0
IsProofOf (Visited g x y pairs) basis chains =
    IsProofIn g.letters.items g.rules.items x y basis chains
IsProofOf (Basis g x y proof) basis chains =
    IsProofIn g.letters.items g.rules.items x y basis chains
