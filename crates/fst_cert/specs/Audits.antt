-- What makes a proof one of two types.
use Rattle.std.specs.Prelude.{ℕ, List, Bool, length}
use Rattle.fst_types.specs.Tree.{Tree}
use Rattle.fst_types.specs.declared.label.Label.{Label}
use Rattle.fst_words.specs.Words.{Productions}
use Rattle.fst_norms.specs.Pruned.{pruned_word}
use Rattle.fst_basis.specs.Basis.{IsProof}
use Rattle.fst_basis.specs.declared.proof.Chain.{Chain}
use Rattle.fst_basis.specs.declared.proof.Pair.{Pair}
use Rattle.fst_grammar.specs.declared.fault.TranslateFault.{TranslateFault}
use Rattle.fst_grammar.specs.declared.fault.TranslateFault.TheVariants as translate
use Rattle.fst_equiv.specs.Problem.{IsProblem}
use Rattle.fst_cert.specs.declared.fault.AuditFault.{AuditFault}
use Rattle.fst_cert.specs.declared.fault.AuditFault.TheVariants.{TooLarge, Memory}

-- the pairs and chains are what `check` accepts of the pruned words of two types in their grammar
pub record IsValid (s r : Tree) (basis : List Pair) (chains : List Chain) : Type 0 where
  pub letters : List Label
  pub rows : Productions
  pub u : List ℕ
  pub v : List ℕ
  pub marks : List Bool
  pub problem : IsProblem s r letters rows u v marks
  pub proof : IsProof (length letters) rows marks (pruned_word marks u) (pruned_word marks v) basis
      chains

-- what a fault of the translation is to the audit
abbrev pub fault_of : TranslateFault → AuditFault
fault_of translate.TooLarge = TooLarge
fault_of translate.Memory = Memory
