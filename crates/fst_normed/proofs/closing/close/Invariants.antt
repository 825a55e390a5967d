use Rattle.std.proofs.Common.{◌≡◌, ◌+◌, ◌*◌, ◌-◌, ◌≤◌, ◌∷◌, ℕ, List, length, take}
use Rattle.std.specs.Prelude.{sum_by}
use Rattle.fst_basis.specs.declared.proof.Chain.{Chain}
use Rattle.fst_normed.specs.Candidates.{AreCandidates, IsThere}
use Rattle.fst_normed.specs.Closing.{AllHold, rewrites_of}
use Rattle.fst_normed.specs.Joining.{exchanges}
use Rattle.fst_normed.specs.Needs.{IsNeeded, rewrites_at}
use Rattle.fst_normed.specs.Walks.{Leads}
use Rattle.fst_normed.proofs.closing.close.Given as goal

abbrev pub invariant-loop-at : goal.invariant-loop-at
invariant-loop-at l = record {
  are : AreCandidates (length l.words) l.norms l.needed;
  within : l.at ≤ length l.needed;
  each : (c : ℕ × ℕ) → IsThere l.needed c → IsNeeded l.g.rules.items l.norms l.words l.u l.v c;
  hold : (first : Chain) × (others : List Chain) × (l.chains.items ≡ first ∷ others) ×
      Leads l.norms l.words l.needed first.steps.items l.u l.v × AllHold l.g.rules.items l.norms l.words l.needed l.at others;
  made : rewrites_of l.chains.items + l.rewrites ≡ l.fn.rewrites;
  spent : (length (exchanges l.norms l.words l.u l.v) + sum_by (rewrites_at l.g.rules.items l.norms l.words) (take l.at l.needed))
      + l.rewrites ≡ l.fn.rewrites;
}

abbrev pub decreases-loop-at : goal.decreases-loop-at
decreases-loop-at l = length l.words * length l.words - l.at
