-- What the caller has when all channels of a run were closed.
use Rattle.std.proofs.Common.{◌≡◌, ℕ, List, [], ◌∷◌, map, refl, ap, ◌∙◌}
use Rattle.std.specs.Prelude.{sum_by}
use Rattle.fst_types.specs.Tree.{Tree}
use Rattle.fst_derivations.specs.Rules.{Surroundings}
use Rattle.fst_cell.specs.declared.answers.Closed.{Closed}
use Rattle.fst_cell.specs.End.{EndView}
use Rattle.fst_runs.specs.Logs.{Birth}
use Rattle.fst_safety.specs.Threads.{Thread}
use Rattle.fst_safety.specs.Turns.{of_ends}
use Rattle.fst_worker.specs.Works.{IsRun}
use Rattle.fst_worker.specs.Records.{Pair, IsOver, histories_of}
use Rattle.fst_worker.specs.Closing.{AreClosedTo}

-- what closing a pair gave
abbrev pub closed_of : Pair → Closed
closed_of p = p.closed

-- the histories of pairs are those of what closing them gave
pub histories_same : (ps : List Pair) → histories_of ps ≡ map (λ (c : Closed). c.history) (map closed_of ps)
histories_same [] = refl
histories_same (p ∷ ps) = ap (λ ks. p.closed.history ∷ ks) (histories_same ps)

module _ (es : List EndView) (cs : List Closed) (k : AreClosedTo es cs) where
  -- the run whose ends these are is over, with the pairs
  pub over : (m : Surroundings) (a : Tree) (main : Birth) (xs : List Thread) → IsRun m a main xs →
      ((w : EndView → ℕ) → sum_by (of_ends w) xs ≡ sum_by w es) → IsOver m a main xs k.pairs
  over m a main xs run all = record { run = run; paired = λ w. all w ∙ k.ends w; shut = k.shut }

  -- the histories of the pairs are those of the closed channels
  pub histories : histories_of k.pairs ≡ map (λ (c : Closed). c.history) cs
  histories = histories_same k.pairs ∙ ap (map (λ (c : Closed). c.history)) k.closed
