use Rattle.std.proofs.Common.{◌≡◌, None, take}
use Rattle.std.specs.Prelude.{All}
use Rattle.fst_cell.specs.End.{EndView}
use Rattle.fst_worker.proofs.ending.waiting.Given as goal

abbrev pub invariant-loop-end : goal.invariant-loop-end
invariant-loop-end l = All (λ (e : EndView). e.knows.offer ≡ None) (take l.end-index l.bag)
