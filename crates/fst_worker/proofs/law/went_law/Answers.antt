use Rattle.fst_worker.proofs.Chains.{went_in}
use Rattle.fst_worker.proofs.Wholes.{went_fits, went_whole}
use Rattle.fst_worker.proofs.law.went_law.Goals as goal

pub returns : goal.returns
returns c = λ m a xs ys all w. record {
  fit = went_fits m a xs ys w all;
  whole = λ main h. went_whole m a main xs ys w all h;
  longer = went_in m a xs ys w;
}
