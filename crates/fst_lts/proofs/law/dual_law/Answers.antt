use Rattle.fst_lts.proofs.DualLaws.{dual-dual, dual_label-dual_label, residual-dual}
use Rattle.fst_lts.proofs.EventLaws.{after_history-dual}
use Rattle.fst_lts.proofs.law.dual_law.Goals as goal

pub returns : goal.returns
returns c = record {
  involution = dual-dual;
  labels = dual_label-dual_label;
  residuals = residual-dual;
  histories = after_history-dual;
}
