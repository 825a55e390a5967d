-- What the public calls say of labels, steps and residuals.
use Rattle.fst_lts.proofs.LabelLaws.{labels_are_moves}
use Rattle.fst_lts.proofs.OrderLaws.{labels_rise, step_ordered, residual_ordered}
use Rattle.fst_lts.proofs.ResidualLaws.{step_session, residual_session}

-- the labels of a type
pub ruleset of_labels = (labels_are_moves, labels_rise)

-- the type after a label
pub ruleset of_step = (step_ordered, step_session)

-- the type after a trace
pub ruleset of_residual = (residual_ordered, residual_session)
