use Rattle.fst_records.proofs.Collecting.{has_events}
use Rattle.fst_records.proofs.law.events_law.Goals as goal

pub returns : goal.returns
returns c = has_events
