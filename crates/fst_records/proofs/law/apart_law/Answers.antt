use Rattle.fst_records.proofs.Apart.{events_apart}
use Rattle.fst_records.proofs.law.apart_law.Goals as goal

pub returns : goal.returns
returns c = events_apart
