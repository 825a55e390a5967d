use Rattle.fst_records.proofs.Stamping.{stamps}
use Rattle.fst_records.proofs.law.stamp_law.Goals as goal

pub returns : goal.returns
returns c = stamps
