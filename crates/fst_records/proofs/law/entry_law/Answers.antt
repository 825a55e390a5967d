use Rattle.fst_records.proofs.Entries.{entries}
use Rattle.fst_records.proofs.law.entry_law.Goals as goal

pub returns : goal.returns
returns c = entries
