use Rattle.fst_typing.proofs.Accepting.{accepted_derived}
use Rattle.fst_typing.proofs.law.accepted_law.Goals as goal

pub returns : goal.returns
returns c = accepted_derived
