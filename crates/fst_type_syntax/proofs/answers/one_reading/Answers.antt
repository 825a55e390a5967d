use Rattle.fst_type_syntax.proofs.OneAnswer.{one_reading}
use Rattle.fst_type_syntax.proofs.answers.one_reading.Goals as goal

pub returns : goal.returns
returns c = one_reading
