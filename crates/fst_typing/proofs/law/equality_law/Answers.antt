use Rattle.fst_typing.proofs.Equality.{equality}
use Rattle.fst_typing.proofs.law.equality_law.Goals as goal

pub returns : goal.returns
returns c = λ vars. equality vars
