use Rattle.fst_roundtrip.proofs.ReadingLaws.{read_back_law}
use Rattle.fst_roundtrip.proofs.laws.read_back.Goals as goal

pub returns : goal.returns
returns c = read_back_law c.spelled_words.ensures
