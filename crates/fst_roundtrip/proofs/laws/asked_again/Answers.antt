use Rattle.fst_roundtrip.proofs.QuestionLaws.{asked_again_law}
use Rattle.fst_roundtrip.proofs.laws.asked_again.Goals as goal

pub returns : goal.returns
returns c = asked_again_law c.spelled_words.ensures c.token_words.ensures
