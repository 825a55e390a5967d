use Rattle.fst_roundtrip.proofs.ShownModules.{read_again_law}
use Rattle.fst_roundtrip.proofs.laws.read_again.Goals as goal

pub returns : goal.returns
returns c = read_again_law c.spelled_words.ensures c.token_words.ensures
