use Rattle.std.proofs.Common.{length, arith}
use Rattle.fst_lts.specs.Step as type
use Rattle.fst_base.proofs.TraceLaws.{agree_is_traces}
use Rattle.fst_words.specs.Words.{label_step}
use Rattle.fst_grammar.proofs.law.standing_law.Goals as goal

pub returns : goal.returns
returns c = λ letters rows w t. (
  λ same n. (agree_is_traces (label_step letters rows) type.step n w t).1 (λ s short. same s),
  λ agree s. (agree_is_traces (label_step letters rows) type.step (length s) w t).0 (agree (length s)) s (omega arith),
)
