use Rattle.fst_derivations.specs.Parts.{IsConversion}
use Rattle.fst_derivations.proofs.TextLaws.{text}
use Rattle.fst_derivations.proofs.law.plain_types_have_texts.Goals as goal

pub returns : goal.returns
returns c = λ m h. text m (IsConversion m.vars) h
