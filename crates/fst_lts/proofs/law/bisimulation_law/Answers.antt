use Rattle.fst_lts.specs.Step.{step}
use Rattle.fst_base.proofs.AgreementLaws.{agree_is_one, bisimilar_agree}
use Rattle.fst_lts.proofs.law.bisimulation_law.Goals as goal

pub returns-clause-agreement : goal.returns-clause-agreement
returns-clause-agreement g c = agree_is_one step step

pub returns-clause-greatest : goal.returns-clause-greatest
returns-clause-greatest g c = λ b s r h n. bisimilar_agree step step g.R.Relation.related b n s r h
