use Rattle.fst_lts.specs.Step.{step}
use Rattle.fst_base.proofs.AgreementLaws.{agrees_itself, agrees_back, agrees_through}
use Rattle.fst_lts.proofs.AgreementLaws.{agree_in_front, agree_behind}
use Rattle.fst_lts.proofs.law.agreement_law.Goals as goal

pub returns : goal.returns
returns c = record {
  itself = λ s n. agrees_itself step n s;
  back = λ s r h n. agrees_back step step n s r (h n);
  through = λ s r t h g n. agrees_through step step step n s r t (h n) (g n);
  front = λ s r t h n. agree_in_front n t s r (h n);
  behind = λ vars s r t ws wr h n. agree_behind n vars s r t ws wr (h n);
}
