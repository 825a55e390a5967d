use Rattle.fst_kinds.proofs.Laws.{unfolding_of_contractive}
use Rattle.fst_kinds.specs.Kinds.{session}
use Rattle.fst_lts.proofs.MoveLaws.{unfolding_of_step, unfolding_of_terminated}
use Rattle.fst_lts.proofs.law.unfolding_law.Goals as goal

pub returns : goal.returns
returns c = record {
  steps = λ vars s h. unfolding_of_step s h.1.scoped h.1.contractive
      (unfolding_of_contractive vars s (session h.0) h.1.kinded h.1.scoped h.1.contractive);
  ends = λ vars s h. unfolding_of_terminated s h.1.scoped h.1.contractive;
}
