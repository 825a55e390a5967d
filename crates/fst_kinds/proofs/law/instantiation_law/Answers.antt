use Rattle.fst_types.proofs.Laws.{instantiated_substitute, instantiated_unfolding_of}
use Rattle.fst_kinds.proofs.InstanceLaws.{put_scoped, instantiated_closed, instantiated_again, instantiation_again}
use Rattle.fst_kinds.proofs.law.instantiation_law.Goals as goal

pub returns : goal.returns
returns c = record {
  closed = instantiated_closed;
  substitution = λ outer vars args i env t. instantiated_substitute args env t (put_scoped outer vars args i);
  unfoldings = λ outer vars args i s. instantiated_unfolding_of args s (put_scoped outer vars args i);
  again = λ outer vars args i more t k h. instantiated_again more outer vars args i t k h;
  composed = λ last outer vars more args i j. instantiation_again last outer more i vars args j;
}
