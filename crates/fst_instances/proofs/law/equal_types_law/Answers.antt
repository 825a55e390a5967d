use Rattle.fst_lts.specs.Equal.{sessions}
use Rattle.fst_instances.proofs.EqualLaws.{equal_itself, equal_back, equal_through, equal_session, equal_steps, equal_function, equal_pair, equal_base_type, equal_data_type, equal_variable}
use Rattle.fst_instances.proofs.EqualKinds.{equal_kind, equal_well_formed}
use Rattle.fst_instances.proofs.law.equal_types_law.Goals as goal

pub returns : goal.returns
returns c = record {
  itself = equal_itself;
  back = λ vars s r h. equal_back vars h;
  through = λ vars s r t h g. equal_through vars h g;
  kinds = λ vars s r i j h. equal_kind vars h i j;
  well_formed = λ vars s r k h. equal_well_formed vars h k;
  agreement = λ vars s r h w. (equal_session vars h w).1;
  protocols = λ vars s r ws wr h. sessions ws wr h;
  steps = λ vars s r t a h w. equal_steps vars h w a t;
  functions = λ vars u s r t h. equal_function vars h;
  pairs = λ vars s r t h. equal_pair vars h;
  base_types = λ vars b t h. equal_base_type vars h;
  data_types = λ vars k t h. equal_data_type vars h;
  variables = λ vars k u t i h. equal_variable vars u i h;
}
