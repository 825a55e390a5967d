-- What the names in an equation stand for, by what the code keeps of them.
use Rattle.std.specs.Prelude.{option_map}
use Rattle.fst_term_faults.specs.CodeSurroundings.{entry_of}
use Rattle.fst_term_faults.specs.declared.surroundings.MakerEntry.{MakerEntry}
use Rattle.fst_term_faults.specs.declared.surroundings.Surroundings as code
use Rattle.fst_term_names.specs.CoreTerms.{Numbers}

-- what the names of globals and constructors stand for
unfoldable pub numbers_of : code.Surroundings → Numbers
numbers_of a = record {
  globals = a.globals.now;
  makers = λ x. option_map (λ (e : MakerEntry). (e.family, e.number)) (entry_of a.makers.now x);
}
