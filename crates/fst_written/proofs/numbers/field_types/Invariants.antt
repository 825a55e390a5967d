use Rattle.std.proofs.Common.{◌≡◌, ◌++◌, drop}
use Rattle.fst_derivations.specs.Modules.{family_types}
use Rattle.fst_written.proofs.numbers.field_types.Given as goal

abbrev pub invariant-loop-family : goal.invariant-loop-family
invariant-loop-family l = l.out.items ++ family_types (drop l.family-index l.families) ≡ family_types l.families
