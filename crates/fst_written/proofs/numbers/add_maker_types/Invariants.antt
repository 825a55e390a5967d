use Rattle.std.proofs.Common.{◌≡◌, ◌++◌, drop}
use Rattle.fst_derivations.specs.Modules.{maker_types}
use Rattle.fst_written.proofs.numbers.add_maker_types.Given as goal

abbrev pub invariant-loop-maker : goal.invariant-loop-maker
invariant-loop-maker l = l.out.items ++ maker_types (drop l.maker-index l.makers) ≡ l.fn.out.items ++ maker_types l.makers
