use Rattle.std.proofs.Common.{◌≡◌, drop}
use Rattle.fst_fits.specs.Tests.{instantiates}
use Rattle.fst_fits.proofs.fitting.instantiates.Given as goal

abbrev pub invariant-loop-i : goal.invariant-loop-i
invariant-loop-i l = instantiates l.vars (drop l.i l.kinds) (drop l.i l.args) ≡ instantiates l.vars l.kinds l.args
