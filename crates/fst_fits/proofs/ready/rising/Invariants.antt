use Rattle.std.proofs.Common.{◌≡◌, ◌∷◌, drop}
use Rattle.fst_types.specs.ModelView.{branches_of}
use Rattle.fst_fits.specs.Tests.{rising}
use Rattle.fst_fits.proofs.ready.rising.Given as goal

abbrev pub invariant-loop-branch : goal.invariant-loop-branch
invariant-loop-branch l = rising (branches_of (l.last ∷ drop l.branch-index l.rest)) ≡ rising (branches_of l.branches)
