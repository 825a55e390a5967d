-- The least run is a run.
use Rattle.std.proofs.Common.{List, [], ◌∷◌}
use Rattle.fst_types.specs.Tree.{Tree}
use Rattle.fst_machine.specs.Machine.{Program}
use Rattle.fst_runs.specs.declared.event.CoreEvent.{CoreEvent}
use Rattle.fst_runs.specs.Configs.{Config}
use Rattle.fst_runs.specs.Events.{Runs, written}
use Rattle.fst_runs.specs.Least.{RunsLeast}

pub least_runs : (m : Program) (types : List Tree) (c : Config) (es : List CoreEvent) (d : Config) → RunsLeast m types c es d →
    Runs m types c es d
least_runs m types c [] d r = r
least_runs m types c (e ∷ es) d r = (r.0, r.1, least_runs m types (written c r.0) es d r.3)
