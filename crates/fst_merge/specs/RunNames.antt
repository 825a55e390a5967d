-- That the names in the text of a run are those that the run gives.
use Rattle.std.specs.Prelude.{◌≡◌, List, Some}
use Rattle.fst_types.specs.Tree.{Tree}
use Rattle.fst_terms.specs.CoreTree.{CoreTree}
use Rattle.fst_machine.specs.Machine.{Program}
use Rattle.fst_runs.specs.declared.event.Stamped.{Stamped}
use Rattle.fst_runs.specs.Configs.{Path, Task, Config, started}
use Rattle.fst_runs.specs.StampedRuns.{RunsAt}
use Rattle.fst_merge.specs.EventTexts.{made_in, forked_in}

-- wherever a run leads, each task has made as many channels and forked as many tasks as the events say
abbrev pub NamesLaw : Type 0
NamesLaw = (m : Program) (types : List Tree) (e : CoreTree) (es : List Stamped) (c : Config) →
    RunsAt m types (started e) es c → (p : Path) (t : Task) → c.tasks p ≡ Some t →
    (t.made ≡ made_in p es) × (t.forked ≡ forked_in p es)
