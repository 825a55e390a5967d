-- What follows for tasks from nothing having gone wrong.
use Rattle.std.proofs.Common.{◌≡◌, ◌∙◌, Some, sym, ap}
use Rattle.fst_base.proofs.Options.{none_some}
use Rattle.fst_terms.specs.declared.core_module.Module.{Module}
use Rattle.fst_machine.specs.Machine.{stuck, pause, asked}
use Rattle.fst_runs.specs.Configs.{Path, Config, Task, program}
use Rattle.fst_runs.specs.Wrong.{IsRight}
use Rattle.fst_runs.proofs.Laws.{right_one, right_there, right_opposed, right_received, right_meets}
use Rattle.fst_process.proofs.Fewer.{Fine}

-- tasks that ask at ends fit where nothing has gone wrong
pub right_fine : (m : Module) (c : Config) → IsRight (program m) c → Fine m c
right_fine m c right = record {
  one = λ p q t u a b x i j y z. right_one (program m) c right p q t u a b x i j y z;
  there = λ p t a x i y. right_there (program m) c right p t a x i y;
  puts_apart = λ p q t u x ev ew i j. right_opposed (program m) c right p q t u x ev ew i j;
  gets_apart = λ p q t u x i j. right_received (program m) c right p q t u x i j;
  meets = λ p q t u x ev i j. right_meets (program m) c right p q t u x ev i j;
}

-- a task that is there is not stuck
pub right_alive : (m : Module) (c : Config) (p : Path) (t : Task) → IsRight (program m) c → c.tasks p ≡ Some t →
    pause m.families.items t.state ≡ stuck → ⊥
right_alive m c p t right e z =
    let f = right.asks p t e in
    none_some (sym (ap asked z) ∙ f.1)
