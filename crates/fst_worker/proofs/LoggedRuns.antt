-- What a run on several workers answers, with the marks of its tasks.
use Rattle.std.proofs.Common.{◌<◌, ◌^◌, ℕ, suc, List, refl}
use Rattle.fst_machine.specs.declared.code.Code.{Code}
use Rattle.fst_vm.specs.declared.report.Outcome.TheVariants as outcome
use Rattle.fst_safety.specs.declared.tasks.TypedTask.{TypedTask}
use Rattle.fst_worker.specs.declared.workers.Logged.{Logged}
use Rattle.fst_worker.specs.declared.workers.Logged.TheVariants.{Done, OutOfSteps}
use Rattle.fst_worker.specs.Finishing.{IsLogged}
use Rattle.fst_worker.specs.Working.{IsLoggedOut, IsWholeRun}
use Rattle.fst_worker.proofs.Leasts.{least_answers}
use Rattle.fst_worker.proofs.Working.{runs}

-- what the tasks of a whole run are finished to is what the least run comes to, and a record
pub logged_out : (k : Code) (ts : List TypedTask) (steps : ℕ) → IsWholeRun k ts → suc steps < 2 ^ 32 →
    (l : Logged) → IsLogged k ts steps l → IsLoggedOut k steps l
logged_out k ts steps whole few (Done r us) h = λ d.
    let b = h (runs k d ts (whole d)) d.main refl in (
      least_answers k.module.value d.code.derivations d.code.derived d.main d.body steps (outcome.Done r) few
          (b.tasks, b.channels, b.fits, b.safe, b.last, b.few, b.report),
      b,
    )
logged_out k ts steps whole few OutOfSteps h = λ d.
    let b = h (runs k d ts (whole d)) in
    (least_answers k.module.value d.code.derivations d.code.derived d.main d.body steps outcome.OutOfSteps few b, b)
