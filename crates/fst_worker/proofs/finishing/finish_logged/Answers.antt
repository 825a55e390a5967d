use Rattle.std.proofs.Common.{subst}
use Rattle.fst_process.specs.KeptOf.{kept_of}
use Rattle.fst_process.specs.Marks.{IsMarkedOutcomeFrom}
use Rattle.fst_worker.specs.Finishing.{IsSettled}
use Rattle.fst_worker.proofs.Finished.{can_run}
use Rattle.fst_worker.proofs.Marked.{few_forks, is_more, is_marked}
use Rattle.fst_worker.proofs.finishing.finish_logged.Goals as goal

pub returns-in_default : goal.returns-in_default
returns-in_default c = λ d.
    subst (IsSettled c.args.code.now c.args.tasks.items c.args.steps) c.in_default.is c.in_ok-settled.ensures d

pub run_marked-requires-clause-right : goal.run_marked-requires-clause-right
run_marked-requires-clause-right c =
    let k = c.args.code.now in
    let d = c.requires.run in
    let h = subst (IsSettled k c.args.tasks.items c.args.steps) c.in-Some.is c.in_ok-settled.ensures d in
    ∣ can_run k d.main c.args.steps c.in-Some.settled h ∣₁

pub marks_of-requires : goal.marks_of-requires
marks_of-requires c =
    let k = c.args.code.now in
    let d = c.requires.run in
    let h = subst (IsSettled k c.args.tasks.items c.args.steps) c.in-Some.is c.in_ok-settled.ensures d in
    few_forks k d.main c.args.steps c.in-Some.settled h d.begins c.requires.few

pub returns-in_ok-marks-in-Done : goal.returns-in_ok-marks-in-Done
returns-in_ok-marks-in-Done c = λ d e begins.
    let k = c.args.code.now in
    let steps = c.args.steps in
    let s = c.in-Some.settled in
    let more = c.in_ok-outcome.more.items in
    let h = subst (IsSettled k c.args.tasks.items steps) c.in-Some.is c.in_ok-settled.ensures d in
    let out = subst (λ o. IsMarkedOutcomeFrom k s.config.events steps (kept_of s.config) o more) c.in-Done.is
    c.in_ok-outcome.ensures in
    is_marked k d.main steps s h d.begins c.requires.few c.in-Done.report c.in_ok-first-in-Done.first.items more
    c.in_ok-marks-in-Done.marks.items c.in_ok-first-in-Done.ensures out c.in_ok-marks-in-Done.ensures e begins

pub returns-in-OutOfSteps : goal.returns-in-OutOfSteps
returns-in-OutOfSteps c = λ d.
    let k = c.args.code.now in
    let steps = c.args.steps in
    let s = c.in-Some.settled in
    let more = c.in_ok-outcome.more.items in
    let h = subst (IsSettled k c.args.tasks.items steps) c.in-Some.is c.in_ok-settled.ensures d in
    is_more k d.main steps s h d.begins c.requires.few more
    (subst (λ o. IsMarkedOutcomeFrom k s.config.events steps (kept_of s.config) o more) c.in-OutOfSteps.is
    c.in_ok-outcome.ensures)
