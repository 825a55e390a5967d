use Rattle.std.proofs.Common.{◌∙◌, ap}
use Rattle.fst_machine.specs.Spots.{asked_at}
use Rattle.fst_vm.specs.Running.{code_of}
use Rattle.fst_vm.specs.TaskView.{TaskView}
use Rattle.fst_vm.proofs.TaskLaws.{asks_for, request_there}
use Rattle.fst_vm.proofs.task.Task.advance.Goals as goal

pub unwrap-requires : goal.unwrap-requires
unwrap-requires c =
    let k = c.args.code.now in
    request_there k c.args.self.now c.run_on.new.self c.in_ok-request.request c.run_on.ensures.stays c.in_ok-run_on.ensures.rests
    (λ fs. c.in_ok-request.ensures fs ∙ ap (λ (t : TaskView). asked_at (code_of fs k) t.spot) c.self.view_is) c.requires

pub returns-clause-asked : goal.returns-clause-asked
returns-clause-asked c =
    let k = c.args.code.now in
    λ m s h g. asks_for k c.args.self.now c.run_on.new.self c.in_ok-request.request c.run_on.ensures.stays
    c.in_ok-run_on.ensures.rests
    (λ fs. c.in_ok-request.ensures fs ∙ ap (λ (t : TaskView). asked_at (code_of fs k) t.spot) c.self.view_is) m s h g
    ∙ c.unwrap.ensures
