use Rattle.std.proofs.Common.{◌≡◌, ◌∙◌, false, length, refl, arith}
use Rattle.fst_machine.specs.Spots.{begins_at}
use Rattle.fst_vm.proofs.TaskLaws.{main_begins}
use Rattle.fst_vm.proofs.task.Task.start.Goals as goal

pub returns : goal.returns
returns c =
    let n : c.len.result ≡ length c.args.code.now.code.items = omega (arith, c.len.ensures, c.args.code.now.code.ok) in
    main_begins c.args.code.now (record { path = c.in_ok-path.path; forked = 0; spot = c.at-running.result; ready = false })
    c.in_ok-path.ensures refl refl
    (c.at-running.ensures ∙ (λ i. begins_at (n i) (c.new.ensures i)))
