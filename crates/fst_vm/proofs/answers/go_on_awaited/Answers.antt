use Rattle.std.proofs.Common.{◌∙◌}
use Rattle.std.specs.declared.result.Result.TheVariants.{Ok}
use Rattle.fst_machine.specs.declared.code.Instr.TheVariants as does
use Rattle.fst_machine.specs.declared.request.Answer.TheVariants.{Got, Sent}
use Rattle.fst_machine.specs.Spots.{told}
use Rattle.fst_vm.proofs.RunLaws.{makes_alike}
use Rattle.fst_vm.proofs.TellLaws.{awaited_as_closed}
use Rattle.fst_vm.proofs.answers.go_on_awaited.Goals as goal

pub returns-in-Closed : goal.returns-in-Closed
returns-in-Closed c =
    let s = c.args.running.now in
    let j = c.args.behind in
    λ k.
    makes_alike (λ z. told k does.Close j z z.operands Sent)
    (λ z. told k does.Wait j z z.operands (Got c.args.event.now)) s c.go_on_closed.new.running (Ok c.go_on_closed.result)
    ((λ i. told k does.Wait j s s.operands (Got (c.in-Closed.is i))) ∙ awaited_as_closed k j s s.operands)
    (c.go_on_closed.ensures k)
