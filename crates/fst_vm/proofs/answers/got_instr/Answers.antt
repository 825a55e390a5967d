use Rattle.std.specs.declared.result.Result.TheVariants.{Ok}
use Rattle.fst_machine.specs.declared.code.Instr.TheVariants as does
use Rattle.fst_machine.specs.declared.request.Answer.TheVariants.{Got}
use Rattle.fst_machine.specs.Spots.{told}
use Rattle.fst_vm.proofs.RunLaws.{makes_alike}
use Rattle.fst_vm.proofs.answers.got_instr.Goals as goal

pub returns-in-Receive : goal.returns-in-Receive
returns-in-Receive c =
    let s = c.args.running.now in
    let j = c.args.behind in
    let got = Got c.args.event.now in
    λ k.
    makes_alike (λ z. told k does.Receive j z z.operands got)
    (λ z. told k c.args.instr.now j z z.operands got) s c.go_on_with_spare.new.running
    (Ok c.go_on_with_spare.result) (λ i. told k (c.in-Receive.is i) j s s.operands got) (c.go_on_with_spare.ensures k)

pub returns-in-Wait : goal.returns-in-Wait
returns-in-Wait c =
    let s = c.args.running.now in
    let j = c.args.behind in
    let got = Got c.args.event.now in
    λ k.
    makes_alike (λ z. told k does.Wait j z z.operands got)
    (λ z. told k c.args.instr.now j z z.operands got) s c.go_on_awaited.new.running
    (Ok c.go_on_awaited.result) (λ i. told k (c.in-Wait.is i) j s s.operands got) (c.go_on_awaited.ensures k)
