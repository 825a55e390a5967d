use Rattle.std.specs.declared.result.Result.TheVariants.{Ok}
use Rattle.fst_machine.specs.declared.request.Answer.TheVariants.{Got}
use Rattle.fst_machine.specs.Spots.{told_at}
use Rattle.fst_vm.specs.Running.{code_of}
use Rattle.fst_vm.proofs.RunLaws.{makes_alike}
use Rattle.fst_vm.proofs.answers.tell_ready.Goals as goal

pub returns-in-Got-clause-goes : goal.returns-in-Got-clause-goes
returns-in-Got-clause-goes c =
    let s = c.args.running.now in
    λ fs.
    let k = code_of fs c.args.code.now in
    makes_alike (λ z. told_at k z (Got c.in-Got.event))
    (λ z. told_at k z c.args.answer.now) s c.tell_got.new.running (Ok c.tell_got.result)
    (λ i. told_at k s (c.in-Got.is i)) (c.tell_got.ensures fs)
