use Rattle.std.proofs.Common.{◌∙◌}
use Rattle.std.specs.declared.result.Result.TheVariants.{Ok}
use Rattle.fst_machine.specs.declared.code.Instr.TheVariants as does
use Rattle.fst_machine.specs.declared.request.Answer.TheVariants.{Go, Got, Sent}
use Rattle.fst_machine.specs.Spots.{told}
use Rattle.fst_vm.specs.Moves.{given_for}
use Rattle.fst_vm.specs.Running.{code_of}
use Rattle.fst_vm.proofs.RunLaws.{makes_alike}
use Rattle.fst_vm.proofs.TellLaws.{fork_given}
use Rattle.fst_vm.proofs.answers.tell_instr.Goals as goal

pub returns-in-Call-Go : goal.returns-in-Call-Go
returns-in-Call-Go c =
    let s = c.args.running.now in
    let j = c.args.behind in
    λ fs.
    let k = code_of fs c.args.code.now in
    makes_alike (λ z. told k does.Call j z z.operands Go)
    (λ z. told k c.args.instr.now j z z.operands c.args.answer.now) s c.go_into_function.new.running c.go_into_function.result
    (λ i. told k (c.in-Call-Go.is-0 i) j s s.operands (c.in-Call-Go.is-1 i)) (c.go_into_function.ensures fs)

pub returns-in-Global-Go : goal.returns-in-Global-Go
returns-in-Global-Go c =
    let s = c.args.running.now in
    let j = c.args.behind in
    λ fs.
    let k = code_of fs c.args.code.now in
    makes_alike (λ z. told k (does.Global c.in-Global-Go.global) j z z.operands Go)
    (λ z. told k c.args.instr.now j z z.operands c.args.answer.now) s c.go_into_global.new.running
    c.go_into_global.result (λ i. told k (c.in-Global-Go.is-0 i) j s s.operands (c.in-Global-Go.is-1 i))
    (c.go_into_global.ensures fs)

pub returns-in_ok-unit-in-Fork-Forked : goal.returns-in_ok-unit-in-Fork-Forked
returns-in_ok-unit-in-Fork-Forked c =
    let s = c.args.running.now in
    let j = c.args.behind in
    λ fs.
    let k = code_of fs c.args.code.now in
    makes_alike (given_for j c.captured_count.result c.in_ok-unit-in-Fork-Forked.field-0)
    (λ z. told k c.args.instr.now j z z.operands c.args.answer.now) s
    c.go_on_with-in-Fork-Forked.new.running c.go_on_with-in-Fork-Forked.result
    ((λ i. told k (c.in-Fork-Forked.is-0 i) j s s.operands (c.in-Fork-Forked.is-1 i))
    ∙ fork_given k c.in-Fork-Forked.lambda j c.captured_count.result c.in_ok-unit-in-Fork-Forked.field-0 s
    c.captured_count.ensures c.in_ok-unit-in-Fork-Forked.ensures)
    c.go_on_with-in-Fork-Forked.ensures

pub returns-in-Send-Sent : goal.returns-in-Send-Sent
returns-in-Send-Sent c =
    let s = c.args.running.now in
    let j = c.args.behind in
    λ fs.
    let k = code_of fs c.args.code.now in
    makes_alike (λ z. told k does.Send j z z.operands Sent)
    (λ z. told k c.args.instr.now j z z.operands c.args.answer.now) s c.go_on_with_end.new.running
    (Ok c.go_on_with_end.result)
    (λ i. told k (c.in-Send-Sent.is-0 i) j s s.operands (c.in-Send-Sent.is-1 i)) (c.go_on_with_end.ensures k)

pub returns-in-Close-Sent : goal.returns-in-Close-Sent
returns-in-Close-Sent c =
    let s = c.args.running.now in
    let j = c.args.behind in
    λ fs.
    let k = code_of fs c.args.code.now in
    makes_alike (λ z. told k does.Close j z z.operands Sent)
    (λ z. told k c.args.instr.now j z z.operands c.args.answer.now) s c.go_on_closed.new.running
    (Ok c.go_on_closed.result)
    (λ i. told k (c.in-Close-Sent.is-0 i) j s s.operands (c.in-Close-Sent.is-1 i)) (c.go_on_closed.ensures k)

pub returns-in-Select-Sent : goal.returns-in-Select-Sent
returns-in-Select-Sent c =
    let s = c.args.running.now in
    let j = c.args.behind in
    λ fs.
    let k = code_of fs c.args.code.now in
    makes_alike (λ z. told k (does.Select c.in-Select-Sent.field-0-0) j z z.operands Sent)
    (λ z. told k c.args.instr.now j z z.operands c.args.answer.now) s c.go_on_selected.new.running
    (Ok c.go_on_selected.result)
    (λ i. told k (c.in-Select-Sent.is-0 i) j s s.operands (c.in-Select-Sent.is-1 i))
    (c.go_on_selected.ensures k c.in-Select-Sent.field-0-0)

pub returns-in-Receive-Got : goal.returns-in-Receive-Got
returns-in-Receive-Got c =
    let s = c.args.running.now in
    let j = c.args.behind in
    λ fs.
    let k = code_of fs c.args.code.now in
    makes_alike (λ z. told k does.Receive j z z.operands (Got c.in-Receive-Got.event))
    (λ z. told k c.args.instr.now j z z.operands c.args.answer.now) s c.go_on_received.new.running
    c.go_on_received.result (λ i. told k (c.in-Receive-Got.is-0 i) j s s.operands (c.in-Receive-Got.is-1 i))
    (c.go_on_received.ensures k)

pub returns-in-Wait-Got : goal.returns-in-Wait-Got
returns-in-Wait-Got c =
    let s = c.args.running.now in
    let j = c.args.behind in
    λ fs.
    let k = code_of fs c.args.code.now in
    makes_alike (λ z. told k does.Wait j z z.operands (Got c.in-Wait-Got.event))
    (λ z. told k c.args.instr.now j z z.operands c.args.answer.now) s c.go_on_awaited.new.running
    (Ok c.go_on_awaited.result) (λ i. told k (c.in-Wait-Got.is-0 i) j s s.operands (c.in-Wait-Got.is-1 i))
    (c.go_on_awaited.ensures k)
