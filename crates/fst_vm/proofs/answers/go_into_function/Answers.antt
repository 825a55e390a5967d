use Rattle.std.specs.Prelude.{reverse}
use Rattle.std.proofs.Common.{◌≡◌, ◌∙◌, Some, refl, ap}
use Rattle.fst_value.specs.Stacks.{applied}
use Rattle.fst_machine.specs.Spots.{around, spread}
use Rattle.fst_vm.specs.Moves.{entry_below, trees_of}
use Rattle.fst_vm.specs.Running.{code_of}
use Rattle.fst_vm.proofs.TellLaws.{function_called, no_function}
use Rattle.fst_vm.proofs.answers.go_into_function.Goals as goal

pub returns-in-None : goal.returns-in-None
returns-in-None c =
    let s = c.args.running.now in
    λ fs.
    let k = code_of fs c.args.code.now in
    (no_function k c.args.behind s s.operands (c.in-None.ensures fs ∙ ap (λ z. entry_below k z.operands) c.running.view_is), refl)

pub returns-in-Some-2 : goal.returns-in-Some-2
returns-in-Some-2 c =
    let i = c.running.inside in
    let e = c.in-Some.entry.now in
    let captured = c.in-Some-2.captured.items in
    let taken : applied i.stack ≡ Some (captured, c.take_function.new.self) = rw c.in-Some-2.is at c.in_ok-captured.ensures in
    λ fs.
    function_called (code_of fs c.args.code.now) i.place c.args.behind c.leads_back.result i.slots c.call.new.slots i.stack
    c.take_function.new.self i.calls.items c.call.new.calls.items c.args.running.now e captured c.running.view_is
    (c.in-Some.ensures fs) taken
    (c.call.ensures.slots ∙ c.spread-own.ensures ∙ ap (λ ks. spread ks (trees_of captured)) c.deref-in-Some-2.ensures.value)
    (c.leads_back.ensures fs) (c.call.ensures.calls ∙ ap (λ ks. around c.leads_back.result
    (record { place = c.args.behind; slots = i.slots }) (reverse ks)) c.in_ok-reserve.ensures.items)
