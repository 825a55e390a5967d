use Rattle.std.specs.Prelude.{reverse}
use Rattle.std.proofs.Common.{◌∙◌, [], refl, ap, sym}
use Rattle.fst_machine.specs.Spots.{around, called}
use Rattle.fst_vm.specs.Running.{code_of}
use Rattle.fst_vm.proofs.TellLaws.{global_called}
use Rattle.fst_vm.proofs.answers.go_into_global.Goals as goal

pub returns-in_ok-reserve-in-Some : goal.returns-in_ok-reserve-in-Some
returns-in_ok-reserve-in-Some c =
    let i = c.running.inside in
    λ fs.
    global_called (code_of fs c.args.code.now) c.args.global i.place c.args.behind c.in-Some.start c.leads_back.result i.slots
    c.call.new.slots i.stack i.calls.items c.call.new.calls.items c.args.running.now c.running.view_is c.in-Some.ensures
    (c.call.ensures.slots ∙ c.new.ensures) (c.leads_back.ensures fs) (c.call.ensures.calls ∙ ap (λ ks. around c.leads_back.result
    (record { place = c.args.behind; slots = i.slots }) (reverse ks)) c.in_ok-reserve-in-Some.ensures.items)

pub returns-in-None : goal.returns-in-None
returns-in-None c =
    let s = c.args.running.now in
    λ fs. (ap (λ q. called (code_of fs c.args.code.now) q [] c.args.behind s.operands s) (sym c.in-None.ensures), refl)
