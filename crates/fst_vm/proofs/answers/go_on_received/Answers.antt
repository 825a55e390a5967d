use Rattle.std.proofs.Common.{◌≡◌, ◌∙◌, Some, ap}
use Rattle.std.specs.Prelude.{option_map}
use Rattle.fst_value.specs.ValueTree.{end}
use Rattle.fst_machine.specs.declared.code.Instr.TheVariants as does
use Rattle.fst_machine.specs.declared.request.Answer.TheVariants.{Got}
use Rattle.fst_machine.specs.Spots.{told}
use Rattle.fst_vm.specs.Moves.{end_on, given_for}
use Rattle.fst_vm.proofs.RunLaws.{makes_alike}
use Rattle.fst_vm.proofs.TellLaws.{received_given}
use Rattle.fst_vm.proofs.answers.go_on_received.Goals as goal

pub returns-in_ok-both-in-Some-2 : goal.returns-in_ok-both-in-Some-2
returns-in_ok-both-in-Some-2 c =
    let s = c.args.running.now in
    let both = c.in_ok-both-in-Some-2.both in
    let last : Some c.in_ok-end-in-Some.end ≡ option_map (λ x. end x) (end_on s.operands) =
    ap Some c.in_ok-end-in-Some.ensures ∙ c.in-Some.ensures ∙ ap
    (λ z. option_map (λ x. end x) (end_on z.operands)) c.running.view_is
    in
    λ k.
    makes_alike (given_for c.args.behind 1 both)
    (λ z. told k does.Receive c.args.behind z z.operands (Got c.args.event.now)) s c.go_on_with.new.running c.go_on_with.result
    (received_given k c.args.behind s s.operands c.args.event.now c.in-Some-2.value c.in_ok-end-in-Some.end both last
    (rw c.in-Some-2.is at c.in_ok-value.ensures) c.in_ok-both-in-Some-2.ensures) c.go_on_with.ensures
