use Rattle.std.proofs.Common.{◌≤◌, ◌<◌, length, refl, subst, arith}
use Rattle.fst_machine.specs.Spots.{Spot}
use Rattle.fst_vm.proofs.TellLaws.{at_spot, given_few, given_many}
use Rattle.fst_vm.proofs.answers.go_on_with.Goals as goal

pub returns-then-len-count : goal.returns-then-len-count
returns-then-len-count c =
    let few : length c.running.inside.stack < c.args.count = omega (arith, c.len.ensures, c.if-len-count.true) in (
      given_few c.args.behind c.args.count c.args.value c.args.running.now
          (subst (λ (s : Spot). length s.operands < c.args.count) c.running.view_is few),
      refl,
    )

pub returns : goal.returns
returns c =
    let i = c.running.inside in
    let many : c.args.count ≤ length i.stack = omega (arith, c.len.ensures, c.if-len-count.false) in
    given_many c.args.behind c.args.count c.args.value
    (at_spot i.place i.slots i.stack i.calls.items) c.args.running.now c.replace.new.self c.running.view_is many
    c.in_ok-replace.ensures.replaced
