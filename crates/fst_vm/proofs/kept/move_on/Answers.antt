use Rattle.std.proofs.Common.{◌≡◌, ◌∙◌, ◌+◌, suc, max, arith, ap}
use Rattle.fst_vm.proofs.kept.move_on.Goals as goal

pub returns : goal.returns
returns c =
    let one : c.args.slot.now.clock + 1 ≡ suc c.args.slot.now.clock = omega arith in
    record {
      task = c.resume.new.task;
      goes_on = c.in_ok-resume.ensures;
      stays = c.advance.ensures.stays;
      asked = c.in_ok-slot.ensures.asked;
      rests = c.in_ok-slot.ensures.rests;
      clock = c.max-slot.ensures ∙ ap (λ n. max n c.args.least) one;
    }
