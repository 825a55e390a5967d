use Rattle.std.proofs.Common.{◌∙◌, [], refl, sym, ap}
use Rattle.std.proofs.Math.Logic.{∥∥₁_map}
use Rattle.fst_vm.specs.Moves.{spare_for}
use Rattle.fst_vm.proofs.TaskLaws.{few_answered, rests_where, goes_on}
use Rattle.fst_vm.proofs.task.Task.resume.Goals as goal

pub returns-in-Err-clause-back : goal.returns-in-Err-clause-back
returns-in-Err-clause-back c = (
  refl,
  (λ i. record {
    path = c.self.inside.path;
    forked = c.self.inside.forked;
    spot = c.in-Err.ensures.goes [] i;
    ready =
        c.self.inside.ready;
  }) ∙ c.self.view_is,
)

pub returns-clause-goes_on : goal.returns-clause-goes_on
returns-clause-goes_on c =
    goes_on c.args.code.now c.self.inside.path c.self.inside.forked c.forked_after-self-inside.result c.self.inside.running
    c.tell_ready.new.running c.self.inside.ready c.args.self.now c.args.answer c.in-Ok.field-0
    c.self.view_is c.forked_after-self-inside.ensures
    (rests_where c.args.code.now c.args.self.now (∥∥₁_map c.requires (λ f. f.rests))) c.in-Ok.ensures.goes

pub forked_after-self-inside-requires : goal.forked_after-self-inside-requires
forked_after-self-inside-requires c =
    few_answered c.args.code.now c.args.self.now c.args.answer c.self.inside.forked (ap (λ z. z.forked) c.self.view_is) c.requires

pub invariant_of-self : goal.invariant_of-self
invariant_of-self c = λ is. c.in-Err.ensures.kept ∙ c.self.invariant is ∙ ap
    (λ z. spare_for z.operands) (sym (c.in-Err.ensures.goes []))
