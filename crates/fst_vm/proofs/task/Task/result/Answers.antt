use Rattle.std.proofs.Common.{◌≡◌, ◌∙◌, [], ◌∷◌, ap, sym}
use Rattle.std.proofs.lemmas.Option.{MatchOption-at_some}
use Rattle.fst_vm.proofs.TaskLaws.{value_there, value_is}
use Rattle.fst_vm.proofs.task.Task.result.Goals as goal

pub unwrap-requires : goal.unwrap-requires
unwrap-requires c =
    value_there c.args.self c.pop.result c.running.inside.stack c.pop.new.self
    (ap (λ z. z.spot.operands) (sym c.self.view_is) ∙ ap (λ z. z.operands) (sym c.running.view_is)) c.requires c.pop.ensures

pub returns : goal.returns
returns c =
    let stack = c.running.inside.stack in
    let left = c.pop.new.self in
    value_is c.args.self c.unwrap.result stack left
    (ap (λ z. z.spot.operands) (sym c.self.view_is) ∙ ap (λ z. z.operands) (sym c.running.view_is))
    (MatchOption-at_some ((stack ≡ []) × (left ≡ [])) (λ x. stack ≡ x ∷ left) c.unwrap.result c.unwrap.ensures c.pop.ensures)
