use Rattle.std.proofs.Common.{◌∙◌, ◌++◌, [], ◌∷◌, sym, ap, subst}
use Rattle.fst_worker.specs.Working.{AreAtWork}
use Rattle.fst_worker.proofs.Working.{begins}
use Rattle.fst_worker.proofs.workers.first_task.Goals as goal

pub returns : goal.returns
returns c = λ d.
    let k = c.args.code.now in
    let t = c.in_ok-start.field-0 in
    let pushed = c.in_ok-push.ensures.items ∙ ap (λ ts. ts ++ t ∷ []) c.new-tasks.ensures.items in
    subst (AreAtWork k d) (sym pushed) (begins k d t c.in_ok-start.ensures)
