use Rattle.std.proofs.Common.{◌∙◌, ◌∷◌, [], ◌++◌, suc, false, refl, ap, sym}
use Rattle.std.proofs.Math.Logic.{∥∥₁_map}
use Rattle.fst_machine.specs.Spots.{child_at}
use Rattle.fst_vm.specs.Running.{code_of}
use Rattle.fst_vm.proofs.TaskLaws.{few_forked, rests_where, child_there, child_made}
use Rattle.fst_vm.proofs.task.Task.child.Goals as goal

pub unwrap-running-requires : goal.unwrap-running-requires
unwrap-running-requires c =
    let k = c.args.code.now in
    child_there k c.args.self.now c.in_ok-child_at.field-0
    (λ fs. c.in_ok-child_at.ensures fs ∙ ap (λ z. child_at (code_of fs k) z.spot) c.self.view_is) c.requires

pub returns-clause-child : goal.returns-clause-child
returns-clause-child c =
    let k = c.args.code.now in
    child_made k c.args.self.now (record { path = c.in_ok-path.path; forked = 0; spot = c.unwrap-running.result; ready = false })
    (c.in_ok-path.ensures ∙ ap (λ z. z.path ++ suc z.forked ∷ []) c.self.view_is) refl refl
    (λ fs. sym c.unwrap-running.ensures ∙ c.in_ok-child_at.ensures fs ∙ ap (λ z. child_at (code_of fs k) z.spot) c.self.view_is)
    (rests_where k c.args.self.now (∥∥₁_map c.requires (λ f. f.rests)))

pub child_path-requires : goal.child_path-requires
child_path-requires c = few_forked c.args.code.now c.args.self.now c.self.inside.forked
    (ap (λ z. z.forked) c.self.view_is) c.requires
