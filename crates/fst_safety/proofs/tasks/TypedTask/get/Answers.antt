use Rattle.std.proofs.Common.{◌≡◌, ◌∙◌, subst}
use Rattle.fst_safety.specs.Threads.{count_of}
use Rattle.fst_safety.proofs.TaskTurns.{refused, receiver_stands}
use Rattle.fst_safety.proofs.tasks.TypedTask.get.Goals as goal

pub returns-in_default : goal.returns-in_default
returns-in_default c = refused c.args.code.now c.args.self.now _ _ c.in_default.ensures.same

pub unreachable-requires : goal.unreachable-requires
unreachable-requires c =
    let f = c.requires.fits in
    let t = c.args.self.now in
    let none = subst (λ es. count_of c.args.name es ≡ 0)
    (c.as_slice.ensures.value ∙ c.in-Ok.ensures.same.bag) c.in_default-place.ensures.missing in
    receiver_stands c.args.code.now f.0 t f.1 f.2 c.args.name c.requires.asks none

pub returns-in_default-longest_label : goal.returns-in_default-longest_label
returns-in_default-longest_label c = refused c.args.code.now c.args.self.now _ _ c.in-Ok.ensures.same

pub returns-in_default-with_capacity : goal.returns-in_default-with_capacity
returns-in_default-with_capacity c = refused c.args.code.now c.args.self.now _ _ c.in-Ok.ensures.same
