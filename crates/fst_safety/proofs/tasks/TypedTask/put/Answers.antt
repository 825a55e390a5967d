use Rattle.std.proofs.Common.{◌≡◌, ◌∙◌, subst}
use Rattle.fst_safety.specs.Threads.{count_of}
use Rattle.fst_safety.proofs.TaskTurns.{refused, sender_stands}
use Rattle.fst_safety.proofs.tasks.TypedTask.put.Goals as goal

pub returns-in_default : goal.returns-in_default
returns-in_default c = refused c.args.code.now c.args.self.now _ _ c.in_default.ensures.same

pub unreachable-requires : goal.unreachable-requires
unreachable-requires c =
    let f = c.requires.fits in
    let t = c.args.self.now in
    let none = subst (λ es. count_of c.args.name es ≡ 0)
    (c.as_slice.ensures.value ∙ c.in-Ok.ensures.same.bag) c.in_default-place.ensures.missing in
    sender_stands c.args.code.now f.0 t f.1 f.2 c.args.name c.args.event c.requires.asks none
