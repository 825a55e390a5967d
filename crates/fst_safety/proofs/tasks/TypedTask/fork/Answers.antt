use Rattle.std.proofs.Common.{◌∙◌, ◌+◌, subst, refl}
use Rattle.fst_safety.specs.Bags.{AreParted}
use Rattle.fst_safety.proofs.TaskNews.{fork_takes, fork_turned, forks_now}
use Rattle.fst_safety.proofs.TaskTurns.{refused}
use Rattle.fst_safety.proofs.tasks.TypedTask.fork.Goals as goal

pub child-requires : goal.child-requires
child-requires c = let f = c.requires.fits in ∣ forks_now c.args.code.now c.args.self.now c.requires.asks c.requires.clock f.0 f.1
    f.2 ∣₁

pub returns-in_default : goal.returns-in_default
returns-in_default c = refused c.args.code.now c.args.self.now _ _
    (record { task = (refl, refl, refl); made = refl; clock = refl; log = refl; bag = refl; retired = refl })

pub returns-in_default-with_capacity : goal.returns-in_default-with_capacity
returns-in_default-with_capacity c = refused c.args.code.now c.args.self.now _ _
    (record { task = (refl, refl, refl); made = refl; clock = refl; log = refl; bag = refl; retired = refl })

pub returns-in_default-room : goal.returns-in_default-room
returns-in_default-room c = refused c.args.code.now c.args.self.now _ _
    (record { task = (refl, refl, refl); made = refl; clock = refl; log = refl; bag = refl; retired = refl })

pub go_on-requires-clause-takes : goal.go_on-requires-clause-takes
go_on-requires-clause-takes c = let f = c.requires.fits in
    ∣ fork_takes c.args.code.now c.args.self.now c.requires.asks c.requires.clock f.0 f.1 f.2 ∣₁

pub returns-in_default-go_on : goal.returns-in_default-go_on
returns-in_default-go_on c = refused c.args.code.now c.args.self.now _ _ c.in_default-go_on.ensures.back

pub returns : goal.returns
returns c = λ a x f.
    let t = c.args.self.now in
    let names = c.as_slice.result.now in
    let ends = c.in-Ok-go_on.ensures.ends in
    fork_turned c.args.code.now t c.requires.asks c.requires.clock a x f c.in-Ok.task c.in-Ok.ensures.child names
    (c.as_slice.ensures.value ∙ c.in-Ok.ensures.ends) (t.clock + 1) refl c.go_on.new.self _
    c.in-Ok-go_on.ensures.on refl refl refl refl ends.1 c.part.new.theirs.items
    (subst (λ es. AreParted names es c.part.new.bag.items c.part.new.theirs.items) ends.0 c.part.ensures) _ refl refl refl
    c.new-2.ensures.items refl c.new.ensures.items
