use Rattle.std.proofs.Common.{◌∙◌, ◌+◌, refl, arith}
use Rattle.fst_safety.specs.Tasks.{AreNew}
use Rattle.fst_safety.proofs.TaskNews.{declarable, made_takes, made_turned}
use Rattle.fst_safety.proofs.TaskTurns.{refused}
use Rattle.fst_safety.proofs.tasks.TypedTask.make.Goals as goal

pub returns-in_default : goal.returns-in_default
returns-in_default c =
    refused c.args.code.now c.args.self.now _ _ (record
    { task = (refl, refl, refl); made = refl; clock = refl; log = refl; bag = c.reserve.ensures.items; retired = refl })

pub returns-in_default-reserve : goal.returns-in_default-reserve
returns-in_default-reserve c =
    refused c.args.code.now c.args.self.now _ _ (record {
      task = (refl, refl, refl);
      made = refl;
      clock = refl;
      log = refl;
      bag = c.reserve.ensures.items;
      retired =
          c.reserve-2.ensures.items;
    })

pub fresh-requires-clause-declarable : goal.fresh-requires-clause-declarable
fresh-requires-clause-declarable c = let f = c.requires.fits in
    declarable c.args.code.now f.0 c.args.self.now f.1 f.2 c.args.number c.requires.asks

pub returns-in_default-fresh : goal.returns-in_default-fresh
returns-in_default-fresh c =
    refused c.args.code.now c.args.self.now _ _ (record {
      task = (refl, refl, refl);
      made = refl;
      clock = refl;
      log = refl;
      bag = c.reserve.ensures.items;
      retired =
          c.reserve-2.ensures.items;
    })

pub go_on-requires-clause-takes : goal.go_on-requires-clause-takes
go_on-requires-clause-takes c =
    let f = c.requires.fits in
    let t = c.args.self.now in
    let n = c.in-Ok-fresh.ensures in
    let new : AreNew c.args.code.now t c.args.number c.in-Ok-fresh.name c.in-Ok-fresh.again c.in-Ok-fresh.left
    c.in-Ok-fresh.right =
    record { declared = n.declared; is = n.is; named = n.named; same = n.same; left = n.left; right = n.right } in
    ∣ made_takes c.args.code.now t c.args.number c.requires.asks c.in-Ok-fresh.name c.in-Ok-fresh.again c.in-Ok-fresh.left
    c.in-Ok-fresh.right new f.0 f.1 f.2 (t.clock + 1) refl ∣₁

pub returns-in_default-go_on : goal.returns-in_default-go_on
returns-in_default-go_on c =
    let s = c.in_default-go_on.ensures.back in
    refused c.args.code.now c.args.self.now _ _
    (record {
      task = s.task;
      made = s.made;
      clock = s.clock;
      log = s.log;
      bag = s.bag ∙ c.reserve.ensures.items;
      retired =
          s.retired ∙ c.reserve-2.ensures.items;
    })

pub returns : goal.returns
returns c = λ a x f.
    let t = c.args.self.now in
    let n = c.in-Ok-fresh.ensures in
    let on = c.in-Ok-go_on.ensures.on in
    let ends = c.in-Ok-go_on.ensures.ends in
    let new : AreNew c.args.code.now t c.args.number c.in-Ok-fresh.name c.in-Ok-fresh.again c.in-Ok-fresh.left
    c.in-Ok-fresh.right =
    record { declared = n.declared; is = n.is; named = n.named; same = n.same; left = n.left; right = n.right } in
    made_turned c.args.code.now t c.args.number c.requires.asks c.in-Ok-fresh.name c.in-Ok-fresh.again c.in-Ok-fresh.left
    c.in-Ok-fresh.right new a x f (t.clock + 1) refl c.go_on.new.self _
    c.put_back.new.bag.items c.put_back.new.retired.items
    (record { task = on.task; made = on.made; clock = on.clock; log = on.log }) refl (omega (arith, on.made)) refl refl
    (ends.0 ∙ c.reserve.ensures.items) (ends.1 ∙ c.reserve-2.ensures.items) c.put_back.ensures.put c.put_back-2.ensures.put
