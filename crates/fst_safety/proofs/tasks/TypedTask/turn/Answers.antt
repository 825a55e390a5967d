use Rattle.std.proofs.Common.{subst}
use Rattle.fst_machine.specs.declared.request.Request.TheVariants.{Step, New, Fork, Put, Get, Ended}
use Rattle.fst_vm.specs.Tasks.{AsksFor}
use Rattle.fst_safety.proofs.Keeping.{has_next}
use Rattle.fst_safety.proofs.TaskTurns.{advanced, advance_refused, asks_still, ended_turned}
use Rattle.fst_safety.proofs.tasks.TypedTask.turn.Goals as goal

pub advance-requires : goal.advance-requires
advance-requires c = let f = c.requires.fits in ∣ has_next c.args.code.now f.0 c.args.self.now f.1 f.2 ∣₁

pub returns-in_default : goal.returns-in_default
returns-in_default c = advance_refused c.args.code.now c.args.self.now c.advance.new.self _ c.advance.ensures.stays

pub step-requires-clause-asks : goal.step-requires-clause-asks
step-requires-clause-asks c =
    let t = c.args.self.now in
    let k = c.args.code.now in
    asks_still k t c.advance.new.self Step c.requires.fits c.advance.ensures.stays
    (subst (AsksFor k t.task) c.in-Step.is c.in-Ok.ensures.asked) c.in-Ok.ensures.rests

pub make-requires-clause-asks : goal.make-requires-clause-asks
make-requires-clause-asks c =
    let t = c.args.self.now in
    let k = c.args.code.now in
    asks_still k t c.advance.new.self (New c.in-New.number) c.requires.fits c.advance.ensures.stays
    (subst (AsksFor k t.task) c.in-New.is c.in-Ok.ensures.asked) c.in-Ok.ensures.rests

pub fork-requires-clause-asks : goal.fork-requires-clause-asks
fork-requires-clause-asks c =
    let t = c.args.self.now in
    let k = c.args.code.now in
    asks_still k t c.advance.new.self Fork c.requires.fits c.advance.ensures.stays
    (subst (AsksFor k t.task) c.in-Fork.is c.in-Ok.ensures.asked) c.in-Ok.ensures.rests

pub put-requires-clause-asks : goal.put-requires-clause-asks
put-requires-clause-asks c =
    let t = c.args.self.now in
    let k = c.args.code.now in
    asks_still k t c.advance.new.self (Put c.in-Put.name c.in-Put.event) c.requires.fits c.advance.ensures.stays
    (subst (AsksFor k t.task) c.in-Put.is c.in-Ok.ensures.asked) c.in-Ok.ensures.rests

pub get-requires-clause-asks : goal.get-requires-clause-asks
get-requires-clause-asks c =
    let t = c.args.self.now in
    let k = c.args.code.now in
    asks_still k t c.advance.new.self (Get c.in-Get.name) c.requires.fits c.advance.ensures.stays
    (subst (AsksFor k t.task) c.in-Get.is c.in-Ok.ensures.asked) c.in-Ok.ensures.rests

pub returns-in-Ended : goal.returns-in-Ended
returns-in-Ended c =
    let t = c.args.self.now in
    let k = c.args.code.now in
    let v = c.advance.new.self in
    advanced k t v _ _ c.advance.ensures.stays
    (ended_turned k (record t { task = v }) (asks_still k t v Ended c.requires.fits c.advance.ensures.stays
    (subst (AsksFor k t.task) c.in-Ended.is c.in-Ok.ensures.asked) c.in-Ok.ensures.rests))
