use Rattle.std.proofs.Common.{map}
use Rattle.fst_derivations.specs.Deriv.{deriv_of}
use Rattle.fst_command.specs.Output.{SaysBuffered}
use Rattle.fst_command.proofs.CheckLaws.{accepted_found, refused_found}
use Rattle.fst_command.proofs.buffering.answer_steps.Goals as goal

pub returns-in-Ok-clause-found : goal.returns-in-Ok-clause-found
returns-in-Ok-clause-found c =
    accepted_found (SaysBuffered c.args.options.capacity c.args.options.steps c.args.m.now) c.args.bytes.now c.args.m.now
    c.args.options.budget (map deriv_of c.in-Ok.accepted.derivations.items)
    c.answer_outcome.result c.in-Ok.ensures.accepted c.answer_outcome.ensures.outcome

pub returns-in-Err-clause-found : goal.returns-in-Err-clause-found
returns-in-Err-clause-found c =
    let text = rw c.deref.ensures.value at c.answer_refusal.ensures.text in
    let status = rw c.deref.ensures.value at c.answer_refusal.ensures.status in
    refused_found (SaysBuffered c.args.options.capacity c.args.options.steps c.args.m.now) c.args.bytes.now c.args.m.now
    c.args.options.budget c.in-Err.fault c.answer_refusal.result
    c.in-Err.ensures.refused c.answer_refusal.ensures.some text status
