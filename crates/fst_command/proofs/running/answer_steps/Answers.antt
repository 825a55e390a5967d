use Rattle.std.proofs.Common.{map}
use Rattle.fst_derivations.specs.Deriv.{deriv_of}
use Rattle.fst_command.specs.Output.{SaysOutcome}
use Rattle.fst_command.specs.Views.{shown_as}
use Rattle.fst_command.proofs.CheckLaws.{accepted_found, refused_found}
use Rattle.fst_command.proofs.running.answer_steps.Goals as goal

pub returns-in-Ok-clause-found : goal.returns-in-Ok-clause-found
returns-in-Ok-clause-found g c =
    accepted_found (SaysOutcome (shown_as c.args.form) c.args.options.events c.args.options.steps c.args.m.now) c.args.bytes.now
    c.args.m.now c.args.options.budget (map deriv_of c.in-Ok.accepted.derivations.items)
    c.answer_outcome.result c.in-Ok.ensures.accepted c.answer_outcome.ensures.outcome

pub returns-in-Err-clause-found : goal.returns-in-Err-clause-found
returns-in-Err-clause-found g c =
    let text = rw c.deref.ensures.value at c.answer_refusal.ensures.text in
    let status = rw c.deref.ensures.value at c.answer_refusal.ensures.status in
    refused_found (SaysOutcome (shown_as c.args.form) c.args.options.events c.args.options.steps c.args.m.now) c.args.bytes.now
    c.args.m.now c.args.options.budget c.in-Err.fault c.answer_refusal.result
    c.in-Err.ensures.refused c.answer_refusal.ensures.some text status
