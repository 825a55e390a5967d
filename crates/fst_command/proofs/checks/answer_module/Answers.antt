use Rattle.std.proofs.Common.{map}
use Rattle.fst_derivations.specs.Deriv.{deriv_of}
use Rattle.fst_command.specs.Output.{SaysAccepted}
use Rattle.fst_command.proofs.CheckLaws.{accepted_found, says_accepted, refused_found}
use Rattle.fst_command.proofs.checks.answer_module.Goals as goal

pub returns-in-Ok-clause-found : goal.returns-in-Ok-clause-found
returns-in-Ok-clause-found c =
    accepted_found (SaysAccepted c.args.m.now) c.args.bytes.now c.args.m.now c.args.budget
    (map deriv_of c.in-Ok.field-0.derivations.items) c.fixed.result
    c.in-Ok.ensures.accepted (says_accepted c.args.m.now c.fixed.result c.fixed.ensures.text c.fixed.ensures.status)

pub returns-clause-found : goal.returns-clause-found
returns-clause-found c =
    let text = rw c.deref.ensures.value at c.answer_refusal.ensures.text in
    let status = rw c.deref.ensures.value at c.answer_refusal.ensures.status in
    refused_found (SaysAccepted c.args.m.now) c.args.bytes.now c.args.m.now c.args.budget c.in-Err.fault c.answer_refusal.result
    c.in-Err.ensures.refused
    c.answer_refusal.ensures.some text status
