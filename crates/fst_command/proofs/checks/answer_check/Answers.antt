use Rattle.fst_command.specs.Finding.{AreUnresolved}
use Rattle.fst_command.specs.Output.{FindsModule, SaysAccepted}
use Rattle.fst_command.proofs.OutputLaws.{fault_output}
use Rattle.fst_command.proofs.CheckLaws.{found_output}
use Rattle.fst_command.proofs.checks.answer_check.Goals as goal

pub returns-in-Ok-clause-text : goal.returns-in-Ok-clause-text
returns-in-Ok-clause-text c =
    found_output SaysAccepted c.args.bytes.now c.args.budget c.in-Ok.m c.answer_module.result c.requires.short
    c.in-Ok.ensures.module c.answer_module.ensures.found

pub returns-in-Err-clause-text : goal.returns-in-Err-clause-text
returns-in-Err-clause-text c =
    fault_output AreUnresolved (FindsModule SaysAccepted c.args.budget) c.args.bytes.now c.in-Err.fault c.answer_fault.result
    c.requires.short
    c.in-Err.ensures.fault c.answer_fault.ensures.says
