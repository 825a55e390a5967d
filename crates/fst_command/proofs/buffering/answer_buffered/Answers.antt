use Rattle.fst_command.specs.Finding.{AreUnresolved}
use Rattle.fst_command.specs.Output.{FindsModule, SaysBuffered}
use Rattle.fst_command.proofs.OutputLaws.{fault_output}
use Rattle.fst_command.proofs.CheckLaws.{found_output}
use Rattle.fst_command.proofs.buffering.answer_buffered.Goals as goal

pub returns-in-Ok-clause-text : goal.returns-in-Ok-clause-text
returns-in-Ok-clause-text c =
    found_output (SaysBuffered c.args.options.capacity c.args.options.steps) c.args.bytes.now c.args.options.budget c.in-Ok.m
    c.answer_steps.result c.requires.short c.in-Ok.ensures.module c.answer_steps.ensures.found

pub returns-in-Err-clause-text : goal.returns-in-Err-clause-text
returns-in-Err-clause-text c =
    fault_output AreUnresolved
    (FindsModule (SaysBuffered c.args.options.capacity c.args.options.steps) c.args.options.budget) c.args.bytes.now
    c.in-Err.fault c.answer_fault.result c.requires.short c.in-Err.ensures.fault c.answer_fault.ensures.says
