use Rattle.fst_command.specs.Finding.{IsNoModule}
use Rattle.fst_command.specs.Output.{ShowsModule}
use Rattle.fst_command.proofs.OutputLaws.{fault_output}
use Rattle.fst_command.proofs.answer.answer_show.Goals as goal

pub returns-in-Err-clause-text : goal.returns-in-Err-clause-text
returns-in-Err-clause-text c =
    fault_output IsNoModule ShowsModule c.args.bytes.now c.in-Err.fault c.answer_fault.result c.requires c.in-Err.ensures.fault
    c.answer_fault.ensures.says
