use Rattle.fst_vm.specs.Running.{code_of}
use Rattle.fst_vm.proofs.StepLaws.{function_acts}
use Rattle.fst_vm.proofs.act.act.Goals as goal

pub returns-in-Function : goal.returns-in-Function
returns-in-Function c =
    λ fs.
    function_acts (code_of fs c.args.code.now) c.args.instr.now c.in-Function.lambda c.args.behind c.captured_count.result
    c.args.slots.now c.args.stack.now
    c.join_function.new.self c.args.calls.now.items c.join_function.result c.to-in-Function.result c.in-Function.is
    c.captured_count.ensures c.to-in-Function.ensures
    c.join_function.ensures
