use Rattle.fst_module_grammar.proofs.OneModule.{one_module_law}
use Rattle.fst_module_grammar.proofs.law.one_module.Goals as goal

pub returns : goal.returns
returns c = one_module_law
