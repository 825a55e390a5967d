-- Why a question has no verdict.
use Rattle.fst_grammar.specs.declared.fault.TranslateFault.{TranslateFault}
use Rattle.fst_grammar.specs.declared.fault.TranslateFault.TheVariants as translate
use Rattle.fst_equiv.specs.declared.fault.EquivFault.{EquivFault}
use Rattle.fst_equiv.specs.declared.fault.EquivFault.TheVariants.{TooLarge, Memory}

-- what a fault of the translation is to the question
abbrev pub fault_of : TranslateFault → EquivFault
fault_of translate.TooLarge = TooLarge
fault_of translate.Memory = Memory
