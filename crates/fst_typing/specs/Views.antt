-- Faults of written types as refusals.
use Rattle.fst_written.specs.declared.fault.WrittenFault.{WrittenFault}
use Rattle.fst_written.specs.declared.fault.WrittenFault.TheVariants as written
use Rattle.fst_premises.specs.declared.fault.CheckFault.{CheckFault}
use Rattle.fst_premises.specs.declared.fault.CheckFault.TheVariants.{Kinds, Memory}

-- the refusal of a module with this fault
abbrev pub written_fault : WrittenFault → CheckFault
written_fault (written.Kinds at fault) = Kinds at fault
written_fault written.Memory = Memory
