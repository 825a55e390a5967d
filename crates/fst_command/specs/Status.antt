-- The numbers of the statuses.
use Rattle.std.specs.Prelude.{ℕ}
use Rattle.fst_command.specs.declared.status.Status.{Status}
use Rattle.fst_command.specs.declared.status.Status.TheVariants.{Done, Refused, Words, Waiting, OutOfSteps, Undecided, ReadFault, WriteFault, Limit, Memory}

-- the exit status
abbrev pub number_of : Status → ℕ
number_of Done = 0
number_of Refused = 1
number_of Words = 2
number_of Waiting = 3
number_of OutOfSteps = 4
number_of Undecided = 5
number_of ReadFault = 6
number_of WriteFault = 7
number_of Limit = 8
number_of Memory = 9
