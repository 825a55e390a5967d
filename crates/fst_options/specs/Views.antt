-- The code's commands, as the definitions have them.
use Rattle.fst_options.specs.declared.words.Command.{Command as Said}
use Rattle.fst_options.specs.declared.words.Command.TheVariants as said
use Rattle.fst_options.specs.Words.{Command, equiv, show, check, run, buffered, make, audit}

-- a command
abbrev pub command_of : Said → Command
command_of (said.Equiv o) = equiv o.budget o.proof
command_of said.Show = show
command_of (said.Check b) = check b
command_of (said.Run o) = run o.steps o.workers o.budget o.events
command_of (said.Buffered o) = buffered o.steps o.capacity o.budget
command_of (said.Make n) = make n
command_of said.Audit = audit
