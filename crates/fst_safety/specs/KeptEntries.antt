-- Entries of logs, as they are kept.
use Rattle.std.specs.Prelude.{ℕ, Box, Option, Some, None}
use Rattle.std.specs.declared.alloc.Global.{Global}
use Rattle.fst_machine.specs.declared.request.Request.TheVariants.{Step}
use Rattle.fst_machine.specs.declared.request.Answer.{Answer}
use Rattle.fst_machine.specs.declared.request.Answer.TheVariants.{Go}
use Rattle.fst_safety.specs.declared.tasks.Exchange.{Exchange}
use Rattle.fst_runs.specs.declared.log.LogEntry.{LogEntry}

-- the entry with this stamp: that of a step, unless something else is kept
abbrev pub entry_of : ℕ → Option (Box Exchange Global) → LogEntry
entry_of n None = record { asked = Step; answer = Go; stamp = n }
entry_of n (Some x) = record { asked = x.value.asked; answer = x.value.answer; stamp = n }

-- what a task was told, where that was to go on if nothing else is kept
abbrev pub told_or_go : Option Answer → Answer
told_or_go None = Go
told_or_go (Some a) = a
