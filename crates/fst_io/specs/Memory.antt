-- What a call does to a source and to a sink in memory.
use Rattle.std.specs.Prelude.{◌≡◌, ℕ, Bool, true, false, Result, Err}
use Rattle.fst_io.specs.declared.sink.SinkFault.{SinkFault}
use Rattle.fst_io.specs.declared.sink.SinkFault.TheVariants.{Failed}
use Rattle.fst_io.specs.declared.memory.MemorySource.{MemorySource}
use Rattle.fst_io.specs.declared.memory.MemorySink.{MemorySink}

-- a write answered that it failed
abbrev pub is_failed : Result ℕ SinkFault → Bool
is_failed (Err Failed) = true
is_failed other = false

-- a source keeps its bytes, the most that one call gives, and which calls fail
pub record KeepsSource (old new : MemorySource) : Type 0 where
  pub bytes : new.bytes.items ≡ old.bytes.items
  pub piece : new.piece ≡ old.piece
  pub fail : new.fail.items ≡ old.fail.items

-- a sink keeps the most that one call takes, and which calls fail
pub record KeepsSink (old new : MemorySink) : Type 0 where
  pub piece : new.piece ≡ old.piece
  pub fail : new.fail.items ≡ old.fail.items
