-- Why `read_all` and `write_all` gave up.
use Rattle.std.specs.Prelude.{◌≡◌, ℕ, ◌+◌, ◌<◌, ◌≤◌, List, length, take, Option}
use Rattle.std.specs.Io.KnownBytes.{Consumes, Appends}
use Rattle.fst_io.specs.declared.reading.ReadFault.{ReadFault}
use Rattle.fst_io.specs.declared.reading.ReadFault.TheVariants as reading
use Rattle.fst_io.specs.declared.writing.WriteFault.{WriteFault}
use Rattle.fst_io.specs.declared.writing.WriteFault.TheVariants as writing
use Rattle.fst_io.specs.Faults.{Rose}

-- a source lost some bytes from the front of those left, at most so many
abbrev pub LosesAtMost : ℕ → Option (List ℕ) → Option (List ℕ) → Type 0
LosesAtMost most old new = (lost : List ℕ) × Consumes old new lost × (length lost ≤ most)

-- a source lost bytes from the front of those left, exactly so many
abbrev pub Loses : ℕ → Option (List ℕ) → Option (List ℕ) → Type 0
Loses count old new = (lost : List ℕ) × Consumes old new lost × (length lost ≡ count)

-- why `read_all` gave up, and what the source lost: its bytes left and its count, before and now
abbrev pub ReadGaveUp : ReadFault → ℕ → Option (List ℕ) → Option (List ℕ) → ℕ → ℕ → Type 0
ReadGaveUp reading.Failed limit old new before now = Rose before now × LosesAtMost limit old new
ReadGaveUp reading.TooLong limit old new before now = Loses (limit + 1) old new
ReadGaveUp reading.Memory limit old new before now = LosesAtMost (limit + 1) old new

-- a sink took the first n of the bytes, and not all of them
abbrev pub TookPart : ℕ → List ℕ → Option (List ℕ) → Option (List ℕ) → Type 0
TookPart n bytes old new = (n < length bytes) × Appends old new (take n bytes)

-- why `write_all` gave up, and what the sink took: its bytes taken and its count, before and now
abbrev pub WriteGaveUp : WriteFault → List ℕ → Option (List ℕ) → Option (List ℕ) → ℕ → ℕ → Type 0
WriteGaveUp (writing.Failed n) bytes old new before now = Rose before now × TookPart n bytes old new
WriteGaveUp (writing.Memory n) bytes old new before now = TookPart n bytes old new
