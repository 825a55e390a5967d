-- The first field, in order of text, that can't be printed.
use Rattle.std.specs.Prelude.{◌≡◌, ℕ, Bool, true, false, ◌&&◌, List, Option, Some, MatchOption, slice_get}
use Rattle.std.specs.List.{AllByRecursion}
use Rattle.fst_types.specs.Tree.{Tree, skip, send, receive, close, wait, select, offer, seq, rec, back, var, plain, arrow, pair, named}
use Rattle.fst_terms.specs.declared.core_module.Module.{Module}
use Rattle.fst_derivations.specs.Modules.{IsPrintable}
use Rattle.fst_written.specs.First.{IsFirst}
use Rattle.fst_written.specs.Readings.{begins_at}

-- whether a value of the type can be printed, as a test
abbrev pub printable : Tree → Bool
printable skip = false
printable (send b) = false
printable (receive b) = false
printable close = false
printable wait = false
printable (select bs) = false
printable (offer bs) = false
printable (seq s r) = false
printable (rec s) = false
printable (back n) = false
printable (var n) = false
printable (plain b) = true
printable (arrow u s r) = false
printable (pair s r) = printable s && printable r
printable (named n) = true

-- the k-th type is there, and printable
abbrev pub IsPrintableAt : List Tree → ℕ → Type 0
IsPrintableAt types k = (t : Tree) × (slice_get types k ≡ Some t) × IsPrintable t

-- of the types of these numbers, the k-th is the first in order of text that isn't printable
pub record IsFirstUnprintable (m : Module) (ks : List ℕ) (k : ℕ) : Type 0 where
  pub first : IsFirst (begins_at m) (IsPrintableAt m.types.items) ks k
  pub type : Tree
  pub is : slice_get m.types.items k ≡ Some type
  pub unprintable : IsPrintable type → ⊥

-- the types of these numbers are printable, or this is the first in order of text that isn't
abbrev pub IsLeastField : Module → List ℕ → Option ℕ → Type 0
IsLeastField m ks found = MatchOption found (AllByRecursion (IsPrintableAt m.types.items) ks)
    (IsFirstUnprintable m ks)
