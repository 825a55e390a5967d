-- What a reader of the code gives, against the reading on lists.
use Rattle.std.specs.Prelude.{◌≡◌, ℕ, Result, Ok, Err}
use Rattle.fst_reading.specs.declared.fault.SyntaxFault.{SyntaxFault}
use Rattle.fst_reading.specs.declared.fault.SyntaxFault.TheVariants as fault
use Rattle.fst_reading.specs.declared.stop.Stop.{Stop}
use Rattle.fst_reading.specs.declared.stop.Stop.TheVariants as stop
use Rattle.fst_reading.specs.Lexeme.{place}
use Rattle.fst_reading.specs.Reading.{Halt, Syntax, Deep}

-- it stopped as the reading on lists does, with the same tokens left; want of memory says nothing
abbrev pub Fails : {Y : Type 0} → Stop → Result Y Halt → Type 0
Fails stop.Memory read = Unit {0}
Fails (stop.Syntax ts) read = read ≡ Err (Syntax ts.now)
Fails (stop.TooDeep ts) read = read ≡ Err (Deep ts.now)

-- it gives what the reading on lists gives, or stopped as that does
abbrev pub Gives : {X Y : Type 0} → (X → Y) → Result X Stop → Result Y Halt → Type 0
Gives view (Ok x) read = read ≡ Ok (view x)
Gives view (Err e) read = Fails e read

-- the fault of a stop, where the text ends at this byte
abbrev pub fault_view : ℕ → Stop → SyntaxFault
fault_view end stop.Memory = fault.Memory
fault_view end (stop.Syntax ts) = fault.Syntax (place end ts.now)
fault_view end (stop.TooDeep ts) = fault.TooDeep (place end ts.now)
