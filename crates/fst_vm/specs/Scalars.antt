-- Values of base types by their forms.
use Rattle.std.specs.Prelude.{Option, Some, None}
use Rattle.fst_types.specs.declared.event.Event.{Event}
use Rattle.fst_types.specs.declared.event.Event.TheVariants as event
use Rattle.fst_value.specs.declared.value.Form.{Form}
use Rattle.fst_value.specs.declared.value.Form.TheVariants as form
use Rattle.fst_machine.specs.Values.{Value, int, bool, char, unit, pair}

-- the value of a base type with this form, and for any other form one that no sign takes and that isn't sent
abbrev pub scalar_at : Form → Value
scalar_at (form.Int n) = int n
scalar_at (form.Bool b) = bool b
scalar_at (form.Char c) = char c
scalar_at form.Unit = unit
scalar_at form.Pair = pair unit unit
scalar_at (form.Make n o) = pair unit unit
scalar_at (form.Function l) = pair unit unit
scalar_at form.End = pair unit unit

-- the form of the value that an event brings, if it brings one
abbrev pub brought : Event → Option Form
brought (event.Int n) = Some (form.Int n)
brought (event.Bool b) = Some (form.Bool b)
brought (event.Char c) = Some (form.Char c)
brought event.Unit = Some form.Unit
brought (event.Label l) = None
brought event.Closed = None
