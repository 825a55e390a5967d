-- What a call adds to a text.
use Rattle.std.specs.Prelude.{◌≡◌, ℕ, List, ◌++◌, Result, OnOk}
use Rattle.std.specs.String.{string_bytes}
use Rattle.std.specs.declared.string.String.{String}

-- where there is memory, the text has gained these bytes at its end
abbrev pub Gains : {E Z T : Type 0} → Result T E → String Z → String Z → List ℕ → Type 0
Gains result old new bytes = OnOk result (string_bytes new ≡ string_bytes old ++ bytes)
