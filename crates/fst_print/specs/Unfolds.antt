-- What a call adds to a text and to what is still to be written.
use Rattle.std.specs.Prelude.{◌≡◌, ℕ, ◌+◌, ◌<◌, List, ◌++◌, Result, OnOk}
use Rattle.std.specs.String.{string_bytes}
use Rattle.std.specs.declared.string.String.{String}
use Rattle.std.specs.declared.vec.Vec.{Vec}
use Rattle.fst_print.specs.declared.stack.Piece.{Piece}
use Rattle.fst_print.specs.Stack.{pieces_text, pieces_weight}

-- where there is memory, the text and what is still to be written have gained these bytes between them
abbrev pub Unfolds : {E Z A : Type 0} → Result (Unit {0}) E → String Z → String Z → Vec Piece A →
    Vec Piece A → List ℕ → Type 0
Unfolds result old new before after bytes =
    OnOk result (string_bytes new ++ pieces_text after.items ≡ string_bytes old
    ++ (bytes ++ pieces_text before.items))

-- where there is memory, these bytes are to be written before the others
abbrev pub Stacks : {E A : Type 0} → Result (Unit {0}) E → Vec Piece A → Vec Piece A → List ℕ →
    Type 0
Stacks result before after bytes = OnOk result
    (pieces_text after.items ≡ bytes ++ pieces_text before.items)

-- where there is memory, the pieces are lighter than with one of this weight on them
abbrev pub Lightens : {E A : Type 0} → Result (Unit {0}) E → Vec Piece A → Vec Piece A → ℕ → Type 0
Lightens result before after weight =
    OnOk result (pieces_weight after.items < weight + pieces_weight before.items)
