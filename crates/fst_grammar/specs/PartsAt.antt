-- The parts of a choice or `rec` at its own place.
use Rattle.std.specs.Prelude.{List, [], ◌∷◌, if◌then◌else◌}
use Rattle.fst_types.specs.Tree.{Tree, skip, send, receive, close, wait, select, offer, seq, rec, back, var, plain, arrow, pair, named}
use Rattle.fst_lts.specs.Step.{terminated}
use Rattle.fst_parts.specs.Place.{Place, place_past, body_place}
use Rattle.fst_parts.specs.Once.{Part}
use Rattle.fst_grammar.specs.Parts.{parts, parts_all}

-- a choice or `rec` at its own place and all parts within it
abbrev pub own_parts : Place → Tree → List Part
own_parts p skip = []
own_parts p (send b) = []
own_parts p (receive b) = []
own_parts p close = []
own_parts p wait = []
own_parts p (select cs) = record { place = p; type = select cs } ∷ parts_all (place_past p 1) cs
own_parts p (offer cs) = record { place = p; type = offer cs } ∷ parts_all (place_past p 1) cs
own_parts p (seq s r) = []
own_parts p (rec s) = if terminated s then [] else record { place = p; type = rec s } ∷ parts
    (body_place p) s
own_parts p (back k) = []
own_parts p (var k) = []
own_parts p (plain b) = []
own_parts p (arrow u s r) = []
own_parts p (pair s r) = []
own_parts p (named k) = []
