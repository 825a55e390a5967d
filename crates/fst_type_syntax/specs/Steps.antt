-- What the proof of a reader of the code opens, under one name, where that is much.
use Rattle.fst_reading.specs.Steps.{all}
use Rattle.fst_type_syntax.specs.TypeReading.{types_at, choice_with, type_at, type_with}

unfoldable pub types : Unit {0}
unfolding all types_at
types = tt

unfoldable pub choice : Unit {0}
unfolding all choice_with
choice = tt

unfoldable pub arrows : Unit {0}
unfolding all type_at type_with
arrows = tt
