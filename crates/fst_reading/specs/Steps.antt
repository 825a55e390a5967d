-- The ways to put readers together under one name, as what a proof of a reader of the code opens.
use Rattle.fst_base.specs.Choice.{choose}
use Rattle.fst_reading.specs.Reading.{bind, give, andthen, map_reader, switch, only, finish, on, when, shut}

unfoldable pub all : Unit {0}
unfolding choose bind give andthen map_reader switch only finish on when shut
all = tt
