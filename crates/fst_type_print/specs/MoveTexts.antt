-- How it is written what a task asks of an end.
use Rattle.std.specs.Prelude.{ℕ, List, ◌++◌, Bool, true, false, codes}
use Rattle.fst_types.specs.Tree.{Tree, skip, send, receive, close, wait, select, offer, seq, rec, back, var, plain, arrow, pair, named}
use Rattle.fst_types.specs.declared.moves.Move.{Move}
use Rattle.fst_types.specs.declared.moves.Move.TheVariants.{Send, Receive, Select, Offer, Close, Wait}
use Rattle.fst_type_print.specs.Texts.{in_parens_if, type_text}

-- behind the sign of sending, a sequence, a rec and a function stand in parentheses: no atomic type
abbrev pub in_parens_behind_sign : Tree → Bool
in_parens_behind_sign skip = false
in_parens_behind_sign (send b) = false
in_parens_behind_sign (receive b) = false
in_parens_behind_sign close = false
in_parens_behind_sign wait = false
in_parens_behind_sign (select bs) = false
in_parens_behind_sign (offer bs) = false
in_parens_behind_sign (seq s r) = true
in_parens_behind_sign (rec s) = true
in_parens_behind_sign (back k) = false
in_parens_behind_sign (var k) = false
in_parens_behind_sign (plain b) = false
in_parens_behind_sign (arrow u s r) = true
in_parens_behind_sign (pair s r) = false
in_parens_behind_sign (named k) = false

-- what a task asks of an end; the names are those of the data types
abbrev pub move_text : List (List ℕ) → Move → List ℕ
move_text names (Send t) = codes "!" ++ in_parens_if (in_parens_behind_sign t) (type_text names t)
move_text names Receive = codes "?"
move_text names (Select l) = codes "+" ++ l
move_text names Offer = codes "&"
move_text names Close = codes "Close"
move_text names Wait = codes "Wait"
