-- The value that a task asks to send.
use Rattle.std.specs.Prelude.{Option, None, Some}
use Rattle.fst_types.specs.Tree.{Tree}
use Rattle.fst_types.specs.declared.moves.Move.{Move}
use Rattle.fst_types.specs.declared.moves.Move.TheVariants.{Send, Receive, Select, Offer, Close, Wait}

-- the type of the value that is asked to be sent, where it is one
abbrev pub sent_type : Move → Option Tree
sent_type (Send t) = Some t
sent_type Receive = None
sent_type (Select l) = None
sent_type Offer = None
sent_type Close = None
sent_type Wait = None
