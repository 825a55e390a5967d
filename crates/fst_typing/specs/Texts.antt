-- Which refusals can be written as texts.
use Rattle.std.specs.Prelude.{ℕ, ⊤}
use Rattle.fst_types.specs.declared.moves.Move.{Move}
use Rattle.fst_types.specs.declared.moves.Move.TheVariants.{Send, Receive, Select, Offer, Close, Wait}
use Rattle.fst_derivations.specs.Texts.{HasText}
use Rattle.fst_premises.specs.declared.fault.CheckFault.{CheckFault}
use Rattle.fst_premises.specs.declared.fault.CheckFault.TheVariants.{Mismatch, Unused, UsedTwice, CapturedLinear, NotFunction, TypeArguments, KindOfArgument, NoSuchMove, Branches, NotPrintable, Undecided, Memory, Arms, Dropped, NotPair, Kinds, TooLarge}

-- the type that is sent, if there is one, has a text where there are n data types
abbrev pub HasMoveText : ℕ → Move → Type 0
HasMoveText n (Send t) = HasText n t
HasMoveText n Receive = ⊤
HasMoveText n (Select l) = ⊤
HasMoveText n Offer = ⊤
HasMoveText n Close = ⊤
HasMoveText n Wait = ⊤

-- each type that the refusal names has a text where there are n data types
abbrev pub HaveTexts : ℕ → CheckFault → Type 0
HaveTexts n (Mismatch at got wanted difference) = HasText n got × HasText n wanted
HaveTexts n (Unused at x) = ⊤
HaveTexts n (UsedTwice at x) = ⊤
HaveTexts n (CapturedLinear at x) = ⊤
HaveTexts n (NotFunction at got) = HasText n got
HaveTexts n (TypeArguments at got wanted) = ⊤
HaveTexts n (KindOfArgument at got wanted) = ⊤
HaveTexts n (NoSuchMove at got asked) = HasText n got × HasMoveText n asked
HaveTexts n (Branches at x) = ⊤
HaveTexts n (NotPrintable at got) = HasText n got
HaveTexts n (Undecided at got wanted grammar pairs) = HasText n got × HasText n wanted
HaveTexts n Memory = ⊤
HaveTexts n (Arms at got) = HasText n got
HaveTexts n (Dropped at got) = HasText n got
HaveTexts n (NotPair at got) = HasText n got
HaveTexts n (Kinds at fault) = ⊤
HaveTexts n (TooLarge at) = ⊤
