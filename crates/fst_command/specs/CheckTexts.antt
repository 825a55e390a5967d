-- What is written of a module that is refused.
use Rattle.std.specs.Prelude.{ℕ, List, [], ◌++◌, Option, Some, None, codes, decimal}
use Rattle.fst_kinds.specs.declared.fault.KindFault.{KindFault}
use Rattle.fst_kinds.specs.declared.fault.KindFault.TheVariants as kind
use Rattle.fst_type_print.specs.Texts.{counts_text, kinds_text, phrase_text, side_text, type_text, word_text}
use Rattle.fst_type_print.specs.declared.refusals.Phrase.{Phrase}
use Rattle.fst_type_print.specs.declared.refusals.Phrase.TheVariants as phrase
use Rattle.fst_type_print.specs.MoveTexts.{move_text}
use Rattle.fst_premises.specs.declared.fault.CheckFault.{CheckFault}
use Rattle.fst_premises.specs.declared.fault.CheckFault.TheVariants.{Mismatch, Unused, UsedTwice, CapturedLinear, NotFunction, TypeArguments, KindOfArgument, NoSuchMove, Branches, NotPrintable, Undecided, Memory, Arms, Dropped, NotPair, Kinds, TooLarge}
use Rattle.fst_premises.specs.declared.fault.Difference.{Difference}
use Rattle.fst_premises.specs.declared.fault.Difference.TheVariants.{Shape, Word}
use Rattle.fst_command.specs.declared.status.Status.{Status}
use Rattle.fst_command.specs.declared.status.Status.TheVariants as status
use Rattle.fst_command.specs.Texts.{place_text, too_large_text}

-- why a module is refused: at a byte, for this; or because it isn't known whether the type found there, which comes first, is
-- the one wanted; or because the type or the question there is over its size; want of memory is no cause
pub data Cause : Type 0 where
  refused : ℕ → List ℕ → Cause
  undecided : ℕ → List ℕ → List ℕ → Cause
  too_large : ℕ → Cause
  nothing : Cause

-- the word that tells two types apart, if there is one: the type found is the left one
abbrev pub word_behind : Difference → List ℕ
word_behind Shape = []
word_behind (Word w side) = codes " word " ++ word_text w.items ++ codes " " ++ side_text side

-- what a fault of kinds is called; want of memory is none
abbrev pub kind_phrase : KindFault → Option Phrase
kind_phrase kind.NotContractive = Some phrase.NotContractive
kind_phrase (kind.WrongKind got wanted) = Some (phrase.WrongKind got wanted)
kind_phrase (kind.UnboundType k) = Some (phrase.UnboundType k)
kind_phrase (kind.DoubleLabel l) = Some (phrase.DoubleLabel l)
kind_phrase kind.Memory = None

-- a refusal at a byte for this, if there is anything
abbrev pub refused_so : ℕ → Option Phrase → Cause
refused_so at None = nothing
refused_so at (Some p) = refused at (phrase_text p)

-- a type that is written at a byte has no kind, or not the one that is wanted
abbrev pub kind_cause : ℕ → KindFault → Cause
kind_cause at fault = refused_so at (kind_phrase fault)

-- the cause that a fault is; the names are those of the data types
abbrev pub cause : List (List ℕ) → CheckFault → Cause
cause names (Mismatch at got wanted difference) =
    refused at (codes "type " ++ type_text names got ++ codes " wanted " ++ type_text names wanted
    ++ word_behind difference)
cause names (Unused at x) = refused at (codes "unused " ++ x)
cause names (UsedTwice at x) = refused at (codes "used twice " ++ x)
cause names (CapturedLinear at x) = refused at (codes "captured " ++ x)
cause names (NotFunction at got) = refused at (codes "not a function " ++ type_text names got)
cause names (TypeArguments at got wanted) =
    refused at (counts_text (codes "type arguments ") got wanted)
cause names (KindOfArgument at got wanted) = refused at (kinds_text got wanted)
cause names (NoSuchMove at got asked) =
    refused at (codes "no move " ++ move_text names asked ++ codes " in " ++ type_text names got)
cause names (Branches at x) = refused at (codes "branches " ++ x)
cause names (NotPrintable at got) = refused at (codes "not printable " ++ type_text names got)
cause names (Undecided at got wanted grammar pairs) =
    undecided at (type_text names got) (type_text names wanted)
cause names Memory = nothing
cause names (Arms at got) = refused at (codes "arms " ++ type_text names got)
cause names (Dropped at got) = refused at (codes "dropped " ++ type_text names got)
cause names (NotPair at got) = refused at (codes "not a pair " ++ type_text names got)
cause names (Kinds at fault) = kind_cause at fault
cause names (TooLarge at) = too_large at

-- the line that says where and why, of the bytes that are the module, within a budget
abbrev pub cause_text : List ℕ → ℕ → Cause → List ℕ
cause_text bytes budget (refused at why) =
    codes "refused " ++ place_text bytes at ++ codes " " ++ why ++ codes "\n"
cause_text bytes budget (undecided at got wanted) =
    codes "undecided " ++ place_text bytes at ++ codes " " ++ decimal budget ++ codes " " ++ got
    ++ codes " ~ " ++ wanted ++ codes "\n"
cause_text bytes budget (too_large at) = too_large_text bytes at
cause_text bytes budget nothing = []

-- its status
abbrev pub cause_status : Cause → Status
cause_status (refused at why) = status.Refused
cause_status (undecided at got wanted) = status.Undecided
cause_status (too_large at) = status.Limit
cause_status nothing = status.Memory

-- the module is accepted
abbrev pub accepted_text : List ℕ
accepted_text = codes "accepted\n"
