-- Causes: that refusals which say the same are one, and which of them are of the module itself.
use Rattle.std.proofs.Common.{◌≡◌, ℕ, List, ◌++◌, refl, ap}
use Rattle.std.specs.Prelude.{codes}
use Rattle.fst_type_print.specs.Texts.{type_text, word_text, side_text}
use Rattle.fst_premises.specs.declared.fault.CheckFault.{CheckFault}
use Rattle.fst_premises.specs.declared.fault.CheckFault.TheVariants.{Mismatch, Unused, UsedTwice, CapturedLinear, NotFunction, TypeArguments, KindOfArgument, NoSuchMove, Branches, NotPrintable, Undecided, Memory, Arms, Dropped, NotPair, Kinds, TooLarge}
use Rattle.fst_command.specs.declared.status.Status.TheVariants as status
use Rattle.fst_typing.specs.Laws.{SaySame, itself, traces, questions, IsCause}
use Rattle.fst_command.specs.CheckTexts.{refused, cause, cause_status}

-- refusals that say the same are one cause
pub same_cause : (names : List (List ℕ)) (f g : CheckFault) → SaySame f g → cause names f ≡ cause names g
same_cause names f g (itself e) = ap (cause names) e
same_cause names _ _ (traces {at} {found} {wanted} {v} {w} {side} e) =
    λ i. refused at (codes "type " ++ type_text names found ++ codes " wanted " ++ type_text names wanted
    ++ (codes " word " ++ word_text (e i) ++ codes " " ++ side_text side))
same_cause names _ _ questions = refl

-- a refusal with the status of an input that is refused is of the module itself
pub refused_cause : (names : List (List ℕ)) (f : CheckFault) → status.Refused ≡ cause_status (cause names f) → IsCause f
refused_cause names (Mismatch at got wanted difference) e = tt
refused_cause names (Unused at x) e = tt
refused_cause names (UsedTwice at x) e = tt
refused_cause names (CapturedLinear at x) e = tt
refused_cause names (NotFunction at got) e = tt
refused_cause names (TypeArguments at got wanted) e = tt
refused_cause names (KindOfArgument at got wanted) e = tt
refused_cause names (NoSuchMove at got asked) e = tt
refused_cause names (Branches at x) e = tt
refused_cause names (NotPrintable at got) e = tt
refused_cause names (Undecided at got wanted grammar pairs) e = absurd (cc e)
refused_cause names Memory e = absurd (cc e)
refused_cause names (Arms at got) e = tt
refused_cause names (Dropped at got) e = tt
refused_cause names (NotPair at got) e = tt
refused_cause names (Kinds at fault) e = tt
refused_cause names (TooLarge at) e = absurd (cc e)
