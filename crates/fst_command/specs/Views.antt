-- What the code finds, as the definitions see it.
use Rattle.std.specs.Prelude.{◌≡◌, ℕ, Option, Some, None, List, [], ⊤}
use Rattle.std.specs.String.{string_bytes}
use Rattle.fst_types.specs.declared.family.Family.{Family}
use Rattle.fst_kinds.specs.declared.fault.KindFault.{KindFault}
use Rattle.fst_lexer.specs.declared.token.LexFault.{LexFault}
use Rattle.fst_lexer.specs.declared.token.LexFault.TheVariants as lexical
use Rattle.fst_reading.specs.declared.fault.SyntaxFault.{SyntaxFault}
use Rattle.fst_reading.specs.declared.fault.SyntaxFault.TheVariants as syntax
use Rattle.fst_type_print.specs.declared.refusals.Phrase.{Phrase}
use Rattle.fst_type_print.specs.declared.refusals.Phrase.TheVariants as phrase
use Rattle.fst_type_print.specs.Texts.{phrase_text}
use Rattle.fst_scopes.specs.declared.fault.NameFault.{NameFault}
use Rattle.fst_scopes.specs.declared.fault.NameFault.TheVariants as naming
use Rattle.fst_runs.specs.declared.event.Stamped.{Stamped}
use Rattle.fst_vm.specs.declared.report.Outcome.{Outcome}
use Rattle.fst_vm.specs.declared.report.Outcome.TheVariants as outcome
use Rattle.fst_vm.specs.declared.report.Report.{Report}
use Rattle.fst_worker.specs.declared.workers.Logged.{Logged}
use Rattle.fst_worker.specs.declared.workers.Logged.TheVariants as logged
use Rattle.fst_merge.specs.EventTexts.{events_text}
use Rattle.fst_merge.specs.Merging.{AreOfRecord, AreMerged}
use Rattle.fst_report.specs.ReportTexts.{report_text}
use Rattle.fst_report.specs.SummaryTexts.{summary_text}
use Rattle.fst_command.specs.declared.finding.Fault.{Fault}
use Rattle.fst_command.specs.declared.finding.Fault.TheVariants as fault
use Rattle.fst_command.specs.declared.refusals.Cause.{Cause as Given}
use Rattle.fst_command.specs.declared.refusals.Cause.TheVariants as given
use Rattle.fst_command.specs.declared.running.Form.{Form}
use Rattle.fst_command.specs.declared.running.Form.TheVariants as form
use Rattle.fst_command.specs.CheckTexts as check_texts
use Rattle.fst_command.specs.CheckTexts.{Cause, kind_phrase, undecided}
use Rattle.fst_command.specs.Finding.{Finding, refused, too_deep, too_large}

-- this holds of what a fault says; want of memory says nothing
abbrev pub IfFound : Fault → (Finding → Type 0) → Type 0
IfFound (fault.Refused at phrase) P = P (refused at phrase)
IfFound (fault.TooDeep at) P = P (too_deep at)
IfFound (fault.TooLarge at) P = P (too_large at)
IfFound fault.Memory P = ⊤

-- a fault isn't want of memory, and this holds of what it says
abbrev pub Found : Fault → (Finding → Type 0) → Type 0
Found (fault.Refused at phrase) P = P (refused at phrase)
Found (fault.TooDeep at) P = P (too_deep at)
Found (fault.TooLarge at) P = P (too_large at)
Found fault.Memory P = ⊥

-- the fault of bytes without tokens
abbrev pub lexical_fault : LexFault → Fault
lexical_fault (lexical.NotUtf8 at) = fault.Refused at phrase.NotUtf8
lexical_fault (lexical.BadChar at) = fault.Refused at phrase.BadChar
lexical_fault (lexical.WideNumber at) = fault.Refused at phrase.WideNumber
lexical_fault (lexical.LongName at) = fault.Refused at phrase.LongName
lexical_fault lexical.Memory = fault.Memory

-- the fault of tokens that are read as nothing
abbrev pub syntax_fault : SyntaxFault → Fault
syntax_fault (syntax.Syntax at) = fault.Refused at phrase.Syntax
syntax_fault (syntax.TooDeep at) = fault.TooDeep at
syntax_fault syntax.Memory = fault.Memory

-- the fault of names and sizes
abbrev pub name_fault : NameFault → Fault
name_fault (naming.Unbound at x) = fault.Refused at (phrase.Unbound x)
name_fault (naming.Twice at x) = fault.Refused at (phrase.Twice x)
name_fault (naming.Arity at got wanted) = fault.Refused at (phrase.Arity got wanted)
name_fault (naming.AliasLoop at x) = fault.Refused at (phrase.AliasLoop x)
name_fault (naming.TooLarge at) = fault.TooLarge at
name_fault naming.NoMain = fault.Refused 0 phrase.NoMain
name_fault naming.Memory = fault.Memory

-- the refusal at a byte for this; where there is nothing, memory is wanting
abbrev pub refused_at : ℕ → Option Phrase → Fault
refused_at at None = fault.Memory
refused_at at (Some p) = fault.Refused at p

-- the fault of a type that is written at a byte and is no session type
abbrev pub kind_fault : ℕ → KindFault → Fault
kind_fault at f = refused_at at (kind_phrase f)

-- a cause as the definitions have it
abbrev pub cause_of : Given → Cause
cause_of (given.Refused at phrase) = check_texts.refused at (phrase_text phrase)
cause_of (given.Undecided at got wanted) = undecided at (string_bytes got) (string_bytes wanted)
cause_of (given.TooLarge at) = check_texts.too_large at

-- how a report is written
abbrev pub shown_as : Form → List Family → Report → List ℕ
shown_as form.Report families r = report_text families r
shown_as (form.Summary bytes) families r = summary_text bytes r

-- what the log of a run came to is this outcome, and the lines are those of the events into which its marks are merged
abbrev pub HasLines : Logged → Outcome → List ℕ → Type 0
HasLines (logged.Done r ts) o lines = (o ≡ outcome.Done r) × (es : List Stamped) ×
    ((d : AreOfRecord ts.items) → AreMerged ts.items d es) × (lines ≡ events_text es)
HasLines logged.OutOfSteps o lines = (o ≡ outcome.OutOfSteps) × (lines ≡ [])
