-- How a run ends.
use Rattle.std.proofs.Common.{◌≡◌, ℕ, ◌+◌, List, [], false, length, Option, Result, Ok, Err, refl, subst, arith}
use Rattle.std.specs.Prelude.{IsTrue, IfOk, OnOk}
use Rattle.std.specs.Io.KnownBytes.{Consumes, IsAtEnd}
use Rattle.fst_io.specs.GivingUp.{Loses}
use Rattle.fst_base.specs.Limits.{most_bytes}
use Rattle.fst_command.specs.declared.status.Status.{Status}
use Rattle.fst_command.specs.declared.status.Status.TheVariants as status
use Rattle.fst_options.specs.Words.{Command, equiv, show, check, run, buffered, make, audit, IsCommand}
use Rattle.fst_options.proofs.Laws.{one_command}
use Rattle.fst_command.specs.Output.{Writes, too_long, usage, command, IsOutput}
use Rattle.fst_command.specs.Texts.{too_long_text}
use Rattle.fst_command.specs.Top.{ReadsInput, ReadsFor, IsAnswered, reads_input}
use Rattle.fst_command.specs.Meanings.{Means, Meanings}

-- what is read for a command that reads an input
pub reads_for : (c : Command) (old new : Option (List ℕ)) (bytes : List ℕ) → IsTrue (reads_input c) → ReadsInput old new bytes →
    ReadsFor c old new bytes
reads_for (equiv budget proof) old new bytes is r = r
reads_for show old new bytes is r = r
reads_for (check budget) old new bytes is r = r
reads_for (run steps workers budget events) old new bytes is r = r
reads_for (buffered steps capacity budget) old new bytes is r = r
reads_for (make n) old new bytes is r = absurd (cc is)
reads_for audit old new bytes is r = r

-- and so where it was read
pub read_ok : {V E : Type 0} (c : Command) (old new : Option (List ℕ)) (items : V → List ℕ) (r : Result V E) →
    IsTrue (reads_input c) → IfOk r (λ v. Consumes old new (items v)) → OnOk r (IsAtEnd new) →
    IfOk r (λ v. ReadsFor c old new (items v))
read_ok c old new items (Ok v) reads all end = reads_for c old new (items v) reads (record { read = all; end = λ short. end })
read_ok c old new items (Err e) reads all end = tt

-- for another nothing is read
pub reads_none : (c : Command) (old : Option (List ℕ)) (bytes : List ℕ) → reads_input c ≡ false → bytes ≡ [] →
    ReadsFor c old old bytes
reads_none (equiv budget proof) old bytes not is = absurd (cc not)
reads_none show old bytes not is = absurd (cc not)
reads_none (check budget) old bytes not is = absurd (cc not)
reads_none (run steps workers budget events) old bytes not is = absurd (cc not)
reads_none (buffered steps capacity budget) old bytes not is = absurd (cc not)
reads_none (make n) old bytes not is = record { none = is; same = refl }
reads_none audit old bytes not is = absurd (cc not)

-- what was read for a command has its output, which means what it says
pub read_whole : Meanings → (s : Status) (words : List (List ℕ)) (c : Command) (old new : Option (List ℕ)) (bytes text : List ℕ) →
    IsCommand words c → ReadsFor c old new bytes → Writes c bytes text s → IsAnswered words old new text s
read_whole meanings s words c old new bytes text is read w = record {
  bytes = bytes;
  read = λ d it. subst (λ z. ReadsFor z old new bytes) (one_command words c d is it) read;
  output = command c is w;
  means = λ d it. subst (λ z. Means z bytes text s) (one_command words c d is it) (meanings c bytes text s w);
}

-- an input that was read up to one byte over the limit is too long
too_long_written : (c : Command) (bytes text : List ℕ) (s : Status) → IsTrue (reads_input c) → length bytes ≡ most_bytes + 1 →
    text ≡ too_long_text → s ≡ status.Limit → Writes c bytes text s
too_long_written (equiv budget proof) bytes text s is long w e = too_long long w e
too_long_written show bytes text s is long w e = too_long long w e
too_long_written (check budget) bytes text s is long w e = too_long long w e
too_long_written (run steps workers budget events) bytes text s is long w e = too_long long w e
too_long_written (buffered steps capacity budget) bytes text s is long w e = too_long long w e
too_long_written (make n) bytes text s is long w e = absurd (cc is)
too_long_written audit bytes text s is long w e = too_long long w e

pub read_over : Meanings → (s : Status) (words : List (List ℕ)) (c : Command) (old new : Option (List ℕ)) (text : List ℕ) →
    IsCommand words c → IsTrue (reads_input c) → Loses (most_bytes + 1) old new → text ≡ too_long_text →
    s ≡ status.Limit → IsAnswered words old new text s
read_over meanings s words c old new text is reads lost w e =
    read_whole meanings s words c old new lost.0 text is
    (reads_for c old new lost.0 reads (record { read = lost.1; end = λ short. absurd (omega (arith, short, lost.2)) }))
    (too_long_written c lost.0 text s reads lost.2 w e)

-- the output of words that are a command's is what the command writes
pub written_for : (words : List (List ℕ)) (bytes text : List ℕ) (s : Status) (c : Command) → IsCommand words c →
    IsOutput words bytes text s → Writes c bytes text s
written_for words bytes text s c it (usage none nothing w e) = absurd (none c it)
written_for words bytes text s c it (command d is w) = subst (λ z. Writes z bytes text s) (one_command words d c is it) w
