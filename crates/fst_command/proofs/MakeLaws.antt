-- What `make` writes.
use Rattle.std.proofs.Common.{◌≡◌, ℕ, ◌≤◌, false, List, [], length, Result, Ok, Err, ap, subst, arith}
use Rattle.std.specs.Prelude.{IfOk}
use Rattle.std.specs.declared.alloc.AllocError.{AllocError}
use Rattle.fst_base.specs.Limits.{most_bytes, most_made}
use Rattle.fst_make.specs.Made.{made_text}
use Rattle.fst_make.proofs.Laws.{made_short}
use Rattle.fst_options.specs.Words.{default_budget, default_steps}
use Rattle.fst_command.specs.declared.answer.Answer.{Answer as Written}
use Rattle.fst_command.specs.declared.running.Form.TheVariants as form
use Rattle.fst_command.specs.declared.status.Status.{Status}
use Rattle.fst_command.specs.Finding.{AreUnresolved}
use Rattle.fst_command.specs.Output.{FindsModule, SaysOutcome, WritesMade, WritesOf}
use Rattle.fst_command.specs.Views.{shown_as}

-- the bytes of a made module are within the limit
pub bytes_short : (n : ℕ) (bytes : List ℕ) → n ≤ most_made → bytes ≡ made_text n → length bytes ≤ most_bytes
bytes_short n bytes few is = omega (arith, ap length is, made_short n few)

-- what is written of these bytes, with a summary that has their number
abbrev WritesSummary : List ℕ → List ℕ → Status → Type 0
WritesSummary bytes text s = WritesOf AreUnresolved
    (FindsModule (SaysOutcome (shown_as (form.Summary (length bytes))) false default_steps) default_budget) bytes text s

-- what is written of a made module
pub made_output : (n : ℕ) (bytes : List ℕ) (r : Result Written AllocError) → bytes ≡ made_text n → IfOk r
    (λ a. WritesSummary bytes a.text.items a.status) → IfOk r (λ a. WritesMade n [] a.text.items a.status)
made_output n bytes (Ok a) is w = subst (λ b. WritesSummary b a.text.items a.status) is w
made_output n bytes (Err e) is w = tt
