-- What a history shows of a side, with one entry more.
use Rattle.std.proofs.Common.{◌≡◌, ◌∙◌, ℕ, ◌+◌, true, [], ◌∷◌, ◌++◌, Some, ap}
use Rattle.std.specs.Prelude.{sum_by}
use Rattle.fst_lts.specs.Histories.{side_type}
use Rattle.fst_types.specs.declared.event.Entry.{Entry}
use Rattle.fst_lts.specs.Residuals.{residual, sends}
use Rattle.fst_cell.specs.End.{EndView, end_name, residual_of}
use Rattle.fst_runs.specs.Logs.{Exchange, part_in}
use Rattle.fst_safety.specs.Threads.{shown}
use Rattle.fst_records.specs.Records.{shown_of}
use Rattle.fst_records.proofs.Laws.{parts_push}
use Rattle.fst_worker.specs.Records.{lag_by}

-- where the entry is one that the end sends, it is its part
pub shown_more : (w : Exchange → ℕ) (e : EndView) (d : Entry) → sends (residual_of e.knows) d.event ≡ true →
    sum_by w (shown_of e.channel e.knows.side e.knows.declared (e.knows.history ++ d ∷ [])) ≡ sum_by w (shown e) + lag_by w e
    (Some d)
unfolding residual
shown_more w e d q =
    parts_push w (end_name e) (Some (side_type e.knows.side e.knows.declared)) e.knows.history d ∙ ap
    (λ b. sum_by w (shown e) + w (part_in (end_name e) b d)) q
