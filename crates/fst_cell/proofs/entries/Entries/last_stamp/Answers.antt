use Rattle.std.proofs.Common.{◌∙◌, ap, List, ◌-◌, length}
use Rattle.std.specs.Prelude.{slice_get}
use Rattle.fst_types.specs.declared.event.Entry.{Entry}
use Rattle.fst_lts.proofs.Laws.{last_at}
use Rattle.fst_cell.proofs.entries.Entries.last_stamp.Goals as goal

pub returns-in-Some : goal.returns-in-Some
returns-in-Some c = last_at c.args.self.now c.in-Some.entry.now
    (c.in-Some.ensures.value ∙ ap (λ (l : List Entry). slice_get l (length l - 1)) (c.deref.ensures.value ∙ c.self.view_is))
