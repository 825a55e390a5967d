use Rattle.std.proofs.Common.{refl, sym, subst}
use Rattle.std.specs.String.{string_bytes}
use Rattle.fst_vm.specs.declared.report.Outcome.TheVariants.{Done}
use Rattle.fst_command.specs.Views.{HasLines}
use Rattle.fst_command.proofs.running.write_logged.Goals as goal

pub returns-in_ok-events_text-in-Done : goal.returns-in_ok-events_text-in-Done
returns-in_ok-events_text-in-Done c =
    let merged = rw c.deref.ensures.value at c.in_ok-events-in-Done.ensures in
    let written = rw c.deref-in-Done.ensures.value at c.in_ok-events_text-in-Done.ensures in
    subst (λ l. HasLines l (Done c.in-Done.report) (string_bytes c.in_ok-events_text-in-Done.field-0)) (sym c.in-Done.is)
    (refl, c.in_ok-events-in-Done.events.items, merged, written)
