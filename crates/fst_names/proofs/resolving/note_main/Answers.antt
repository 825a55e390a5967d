use Rattle.std.proofs.Common.{◌∙◌, ap, sym}
use Rattle.fst_scopes.specs.declared.fault.NameFault.TheVariants.{NoMain}
use Rattle.fst_scopes.specs.First.{earlier, first_fault}
use Rattle.fst_names.proofs.ModuleLaws.{main_kept, main_there, main_told}
use Rattle.fst_names.proofs.resolving.note_main.Goals as goal

pub returns-in-Some : goal.returns-in-Some
returns-in-Some c = λ ds fs are is. is ∙ ap first_fault (sym (main_kept ds fs c.in-Some.field-0 (sym c.in-Some.is ∙ is)))

pub returns-then-branch : goal.returns-then-branch
returns-then-branch c = λ ds fs are is. is ∙ ap first_fault
    (sym (main_there ds fs (sym (c.in_ok-has_main-in-None.ensures ds are) ∙ c.if-branch.true)))

pub returns-else-branch : goal.returns-else-branch
returns-else-branch c = λ ds fs are is.
    c.note.ensures ∙ ap (λ o. earlier o NoMain) c.in-None.is
    ∙ main_told ds fs (sym (c.in_ok-has_main-in-None.ensures ds are) ∙ c.if-branch.false) (sym is ∙ c.in-None.is)
