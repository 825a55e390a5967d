use Rattle.std.proofs.Common.{◌∙◌, Contains, sym, ap, subst}
use Rattle.fst_types.specs.declared.label.Label.TheVariants.{Offer}
use Rattle.fst_types.specs.ModelView.{branches_of, tree_of}
use Rattle.fst_lts.specs.Step.{labels}
use Rattle.fst_cell.proofs.LabelLaws.{AreWithin, offered_within, none_offered}
use Rattle.fst_cell.proofs.labels.+longest_offered.Goals as goal

pub returns-in-Offer-clause-some : goal.returns-in-Offer-clause-some
returns-in-Offer-clause-some t c = λ l h.
    offered_within c.longest_name.result c.in-Offer.branches.items
    (subst (AreWithin c.longest_name.result) c.deref.ensures.value c.longest_name.ensures) l
    (subst (λ w. Contains (labels w) (Offer l)) (sym c.t.view_is ∙ ap tree_of c.in-Offer.is) h)

pub returns-in-Select-clause-some : goal.returns-in-Select-clause-some
returns-in-Select-clause-some t c = λ l h.
    absurd (none_offered (branches_of c.in-Select.field-0.items) l
    (subst (λ w. Contains (labels w) (Offer l)) (sym c.t.view_is ∙ ap tree_of c.in-Select.is) h))
