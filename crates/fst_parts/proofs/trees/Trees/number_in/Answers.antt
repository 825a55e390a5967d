use Rattle.std.proofs.Common.{◌∙◌, sym, ap, get_or, length}
use Rattle.std.proofs.lemmas.Bool.{ltb-false}
use Rattle.std.proofs.lemmas.List.{get_or_past}
use Rattle.fst_parts.proofs.KeyTable.{entry_key}
use Rattle.fst_parts.proofs.trees.Trees.number_in.Goals as goal

pub returns-in-Some-get : goal.returns-in-Some-get
returns-in-Some-get c =
    rw (← c.self.view_is)
    (c.in-Some-get.ensures.lookup.3.1 0
    ∙ ap (λ key. get_or key c.args.k 0) (c.deref.ensures.value
    ∙ sym (entry_key c.self.inside.table.entries c.args.at _ c.in-Some.ensures.entry)))

pub returns-in-None-get : goal.returns-in-None-get
returns-in-None-get c =
    rw (← c.self.view_is)
    (sym (get_or_past c.deref.result.now c.args.k 0
    (ltb-false c.args.k (length c.deref.result.now) (sym c.in-None-get.ensures.lookup.0)))
    ∙ ap (λ key. get_or key c.args.k 0) (c.deref.ensures.value
    ∙ sym (entry_key c.self.inside.table.entries c.args.at _ c.in-Some.ensures.entry)))
