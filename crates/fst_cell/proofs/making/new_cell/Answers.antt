use Rattle.std.proofs.Common.{ap, ◌∙◌, ◌∷◌, ◌++◌, [], Option, Some, None, List}
use Rattle.fst_types.specs.declared.event.Entry.{Entry}
use Rattle.fst_cell.specs.declared.content.Content.{Content}
use Rattle.fst_cell.proofs.Calling.{opens_as}
use Rattle.fst_cell.proofs.making.new_cell.Goals as goal

pub new-requires-2 : goal.new-requires-2
new-requires-2 c =
    let with : List Entry → Option Content = λ h. Some (record { declared = c.args.declared; history = h; offer = None }) in
    opens_as c.args.declared _ _ c.requires c.in_ok-left_type.ensures
    (c.push_reserved.ensures.items ∙ ap (λ (l : List (Option Content)). l ++ with c.new.result ∷ []) c.in_ok-slots.ensures.items
    ∙ ap (λ (h : List Entry). with h ∷ []) c.new.ensures)
