use Rattle.std.proofs.Common.{◌∙◌, ◌++◌, ap}
use Rattle.std.specs.List.{flat_map}
use Rattle.fst_value.specs.Nodes.{cells_in}
use Rattle.fst_value.specs.OneCell.{ends_at}
use Rattle.fst_value.proofs.Kept.{kept_ends}
use Rattle.fst_value.proofs.value.ends_of.Goals as goal

pub returns : goal.returns
returns c =
    let v = c.v.inside in
    c.in_ok-push_ends.ensures
    ∙ ap (λ ns. ns ++ flat_map ends_at (cells_in v.body.items)) (c.in_ok-push_end.ensures ∙ ap
    (λ ns. ns ++ ends_at v.root) c.new-names.ensures.items)
    ∙ kept_ends v.root v.body.items c.args.v.now c.v.invariant c.v.view_is
