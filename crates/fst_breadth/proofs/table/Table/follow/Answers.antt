use Rattle.std.proofs.Common.{◌++◌, ◌∷◌, [], ◌∙◌, ap, List}
use Rattle.std.specs.Prelude.{slice_get}
use Rattle.fst_breadth.specs.Reached.{ReachedPair}
use Rattle.fst_breadth.specs.Tables.{trace_at}
use Rattle.fst_breadth.proofs.PairLaws.{trace_there, follows_same}
use Rattle.fst_breadth.proofs.table.Table.follow.Goals as goal

pub returns : goal.returns
returns c e is =
    let there = ap (λ (F : List ReachedPair). slice_get F c.args.at) c.self.view_is ∙ is in
    let left = c.in_ok-left_word.ensures.left e there in
    let right = c.in_ok-left_word.ensures.right e there in
    let found = c.next.ensures.found ∙ c.self.view_is in
    let trace = ap (λ (F : List ReachedPair). trace_at F c.args.at) found ∙ trace_there c.args.self.now c.args.at e is in
    follows_same _ _ _ _ _ _ _ found (λ i. record { left = left i; right = right i; trace = trace i ++ c.args.letter ∷ [] })
    c.in_ok-followed.ensures
