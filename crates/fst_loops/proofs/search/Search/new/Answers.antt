use Rattle.std.proofs.Common.{ℕ, List, replicate, sym, ap, ◌∙◌, refl}
use Rattle.std.specs.Prelude.{map}
use Rattle.std.proofs.lemmas.List.{length-map}
use Rattle.fst_loops.specs.Graphs.{items_of}
use Rattle.fst_loops.specs.declared.search.Mark.TheVariants.{Unseen}
use Rattle.fst_loops.proofs.Steps.{begun, moved}
use Rattle.fst_loops.proofs.search.Search.new.Goals as goal

pub returns-clause-search : goal.returns-clause-search
returns-clause-search c =
    let g : List (List ℕ) = map items_of c.args.graph.now in
    moved (begun g c.in_ok-own_loops.field-0.items c.in_ok-own_loops.ensures)
    (c.in_ok-vec.ensures.items_if_clones_equal (λ y e. e) ∙ ap
    (λ n. replicate n Unseen) (sym (length-map c.args.graph.now items_of)))
    c.new.ensures.items c.new-2.ensures.items c.new-3.ensures.items c.new-4.ensures.items refl
