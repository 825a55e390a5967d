use Rattle.std.proofs.Common.{◌≡◌, ℕ, ◌<◌, List, ◌++◌, length, set, subst, sym, ap, ◌∙◌, refl, arith, length-append}
use Rattle.std.specs.Prelude.{map}
use Rattle.std.proofs.lemmas.List.{length-map, length_push}
use Rattle.fst_loops.specs.Graphs.{items_of, edges}
use Rattle.fst_loops.specs.Searches.{KeepsMet}
use Rattle.fst_loops.specs.declared.search.Mark.{Mark}
use Rattle.fst_loops.specs.declared.search.Mark.TheVariants.{Open}
use Rattle.fst_loops.specs.declared.search.Part.{Part}
use Rattle.fst_loops.proofs.Parts.{row_is, unseen_work-set}
use Rattle.fst_loops.proofs.Steps.{opened, opened_met, moved}
use Rattle.fst_loops.proofs.search.Search.open.Goals as goal

pub returns-clause-step : goal.returns-clause-step
returns-clause-step c =
    let g : List (List ℕ) = map items_of c.args.graph.now in
    let s = c.args.self.now in
    let node = c.args.node in
    let part : Part = record { first = c.len.result; before = c.len-2.result } in
    let within : node < length g = omega (arith, c.requires.node, length-map c.args.graph.now items_of) in
    let marked : node < length s.marks.items = omega (arith, within, c.requires.search.found.marked) in
    let first : c.len.result ≡ length s.path.items = omega (arith, c.len.ensures, s.path.ok.0) in
    let before : c.len-2.result ≡ length s.pending.items = omega (arith, c.len-2.ensures, s.pending.ok.0) in
    let row : edges g node ≡ c.deref.result.now =
    row_is c.args.graph.now node c.index-graph-node.result c.requires.node c.index-graph-node.is
    ∙ sym c.deref.ensures.value in
    let pending : c.extend_from_slice.new.self.items ≡ s.pending.items ++ edges g node = c.in_ok-extend_from_slice.ensures.items
    ∙ ap (λ (w : List ℕ). s.pending.items ++ w) (sym row) in
    let marks : set s.marks.items node (Open c.len.result) ≡ set s.marks.items node (Open (length s.path.items)) = ap
    (λ k. set s.marks.items node (Open k)) first in
    record {
      search = moved (opened g s.marks.items s.path.items s.parts.items s.pending.items s.order.items s.looped.items node
          c.requires.search within c.requires.unseen c.requires.led part first before)
          marks c.in_ok-push.ensures.items c.in_ok-push-2.ensures.items pending refl refl;
      met = subst (λ (m : List Mark). KeepsMet s.marks.items m) (sym marks)
          (opened_met g s.marks.items s.path.items s.parts.items s.pending.items s.order.items s.looped.items node
          c.requires.search within c.requires.unseen c.requires.led part first before);
      less = omega (
        arith,
        unseen_work-set g s.marks.items node c.len.result within marked c.requires.unseen,
        ap length pending,
        length-append s.pending.items (edges g node),
        ap length c.in_ok-push-2.ensures.items,
        length_push s.parts.items part,
      );
    }
