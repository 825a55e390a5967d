use Rattle.std.proofs.Common.{◌≡◌, ◌∙◌, ◌++◌, length, ap, arith, reverse}
use Rattle.std.specs.Prelude.{if◌then◌else◌}
use Rattle.fst_value.specs.Pieces.{root_pieces, root_text}
use Rattle.fst_value.proofs.Kept.{are_nodes}
use Rattle.fst_value.proofs.Printed.{parts_left, parts_to_come}
use Rattle.fst_value.proofs.printing.print.Goals as goal
use Rattle.fst_value.proofs.printing.print.Goals.{then-shown, else-shown}

pub loop-piece-init : goal.loop-piece-init
loop-piece-init c =
    let families = c.args.families.now in
    let v = c.v.inside in
    let shown = c.in_ok-shown.shown in
    let at : c.if-shown.at ≡ (if shown then 0 else length v.body.items) =
    elim c.if-shown.branch [
      | then-shown w ↦ rw w.if-shown.true w.at-is
      | else-shown w ↦ rw w.if-shown.false (omega (arith, w.at-is, w.len-at.ensures, v.body.ok))
    ]
    in
    record {
      nodes = are_nodes _ _ (parts_left v.root v.body.items c.args.v.now shown c.if-shown.at c.v.invariant c.v.view_is at);
      text = parts_to_come families v.root v.body.items c.args.v.now shown c.if-shown.at _ _ c.v.invariant c.v.view_is at
          c.in_ok-shown.ensures.shown
          (c.in_ok-shown.ensures.text ∙ ap (λ text. text ++ root_text families v.root) c.new-text.ensures.bytes)
          (c.in_ok-shown.ensures.pieces ∙ ap (λ ps. root_pieces families v.root ++ reverse ps) c.new-stack.ensures.items);
    }
