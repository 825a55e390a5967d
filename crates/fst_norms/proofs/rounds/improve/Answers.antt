use Rattle.std.proofs.Common.{◌≡◌, arith, sym, ◌∙◌, below_more, ap, None}
use Rattle.std.proofs.lemmas.List.{get_or_read}
use Rattle.std.proofs.lemmas.Grind.{common_steps}
use Rattle.fst_words.specs.Words.{row_of}
use Rattle.fst_norms.specs.Bounds.{IsSettledAt, best_bound, bound_at, weight}
use Rattle.fst_norms.proofs.NormLaws.{improved_sound}
use Rattle.fst_norms.proofs.rounds.improve.Goals as goal
use Rattle.fst_norms.proofs.rounds.improve.Goals.{then-weight, else-weight}

pub loop-n-preserved : goal.loop-n-preserved
loop-n-preserved c =
    let row : c.as_slice.result.now ≡ row_of c.args.g.now.rules.items c.loop-n.n = grind (arith, common_steps) in
    let best : c.best_bound-best.result ≡ best_bound c.loop-n.bounds.items c.as_slice.result.now =
    rw (← c.deref.ensures.value) c.best_bound-best.ensures in
    elim c.if-weight.branch [
      | then-weight w ↦ record {
        len = grind (arith, common_steps);
        sound = rw w.bounds-is (improved_sound _ _ _ _ _ row
            (rw c.as_slice.ensures.rules c.as_slice.ensures.ordered) c.loop-n.invariant.sound best (omega arith));
        lower = grind (arith, common_steps);
        settled = λ e. cc;
      }
      | else-weight w ↦
          let old : c.index-in-loop-n.result.now ≡ bound_at c.loop-n.bounds.items c.loop-n.n =
          get_or_read c.loop-n.bounds.items c.loop-n.n c.index-in-loop-n.result.now
          (omega arith) c.index-in-loop-n.ensures None in
          let is : weight (bound_at c.loop-n.bounds.items c.loop-n.n) ≡ c.weight-in-loop-n.result =
          sym (c.weight-in-loop-n.ensures ∙ ap weight old) in
          let through : c.weight.result ≡ weight (best_bound c.loop-n.bounds.items (row_of c.args.g.now.rules.items c.loop-n.n)) =
          c.weight.ensures ∙ ap weight (rw row at best) in
          let here : IsSettledAt c.args.g.now.rules.items c.loop-n.bounds.items c.loop-n.n = omega arith in
          record {
            len = rw w.bounds-is c.loop-n.invariant.len;
            sound = rw w.bounds-is c.loop-n.invariant.sound;
            lower = grind (arith, common_steps);
            settled = λ e. rw w.bounds-is (below_more _ _ (c.loop-n.invariant.settled (sym w.changed-is ∙ e)) here);
          }
    ]
