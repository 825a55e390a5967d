use Rattle.std.proofs.Common.{refl}
use Rattle.fst_types.specs.declared.side.Side.TheVariants.{Left, Right}
use Rattle.fst_expand.proofs.StepLaws.{underway_next}
use Rattle.fst_expand.proofs.joining.drop_next.Goals.{in-Left+in_ok-rests-in-Left+in_ok-note-in-Left, in-Right+in_ok-rests-in-Right+in_ok-note-in-Right}
use Rattle.fst_expand.proofs.joining.drop_next.Goals as goal

pub returns-clause-underway : goal.returns-clause-underway
returns-clause-underway c x y old u = elim c.match-side.branch [
  | in-Left+in_ok-rests-in-Left+in_ok-note-in-Left w ↦
      let e = w.in_ok-rests-in-Left.ensures in
      let s = w.in_ok-note-in-Left.ensures in
      let drop = rw w.in-Left.is at c.requires.drop in
      rw (w.table-is, w.walk-is)
      (underway_next c.args.norms.now c.args.words.now x y old _ _ _ _ Left c.args.norm _ c.requires.words
      (record {
        other = c.requires.other;
        drop = drop;
        left = e.left_within;
        right = e.right_within;
        left_is = e.left;
        right_is = e.right;
        number = e.cut;
        heads = refl;
        steps = (refl, s);
      })
      u)
  | in-Right+in_ok-rests-in-Right+in_ok-note-in-Right w ↦
      let e = w.in_ok-rests-in-Right.ensures in
      let s = w.in_ok-note-in-Right.ensures in
      let drop = rw w.in-Right.is at c.requires.drop in
      rw (w.table-is, w.walk-is)
      (underway_next c.args.norms.now c.args.words.now x y old _ _ _ _ Right c.args.norm _ c.requires.words
      (record {
        other = c.requires.other;
        drop = drop;
        left = e.left_within;
        right = e.right_within;
        left_is = e.left;
        right_is = e.right;
        number = e.cut;
        heads = refl;
        steps = (s, refl);
      })
      u)
]
