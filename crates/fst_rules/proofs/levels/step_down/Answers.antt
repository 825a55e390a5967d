use Rattle.std.proofs.Common.{◌≡◌, ◌∙◌, sym, ap, subst, arith, Some}
use Rattle.fst_terms.specs.CoreTree.{operate, apply, core_height}
use Rattle.fst_terms.specs.ModelCoreView.{core_of}
use Rattle.fst_derivations.specs.Deriv.{deriv_of, parts_of, type_of}
use Rattle.fst_rules.specs.Levels.{surroundings_at}
use Rattle.fst_rules.specs.Walks.{after, row_walk, walk_of, parts_2}
use Rattle.fst_fits.specs.Fits.{operate_fits, apply_fits}
use Rattle.fst_rules.proofs.LevelLaws.{row_2_some}
use Rattle.fst_rules.proofs.levels.step_down.Goals as goal

pub returns-else-not-operate_fits : goal.returns-else-not-operate_fits
returns-else-not-operate_fits c =
    let m = surroundings_at c.args.place.now in
    let t = c.args.row.ty.now in
    let ds = parts_of c.args.row.parts.now in
    let d = deriv_of c.in-Some.d.now in
    let h = deriv_of c.in-Some.h.now in
    let te : operate c.term.inside.at c.in-Operate.op c.deref.result.now c.deref-in-Operate.result.now ≡ c.args.term.now =
    (λ i. operate c.term.inside.at c.in-Operate.op (c.deref.ensures i) (c.deref-in-Operate.ensures i))
    ∙ ap (core_of c.term.inside.at) (sym c.in-Operate.is) ∙ c.term.view_is in
    let ps : Some (d, h) ≡ parts_2 ds = c.in-Some.ensures in
    let f : c.operate_fits.result ≡ operate_fits c.in-Operate.op t (type_of d) (type_of h) = c.operate_fits.ensures
    ∙ (λ i. operate_fits c.in-Operate.op t (c.type_of.ensures i) (c.type_of-in-Operate.ensures i)) in
    let high = ap core_height te in (
      subst (λ e. row_walk m e t ds ≡ after (walk_of m c.deref.result.now d) (walk_of m c.deref-in-Operate.result.now h)) te
          (row_2_some (operate_fits c.in-Operate.op t) ds (walk_of m c.deref.result.now)
          (walk_of m c.deref-in-Operate.result.now) d h c.operate_fits.result ps f c.if-not-operate_fits.false),
      omega (arith, high),
      omega (arith, high),
    )

pub returns-else-not-apply_fits : goal.returns-else-not-apply_fits
returns-else-not-apply_fits c =
    let m = surroundings_at c.args.place.now in
    let t = c.args.row.ty.now in
    let ds = parts_of c.args.row.parts.now in
    let d = deriv_of c.in-Some-two.d.now in
    let h = deriv_of c.in-Some-two.h.now in
    let te : apply c.term.inside.at c.deref-in-Apply.result.now c.deref-in-Apply-2.result.now ≡ c.args.term.now =
    (λ i. apply c.term.inside.at (c.deref-in-Apply.ensures i) (c.deref-in-Apply-2.ensures i))
    ∙ ap (core_of c.term.inside.at) (sym c.in-Apply.is) ∙ c.term.view_is in
    let ps : Some (d, h) ≡ parts_2 ds = c.in-Some-two.ensures in
    let f : c.apply_fits.result ≡ apply_fits t (type_of d) (type_of h) = c.apply_fits.ensures
    ∙ (λ i. apply_fits t (c.type_of-in-Apply.ensures i) (c.type_of-in-Apply-2.ensures i)) in
    let high = ap core_height te in (
      subst (λ e. row_walk m e t ds ≡ after (walk_of m c.deref-in-Apply.result.now d) (walk_of m c.deref-in-Apply-2.result.now h))
          te
          (row_2_some (apply_fits t) ds (walk_of m c.deref-in-Apply.result.now)
          (walk_of m c.deref-in-Apply-2.result.now) d h c.apply_fits.result ps f c.if-not-apply_fits.false),
      omega (arith, high),
      omega (arith, high),
    )
