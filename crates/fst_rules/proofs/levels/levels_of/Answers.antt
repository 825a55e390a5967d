use Rattle.std.proofs.Common.{◌∙◌, ◌<◌, sym, ap, subst, arith}
use Rattle.fst_terms.specs.CoreTree.{core_height}
use Rattle.fst_derivations.specs.Deriv.{deriv_of, parts_of}
use Rattle.fst_rules.specs.Levels.{surroundings_at, rest_walk, AreLower}
use Rattle.fst_rules.specs.Walks.{after, walk_of}
use Rattle.fst_rules.proofs.LevelLaws.{walk_none, walk_peeled, after_twice, rest_last, lower_last}
use Rattle.fst_rules.proofs.levels.levels_of.Goals as goal

pub returns-in_default-clause-walk : goal.returns-in_default-clause-walk
returns-in_default-clause-walk c =
    let m = surroundings_at c.args.place.now in
    let p = rw c.in_default.is at c.in_ok-row.ensures in
    c.loop-levels.invariant.walk ∙ ap (λ F. after F (rest_walk m c.loop-levels.levels.items))
    (walk_none m c.loop-levels.head.now (deriv_of c.loop-levels.below.now) p)

pub returns-in-Head-clause-walk : goal.returns-in-Head-clause-walk
returns-in-Head-clause-walk c =
    let m = surroundings_at c.args.place.now in
    let p = rw c.in-Some.is at c.in_ok-row.ensures in
    c.loop-levels.invariant.walk
    ∙ ap (λ F. after F (rest_walk m c.loop-levels.levels.items))
    (walk_peeled m c.loop-levels.head.now (deriv_of c.loop-levels.below.now) c.in-Some.row.ty.now
    (parts_of c.in-Some.row.parts.now) p)

pub returns-in-Wrong-clause-walk : goal.returns-in-Wrong-clause-walk
returns-in-Wrong-clause-walk c =
    let m = surroundings_at c.args.place.now in
    let p = rw c.in-Some.is at c.in_ok-row.ensures in
    c.loop-levels.invariant.walk
    ∙ ap (λ F. after F (rest_walk m c.loop-levels.levels.items))
    (walk_peeled m c.loop-levels.head.now (deriv_of c.loop-levels.below.now) c.in-Some.row.ty.now
    (parts_of c.in-Some.row.parts.now) p ∙ c.in-Wrong.ensures)

pub loop-levels-preserved : goal.loop-levels-preserved
loop-levels-preserved c =
    let m = surroundings_at c.args.place.now in
    let p = rw c.in-Some.is at c.in_ok-row.ensures in
    let l = c.in-Step.level in
    let ls = c.loop-levels.levels.items in
    let first = walk_of m c.in-Step.first.now (deriv_of c.in-Step.part.now) in
    let second = walk_of m l.term.now (deriv_of l.derivation.now) in
    let down = c.in-Step.ensures in
    let i = c.loop-levels.invariant in
    let low = i.low in
    let under : core_height l.term.now < core_height c.args.term.now = omega (arith, down.2, low) in
    record {
      walk = i.walk
          ∙ ap (λ F. after F (rest_walk m ls)) (walk_peeled m c.loop-levels.head.now
          (deriv_of c.loop-levels.below.now) c.in-Some.row.ty.now (parts_of c.in-Some.row.parts.now) p ∙ down.0)
          ∙ after_twice first second (rest_walk m ls)
          ∙ ap (after first) (sym (rest_last m ls l) ∙ sym (ap (rest_walk m) c.in_ok-push-in-Step.ensures.items));
      low = omega (arith, down.1, low);
      lower = subst (AreLower (core_height c.args.term.now)) (sym c.in_ok-push-in-Step.ensures.items)
          (lower_last (core_height c.args.term.now) ls l i.lower under);
    }
