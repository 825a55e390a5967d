use Rattle.std.proofs.Common.{[], append-nil, arith, length, ℕ, subst, sym}
use Rattle.fst_base.proofs.Lists.{get_there}
use Rattle.fst_expand.specs.Bridge.{AreFit, Meet}
use Rattle.fst_expand.proofs.FrontLaws.{front_alone, nothing_fits}
use Rattle.fst_expand.proofs.TopLaws.{expanded_first, expanded_next, first_room, good_cuts, no_first, no_next, settled}
use Rattle.fst_expand.proofs.expansion.spread.Goals as goal

pub meet-requires-clause-left : goal.meet-requires-clause-left
meet-requires-clause-left c =
    front_alone (length c.args.m.now.grammar.now.rules.items)
    (length c.args.m.now.lowering.now) c.args.m.now.marks.now c.args.table.now.words c.args.u.now
    c.requires.measured.lowering.count
    c.each_once.ensures.some c.each_once.ensures.empty c.requires.left

pub meet-requires-clause-right : goal.meet-requires-clause-right
meet-requires-clause-right c =
    front_alone (length c.args.m.now.grammar.now.rules.items)
    (length c.args.m.now.lowering.now) c.args.m.now.marks.now c.args.table.now.words c.args.v.now
    c.requires.measured.lowering.count
    c.each_once.ensures.some c.each_once.ensures.empty c.requires.right

pub meet-requires-clause-fit : goal.meet-requires-clause-fit
meet-requires-clause-fit c = rw c.requires.empty (nothing_fits c.args.m.now.marks.now (length c.args.m.now.lowering.now))

pub returns-in_default-clause-none : goal.returns-in_default-clause-none
returns-in_default-clause-none c e =
    let m = c.requires.measured in
    let full = rw c.in_default.is at c.in_ok-joined.ensures.crowded in
    let full2 = rw (c.each_once.ensures.empty, append-nil c.args.u.now, append-nil c.args.v.now, c.requires.empty) at full in
    no_first c.args.m.now.grammar.now.rules.items c.args.m.now.marks.now c.args.m.now.norms.now c.args.m.now.lowering.now
    m.are_norms m.lowering c.args.u.now c.args.v.now c.args.budget
    c.meet.new.table.pairs c.each_once-in_default.ensures.pairs full2

pub loop-at-init : goal.loop-at-init
loop-at-init c =
    let m = c.requires.measured in
    let met = rw c.in-Some.is at c.in_ok-joined.ensures.met in
    let met2 : Meet c.args.m.now.marks.now c.args.m.now.norms.now c.args.m.now.lowering.now c.args.u.now c.args.v.now []
    c.meet.new.table.pairs c.in-Some.joined.heads =
    rw (c.each_once.ensures.empty, append-nil c.args.u.now, append-nil c.args.v.now, c.requires.empty) at met in
    let room = rw c.in-Some.is at c.in_ok-joined.ensures.room in
    record {
      expanded = expanded_first c.args.m.now.grammar.now.rules.items c.args.m.now.marks.now c.args.m.now.norms.now
          c.args.m.now.lowering.now m.are_norms m.lowering c.args.u.now c.args.v.now
          c.args.budget c.meet.new.table.pairs c.in-Some.joined.heads m.lowering.count met2 (omega arith);
      once = c.each_once-2.ensures.pairs;
      room = omega arith;
      most = omega arith;
    }

pub returns-in_default-2-clause-none : goal.returns-in_default-2-clause-none
returns-in_default-2-clause-none c e =
    let m = c.requires.measured in
    let count = c.len.ensures.count in
    let within = c.loop-at-test.true in
    let t = get_there c.loop-at.table.pairs c.loop-at.at (omega arith) in
    let stuck = rw c.in_default-2.is at c.in_ok-heads.ensures.stuck in
    no_next c.args.m.now.grammar.now.rules.items c.args.m.now.marks.now c.args.m.now.norms.now c.args.m.now.lowering.now
    m.are_norms m.lowering c.args.u.now c.args.v.now c.args.budget
    c.loop-at.table.pairs c.follow.new.table.pairs c.loop-at.at t.0 c.loop-at.room t.1 c.loop-at.invariant.expanded
    c.each_once-in_default-2.ensures.pairs (stuck t.0 t.1)

pub loop-at-preserved : goal.loop-at-preserved
loop-at-preserved c =
    let m = c.requires.measured in
    let count = c.len.ensures.count in
    let within = c.loop-at-test.true in
    let t = get_there c.loop-at.table.pairs c.loop-at.at (omega arith) in
    let followed = rw c.in-Some-2.is at c.in_ok-heads.ensures.followed in
    let f = followed t.0 t.1 in
    let room = rw c.in-Some-2.is at c.in_ok-heads.ensures.room in
    let before = c.loop-at.invariant.most in
    record {
      expanded = expanded_next c.args.m.now.grammar.now.rules.items c.args.m.now.marks.now c.args.m.now.norms.now
          c.args.m.now.lowering.now m.are_norms m.lowering c.args.u.now c.args.v.now
          c.args.budget c.loop-at.table.pairs c.follow.new.table.pairs c.loop-at.at t.0 c.loop-at.room c.in-Some-2.heads t.1
          c.loop-at.invariant.expanded c.each_once-in-loop-at.ensures.pairs f (omega arith);
      once = c.each_once-in-loop-at.ensures.pairs;
      room = omega arith;
      most = omega arith;
    }

pub returns-clause-good : goal.returns-clause-good
returns-clause-good c e =
    let m = c.requires.measured in
    let count = c.len.ensures.count in
    let end = c.loop-at-test.false in
    let i = c.loop-at.invariant in
    good_cuts c.args.m.now.grammar.now.rules.items c.args.m.now.marks.now c.args.m.now.norms.now c.args.m.now.lowering.now
    m.are_norms m.lowering c.args.u.now c.args.v.now c.args.budget
    c.loop-at.table.pairs c.loop-at.at c.loop-at.room (omega arith) i.room i.expanded i.once

pub returns-clause-first : goal.returns-clause-first
returns-clause-first c e =
    let m = c.requires.measured in
    let count = c.len.ensures.count in
    let end = c.loop-at-test.false in
    let i = c.loop-at.invariant in
    first_room c.args.m.now.grammar.now.rules.items c.args.m.now.marks.now c.args.m.now.norms.now c.args.m.now.lowering.now
    m.are_norms m.lowering c.args.u.now c.args.v.now c.args.budget
    c.loop-at.table.pairs c.loop-at.at c.loop-at.room (omega arith) i.room i.expanded

pub returns-clause-settled : goal.returns-clause-settled
returns-clause-settled c e =
    let m = c.requires.measured in
    let count = c.len.ensures.count in
    let end = c.loop-at-test.false in
    let i = c.loop-at.invariant in
    settled c.args.m.now.grammar.now.rules.items c.args.m.now.marks.now c.args.m.now.norms.now c.args.m.now.lowering.now
    m.are_norms m.lowering c.args.u.now c.args.v.now c.args.budget
    c.loop-at.table.pairs c.loop-at.at c.loop-at.room (omega arith) i.room i.expanded

pub returns-clause-fit : goal.returns-clause-fit
returns-clause-fit c e =
    let long = c.requires.measured.lowering.count in
    subst (λ (k : ℕ). AreFit c.args.m.now.marks.now k c.loop-at.table.pairs) (sym long) c.loop-at.invariant.expanded.fit
