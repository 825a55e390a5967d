use Rattle.std.proofs.Common.{◌≡◌, ◌≤◌, vec_len, refl, sym, subst, arith}
use Rattle.fst_worker.specs.Passes.{RetiresTo}
use Rattle.fst_worker.proofs.Passing.{retires_none, retires_one}
use Rattle.fst_worker.proofs.shares.Share.retire.Goals as goal

pub loop-self-init : goal.loop-self-init
loop-self-init c = record {
  kept = c.requires.kept;
  room = c.requires.room;
  retires = retires_none c.args.kept c.args.self.now (vec_len c.args.self.now.tasks) c.args.self.now.tasks.ok.0;
  same = (refl, refl, refl);
}

pub loop-self-preserved : goal.loop-self-preserved
loop-self-preserved c =
    let t = c.loop-self-test.true in
    let n = c.len.ensures in
    let next = c.in-Some.ensures.cases in
    let room = c.loop-self.invariant.room in
    let len = c.push_reserved.ensures.len in
    let cap = c.push_reserved.ensures.capacity in
    let le : c.args.kept ≤ vec_len c.pop.new.self = omega (arith, t, n, next) in
    record {
      kept = le;
      room = omega (arith, t, n, next, room, len, cap);
      retires = retires_one c.args.kept (vec_len c.loop-self.self.tasks)
          (vec_len c.pop.new.self) c.args.self.now c.loop-self.self _ c.in-Some.task le (sym next) c.loop-self.invariant.retires
          c.in-Some.ensures.items c.push_reserved.ensures.items refl (refl, refl, refl) c.pop.new.self.ok.0;
      same = c.loop-self.invariant.same;
    }

pub returns-clause-retires : goal.returns-clause-retires
returns-clause-retires c =
    let t = c.loop-self-test.false in
    let n = c.len.ensures in
    let le = c.loop-self.invariant.kept in
    let is : vec_len c.loop-self.self.tasks ≡ c.args.kept = omega (arith, t, n, le) in
    subst (λ n. RetiresTo c.args.kept n c.args.self.now c.loop-self.self) is c.loop-self.invariant.retires
