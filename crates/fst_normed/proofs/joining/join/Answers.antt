use Rattle.std.proofs.Common.{◌<◌, ap, arith, length, reverse, subst, List, Option, ℕ}
use Rattle.std.proofs.lemmas.List.Elements.{All-head}
use Rattle.std.proofs.lemmas.Result.{err_from_is_err_and}
use Rattle.fst_words.specs.Words.{WordBelow}
use Rattle.fst_normed.specs.Candidates.{IsThere}
use Rattle.fst_normed.specs.Joining.{AreJoinedByHeads, exchanged, exchanges}
use Rattle.fst_normed.specs.Walks.{IsUnderwayWith, rewrites_in}
use Rattle.fst_normed.proofs.ExchangeLaws.{nothing_exchanged}
use Rattle.fst_normed.proofs.NotedLaws.{noted_as, noted_none, noted_on}
use Rattle.fst_normed.proofs.StopLaws.{shows_on}
use Rattle.fst_normed.proofs.WalkLaws.{heads_count, heads_there, starts}
use Rattle.fst_normed.proofs.joining.join.Goals as goal

pub loop-n-init : goal.loop-n-init
loop-n-init c =
    let e = c.in_ok-walk.ensures in
    record {
      underway = rw (e.left, e.right, e.front, e.before, e.after)
          (starts c.args.norms.now c.args.words.now c.args.needed.now c.args.left.now c.args.right.now c.requires.left
          c.requires.right);
      noted = noted_none (length c.args.words.now) c.args.norms.now
          (IsThere (exchanges c.args.norms.now c.args.words.now c.args.left.now c.args.right.now)) c.args.needed.now
          c.requires.are;
      spent = (let before = ap length e.before in let after = ap length e.after in omega arith);
    }

pub drop_heads-requires-clause-n : goal.drop_heads-requires-clause-n
drop_heads-requires-clause-n c =
    let p = rw c.in-Some.is at c.pop_heads.ensures.some in
    All-head (λ k. k < length c.args.words.now) c.in-Some.n (reverse c.pop_heads.new.walk.left.items)
    (subst (WordBelow (length c.args.words.now)) p.left c.loop-n.invariant.underway.left_below)

pub drop_heads-requires-clause-m : goal.drop_heads-requires-clause-m
drop_heads-requires-clause-m c =
    let p = rw c.in-Some.is at c.pop_heads.ensures.some in
    All-head (λ k. k < length c.args.words.now) c.in-Some.m (reverse c.pop_heads.new.walk.right.items)
    (subst (WordBelow (length c.args.words.now)) p.right c.loop-n.invariant.underway.right_below)

pub drop_heads-requires-clause-are : goal.drop_heads-requires-clause-are
drop_heads-requires-clause-are c = c.loop-n.invariant.noted.are

pub loop-n-preserved : goal.loop-n-preserved
loop-n-preserved c =
    let i = c.loop-n.invariant in
    let e = c.in_ok-drop_heads.ensures in
    let norms = c.args.norms.now in
    let words = c.args.words.now in
    let p = rw c.in-Some.is at c.pop_heads.ensures.some in
    let with : IsUnderwayWith norms words c.loop-n.needed c.args.left.now c.args.right.now c.pop_heads.new.walk c.in-Some.n
    c.in-Some.m =
    rw (← p.left, ← p.right, p.front, p.before, p.after) i.underway in
    let all = exchanges norms words c.args.left.now c.args.right.now in
    let here = noted_as (length words) norms (IsThere (exchanged norms c.in-Some.n c.in-Some.m)) (IsThere all) c.loop-n.needed
    c.drop_heads.new.needed (heads_there norms words c.requires.words c.requires.lowering c.loop-n.needed c.args.left.now
    c.args.right.now c.pop_heads.new.walk.front.items c.in-Some.n c.in-Some.m _ _ _ _ with) e.noted in
    let before = ap length p.before in
    let after = ap length p.after in
    let old = i.spent in
    let new = e.spent in
    record {
      underway = e.underway c.args.left.now c.args.right.now with;
      noted = noted_on (length words) norms (IsThere all) c.args.needed.now c.loop-n.needed c.drop_heads.new.needed i.noted here;
      spent = omega arith;
    }

pub returns-in_err-drop_heads-clause-stopped : goal.returns-in_err-drop_heads-clause-stopped
returns-in_err-drop_heads-clause-stopped c =
    let i = c.loop-n.invariant in
    let norms = c.args.norms.now in
    let words = c.args.words.now in
    let x = c.args.left.now in
    let y = c.args.right.now in
    let p = rw c.in-Some.is at c.pop_heads.ensures.some in
    let with : IsUnderwayWith norms words c.loop-n.needed x y c.pop_heads.new.walk c.in-Some.n c.in-Some.m =
    rw (← p.left, ← p.right, p.front, p.before, p.after) i.underway in
    let many = heads_count norms words c.requires.words c.requires.lowering c.loop-n.needed x y
    c.pop_heads.new.walk.front.items c.in-Some.n c.in-Some.m _ _ _ _ with in
    let before = ap length p.before in
    let after = ap length p.after in
    let old = i.spent in
    let s = err_from_is_err_and c.from_residual-in_err-drop_heads.result c.from_residual-in_err-drop_heads.ensures.1 in
    let stop = c.in_err-drop_heads.ensures.stopped in
    rw s.1 (shows_on s.0 ⊥ (c.loop-n.rewrites < length (exchanged norms c.in-Some.n c.in-Some.m))
    (AreJoinedByHeads norms words x y → ⊥) (c.args.rewrites.now < length (exchanges norms words x y))
    (λ h. absurd h) (λ h. omega arith) (rw s.2 stop))

pub returns-clause-leads : goal.returns-clause-leads
returns-clause-leads c =
    let same = rw c.in_default.is at c.pop_heads.ensures.none in
    c.in_ok-steps.ensures.leads c.args.norms.now c.args.words.now c.loop-n.needed c.args.left.now c.args.right.now
    (rw same c.loop-n.invariant.underway)

pub returns-clause-noted : goal.returns-clause-noted
returns-clause-noted c = c.loop-n.invariant.noted

pub returns-clause-spent : goal.returns-clause-spent
returns-clause-spent c =
    let same = ap rewrites_in (rw c.in_default.is at c.pop_heads.ensures.none) in
    let count = c.in_ok-steps.ensures.count in
    let spent = c.loop-n.invariant.spent in
    omega arith

pub returns-clause-count : goal.returns-clause-count
returns-clause-count c =
    let i = c.loop-n.invariant.underway in
    let same = ap rewrites_in (rw c.in_default.is at c.pop_heads.ensures.none) in
    let made = c.in_ok-steps.ensures.count in
    let none = ap length (nothing_exchanged c.args.norms.now c.args.words.now (reverse c.loop-n.walk.left.items)
    (reverse c.loop-n.walk.right.items) (rw c.in_default.is at c.pop_heads.ensures.empty)) in
    let all = i.count in
    omega arith

pub returns-in_err-steps-clause-stopped : goal.returns-in_err-steps-clause-stopped
returns-in_err-steps-clause-stopped c =
    let norms = c.args.norms.now in
    let words = c.args.words.now in
    let x = c.args.left.now in
    let y = c.args.right.now in
    let same = rw c.in_default.is at c.pop_heads.ensures.none in
    let s = err_from_is_err_and c.from_residual-in_err-steps.result c.from_residual-in_err-steps.ensures.1 in
    let stop = c.in_err-steps.ensures.stopped in
    let left = reverse c.pop_heads.new.walk.left.items in
    let right = reverse c.pop_heads.new.walk.right.items in
    let joined : AreJoinedByHeads norms words x y → AreJoinedByHeads norms words left right =
    rw same c.loop-n.invariant.underway.joined in
    rw s.1 (shows_on s.0 ((k : List (Option ℕ)) (ws : List (List ℕ)) → AreJoinedByHeads k ws left right → ⊥) ⊥
    (AreJoinedByHeads norms words x y → ⊥) (c.args.rewrites.now < length (exchanges norms words x y))
    (λ h j. h norms words (joined j)) (λ h. absurd h) (rw s.2 stop))
