use Rattle.std.proofs.Common.{◌≡◌, ◌<◌, ◌∷◌, ap, arith, length, reverse}
use Rattle.fst_norms.specs.Bounds.{total}
use Rattle.fst_norms.proofs.Laws.{total-append}
use Rattle.fst_normed.specs.Candidates.{IsThere, residual}
use Rattle.fst_normed.specs.Joining.{exchanged}
use Rattle.fst_normed.proofs.ExchangeLaws.{left_there, right_there}
use Rattle.fst_normed.proofs.LowerLaws.{residual_total}
use Rattle.fst_normed.proofs.NotedLaws.{noted_as}
use Rattle.fst_normed.proofs.WalkLaws.{left_step, right_step, same_step, underway_on}
use Rattle.fst_normed.proofs.joining.drop_heads.Goals as goal

pub returns-then-n-m-clause-underway : goal.returns-then-n-m-clause-underway
returns-then-n-m-clause-underway c x y u =
    same_step c.args.norms.now c.args.words.now c.requires.words c.requires.lowering c.args.needed.now x y
    c.args.walk.now.front.items c.args.n c.args.m _ _ _ _ u _ c.if-n-m.true c.in_ok-push.ensures.items

pub returns-then-norm_of-clause-underway : goal.returns-then-norm_of-clause-underway
returns-then-norm_of-clause-underway c x y u =
    let norms = c.args.norms.now in
    let words = c.args.words.now in
    let e = c.in_ok-pair.ensures in
    let first = c.norm_of.ensures in
    let second = c.norm_of-2.ensures in
    let le = c.if-norm_of.true in
    let place : c.len-at.result ≡ length c.args.walk.now.front.items =
    omega (arith, c.args.walk.now.front.ok.0, c.len-at.ensures) in
    let on = underway_on norms words c.args.needed.now c.exchange.new.needed e.noted.behind x y _ _ _ _ _ u in
    right_step norms words c.requires.words c.requires.lowering c.exchange.new.needed x y c.args.walk.now.front.items
    c.args.n c.args.m _ _ _ _ on c.in_ok-pair.pair c.len-at.result _ _ _ c.if-n-m.false (omega arith)
    e.place e.below place c.in_ok-push-3.ensures.items e.stack c.in_ok-push-2.ensures.items

pub returns-then-norm_of-clause-noted : goal.returns-then-norm_of-clause-noted
returns-then-norm_of-clause-noted c =
    let norms = c.args.norms.now in
    let first = c.norm_of.ensures in
    let second = c.norm_of-2.ensures in
    let le = c.if-norm_of.true in
    noted_as (length c.args.words.now) norms (λ d. (c.args.n, c.args.m) ≡ d) (IsThere (exchanged norms c.args.n c.args.m))
    c.args.needed.now c.exchange.new.needed
    (right_there norms c.args.words.now c.args.n c.args.m c.if-n-m.false (omega arith)) c.in_ok-pair.ensures.noted

pub returns-clause-underway : goal.returns-clause-underway
returns-clause-underway c x y u =
    let norms = c.args.norms.now in
    let words = c.args.words.now in
    let e = c.in_ok-pair-2.ensures in
    let first = c.norm_of.ensures in
    let second = c.norm_of-2.ensures in
    let lt = c.if-norm_of.false in
    let place : c.len-at.result ≡ length c.args.walk.now.front.items =
    omega (arith, c.args.walk.now.front.ok.0, c.len-at.ensures) in
    let on = underway_on norms words c.args.needed.now c.exchange-2.new.needed e.noted.behind x y _ _ _ _ _ u in
    left_step norms words c.requires.words c.requires.lowering c.exchange-2.new.needed x y c.args.walk.now.front.items
    c.args.n c.args.m _ _ _ _ on c.in_ok-pair-2.pair c.len-at.result _ _ _ c.if-n-m.false (omega arith)
    e.place e.below place c.in_ok-push-5.ensures.items e.stack c.in_ok-push-4.ensures.items

pub returns-clause-noted : goal.returns-clause-noted
returns-clause-noted c =
    let norms = c.args.norms.now in
    let first = c.norm_of.ensures in
    let second = c.norm_of-2.ensures in
    let lt = c.if-norm_of.false in
    noted_as (length c.args.words.now) norms (λ d. (c.args.m, c.args.n) ≡ d) (IsThere (exchanged norms c.args.n c.args.m))
    c.args.needed.now c.exchange-2.new.needed
    (left_there norms c.args.words.now c.args.n c.args.m c.if-n-m.false (omega arith)) c.in_ok-pair-2.ensures.noted

pub returns-clause-less : goal.returns-clause-less
returns-clause-less c =
    let norms = c.args.norms.now in
    let words = c.args.words.now in
    let rest = reverse c.args.walk.now.left.items in
    let is = ap (total norms) c.in_ok-pair-2.ensures.stack in
    let sum = total-append norms (residual norms words c.args.m c.args.n) rest in
    let first = c.norm_of.ensures in
    let second = c.norm_of-2.ensures in
    let lt = c.if-norm_of.false in
    let low = residual_total norms words c.requires.words c.requires.lowering c.args.m c.args.n c.requires.n (omega arith) in
    let some = c.requires.lowering c.args.m c.requires.m in
    let g : total norms (reverse c.exchange-2.new.stack.items) < total norms (c.args.n ∷ rest) = omega arith in
    g
