use Rattle.std.proofs.Common.{◌≡◌, ◌∙◌, ◌+◌, ◌-◌, ◌<◌, ap, sym, arith, length, set, get_or, drop, suc, subst}
use Rattle.std.specs.Prelude.{sum}
use Rattle.std.proofs.lemmas.List.{get_or_default}
use mathlib.Core.List.{reverse}
use Rattle.fst_context.specs.Scope.{fewer}
use Rattle.fst_context.proofs.Backward.{Zeros, fewer_at, fewer_none, sum_none}
use Rattle.fst_context.proofs.bodies.count_one_fewer.Goals as goal

pub returns-then-index-gt0-clause-counts : goal.returns-then-index-gt0-clause-counts
returns-then-index-gt0-clause-counts c =
    let ns = c.loop-i.bodies.items in
    let i = c.loop-i.i - 1 in
    let d = c.index_mut.result.now in
    let n : suc i ≡ c.loop-i.i = omega (arith, c.loop-i-test.true) in
    let lt : i < length ns = omega (arith, n, c.loop-i.invariant.0) in
    let x : d ≡ get_or ns i d = c.index_mut.ensures.value in
    let z : Zeros (drop (suc i) ns) = subst (λ m. Zeros (drop m ns)) (sym n) c.loop-i.invariant.1 in
    let y : c.index.result.now ≡ get_or ns i d = c.index.ensures ∙ get_or_default ns i c.index.result.now d lt in
    ap (λ m. reverse (set ns i (m - 1))) x ∙ fewer_at ns i d lt z (omega (arith, y, lt, c.if-index-gt0.true)) ∙ ap
    (λ m. fewer (reverse m)) c.loop-i.invariant.2

pub returns-clause-counts : goal.returns-clause-counts
returns-clause-counts c =
    let ns = c.loop-i.bodies.items in
    let none : c.loop-i.i ≡ 0 = omega (arith, c.loop-i-test.false) in
    let z : Zeros ns = subst (λ m. Zeros (drop m ns)) none c.loop-i.invariant.1 in
    fewer_none ns z ∙ ap (λ m. fewer (reverse m)) c.loop-i.invariant.2

pub returns-clause-sums : goal.returns-clause-sums
returns-clause-sums c =
    let ns = c.loop-i.bodies.items in
    let none : c.loop-i.i ≡ 0 = omega (arith, c.loop-i-test.false) in
    let z : Zeros ns = subst (λ m. Zeros (drop m ns)) none c.loop-i.invariant.1 in
    sum_none ns z ∙ ap (λ m. sum m - 1) c.loop-i.invariant.2
