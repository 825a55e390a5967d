use Rattle.std.proofs.Common.{◌≡◌, ◌<◌, ◌≤◌, ◌+◌, ◌-◌, length, get_or, drop, sym, subst, arith}
use Rattle.std.proofs.lemmas.List.{drop_all, get_or_default}
use Rattle.fst_code.specs.Written.{Drops, compiled}
use Rattle.fst_code.proofs.PieceLaws.{drop_before, drops_more, drops_none}
use Rattle.fst_code.proofs.pieces.drop_all.Goals as goal

pub loop-i-init : goal.loop-i-init
loop-i-init c = λ fs. let xs = c.args.variables.now in let all : length xs ≤ length xs = omega arith in
    subst (λ z. Drops (compiled fs c.args.out.now) (compiled fs c.args.out.now) z) (sym (drop_all (length xs) xs all))
    (drops_none (compiled fs c.args.out.now))

pub loop-i-preserved : goal.loop-i-preserved
loop-i-preserved c = λ fs. let xs = c.args.variables.now in let n = c.loop-i.i - 1 in
    let lt : n < length xs = omega arith in let e : c.loop-i.i ≡ n + 1 = omega arith in let k = get_or xs n 0 in
    subst (λ z. Drops (compiled fs c.args.out.now) (compiled fs c.drop_one.new.out) z)
    (sym (drop_before xs n c.loop-i.i k lt e (get_or_default xs n 0 k lt)))
    (drops_more (compiled fs c.args.out.now) (compiled fs c.loop-i.out) (compiled fs c.drop_one.new.out) k (drop c.loop-i.i xs)
    (c.loop-i.invariant fs) (c.in_ok-drop_one.ensures fs))

pub returns : goal.returns
returns c = λ fs. let e : c.loop-i.i ≡ 0 = omega arith in
    subst (λ n. Drops (compiled fs c.args.out.now) (compiled fs c.loop-i.out) (drop n c.args.variables.now)) e
    (c.loop-i.invariant fs)
