use Rattle.std.proofs.Common.{◌≡◌, ◌∙◌, ◌+◌, ◌-◌, ap, sym, arith, length, set, get_or, take}
use Rattle.fst_context.proofs.Backward.{joined_last}
use Rattle.fst_context.proofs.bodies.join_innermost.Goals as goal
use mathlib.Core.List.{reverse}

pub returns-then-last-gt0-clause-counts : goal.returns-then-last-gt0-clause-counts
returns-then-last-gt0-clause-counts c =
    let ns = c.args.bodies.now.items in
    let ms = c.truncate.new.self.items in
    let r = c.len-last.result in
    let long : r ≡ length ns = c.len-last.ensures ∙ c.args.bodies.now.ok.0 in
    let two : (r - 1 - 1) + 2 ≡ length ns = omega (arith, long, c.if-last-gt0.true) in
    let at : (r - 1 - 1) + 1 ≡ r - 1 = omega (arith, c.if-last-gt0.true) in
    let cut : ms ≡ take ((r - 1 - 1) + 1) ns = c.truncate.ensures.items ∙ ap (λ n. take n ns) (sym at) in
    let last : c.index-variables.result.now ≡ get_or ns ((r - 1 - 1) + 1) c.index-variables.result.now = c.index-variables.ensures
    ∙ ap (λ n. get_or ns n c.index-variables.result.now) (sym at) in
    (λ i. reverse (set ms (r - 1 - 1) (c.index_mut.ensures.value i + last i)))
    ∙ joined_last ns ms (r - 1 - 1) c.index_mut.result.now c.index-variables.result.now two cut
