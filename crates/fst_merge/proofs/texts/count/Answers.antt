use Rattle.std.proofs.Common.{◌≡◌, ◌∙◌, ◌+◌, subst, sym, ap, arith, rules}
use Rattle.std.specs.Prelude.{unwrap_or}
use Rattle.std.specs.Map.{KeepsOthers}
use Rattle.fst_paths.specs.Paths.{at_path, same_key}
use Rattle.fst_merge.specs.Counts.{Counts, IsCounted, counted}
use Rattle.fst_merge.proofs.Counting.{counted_after}
use Rattle.fst_merge.proofs.texts.count.Goals as goal

pub overflow_add-count : goal.overflow_add-count
overflow_add-count c =
    let ns = c.args.counts.now.entries in
    let found : counted ns c.args.path.now ≡ c.in-Some.count.now = ap (counted ns) (sym c.as_slice.ensures)
    ∙ sym (ap (λ o. unwrap_or o 0) c.in-Some.ensures.value) in
    omega (arith, found, c.requires.few)

pub returns-in-Some-clause-counts : goal.returns-in-Some-clause-counts
returns-in-Some-clause-counts c =
    let ns = c.args.counts.now.entries in
    let p = c.as_slice.result.now in
    let found : counted ns p ≡ c.in-Some.count.now = sym (ap (λ o. unwrap_or o 0) c.in-Some.ensures.value) in
    let on = (c.get_mut.follows.holds (c.in-Some.count.now + 1)).3 (search rules) in
    subst (λ q. IsCounted q ns (c.get_mut.follows.lender (c.in-Some.count.now + 1)).entries) c.as_slice.ensures
    (counted_after p ns (c.get_mut.follows.lender (c.in-Some.count.now + 1)).entries (c.in-Some.count.now + 1) on.1 on.3
    (omega (arith, found)))

pub returns-clause-counts : goal.returns-clause-counts
returns-clause-counts c =
    let ns = c.args.counts.now.entries in
    let p = c.in_ok-key.key.items in
    let key : p ≡ c.args.path.now = c.in_ok-key.ensures.items ∙ c.as_slice-2.ensures in
    let on = c.in_ok-insert.ensures.updates in
    let none : counted ns c.as_slice.result.now ≡ 0 = sym (ap (λ o. unwrap_or o 0) c.in_default.ensures.value) in
    let none-here : counted ns p ≡ 0 = ap (counted ns) (key ∙ sym c.as_slice.ensures) ∙ none in
    let kept = subst (λ (ms : Counts). KeepsOthers same_key (at_path p) ms c.insert.new.self.entries)
    (ap (λ m. m.entries) c.get_mut.follows.holds-at-none) on.3 in
    subst (λ q. IsCounted q ns c.insert.new.self.entries) key
    (counted_after p ns c.insert.new.self.entries 1 on.1 kept (omega (arith, none-here)))
