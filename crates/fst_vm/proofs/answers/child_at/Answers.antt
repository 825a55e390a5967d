use Rattle.std.proofs.Common.{◌≡◌, ◌∙◌, ◌≤◌, ◌<◌, ℕ, length, take, ap, arith}
use Rattle.std.specs.Prelude.{reverse}
use Rattle.fst_machine.specs.Spots.{spread}
use Rattle.fst_vm.specs.Moves.{trees_of}
use Rattle.fst_vm.specs.Running.{code_of}
use Rattle.fst_vm.proofs.TellLaws.{at_spot, no_child, few_captured, child_begins}
use Rattle.fst_vm.proofs.answers.child_at.Goals as goal

pub returns-in-None : goal.returns-in-None
returns-in-None c =
    let i = c.running.inside in
    λ fs. no_child (code_of fs c.args.code.now) (at_spot i.place i.slots i.stack i.calls.items) c.args.running.now
    c.running.view_is (c.in-None.ensures fs)

pub returns-then-len-count : goal.returns-then-len-count
returns-then-len-count c =
    let i = c.running.inside in
    let e = c.in-Some.entry.now in
    let few : length i.stack < length e.captured.items =
    omega (arith, c.len.ensures, c.len-count.ensures, c.if-len-count.true, e.captured.ok) in
    λ fs. few_captured (code_of fs c.args.code.now)
    (at_spot i.place i.slots i.stack i.calls.items) c.args.running.now e c.running.view_is (c.in-Some.ensures fs) few

pub returns : goal.returns
returns c =
    let i = c.running.inside in
    let e = c.in-Some.entry.now in
    let many : length e.captured.items ≤ length i.stack =
    omega (arith, c.len.ensures, c.len-count.ensures, c.if-len-count.false, e.captured.ok) in
    let wide : c.len-count.result ≡ length e.captured.items = omega (arith, c.len-count.ensures, e.captured.ok) in
    λ fs.
    child_begins (code_of fs c.args.code.now) (at_spot i.place i.slots i.stack i.calls.items) c.args.running.now c.at.result e
    c.in_ok-values.values.items c.spread-slots.result
    c.running.view_is (c.in-Some.ensures fs) many
    (c.in_ok-values.ensures ∙ ap (λ (n : ℕ). reverse (take n i.stack)) wide)
    (c.spread-slots.ensures ∙ ap (λ ks. spread ks (trees_of c.in_ok-values.values.items)) c.deref-2.ensures.value) c.at.ensures
