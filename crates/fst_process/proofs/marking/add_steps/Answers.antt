use Rattle.std.proofs.Common.{◌≡◌, ◌∙◌, ◌++◌, is_some, sym, ap}
use Rattle.std.proofs.lemmas.Result.{on_ok_weaker}
use Rattle.fst_paths.specs.ChannelLists.{listed}
use Rattle.fst_process.specs.Marking.{MarkLists, marks_in, step_marks, with_marks}
use Rattle.fst_process.proofs.MarkLists.{marks_after}
use Rattle.fst_process.proofs.marking.add_steps.Goals as goal

pub returns-in-Some : goal.returns-in-Some
returns-in-Some c =
    let old = c.args.all.now.entries in
    let more = step_marks c.args.clock c.args.count in
    let written = c.get_mut.follows.holds c.push_steps.new.marks in
    let there = sym c.in-Some.ensures.value in
    let updates = written.3 (ap is_some there) in
    let was : marks_in old c.args.path.now ≡ c.in-Some.marks.now.items =
    ap (marks_in old) (sym c.as_slice.ensures) ∙ ap listed there in
    on_ok_weaker c.push_steps.result
    (λ e. marks_after c.args.path.now c.as_slice.result.now more old (c.get_mut.follows.lender c.push_steps.new.marks).entries
    c.push_steps.new.marks c.as_slice.ensures (e ∙ (λ i. sym was i ++ more)) updates.1 updates.3) c.push_steps.ensures

pub returns-in_ok-insert-in-None : goal.returns-in_ok-insert-in-None
returns-in_ok-insert-in-None c =
    let p = c.args.path.now in
    let more = step_marks c.args.clock c.args.count in
    let old : MarkLists = c.args.all.now.entries in
    let mid : MarkLists = c.get_mut.follows.lender-at-none.entries in
    let same : mid ≡ old = ap (λ z. z.entries) c.get_mut.follows.holds-at-none in
    let on = c.in_ok-insert-in-None.ensures.updates in
    let key : c.in_ok-key-in-None.key.items ≡ p = c.in_ok-key-in-None.ensures.items ∙ c.as_slice-in-None.ensures in
    let was : marks_in mid p ≡ c.new-marks.result.items =
    (λ i. marks_in (same i) (sym c.as_slice.ensures i)) ∙ ap listed (sym c.in-None.ensures.value)
    ∙ sym c.new-marks.ensures.items in
    marks_after p c.in_ok-key-in-None.key.items more mid c.insert.new.self.entries c.push_steps-in-None.new.marks key
    (c.in_ok-push_steps-in-None.ensures ∙ (λ i. sym was i ++ more)) on.1 on.3
    ∙ ap (λ z. with_marks p more (marks_in z)) same
