use Rattle.std.proofs.Common.{◌≡◌, ◌∙◌, ◌++◌, ◌∷◌, [], is_some, sym, ap}
use Rattle.fst_paths.specs.ChannelLists.{listed}
use Rattle.fst_process.specs.Marking.{MarkLists, marks_in, with_mark}
use Rattle.fst_process.proofs.MarkLists.{marks_after}
use Rattle.fst_process.proofs.marking.add_mark.Goals as goal

pub returns-in_ok-push-in-Some : goal.returns-in_ok-push-in-Some
returns-in_ok-push-in-Some c =
    let old = c.args.all.now.entries in
    let written = c.get_mut.follows.holds c.push.new.self in
    let there = sym c.in-Some.ensures.value in
    let updates = written.3 (ap is_some there) in
    let was : marks_in old c.args.path.now ≡ c.in-Some.marks.now.items =
    ap (marks_in old) (sym c.as_slice.ensures) ∙ ap listed there in
    marks_after c.args.path.now c.as_slice.result.now (c.args.mark ∷ []) old (c.get_mut.follows.lender c.push.new.self).entries
    c.push.new.self c.as_slice.ensures (c.in_ok-push-in-Some.ensures.items ∙ (λ i. sym was i ++ c.args.mark ∷ []))
    updates.1 updates.3

pub returns-in_ok-insert-in-None : goal.returns-in_ok-insert-in-None
returns-in_ok-insert-in-None c =
    let p = c.args.path.now in
    let old : MarkLists = c.args.all.now.entries in
    let mid : MarkLists = c.get_mut.follows.lender-at-none.entries in
    let same : mid ≡ old = ap (λ z. z.entries) c.get_mut.follows.holds-at-none in
    let on = c.in_ok-insert-in-None.ensures.updates in
    let key : c.in_ok-key-in-None.key.items ≡ p = c.in_ok-key-in-None.ensures.items ∙ c.as_slice-in-None.ensures in
    let was : marks_in mid p ≡ c.new-marks.result.items =
    (λ i. marks_in (same i) (sym c.as_slice.ensures i)) ∙ ap listed (sym c.in-None.ensures.value)
    ∙ sym c.new-marks.ensures.items in
    marks_after p c.in_ok-key-in-None.key.items (c.args.mark ∷ []) mid c.insert.new.self.entries c.push-in-None.new.self key
    (c.in_ok-push-in-None.ensures.items ∙ (λ i. sym was i ++ c.args.mark ∷ [])) on.1 on.3
    ∙ ap (λ z. with_mark p c.args.mark (marks_in z)) same
