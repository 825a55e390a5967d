use Rattle.std.proofs.Common.{◌≡◌, ◌∙◌, ◌++◌, ◌∷◌, [], Some, is_some, sym, ap}
use Rattle.fst_paths.specs.Paths.{put_at}
use Rattle.fst_paths.specs.ChannelLists.{listed, made_in}
use Rattle.fst_paths.proofs.ChannelLaws.{made_after}
use Rattle.fst_paths.proofs.channels.Channels.push.Goals as goal

pub returns-in_ok-push-in-Some-clause-pushed : goal.returns-in_ok-push-in-Some-clause-pushed
returns-in_ok-push-in-Some-clause-pushed g c =
    let old = c.args.self.now.by_maker.entries in
    let p = c.args.maker.now in
    let written = c.get_mut.follows.holds c.push.new.self in
    let there = sym c.in-Some.ensures.value in
    let updates = written.3 (ap is_some there) in
    let was : made_in old p ≡ c.in-Some.channels.now.items = ap (made_in old) (sym c.as_slice.ensures) ∙ ap listed there in
    made_after c.as_slice.result.now old (c.get_mut.follows.lender c.push.new.self).entries (Some c.push.new.self) updates.1
    updates.3
    ∙ (λ i. put_at (c.as_slice.ensures i) ((c.in_ok-push-in-Some.ensures.items ∙ ap (λ v. v ++ c.args.channel ∷ []) (sym was)) i)
    (made_in old))

pub returns-in_ok-insert-in-None-clause-pushed : goal.returns-in_ok-insert-in-None-clause-pushed
returns-in_ok-insert-in-None-clause-pushed g c =
    let p = c.args.maker.now in
    let old = c.args.self.now.by_maker.entries in
    let mid = c.get_mut.follows.lender-at-none.entries in
    let same : mid ≡ old = ap (λ z. z.entries) c.get_mut.follows.holds-at-none in
    let on = c.in_ok-insert-in-None.ensures.updates in
    let key : c.in_ok-key-in-None.key.items ≡ p = c.in_ok-key-in-None.ensures.items ∙ c.as_slice-in-None.ensures in
    let was : made_in old p ≡ c.new-channels.result.items =
    (λ i. made_in old (sym c.as_slice.ensures i)) ∙ ap listed (sym c.in-None.ensures.value) ∙ sym c.new-channels.ensures.items in
    made_after c.in_ok-key-in-None.key.items mid c.insert.new.self.entries (Some c.push-in-None.new.self) on.1 on.3
    ∙ (λ i. put_at (key i) ((c.in_ok-push-in-None.ensures.items ∙ ap (λ v. v ++ c.args.channel ∷ []) (sym was)) i)
    (made_in (same i)))
