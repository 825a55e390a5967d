use Rattle.std.proofs.Common.{◌≡◌, ◌∙◌, refl, ap, Some}
use Rattle.std.specs.Prelude.{if◌then◌else◌}
use Rattle.std.specs.Str.{bytes_eq}
use Rattle.fst_arms.specs.Places.{found}
use Rattle.fst_arms.proofs.PlaceLaws.{found_after}
use Rattle.fst_arms.proofs.places.put.Goals as goal

pub returns : goal.returns
returns c = λ x.
    let key = c.in_ok-key.key in
    let updates = c.in_ok-insert.ensures.updates in
    let is : key.items ≡ c.args.name.now = c.in_ok-key.ensures.items ∙ c.as_slice.ensures.bytes in
    found_after _ (λ a b. refl) _ key.items (λ k. refl) c.args.places.now.entries c.insert.new.self.entries
    (Some c.args.n) updates.1 updates.3 x
    ∙ ap (λ y. if bytes_eq x y then Some c.args.n else found c.args.places.now.entries x) is
