use Rattle.std.proofs.Common.{refl, ◌∙◌, ap}
use Rattle.std.specs.Prelude.{map}
use Rattle.fst_parts.specs.Kept.{items_of}
use Rattle.fst_parts.proofs.KeyTable.{place_is, with_is}
use Rattle.fst_parts.proofs.keys.Keys.put.Goals as goal

pub returns-clause-keys : goal.returns-clause-keys
returns-clause-keys c =
    rw (← c.self.view_is) (ap (map items_of) c.in_ok-at.ensures.keys ∙ with_is _ c.args.key.items
    (λ k. refl) c.self.inside.set.keys c.args.key refl)

pub returns-clause-place : goal.returns-clause-place
returns-clause-place c =
    rw (← c.self.view_is) (c.in_ok-at.ensures.index ∙ place_is _ c.args.key.items (λ k. refl) c.self.inside.set.keys)
