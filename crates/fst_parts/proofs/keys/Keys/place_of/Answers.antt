use Rattle.std.proofs.Common.{refl, ◌∙◌}
use Rattle.fst_parts.proofs.KeyTable.{found_place, none_place}
use Rattle.fst_parts.proofs.keys.Keys.place_of.Goals as goal

pub returns-in-Some : goal.returns-in-Some
returns-in-Some c =
    rw (← c.self.view_is) (found_place _ c.args.key.now (λ k. refl) c.self.inside.set.keys c.in-Some.at c.in-Some.ensures.index)

pub returns-in-None : goal.returns-in-None
returns-in-None c =
    rw (← c.self.view_is) (c.len.ensures.len ∙ none_place _ c.args.key.now
    (λ k. refl) c.self.inside.set.keys c.in-None.ensures.index)
