use Rattle.std.proofs.Common.{◌≤◌, length, ◌∷◌, [], subst, sym}
use Rattle.fst_parts.proofs.PartLaws.{place_fits}
use Rattle.fst_parts.proofs.parts.place_of.Goals as goal

pub returns-clause-within : goal.returns-clause-within
returns-clause-within c =
    subst (λ n. n ≤ length c.args.parts.now.found.items) (sym c.place_of.ensures)
    (place_fits c.args.trees.now c.args.parts.now (c.args.whole.number ∷ c.args.at ∷ []) c.requires.kept)
