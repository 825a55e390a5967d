use Rattle.std.proofs.Common.{rules}
use Rattle.std.proofs.lemmas.Fn.{always_returns_same}
use Rattle.fst_types.specs.Order.{label_cmp}
use Rattle.fst_parts.proofs.PlaceLaws.{searched}
use Rattle.fst_parts.proofs.letters.place_for.Goals as goal

pub returns : goal.returns
returns c =
    searched c.args.letters.now c.args.a.now c.binary_search_by.result c.requires c.binary_search_by.ensures.bound
    (c.binary_search_by.ensures.position (λ y. label_cmp y c.args.a.now) (always_returns_same _ _ _ (λ b r f h. search rules)))
