use Rattle.std.proofs.Common.{◌∙◌, refl, ap, map}
use Rattle.std.specs.Map.{keys_of}
use Rattle.fst_parts.specs.Kept.{items_of}
use Rattle.fst_parts.proofs.KeyTable.{place_is, with_entry}
use Rattle.fst_parts.proofs.CountLaws.{counts_put}
use Rattle.fst_parts.proofs.trees.Trees.put.Goals as goal

pub invariant_of-self-2 : goal.invariant_of-self-2
invariant_of-self-2 c =
    rw c.in_ok-at.ensures.entries
    (counts_put _ c.args.key (λ k. refl) c.args.counts c.self.inside.table.entries c.self.invariant
    (rw c.self.view_is c.requires))

pub returns-clause-keys : goal.returns-clause-keys
returns-clause-keys c =
    rw (← c.self.view_is) (ap (λ es. map items_of (keys_of es)) c.in_ok-at.ensures.entries ∙ with_entry _ c.args.key
    (λ k. refl) c.args.counts c.self.inside.table.entries)

pub returns-clause-place : goal.returns-clause-place
returns-clause-place c =
    rw (← c.self.view_is) (c.in_ok-at.ensures.index ∙ place_is _ c.args.key.items
    (λ k. refl) (keys_of c.self.inside.table.entries))
