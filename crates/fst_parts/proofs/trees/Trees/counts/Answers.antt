use Rattle.std.proofs.Common.{sym, subst}
use Rattle.fst_parts.specs.Keys.{Stands}
use Rattle.fst_parts.proofs.CountLaws.{read_counts, kept_counts, within_entries}
use Rattle.fst_parts.proofs.trees.Trees.counts.Goals as goal

pub returns-in-Some : goal.returns-in-Some
returns-in-Some c = λ x h.
    let here = subst (λ keys. Stands keys c.args.at x) (sym c.self.view_is) h in
    read_counts _ c.args.at c.in-Some.counts.now x
    (kept_counts c.self.inside.table.entries c.args.at _ c.self.invariant c.in-Some.ensures.entry) here

pub returns-in-None : goal.returns-in-None
returns-in-None c = λ x h.
    absurd (cc (c.in-None.ensures.found.1 (within_entries c.self.inside.table.entries c.args.at x
    (subst (λ keys. Stands keys c.args.at x) (sym c.self.view_is) h))))
