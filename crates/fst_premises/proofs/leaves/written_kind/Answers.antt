use Rattle.std.proofs.Common.{subst, sym, ◌∙◌}
use Rattle.std.proofs.lemmas.Option.{same_Some}
use Rattle.fst_types.specs.Order.{IsSorted}
use Rattle.fst_premises.proofs.Formed.{formed_sorted}
use Rattle.fst_premises.proofs.leaves.written_kind.Goals as goal

pub kind_of-requires-clause-sorted : goal.kind_of-requires-clause-sorted
kind_of-requires-clause-sorted c =
    let r = c.requires in
    subst IsSorted (same_Some r.0 c.type_at.result.now (sym r.1 ∙ c.type_at.ensures)) (formed_sorted c.args.vars.now r.0 r.2)
