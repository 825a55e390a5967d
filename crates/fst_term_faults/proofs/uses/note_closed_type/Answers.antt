use Rattle.fst_scopes.proofs.Laws.{measures_long}
use Rattle.fst_term_faults.proofs.uses.note_closed_type.Goals as goal

pub note_type-requires : goal.note_type-requires
note_type-requires c =
    let a = c.args.around.now in
    let known = a.aliases.now in
    rw c.deref.ensures.value (measures_long a.types.now known.looped.items known.order.items known.measures.items a.measured)
