use Rattle.fst_declarations.proofs.DeclarationLaws.{counted_long}
use Rattle.fst_declarations.proofs.faults.note_closed.Goals as goal

pub note_type-requires : goal.note_type-requires
note_type-requires c = rw c.deref.ensures.value (counted_long c.args.declarations.now)
