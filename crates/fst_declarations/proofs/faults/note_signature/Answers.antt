use Rattle.fst_declarations.specs.Declarations.{trees_in}
use Rattle.fst_declarations.specs.ModuleNames.{equation_names}
use Rattle.fst_declarations.proofs.DeclarationLaws.{counted_long, signature_noted}
use Rattle.fst_declarations.proofs.faults.note_signature.Goals as goal

pub note_type-requires : goal.note_type-requires
note_type-requires c = rw c.deref.ensures.value (counted_long c.args.declarations.now)

pub returns : goal.returns
returns c = λ ds are.
    let d = c.args.declarations.now in
    signature_noted ds d c.args.binder.now c.args.variables.now c.args.w.now c.in_ok-vars.vars c.args.least.now
    c.note_alone.new.least c.variables_of.new.least c.note_type.new.least are
    c.in_ok-vars.ensures.names (c.in_ok-note_alone.ensures (equation_names ds) are.equations) c.in_ok-vars.ensures.twice
    (c.in_ok-note_type.ensures (trees_in d) (rw c.deref.ensures.value d.measured))
