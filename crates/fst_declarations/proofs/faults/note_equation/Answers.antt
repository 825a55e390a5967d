use Rattle.std.proofs.Common.{◌∙◌, ap}
use Rattle.fst_term_faults.specs.CodeSurroundings.{surroundings_of}
use Rattle.fst_declarations.specs.ModuleNames.{signature_names}
use Rattle.fst_declarations.proofs.DeclarationLaws.{equation_noted, found_scope, missing_scope, IsScoped}
use Rattle.fst_declarations.proofs.faults.note_equation.Goals.{in-Some, in_default}
use Rattle.fst_declarations.proofs.faults.note_equation.Goals as goal

pub returns : goal.returns
unfolding surroundings_of
returns c = λ ds are.
    let d = c.args.declarations.now in
    let x = c.args.binder.now in
    let scoped : IsScoped ds d x c.args.parameters.now c.note_alone.new.least c.match-scope_for.least c.match-scope_for.vars.now =
    elim c.match-scope_for.branch [
      | in-Some w ↦ found_scope ds d are x c.args.parameters.now c.note_alone.new.least c.match-scope_for.least
          w.in-Some.scope.now c.match-scope_for.vars.now (w.in-Some.ensures ds are)
          (λ t is. w.least-is ∙ w.note_parameters.ensures t is) (ap (λ v. v.now) w.vars-is)
      | in_default w ↦ missing_scope ds d are x c.args.parameters.now c.note_alone.new.least c.match-scope_for.least
          c.match-scope_for.vars.now (w.in_default.ensures ds are) w.least-is (ap (λ v. v.now) w.vars-is)
    ] in
    equation_noted ds d x c.args.parameters.now c.args.body.now c.args.least.now c.note_alone.new.least c.match-scope_for.least
    c.note_body.new.least c.match-scope_for.vars.now are
    (c.in_ok-note_alone.ensures (signature_names ds) are.signatures.names_are) scoped c.in_ok-note_body.ensures
