use Rattle.std.proofs.Common.{◌∙◌}
use Rattle.fst_names.proofs.EquationLaws.{no_variables, variables_kept}
use Rattle.fst_names.proofs.parts.variables_for.Goals as goal

pub returns-in-Some : goal.returns-in-Some
returns-in-Some g c = variables_kept g.ds c.args.declarations.now c.requires c.args.name.now c.in-Some.scope.now
    (c.in-Some.ensures g.ds c.requires.declared)

pub returns-in-None : goal.returns-in-None
returns-in-None g c = c.args.declarations.now.none
    ∙ no_variables g.ds c.args.declarations.now c.requires c.args.name.now (c.in-None.ensures g.ds c.requires.declared)
