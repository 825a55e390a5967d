use Rattle.fst_premises.specs.Scenes.{check_in}
use Rattle.fst_premises.proofs.ParameterLaws.{entered_is}
use Rattle.fst_premises.proofs.parameters.enter_parameter.Goals as goal

pub returns-clause-entered : goal.returns-clause-entered
returns-clause-entered c =
    let e = c.in_ok-enter.ensures in
    entered_is (check_in c.args.scene) c.args.parameter c.args.context.now c.begin_body.new.context c.enter.new.context
    c.in_ok-from.from e.0 e.1 c.in_ok-fits.ensures.fits e.2 c.in_ok-begin_body.ensures c.in_ok-from.ensures
