use Rattle.std.proofs.Common.{List, ap, arith, length, refl, subst, sym}
use Rattle.std.proofs.lemmas.Result.{err_from_is_err_and}
use Rattle.fst_terms.specs.CoreTree.{core_height}
use Rattle.fst_premises.specs.Parameters.{AreEntered}
use Rattle.fst_premises.specs.Scenes.{check_in}
use Rattle.fst_premises.specs.declared.parameters.Parameter.{Parameter}
use Rattle.fst_typing.proofs.EquationLaws.{all_shown, entered_last, entered_ready, large_shown, sides_formed}
use Rattle.fst_typing.proofs.equations.enter_parameters.Goals as goal

pub loop-parameter-init : goal.loop-parameter-init
loop-parameter-init c = record {
  entered = subst (λ (ps : List Parameter). AreEntered
      (check_in c.args.scene) c.args.term.now c.args.wanted.now c.args.context.now ps c.args.term.now c.args.wanted.now
      c.args.context.now)
      (sym c.new-parameters.ensures.items) (refl, refl, refl);
  ready = c.requires.ready;
  formed = c.requires.formed;
}

pub parameter_of-requires : goal.parameter_of-requires
parameter_of-requires c = (length c.loop-parameter.context.variables, c.loop-parameter.invariant.ready.range)

pub enter_parameter-requires : goal.enter_parameter-requires
enter_parameter-requires c =
    (sides_formed (check_in c.args.scene) c.loop-parameter.body.now c.loop-parameter.to.now c.in-Some.parameter c.in-Some.ensures
    c.loop-parameter.invariant.formed).0

pub loop-parameter-preserved : goal.loop-parameter-preserved
loop-parameter-preserved c =
    let i = c.loop-parameter.invariant in
    let l = c.loop-parameter in
    let p = c.in-Some.parameter in record {
      entered = subst (λ (ps : List Parameter). AreEntered
          (check_in c.args.scene) c.args.term.now c.args.wanted.now c.args.context.now ps p.body.now p.to.now
          c.enter_parameter.new.context)
          (sym c.in_ok-push.ensures.items)
          (entered_last (check_in c.args.scene) c.args.term.now c.args.wanted.now c.args.context.now l.parameters.items l.body.now
          l.to.now l.context p c.enter_parameter.new.context i.entered c.in-Some.ensures
          c.in_ok-enter_parameter.ensures.entered);
      ready = entered_ready (check_in c.args.scene) l.body.now l.to.now p l.context c.enter_parameter.new.context
          c.in-Some.ensures c.in_ok-enter_parameter.ensures.entered i.ready;
      formed = (sides_formed (check_in c.args.scene) l.body.now l.to.now p c.in-Some.ensures i.formed).1;
    }

pub loop-parameter-smaller : goal.loop-parameter-smaller
loop-parameter-smaller c = omega (arith, ap core_height c.in-Some.ensures.term)

pub returns-in_err-enter_parameter-clause-refused : goal.returns-in_err-enter_parameter-clause-refused
returns-in_err-enter_parameter-clause-refused c =
    let l = c.loop-parameter in
    let f = c.in_err-enter_parameter.field-0.0 in
    let p = err_from_is_err_and c.from_residual.result c.from_residual.ensures.1 in
    rw (p.1, p.2) (λ m. all_shown (check_in c.args.scene) c.args.term.now c.args.wanted.now c.args.context.now l.parameters.items
    l.body.now l.to.now l.context f l.invariant.entered
    (large_shown (check_in c.args.scene) l.body.now l.to.now c.in-Some.parameter l.context f c.in-Some.ensures
    (c.in_err-enter_parameter.ensures.refused m)))
