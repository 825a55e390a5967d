use Rattle.std.proofs.Common.{◌∙◌, ap, sym}
use Rattle.std.specs.Prelude.{option_map}
use Rattle.fst_scopes.specs.declared.measure.Measure.{Measure}
use Rattle.fst_declarations.proofs.DeclarationLaws.{arrows_are}
use Rattle.fst_declarations.proofs.scopes.arrows_of.Goals as goal

pub returns-in-Some : goal.returns-in-Some
returns-in-Some c = λ trees are.
    ap (option_map (λ (m : Measure). m.arrows)) (sym c.in-Some.is)
    ∙ arrows_are c.args.vars c.args.types trees c.args.measures.now c.args.w.now c.measure_of.result are c.measure_of.ensures

pub returns-in-None : goal.returns-in-None
returns-in-None c = λ trees are.
    ap (option_map (λ (m : Measure). m.arrows)) (sym c.in-None.is)
    ∙ arrows_are c.args.vars c.args.types trees c.args.measures.now c.args.w.now c.measure_of.result are c.measure_of.ensures
