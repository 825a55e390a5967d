use Rattle.std.proofs.Common.{◌∙◌, [], refl}
use Rattle.fst_terms.specs.ModuleTree.{equation}
use Rattle.fst_term_faults.specs.TermFaults.{within}
use Rattle.fst_term_names.specs.TermTypes.{written_in}
use Rattle.fst_declarations.specs.Declarations.{known_in}
use Rattle.fst_names.proofs.FaultlessTrees.{all_there}
use Rattle.fst_names.proofs.EquationLaws.{body_longer, body_sound, body_term}
use Rattle.fst_names.proofs.PartLaws.{equation_added, parts_added}
use Rattle.fst_names.proofs.parts.add_equation.Goals as goal

pub core_body-requires : goal.core_body-requires
core_body-requires g c = record {
  faultless = body_sound g.ds c.args.declarations.now c.requires.0 c.args.binder.now c.args.parameters.now c.args.body.now _
      (record { globals = refl; makers = refl; vars = c.variables_for-vars.ensures; types = refl; aliases = refl })
      c.requires.1.1;
}

pub returns : goal.returns
returns g c = λ es are.
    let d = c.args.declarations.now in
    let x = c.args.binder.now in
    let ps = c.args.parameters.now in
    let t = c.args.body.now in
    let old = c.args.parts.now in
    parts_added g.ds (known_in d) es (equation x ps t) old _ are (equation_added g.ds (known_in d) x ps t _ old _
    (body_longer g.ds d c.requires.0 x.name (written_in t) old.list c.core_body.new.types _ c.in_ok-body.ensures.types
    c.in_ok-body.ensures.places
    (record { globals = refl; makers = refl; vars = c.variables_for-vars.ensures; types = refl; aliases = refl }))
    refl refl
    (c.in_ok-body-2.ensures.ok ∙ body_term g.ds d c.requires.0 x.name
    (within ps []) _ t _ c.in_ok-body.body c.in_ok-body.ensures.term
    (record { globals = refl; makers = refl; vars = c.variables_for-vars.ensures; types = refl; aliases = refl }))
    refl refl c.in_ok-push.ensures.items)

pub invariant_of-meanings-clause-there : goal.invariant_of-meanings-clause-there
invariant_of-meanings-clause-there g c = all_there g.ds c.args.declarations.now c.requires.0
