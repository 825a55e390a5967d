use Rattle.std.proofs.Common.{◌∙◌, sym}
use Rattle.fst_declarations.proofs.DeclarationLaws.{scope_found}
use Rattle.fst_declarations.proofs.collect.scope_for.Goals as goal

pub returns : goal.returns
returns c = λ ds are. scope_found ds c.args.declarations.now are c.args.name.now c.in_ok-k.k c.index.result.now
    (sym c.number_of.ensures.number ∙ c.in_ok-k.was) c.in_ok-k.ensures.within c.index.ensures
