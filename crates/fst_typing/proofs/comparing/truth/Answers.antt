use Rattle.std.proofs.Common.{subst, sym}
use Rattle.fst_types.specs.declared.base.Base.TheVariants.{Bool as Truth}
use Rattle.fst_derivations.specs.Parts.{IsFormed}
use Rattle.fst_premises.specs.Scenes.{check_in}
use Rattle.fst_typing.proofs.Forms.{base_formed}
use Rattle.fst_typing.proofs.comparing.truth.Goals as goal

pub compared-requires-clause-wanted : goal.compared-requires-clause-wanted
compared-requires-clause-wanted c = subst (IsFormed c.args.scene.vars.now) (sym c.base-wanted.ensures)
    (base_formed (check_in c.args.scene) Truth)
