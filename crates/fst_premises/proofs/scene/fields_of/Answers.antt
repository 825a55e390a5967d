use Rattle.fst_premises.proofs.Makers.{maker_at}
use Rattle.fst_premises.proofs.scene.fields_of.Goals as goal

pub returns : goal.returns
returns c =
    let r = maker_at c.args.scene.module.now.families.items c.args.family c.args.maker c.requires.0 c.index.result.now
    c.index-2.result.now c.requires.1 c.index.ensures c.index-2.ensures in
    (c.index-2.result.now, r, c.deref.ensures.value)
