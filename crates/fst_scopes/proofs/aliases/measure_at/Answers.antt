use Rattle.fst_scopes.proofs.CountLaws.{alias_counted}
use Rattle.fst_scopes.proofs.aliases.measure_at.Goals as goal

pub returns-in-Alias : goal.returns-in-Alias
returns-in-Alias c = λ trees are.
    alias_counted c.args.types c.args.looped.now trees c.args.measures.now c.args.k c.args.vars c.index.result.now c.in-Alias.w _
    c.requires.none c.if-looped-k.false c.requires.within c.index.ensures c.in-Alias.is are
    c.measure_of.ensures
