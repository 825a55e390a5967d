use Rattle.std.proofs.Common.{◌∙◌, ap, sym, arith}
use Rattle.fst_scopes.specs.declared.fault.NameFault.TheVariants.{AliasLoop}
use Rattle.fst_scopes.specs.First.{earlier}
use Rattle.fst_declarations.proofs.DeclarationLaws.{loop_noted, no_loop_noted}
use Rattle.fst_declarations.proofs.faults.note_looped.Goals as goal

pub index-requires : goal.index-requires
index-requires c =
    let d = c.args.declarations.now in
    omega (arith, c.in-Some.ensures.within, d.told, d.aliases.looped.ok.0)

pub returns-in_ok-copy : goal.returns-in_ok-copy
returns-in_ok-copy c = loop_noted c.args.declarations.now c.args.binder.now c.args.least.now c.note.new.least c.in-Some.k
    c.index.result.now (sym c.number_of.ensures.number ∙ c.in-Some.is) c.in-Some.ensures.within c.index.ensures c.if-index.true
    (c.note.ensures ∙ ap (λ n. earlier c.args.least.now (AliasLoop c.args.binder.now.at n)) c.in_ok-copy.ensures)

pub returns-else-index : goal.returns-else-index
returns-else-index c = no_loop_noted c.args.declarations.now c.args.binder.now c.args.least.now c.in-Some.k c.index.result.now
    (sym c.number_of.ensures.number ∙ c.in-Some.is) c.in-Some.ensures.within c.index.ensures c.if-index.false
