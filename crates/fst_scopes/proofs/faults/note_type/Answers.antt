use Rattle.std.proofs.Common.{refl}
use Rattle.fst_scopes.proofs.TypeLaws.{large_noted, small_noted, nothing_noted}
use Rattle.fst_scopes.proofs.faults.note_type.Goals as goal

pub returns-then-measure-gt-MOST_NODES : goal.returns-then-measure-gt-MOST_NODES
returns-then-measure-gt-MOST_NODES c = λ trees are.
    large_noted c.args.names.now trees c.args.measures.now c.args.w.now are c.args.least.now c.note_unbound.new.least
    c.measure_of.result
    c.in_ok-note_unbound.ensures c.measure_of.ensures c.in-Some.measure _ c.in-Some.is c.if-measure-gt-MOST_NODES.true
    (rw (← c.place.ensures) c.note.ensures)

pub returns-else-measure-gt-MOST_NODES : goal.returns-else-measure-gt-MOST_NODES
returns-else-measure-gt-MOST_NODES c = λ trees are.
    small_noted c.args.names.now trees c.args.measures.now c.args.w.now are c.args.least.now c.note_unbound.new.least
    c.measure_of.result
    c.in_ok-note_unbound.ensures c.measure_of.ensures c.in-Some.measure _ c.in-Some.is c.if-measure-gt-MOST_NODES.false refl

pub returns-in_default : goal.returns-in_default
returns-in_default c = λ trees are.
    nothing_noted c.args.names.now trees c.args.measures.now c.args.w.now are c.args.least.now c.note_unbound.new.least
    c.measure_of.result
    c.in_ok-note_unbound.ensures c.measure_of.ensures _ c.in_default.is refl
