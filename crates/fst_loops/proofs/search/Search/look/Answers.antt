use Rattle.std.proofs.Common.{arith}
use Rattle.std.specs.Prelude.{map}
use Rattle.std.proofs.lemmas.List.{length-map}
use Rattle.fst_loops.specs.Graphs.{items_of}
use Rattle.fst_loops.proofs.Looks.{led, within, marked, skips_done, skips_open, joins_open}
use Rattle.fst_loops.proofs.search.Search.look.Goals as goal

pub index-requires : goal.index-requires
index-requires c =
    marked (map items_of c.args.graph.now) c.args.self.now c.requires.search c.args.part c.requires.last c.requires.more
    c.len.result c.index-node.result.now c.len.ensures c.index-node.ensures c.requires.graph

pub open-requires-clause-node : goal.open-requires-clause-node
open-requires-clause-node c =
    let lt = within (map items_of c.args.graph.now) c.args.self.now c.requires.search c.args.part c.requires.last c.requires.more
    c.len.result c.index-node.result.now c.len.ensures c.index-node.ensures c.requires.graph in
    omega (arith, lt, length-map c.args.graph.now items_of)

pub open-requires-clause-led : goal.open-requires-clause-led
open-requires-clause-led c =
    led (map items_of c.args.graph.now) c.args.self.now c.requires.search c.args.part c.requires.last c.requires.more c.len.result
    c.index-node.result.now c.len.ensures c.index-node.ensures

pub returns-then-place-part : goal.returns-then-place-part
returns-then-place-part c =
    joins_open (map items_of c.args.graph.now) c.args.self.now c.requires.search c.args.part c.requires.last c.requires.more
    c.len.result c.index-node.result.now c.len.ensures c.index-node.ensures
    c.requires.graph c.index.result.now c.index.ensures c.in-Open.place c.in-Open.is c.if-place-part.true c.pop.new.self
    c.pop.ensures.rest

pub returns-else-place-part : goal.returns-else-place-part
returns-else-place-part c =
    skips_open (map items_of c.args.graph.now) c.args.self.now c.requires.search c.args.part c.requires.last c.requires.more
    c.len.result c.index-node.result.now c.len.ensures c.index-node.ensures
    c.requires.graph c.index.result.now c.index.ensures c.in-Open.place c.in-Open.is c.if-place-part.false
    c.pop-else-place-part.new.self c.pop-else-place-part.ensures.rest

pub returns-in-Done : goal.returns-in-Done
returns-in-Done c =
    skips_done (map items_of c.args.graph.now) c.args.self.now c.requires.search c.args.part c.requires.last c.requires.more
    c.len.result c.index-node.result.now c.len.ensures c.index-node.ensures
    c.requires.graph c.index.result.now c.index.ensures c.in-Done.is c.pop-in-Done.new.self c.pop-in-Done.ensures.rest
