use Rattle.std.proofs.Common.{◌∙◌, length, subst, sym}
use Rattle.fst_basis.specs.declared.proof.Pair.{Pair}
use Rattle.fst_basis.specs.Basis.{IsPair}
use Rattle.fst_expand.specs.Expansion.{AreFollowedBy, HaveRooms}
use Rattle.fst_expand.specs.Table.{key_pair}
use Rattle.fst_expand.proofs.FrontLaws.{parts_left, parts_right, same_parts}
use Rattle.fst_expand.proofs.PlaceLaws.{one_item}
use Rattle.fst_expand.proofs.chaining.chain_pair.Goals as goal

pub parts-left-requires-clause-some : goal.parts-left-requires-clause-some
parts-left-requires-clause-some c = (c.requires.settled.alike c.args.at
    (key_pair c.args.table.now.words c.key-left.result) c.key-left.ensures.pair).left

pub parts-right-requires-clause-some : goal.parts-right-requires-clause-some
parts-right-requires-clause-some c = (c.requires.settled.alike c.args.at
    (key_pair c.args.table.now.words c.key-left.result) c.key-left.ensures.pair).right

pub chain_rules-requires-clause-left : goal.chain_rules-requires-clause-left
chain_rules-requires-clause-left c =
    parts_left (length c.args.m.now.lowering.now) c.args.m.now.marks.now c.args.table.now.words c.args.table.now.pairs c.args.at
    c.key-left.result c.parts-left.result c.requires.fit c.key-left.ensures.pair
    c.parts-left.ensures.word c.parts-left.ensures.within

pub chain_rules-requires-clause-right : goal.chain_rules-requires-clause-right
chain_rules-requires-clause-right c =
    parts_right (length c.args.m.now.lowering.now) c.args.m.now.marks.now c.args.table.now.words c.args.table.now.pairs c.args.at
    c.key-left.result c.parts-right.result c.requires.fit c.key-left.ensures.pair
    c.parts-right.ensures.word c.parts-right.ensures.within

pub chain_rules-requires-clause-pair : goal.chain_rules-requires-clause-pair
chain_rules-requires-clause-pair c =
    let same = same_parts c.args.table.now.words c.key-left.result c.parts-left.result c.parts-right.result
    c.parts-left.ensures.word c.parts-right.ensures.word in
    subst (IsPair c.args.m.now.grammar.now.rules.items) same
    (c.requires.settled.alike c.args.at (key_pair c.args.table.now.words c.key-left.result) c.key-left.ensures.pair)

pub chain_rules-requires-clause-rooms : goal.chain_rules-requires-clause-rooms
chain_rules-requires-clause-rooms c =
    let same = same_parts c.args.table.now.words c.key-left.result c.parts-left.result c.parts-right.result
    c.parts-left.ensures.word c.parts-right.ensures.word in
    subst (HaveRooms c.args.m.now.grammar.now.rules.items c.args.m.now.marks.now c.args.m.now.norms.now c.args.m.now.lowering.now
    c.args.table.now.pairs c.args.room) same
    (c.requires.settled.rooms c.args.at (key_pair c.args.table.now.words c.key-left.result) c.key-left.ensures.pair)

pub returns-clause-joined : goal.returns-clause-joined
returns-clause-joined c b e =
    let same = same_parts c.args.table.now.words c.key-left.result c.parts-left.result c.parts-right.result
    c.parts-left.ensures.word c.parts-right.ensures.word in
    let its = one_item c.args.table.now.pairs c.args.at b
    (key_pair c.args.table.now.words c.key-left.result) e c.key-left.ensures.pair in
    subst (λ (z : Pair). AreFollowedBy c.args.m.now.grammar.now.rules.items c.args.m.now.marks.now c.args.table.now.pairs z
    c.in_ok-chains.chains) (sym (its ∙ same)) c.in_ok-chains.ensures.joined
