use Rattle.std.proofs.Common.{◌<◌, ◌∙◌, ap, length, reverse, sym, subst}
use Rattle.std.proofs.lemmas.List.Elements.{All-head, All-tail}
use Rattle.fst_words.specs.Words.{WordBelow}
use Rattle.fst_norms.specs.Lowering.{lowered}
use Rattle.fst_norms.proofs.Laws.{popped}
use Rattle.fst_normed.proofs.lowering.lower.Goals as goal

pub lower_head-requires-clause-head : goal.lower_head-requires-clause-head
lower_head-requires-clause-head c =
    let whole = ap reverse c.in-Some.ensures.items ∙ popped c.pop.new.self.items c.in-Some.head in
    All-head (λ k. k < length c.args.words.now) c.in-Some.head (reverse c.pop.new.self.items)
    (subst (WordBelow (length c.args.words.now)) whole c.requires.stack)

pub lower_head-requires-clause-stack : goal.lower_head-requires-clause-stack
lower_head-requires-clause-stack c =
    let whole = ap reverse c.in-Some.ensures.items ∙ popped c.pop.new.self.items c.in-Some.head in
    All-tail (λ k. k < length c.args.words.now) c.in-Some.head (reverse c.pop.new.self.items)
    (subst (WordBelow (length c.args.words.now)) whole c.requires.stack)

pub returns-clause-lowered : goal.returns-clause-lowered
returns-clause-lowered c =
    let whole = ap reverse c.in-Some.ensures.items ∙ popped c.pop.new.self.items c.in-Some.head in
    c.in_ok-rest.ensures.lowered ∙ ap (lowered c.args.words.now c.args.steps) (sym whole)
