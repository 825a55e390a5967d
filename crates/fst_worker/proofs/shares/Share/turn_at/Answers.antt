use Rattle.std.proofs.Common.{◌∙◌, [], ◌∷◌, ◌++◌, ap, Ok, refl, subst, arith}
use Rattle.fst_safety.specs.Tasks.{TakesTurn}
use Rattle.fst_worker.proofs.Steps.{can_turn, counts_there, within, nothing_turns, moved_turns, forked_turns, offered_turns, left_turns, ended_turns, wanting_turns}
use Rattle.fst_worker.proofs.shares.Share.turn_at.Goals as goal

pub returns-in_default-clause-turns : goal.returns-in_default-clause-turns
returns-in_default-clause-turns c = nothing_turns c.args.code.now c.args.i c.args.self.now _
    (within c.args.self.now c.args.i c.requires.at) _ refl c.reserve.ensures.items refl

pub returns-in_default-reserve-clause-turns : goal.returns-in_default-reserve-clause-turns
returns-in_default-reserve-clause-turns c = nothing_turns c.args.code.now c.args.i c.args.self.now _
    (within c.args.self.now c.args.i c.requires.at) _ refl c.reserve.ensures.items c.reserve-2.ensures.items

pub overflow_add-over : goal.overflow_add-over
overflow_add-over c = let h = c.args.self.now.tasks.small in let e = c.args.self.now.tasks.ok.1 in omega (arith, h, e)

pub turn-requires-clause-fits : goal.turn-requires-clause-fits
turn-requires-clause-fits c = can_turn c.args.code.now c.args.self.now c.args.i c.index_mut.result.now c.requires.fit
    (within c.args.self.now c.args.i c.requires.at) c.index_mut.ensures.value

pub returns-in-Ok-Moved-clause-turns : goal.returns-in-Ok-Moved-clause-turns
returns-in-Ok-Moved-clause-turns c =
    let w = within c.args.self.now c.args.i c.requires.at in
    moved_turns c.args.code.now c.args.i c.args.self.now _ c.index_mut.result.now c.turn.new.self w c.index_mut.ensures.value refl
    c.reserve-2.ensures.items c.is_counted.result c.reserve.ensures.items
    (counts_there c.is_counted.result c.args.self.now.tasks.items c.args.i c.turn.new.self c.index.result.now
    c.as_slice.result.now w c.index.ensures c.as_slice.ensures.value c.is_counted.ensures)
    (subst (λ f. TakesTurn c.args.code.now c.index_mut.result.now (Ok f) c.turn.new.self) c.in-Ok-Moved.field-0-is
    c.in-Ok-Moved.ensures)

pub returns-in-Ok-Forked-clause-turns : goal.returns-in-Ok-Forked-clause-turns
returns-in-Ok-Forked-clause-turns c =
    let w = within c.args.self.now c.args.i c.requires.at in
    forked_turns c.args.code.now c.args.i c.args.self.now _ c.index_mut.result.now c.turn.new.self w c.index_mut.ensures.value
    refl c.reserve-2.ensures.items
    c.is_counted-in-Ok-Forked.result c.in-Ok-Forked.task
    (c.push_reserved.ensures.items ∙ ap (λ l. l ++ c.in-Ok-Forked.task ∷ []) c.reserve.ensures.items)
    (counts_there c.is_counted-in-Ok-Forked.result c.args.self.now.tasks.items c.args.i c.turn.new.self
    c.index-in-Ok-Forked.result.now c.as_slice-in-Ok-Forked.result.now w
    c.index-in-Ok-Forked.ensures c.as_slice-in-Ok-Forked.ensures.value c.is_counted-in-Ok-Forked.ensures)
    (subst (λ f. TakesTurn c.args.code.now c.index_mut.result.now (Ok f) c.turn.new.self) c.in-Ok-Forked.field-0-is
    c.in-Ok-Forked.ensures)

pub returns-in-Ok-Offered-clause-turns : goal.returns-in-Ok-Offered-clause-turns
returns-in-Ok-Offered-clause-turns c =
    offered_turns c.args.code.now c.args.i c.args.self.now _ c.index_mut.result.now c.turn.new.self
    (within c.args.self.now c.args.i c.requires.at) c.index_mut.ensures.value refl
    c.reserve-2.ensures.items c.reserve.ensures.items
    (subst (λ f. TakesTurn c.args.code.now c.index_mut.result.now (Ok f) c.turn.new.self) c.in-Ok-Offered.field-0-is
    c.in-Ok-Offered.ensures)

pub returns-in-Ok-Left-clause-turns : goal.returns-in-Ok-Left-clause-turns
returns-in-Ok-Left-clause-turns c =
    left_turns c.args.code.now c.args.i c.args.self.now _ c.index_mut.result.now c.turn.new.self
    (within c.args.self.now c.args.i c.requires.at) c.index_mut.ensures.value refl
    c.reserve-2.ensures.items c.in-Ok-Left.field-0-0 c.reserve.ensures.items
    (subst (λ f. TakesTurn c.args.code.now c.index_mut.result.now (Ok f) c.turn.new.self) c.in-Ok-Left.field-0-is
    c.in-Ok-Left.ensures)

pub returns-in-Ok-Ended-clause-turns : goal.returns-in-Ok-Ended-clause-turns
returns-in-Ok-Ended-clause-turns c =
    ended_turns c.args.code.now c.args.i c.args.self.now _ c.index_mut.result.now c.turn.new.self
    (within c.args.self.now c.args.i c.requires.at) c.index_mut.ensures.value refl
    c.reserve-2.ensures.items c.reserve.ensures.items
    (subst (λ f. TakesTurn c.args.code.now c.index_mut.result.now (Ok f) c.turn.new.self) c.in-Ok-Ended.field-0-is
    c.in-Ok-Ended.ensures)

pub returns-clause-turns : goal.returns-clause-turns
returns-clause-turns c =
    wanting_turns c.args.code.now c.args.i c.args.self.now _ c.index_mut.result.now c.turn.new.self
    (within c.args.self.now c.args.i c.requires.at) c.index_mut.ensures.value refl
    c.reserve-2.ensures.items c.in-Err.e c.reserve.ensures.items c.in-Err.ensures
