use Rattle.std.proofs.Common.{◌≡◌, ◌∙◌, ap, sym, true, false, arith}
use Rattle.fst_context.specs.Scope.{is_inside}
use mathlib.Core.List.{reverse}
use Rattle.fst_context.proofs.Places.{linear_place, there_place, taken_free, taken_free_after, taken_gone, taken_outside, taken_here, unmarked}
use Rattle.fst_context.proofs.context.Context.take.Goals as goal

pub returns-then-not-is_once-clause-found : goal.returns-then-not-is_once-clause-found
returns-then-not-is_once-clause-found c =
    taken_free c.args.self.now c.args.k
    (linear_place c.self.inside.entries.items c.self.inside.there.items c.self.inside.bodies.items c.args.self.now c.len.result
    c.args.k c.index.result.now c.self.view_is c.requires (c.len.ensures ∙ c.self.inside.entries.ok.0) c.index.ensures
    ∙ sym c.is_once.ensures ∙ c.if-not-is_once.true)

pub returns-then-not-is_once-clause-after : goal.returns-then-not-is_once-clause-after
returns-then-not-is_once-clause-after c =
    taken_free_after c.args.self.now c.args.k
    (linear_place c.self.inside.entries.items c.self.inside.there.items c.self.inside.bodies.items c.args.self.now c.len.result
    c.args.k c.index.result.now c.self.view_is c.requires (c.len.ensures ∙ c.self.inside.entries.ok.0) c.index.ensures
    ∙ sym c.is_once.ensures ∙ c.if-not-is_once.true)

pub returns-then-not-index-clause-found : goal.returns-then-not-index-clause-found
returns-then-not-index-clause-found c =
    taken_gone c.args.self.now c.args.k
    (linear_place c.self.inside.entries.items c.self.inside.there.items c.self.inside.bodies.items c.args.self.now c.len.result
    c.args.k c.index.result.now c.self.view_is c.requires (c.len.ensures ∙ c.self.inside.entries.ok.0) c.index.ensures
    ∙ sym c.is_once.ensures ∙ c.if-not-is_once.false)
    (there_place c.self.inside.entries.items c.self.inside.there.items c.self.inside.bodies.items c.args.self.now c.len.result
    c.args.k c.index-2.result.now c.self.view_is c.self.invariant.marked c.requires
    (c.len.ensures ∙ c.self.inside.entries.ok.0) c.index-2.ensures ∙ c.if-not-index.true)

pub returns-then-not-is_innermost-clause-found : goal.returns-then-not-is_innermost-clause-found
returns-then-not-is_innermost-clause-found c =
    taken_outside c.args.self.now c.args.k
    (linear_place c.self.inside.entries.items c.self.inside.there.items c.self.inside.bodies.items c.args.self.now c.len.result
    c.args.k c.index.result.now c.self.view_is c.requires (c.len.ensures ∙ c.self.inside.entries.ok.0) c.index.ensures
    ∙ sym c.is_once.ensures ∙ c.if-not-is_once.false)
    (there_place c.self.inside.entries.items c.self.inside.there.items c.self.inside.bodies.items c.args.self.now c.len.result
    c.args.k c.index-2.result.now c.self.view_is c.self.invariant.marked c.requires
    (c.len.ensures ∙ c.self.inside.entries.ok.0) c.index-2.ensures ∙ c.if-not-index.false)
    (ap (λ z. is_inside z.bodies c.args.k) (sym c.self.view_is) ∙ ap
    (λ z. is_inside (reverse z) c.args.k) (sym c.deref.ensures.value) ∙ sym c.is_innermost.ensures
    ∙ c.if-not-is_innermost.true)

pub returns-clause-found : goal.returns-clause-found
returns-clause-found c =
    taken_here c.args.self.now c.args.k
    (linear_place c.self.inside.entries.items c.self.inside.there.items c.self.inside.bodies.items c.args.self.now c.len.result
    c.args.k c.index.result.now c.self.view_is c.requires (c.len.ensures ∙ c.self.inside.entries.ok.0) c.index.ensures
    ∙ sym c.is_once.ensures ∙ c.if-not-is_once.false)
    (there_place c.self.inside.entries.items c.self.inside.there.items c.self.inside.bodies.items c.args.self.now c.len.result
    c.args.k c.index-2.result.now c.self.view_is c.self.invariant.marked c.requires
    (c.len.ensures ∙ c.self.inside.entries.ok.0) c.index-2.ensures ∙ c.if-not-index.false)
    (ap (λ z. is_inside z.bodies c.args.k) (sym c.self.view_is) ∙ ap
    (λ z. is_inside (reverse z) c.args.k) (sym c.deref.ensures.value) ∙ sym c.is_innermost.ensures
    ∙ c.if-not-is_innermost.false)

pub returns-clause-after : goal.returns-clause-after
returns-clause-after c =
    unmarked c.self.inside.entries.items c.self.inside.there.items c.self.inside.bodies.items c.args.self.now c.len.result
    c.args.k c.index-2.result.now c.self.view_is c.self.invariant.marked c.requires
    (c.len.ensures ∙ c.self.inside.entries.ok.0) c.index-2.ensures
    (linear_place c.self.inside.entries.items c.self.inside.there.items c.self.inside.bodies.items c.args.self.now c.len.result
    c.args.k c.index.result.now c.self.view_is c.requires (c.len.ensures ∙ c.self.inside.entries.ok.0) c.index.ensures
    ∙ sym c.is_once.ensures ∙ c.if-not-is_once.false)
