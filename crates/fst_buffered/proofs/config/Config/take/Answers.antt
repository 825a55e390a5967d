use Rattle.std.proofs.Common.{◌∙◌, ap}
use mathlib.Core.Bool.{Bool-set}
use Rattle.std.proofs.Math.Logic.{∥∥₁_map, ∥∥₁_elim}
use Rattle.std.proofs.lemmas.Result.{on_ok_weaker}
use Rattle.fst_buffered.specs.Kept.{Kept, tested}
use Rattle.fst_buffered.specs.KeptOf.{kept_of}
use Rattle.fst_buffered.proofs.Doing.{next_kept, seen_kept, take_can, take_steps}
use Rattle.fst_buffered.proofs.config.Config.take.Goals as goal

pub next_at-requires : goal.next_at-requires
next_at-requires c =
    let (s, there, asks) = c.requires.asks in
    ∥∥₁_elim c.requires.can (Bool-set _ _) (next_kept c.args.code.now c.args.capacity (kept_of c.args.self.now)
    c.args.path.now s there c.args.end.now asks)

pub take_at-requires : goal.take_at-requires
take_at-requires c = λ j e.
    let (s, there, asks) = c.requires.asks in
    seen_kept c.args.code.now c.args.capacity (kept_of c.args.self.now) c.args.path.now s there c.args.end.now asks
    c.requires.can j e

pub go_on-requires-clause-can : goal.go_on-requires-clause-can
go_on-requires-clause-can c =
    let (s, there, asks) = c.requires.asks in
    ∥∥₁_map c.requires.can (take_can c.args.code.now c.args.capacity (kept_of c.args.self.now) c.args.path.now s there
    c.args.end.now c.in_ok-event.event asks c.in_ok-event.ensures (kept_of c.take_at.new.self)
    (ap (λ (z : Kept). z.tasks) c.take_at.ensures.taken))

pub returns : goal.returns
returns c =
    let code = c.args.code.now in
    let capacity = c.args.capacity in
    let d = kept_of c.args.self.now in
    let (s, there, asks) = c.requires.asks in
    let mid = kept_of c.go_on.new.self in
    let types = c.len.ensures ∙ code.types.ok.0 in
    on_ok_weaker c.test.result (λ e. take_steps code capacity d c.args.path.now s there c.args.end.now c.in_ok-event.event asks
    c.in_ok-event.ensures (kept_of c.take_at.new.self) mid (kept_of c.test.new.self) c.take_at.ensures.taken
    c.in_ok-go_on.ensures.goes
    (e ∙ (λ i. tested (types i) capacity (c.in_ok-partner.ensures i) mid))) c.test.ensures.tested
