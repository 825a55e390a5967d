use Rattle.std.proofs.Common.{◌∙◌, ap}
use Rattle.std.specs.Coded.{Coded-set, coded_ℕ}
use Rattle.std.proofs.Math.Logic.{∥∥₁_map, ∥∥₁_elim}
use Rattle.std.proofs.lemmas.Result.{on_ok_weaker}
use Rattle.fst_buffered.specs.Kept.{Kept, tested}
use Rattle.fst_buffered.specs.KeptOf.{kept_of}
use Rattle.fst_buffered.proofs.Doing.{whole_kept, put_can, put_steps}
use Rattle.fst_buffered.proofs.config.Config.put.Goals as goal

pub put_at-requires : goal.put_at-requires
put_at-requires c = λ j e.
    let (s, there, asks) = c.requires.asks in
    ∥∥₁_elim c.requires.can (Coded-set coded_ℕ _ _) (λ x. whole_kept c.args.code.now c.args.capacity (kept_of c.args.self.now)
    c.args.path.now s there c.args.end.now c.args.event asks x j e)

pub go_on-requires-clause-can : goal.go_on-requires-clause-can
go_on-requires-clause-can c =
    let (s, there, asks) = c.requires.asks in
    ∥∥₁_map c.requires.can (put_can c.args.code.now c.args.capacity (kept_of c.args.self.now) c.args.path.now s there
    c.args.end.now c.args.event asks (kept_of c.put_at.new.self) (ap (λ (z : Kept). z.tasks) c.in_ok-put_at.ensures.put))

pub returns : goal.returns
returns c =
    let code = c.args.code.now in
    let capacity = c.args.capacity in
    let d = kept_of c.args.self.now in
    let (s, there, asks) = c.requires.asks in
    let mid = kept_of c.go_on.new.self in
    let types = c.len.ensures ∙ code.types.ok.0 in
    on_ok_weaker c.test.result (λ e. put_steps code capacity d c.args.path.now s there c.args.end.now c.args.event asks
    (kept_of c.put_at.new.self) mid (kept_of c.test.new.self) c.in_ok-put_at.ensures.put c.in_ok-go_on.ensures.goes
    (e ∙ (λ i. tested (types i) capacity (c.in_ok-partner.ensures i) mid))) c.test.ensures.tested
