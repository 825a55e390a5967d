use Rattle.std.proofs.Common.{OnOk, sym, subst}
use Rattle.fst_process.specs.KeptOf.{kept_of}
use Rattle.fst_process.specs.Firing.{Happens}
use Rattle.fst_process.proofs.config.Config.go.Goals as goal

pub returns-in-Local : goal.returns-in-Local
returns-in-Local c =
    subst (λ e. OnOk c.step.result (Happens c.args.code.now (kept_of c.args.self.now) e (kept_of c.step.new.self)))
    (sym c.in-Local.is) c.step.ensures

pub returns-in-New : goal.returns-in-New
returns-in-New c =
    subst (λ e. OnOk c.open.result (Happens c.args.code.now (kept_of c.args.self.now) e (kept_of c.open.new.self)))
    (sym c.in-New.is) c.open.ensures

pub returns-in-Fork : goal.returns-in-Fork
returns-in-Fork c =
    subst (λ e. OnOk c.fork.result (Happens c.args.code.now (kept_of c.args.self.now) e (kept_of c.fork.new.self)))
    (sym c.in-Fork.is) c.fork.ensures

pub returns-in-Meet : goal.returns-in-Meet
returns-in-Meet c =
    subst (λ e. OnOk c.meet.result (Happens c.args.code.now (kept_of c.args.self.now) e (kept_of c.meet.new.self)))
    (sym c.in-Meet.is) c.meet.ensures
