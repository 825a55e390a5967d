use Rattle.std.proofs.Common.{refl}
use Rattle.std.specs.Coded.{le_prop}
use Rattle.std.proofs.Math.Logic.{∥∥₁_map, ∥∥₁_elim}
use Rattle.fst_runs.specs.Configs.{main_path}
use Rattle.fst_vm.specs.declared.report.Report.{Report}
use Rattle.fst_process.specs.KeptOf.{kept_of}
use Rattle.fst_process.proofs.Reporting.{ended_there, made_within, reported}
use Rattle.fst_process.proofs.config.Config.report.Goals as goal

pub result-result-requires : goal.result-result-requires
result-result-requires c = λ s at e. ∥∥₁_map c.requires (ended_there (kept_of c.args.self) main_path s at e)

pub histories-requires : goal.histories-requires
histories-requires c = λ p. ∥∥₁_elim c.requires le_prop (made_within (kept_of c.args.self) p)

pub returns : goal.returns
returns c =
    let report : Report = record {
      result = c.result-result.result;
      waiting = c.in_ok-waiting.waiting;
      channels =
          c.in_ok-channels.channels;
      events = c.args.self.events;
    } in
    reported c.args.self c.args.self.events report c.result-result.ensures c.in_ok-waiting.ensures.items
    c.in_ok-waiting.ensures.ordered
    c.in_ok-channels.ensures.items c.in_ok-channels.ensures.ordered refl
