-- What a run on several workers answers, by records.
use Rattle.std.specs.Prelude.{◌≡◌, ℕ, suc, ◌^◌, ◌<◌, ◌≤◌, List, Some}
use Rattle.fst_terms.specs.CoreTree.{CoreTree}
use Rattle.fst_terms.specs.declared.core_module.Module.{Module}
use Rattle.fst_derivations.specs.Deriv.{Deriv}
use Rattle.fst_derivations.specs.Modules.{HasDerivations}
use Rattle.fst_types.specs.declared.event.ChannelHistory.{ChannelHistory}
use Rattle.fst_vm.specs.declared.report.Outcome.{Outcome}
use Rattle.fst_vm.specs.declared.report.Outcome.TheVariants.{Done, OutOfSteps}
use Rattle.fst_runs.specs.Configs.{program, main_body}
use Rattle.fst_runs.specs.Events.{IsLast}
use Rattle.fst_runs.specs.Logs.{Birth}
use Rattle.fst_process.specs.Reports.{IsReport, IsAnswer, IsAnswerFrom}
use Rattle.fst_records.specs.Records.{Course, FitsRecord, config_of, main_birth}
use Rattle.fst_records.specs.Growing.{events_of}
use Rattle.fst_safety.specs.Safety.{IsSafeAt, StaysSafe}

-- the report of a record that fits, is safe, has at most so many events and allows no other, or that one that fits has more
abbrev pub IsRecordAnswer : Module → Birth → ℕ → Outcome → Type 0
IsRecordAnswer m main steps (Done r) =
    (ys : List Course) × (ks : List ChannelHistory) ×
    FitsRecord (program m) m.types.items main ys ks × IsSafeAt m (config_of ys ks) ×
    IsLast (program m) m.types.items (config_of ys ks) ×
    (events_of ys ks ≤ steps) × IsReport (program m) (config_of ys ks) (events_of ys ks) r
IsRecordAnswer m main steps OutOfSteps =
    (ys : List Course) × (ks : List ChannelHistory) ×
    FitsRecord (program m) m.types.items main ys ks × (steps < events_of ys ks)

-- what the least run from a record's configuration comes to, where its events count among the steps, is such an answer
abbrev pub AnswerLaw : Type 0
AnswerLaw = (m : Module) (main : Birth) (ys : List Course) (ks : List ChannelHistory) (steps : ℕ)
    (o : Outcome) →
    main.first.clock ≡ 0 → FitsRecord (program m) m.types.items main ys ks →
    StaysSafe m (config_of ys ks) → steps < 2 ^ 32 →
    IsAnswerFrom m (config_of ys ks) (events_of ys ks) steps o → IsRecordAnswer m main steps o

-- such an answer is that of the least run from main's beginning, where the module has derivations
abbrev pub LeastLaw : Type 0
LeastLaw = (m : Module) (ds : List Deriv) → HasDerivations m ds →
    (e : CoreTree) → main_body m.globals.items ≡ Some e → (steps : ℕ) (o : Outcome) →
    suc steps < 2 ^ 32 → IsRecordAnswer m (main_birth e) steps o → IsAnswer m e steps o
