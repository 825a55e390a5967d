-- What the least buffered run of a module that has derivations answers.
use Rattle.std.proofs.Common.{◌≡◌, ℕ, List, [], ◌∷◌, Option, Some, None, length, refl, subst}
use Rattle.std.specs.Prelude.{option_map, Contains}
use Rattle.std.proofs.lemmas.Option.{none-some, same_Some}
use Rattle.fst_types.specs.Tree.{Tree}
use Rattle.fst_kinds.specs.WellFormed.{IsSession}
use Rattle.fst_lts.specs.Histories.{after_history}
use Rattle.fst_terms.specs.declared.core_module.Module.{Module}
use Rattle.fst_types.specs.declared.event.ChannelHistory.{ChannelHistory}
use Rattle.fst_machine.specs.Machine.{Program}
use Rattle.fst_runs.specs.Configs as runs
use Rattle.fst_runs.specs.Configs.{program}
use Rattle.fst_vm.specs.declared.report.Report.{Report}
use Rattle.fst_process.specs.Reports.{IsMainResult, IsReport}
use Rattle.fst_buffered.specs.declared.outcome.BufferedOutcome.TheVariants.{Done, OutOfSteps}
use Rattle.fst_buffered.specs.Channels.{Channel, Config, plain, core, started}
use Rattle.fst_buffered.specs.Events.{Occurrence, Runs, RunsLeast}
use Rattle.fst_buffered.specs.Safety.{IsSafeAt}
use Rattle.fst_buffered.specs.Answers.{IsSoundReport, AnswersAreSound}
use Rattle.fst_buffered.proofs.Runs.{buffered_safe}

-- a least run is a run
pub least_runs : (m : Program) (types : List Tree) (capacity : ℕ) (es : List Occurrence) (c d : Config) →
    RunsLeast m types capacity c es d → Runs m types capacity c es d
least_runs m types capacity [] c d r = r
least_runs m types capacity (e ∷ es) c d r = (r.0, r.1, least_runs m types capacity es r.0 d r.3)

plain_there : (o : Option Channel) (k : runs.Channel) → option_map plain o ≡ Some k → (j : Channel) × (o ≡ Some j) × (plain j ≡ k)
plain_there None k e = absurd (none-some k e)
plain_there (Some j) k e = (j, refl, same_Some (plain j) k e)

module _ (m : Module) (c : Config) (safe : IsSafeAt m c) (n : ℕ) (r : Report) (is : IsReport (program m) (core c) n r) where
  -- a channel of the report
  abbrev channel_of : ChannelHistory → runs.Channel
  channel_of j = record { declared = j.declared; history = j.entries.items }

  there : (j : ChannelHistory) → Contains r.channels.items j → (k : Channel) × (c.channels j.name ≡ Some k) ×
      (plain k ≡ channel_of j)
  there j h = plain_there (c.channels j.name) (channel_of j) ((is.channels j.name (channel_of j)).1 (j, h, refl, refl, refl))

  -- the report of a safe configuration is sound
  pub safe_sound : IsSoundReport m r
  safe_sound = record {
    sessions = λ j h. let k = there j h in subst (λ (z : runs.Channel). IsSession [] z.declared) k.2
        (safe.sessions j.name k.0 k.1);
    traces = λ j h. let k = there j h in subst (λ (z : runs.Channel). (t : Tree) × (after_history z.declared z.history ≡ Some t))
        k.2 (safe.right.traces j.name k.0 k.1);
    result = λ x q.
        let (t, v, there, ends, alike) = subst (IsMainResult (program m) (core c)) q is.result in
        (v, safe.result t v there ends, alike);
  }

pub answers_sound : AnswersAreSound
answers_sound m ds h main body capacity steps (Done r unread) a =
    safe_sound m a.1 (buffered_safe m ds h main body capacity a.0 a.1
    (least_runs (program m) m.types.items capacity a.0 (started main) a.1 a.2)).0 (length a.0) r a.5
answers_sound m ds h main body capacity steps OutOfSteps a = tt
