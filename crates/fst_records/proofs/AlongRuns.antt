-- Along a run a record that fits stays one.
use Rattle.std.proofs.Common.{◌≡◌, ◌∙◌, ◌+◌, ◌^◌, ◌<◌, ◌≤◌, ℕ, suc, List, [], ◌∷◌, ◌++◌, length, refl, sym, ap, subst, arith}
use Rattle.std.proofs.lemmas.List.{append-nil, append_assoc}
use Rattle.fst_types.specs.Tree.{Tree}
use Rattle.fst_types.specs.declared.event.ChannelHistory.{ChannelHistory}
use Rattle.fst_machine.specs.Machine.{Program}
use Rattle.fst_runs.specs.declared.event.CoreEvent.{CoreEvent}
use Rattle.fst_runs.specs.declared.log.LogEntry.{LogEntry}
use Rattle.fst_runs.specs.Configs.{Path, Config}
use Rattle.fst_runs.specs.Events.{Write, written, Does}
use Rattle.fst_runs.specs.Logs.{Birth}
use Rattle.fst_runs.specs.Notes.{Note, RunsNoting, entries_at, notes}
use Rattle.fst_runs.specs.Wrong.{IsRight}
use Rattle.fst_runs.proofs.Laws.{entries_at-append}
use Rattle.fst_records.specs.Records.{Course, config_of, log_of, FitsRecord}
use Rattle.fst_records.specs.Growing.{events_of, IsFine, StaysFine, IsRecordOf}
use Rattle.fst_records.specs.Laws.{ExtendsLaw, RunsLaw}
use Rattle.fst_records.proofs.Happening.{happens}
use Rattle.fst_records.proofs.Stamping.{stamps}

-- what an event leads to
pub extends : ExtendsLaw
extends m types main ys ks fits e w early few right does fine =
    happens m types main ys ks fits (stamps m types main ys ks fits early) few e w right does fine

-- ---- runs

module _ (m : Program) (types : List Tree) (main : Birth) where
  -- the logs of a record are what they are the same as
  with_logs : (c : Config) (n : ℕ) (f g : Path → List LogEntry) → IsRecordOf m types main c n f → ((p : Path) → f p ≡ g p) →
      IsRecordOf m types main c n g
  with_logs c n f g r e = record {
    tasks = r.tasks;
    channels = r.channels;
    fits = r.fits;
    config = r.config;
    events = r.events;
    logged = λ p. r.logged p ∙ e p;
  }

  -- a record where an event happens in its configuration, with logs that have gained what the event gives them
  abbrev Goes : ℕ → (Path → List LogEntry) → (e : CoreEvent) (w : Write) (b : Config) → Does m types b e w → Type 0
  Goes n logs e w b does = IsRecordOf m types main (written b w) (suc n) (λ p. logs p ++ entries_at p (notes m types b e w does))

  one_more : main.first.clock ≡ 0 → (c : Config) (n : ℕ) (logs : Path → List LogEntry) (e : CoreEvent) (w : Write) →
      IsRecordOf m types main c n logs → n < 2 ^ 32 → IsRight m c → (does : Does m types c e w) → IsFine m (written c w) →
      Goes n logs e w c does
  one_more early c n logs e w r =
      let here = config_of r.tasks r.channels in
      subst (λ (b : Config). n < 2 ^ 32 → IsRight m b → (does : Does m types b e w) → IsFine m (written b w) →
      Goes n logs e w b does) r.config
      (subst (λ (k : ℕ). k < 2 ^ 32 → IsRight m here → (does : Does m types here e w) → IsFine m (written here w) →
      Goes k logs e w here does) r.events
      (λ few right does fine.
      with_logs (written here w) (suc (events_of r.tasks r.channels))
      (λ p. log_of r.tasks p ++ entries_at p (notes m types here e w does))
      (λ p. logs p ++ entries_at p (notes m types here e w does))
      (extends m types main r.tasks r.channels r.fits e w early few right does fine)
      (λ p. ap (λ (l : List LogEntry). l ++ entries_at p (notes m types here e w does)) (r.logged p))))

  many_more : main.first.clock ≡ 0 → (n : ℕ) (c : Config) (logs : Path → List LogEntry) (es : List CoreEvent) (d : Config)
      (ns : List Note) → IsRecordOf m types main c n logs → n + length es ≤ 2 ^ 32 → StaysFine m types c →
      RunsNoting m types c es d ns → IsRecordOf m types main d (n + length es) (λ p. logs p ++ entries_at p ns)
  many_more early n c logs [] d ns r few stays run =
      subst (λ (k : ℕ). IsRecordOf m types main d k (λ p. logs p ++ entries_at p ns)) (omega arith)
      (subst (λ (b : Config). IsRecordOf m types main b n (λ p. logs p ++ entries_at p ns)) (sym run.0)
      (with_logs c n logs (λ p. logs p ++ entries_at p ns) r
      (λ p. sym (append-nil (logs p)) ∙ ap (λ (l : List Note). logs p ++ entries_at p l) (sym run.1))))
  many_more early n c logs (e ∷ es) d ns r few stays run =
      let w = run.0 in
      let does = run.1 in
      let gained = notes m types c e w does in
      subst (λ (k : ℕ). IsRecordOf m types main d k (λ p. logs p ++ entries_at p ns)) (omega arith)
      (with_logs d (suc n + length es) (λ p. (logs p ++ entries_at p gained) ++ entries_at p run.2)
      (λ p. logs p ++ entries_at p ns)
      (many_more early (suc n) (written c w) (λ p. logs p ++ entries_at p gained) es d run.2
      (one_more early c n logs e w r (omega (arith, few)) (stays [] c refl).right does
      (stays (e ∷ []) (written c w) (w, does, refl)))
      (omega (arith, few)) (λ fs f k. stays (e ∷ fs) f (w, does, k)) run.4)
      (λ p. append_assoc (logs p) (entries_at p gained) (entries_at p run.2)
      ∙ ap (λ (l : List LogEntry). logs p ++ l) (sym (entries_at-append p gained run.2))
      ∙ ap (λ (l : List Note). logs p ++ entries_at p l) (sym run.3)))

-- the record itself
itself : (m : Program) (types : List Tree) (main : Birth) (ys : List Course) (ks : List ChannelHistory) →
    FitsRecord m types main ys ks → IsRecordOf m types main (config_of ys ks) (events_of ys ks) (log_of ys)
itself m types main ys ks fits = record {
  tasks = ys;
  channels = ks;
  fits = fits;
  config = refl;
  events = refl;
  logged = λ p. refl;
}

-- what a run leads to
pub runs : RunsLaw
runs m types main ys ks fits es d ns early few stays run =
    many_more m types main early (events_of ys ks) (config_of ys ks) (log_of ys) es d ns (itself m types main ys ks fits) few
    stays run
