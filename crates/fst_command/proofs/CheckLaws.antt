-- What `check` writes of a module, and what each command's text means.
use Rattle.std.proofs.Common.{◌≡◌, ◌∙◌, ◌⊎◌, inl, inr, ℕ, ◌≤◌, Bool, true, false, List, [], ◌∷◌, ◌++◌, length, Result, Ok, Err, refl, sym, ap, subst}
use Rattle.std.specs.Prelude.{◌≢◌, IfOk}
use Rattle.std.specs.declared.alloc.AllocError.{AllocError}
use Rattle.fst_base.specs.Limits.{most_bytes}
use Rattle.fst_scopes.specs.declared.fault.NameFault.{NameFault}
use Rattle.fst_scopes.specs.declared.fault.NameFault.TheVariants as naming
use Rattle.fst_terms.specs.ModuleTree.{Declared}
use Rattle.fst_terms.specs.declared.core_module.Module.{Module}
use Rattle.fst_lexer.specs.Lexes.{OneLexing}
use Rattle.fst_module_grammar.specs.Derives.{AnswersModule, OneModule}
use Rattle.fst_names.specs.ResolvedModule.{IsFirstFault, IsResolvedModule, OneModuleLaw}
use Rattle.fst_derivations.specs.Deriv.{Deriv}
use Rattle.fst_type_print.specs.Texts.{family_names}
use Rattle.fst_derivations.specs.Modules.{HasDerivations}
use Rattle.fst_typing.specs.Checked.{IsAccepted, IsRefusal}
use Rattle.fst_premises.specs.Shown.{IsShown}
use Rattle.fst_premises.specs.declared.fault.CheckFault.{CheckFault}
use Rattle.fst_premises.specs.declared.fault.CheckFault.TheVariants as checking
use Rattle.fst_command.specs.declared.answer.Answer.{Answer as Written}
use Rattle.fst_command.specs.declared.finding.Fault.{Fault}
use Rattle.fst_command.specs.declared.refusals.Cause.{Cause as Given}
use Rattle.fst_command.specs.declared.refusals.Cause.TheVariants as given
use Rattle.fst_command.specs.declared.status.Status.TheVariants as status
use Rattle.fst_command.specs.CheckTexts.{Cause, nothing, refused, undecided, too_large, accepted_text, cause, cause_text, cause_status}
use Rattle.fst_types.specs.declared.family.Family.{Family}
use Rattle.fst_options.specs.Words.{equiv, show, check, run, buffered, make, audit, default_budget, default_steps}
use Rattle.fst_command.specs.Finding as finding
use Rattle.fst_command.specs.Finding.{Finding, IsRead, IsUnread, AreResolved, AreUnresolved, name_finding}
use Rattle.fst_command.specs.Output.{AreLines, IsFoundOf, accepted, unaccepted, FindsModule, SaysAccepted, SaysBuffered, SaysOutcome, made_summary, waiting_status, outcome_text, outcome_status, WritesOf, too_long, is_none, makes, finding_status, Writes}
use Rattle.fst_safety.specs.Safety.{DerivedIsSafe}
use Rattle.fst_safety.specs.Diamond.{OneEnd}
use Rattle.fst_runs.specs.Configs.{program, started}
use Rattle.fst_runs.proofs.Laws.{least_runs}
use Rattle.fst_process.specs.Reports.{IsAnswer, IsReport}
use Rattle.fst_vm.specs.declared.report.Outcome.{Outcome}
use Rattle.fst_vm.specs.declared.report.Outcome.TheVariants.{Done, OutOfSteps}
use Rattle.fst_vm.specs.declared.report.Report.{Report}
use Rattle.fst_vm.specs.declared.report.Waiting.{Waiting}
use Rattle.fst_execution.specs.Execution.{IsSound, AnswersAreSound}
use Rattle.fst_buffered.specs.Answers as buffered_run
use Rattle.fst_buffered.specs.Safety.{BufferedIsSafe}
use Rattle.fst_make.specs.Made.{made_text}
use Rattle.fst_report.specs.ReportTexts.{report_text}
use Rattle.fst_command.specs.declared.status.Status.{Status}
use Rattle.fst_typing.specs.Laws.{IsCause, RefusedHasNone, WithinIsNotRefused}
use Rattle.fst_command.specs.Complete.{HasBegun}
use Rattle.fst_command.specs.Meanings.{EndsAs, MeansAccepted, MeansBeyond, MeansRefused, MeansCheck, MeansReport, IsSoundOutcome, MeansRun, MeansBuffered, Meanings}
use Rattle.fst_command.specs.Views.{IfFound, cause_of, name_fault}
use Rattle.fst_command.proofs.BufferedLaws.{says_buffered}
use Rattle.fst_command.proofs.CompleteLaws.{makes_within, unbegun_beyond, unbuffered_beyond}
use Rattle.fst_command.proofs.FindingLaws.{if_found, said_found}
use Rattle.fst_command.proofs.Causes.{refused_cause}
use Rattle.fst_command.proofs.MeaningLaws.{audit_means, equiv_means, proved_means}
use Rattle.fst_command.proofs.OneResolved.{resolved_or_not, same_resolved}
use Rattle.fst_command.proofs.OutcomeLaws.{outcome_sound}
use Rattle.fst_command.proofs.SameDerivations.{derivations_same}

-- ---- what is found of the bytes

-- a source that was read and stands for a module
pub resolved_by : (bytes : List ℕ) (ds : List Declared) (m : Module) → IsRead AnswersModule bytes ds → IsResolvedModule ds m →
    AreResolved bytes m
resolved_by bytes ds m is stands = record { declared = ds; read = is; resolved = stands }

-- the first fault of names and sizes of a source that was read
pub names_found : (bytes : List ℕ) (ds : List Declared) (e : NameFault) → IsRead AnswersModule bytes ds →
    (e ≢ naming.Memory → IsFirstFault ds e) → IfFound (name_fault e) (AreUnresolved bytes)
names_found bytes ds e is first =
    said_found (AreUnresolved bytes) e
    (λ g says. inr (ds, is, record { fault = e; first = first (λ want. absurd (cc (says, ap name_finding want))); says = says }))

-- bytes that are read as no source
pub unread_found : (bytes : List ℕ) (f : Fault) → IfFound f (IsUnread AnswersModule bytes) → IfFound f (AreUnresolved bytes)
unread_found bytes f h = if_found (IsUnread AnswersModule bytes) (AreUnresolved bytes) f (λ g u. inl u) h

-- ---- what is found of the module

-- a cause is found
pub some_cause : (c : Given) → cause_of c ≡ nothing → ⊥
some_cause (given.Refused at p) e = absurd (cc e)
some_cause (given.Undecided at got wanted) e = absurd (cc e)
some_cause (given.TooLarge at) e = absurd (cc e)

-- so the fault that it is isn't want of memory
pub some_fault : (c : Given) (names : List (List ℕ)) (f : CheckFault) → cause_of c ≡ cause names f → f ≢ checking.Memory
some_fault c names f is e = some_cause c (is ∙ ap (cause names) e)

-- what holds at all holds of an answer
pub some_answer : (c : Given) (names : List (List ℕ)) (f : CheckFault) (r : Result Written AllocError) →
    cause_of c ≡ cause names f → IfOk r (λ a. f ≢ checking.Memory)
some_answer c names f (Ok a) is = some_fault c names f is
some_answer c names f (Err e) is = tt

-- a module that is accepted
pub accepted_found : (IsMade : List ℕ → Status → Type 0) (bytes : List ℕ) (m : Module) (budget : ℕ) (ds : List Deriv)
    (r : Result Written AllocError) → IsAccepted m budget ds →
    IfOk r (λ a. IsMade a.text.items a.status) → IfOk r (λ a. IsFoundOf IsMade bytes m budget a.text.items a.status)
accepted_found IsMade bytes m budget ds (Ok a) is made = accepted ds is made
accepted_found IsMade bytes m budget ds (Err e) is made = tt

-- what `check` says of it
pub says_accepted : (m : Module) (r : Result Written AllocError) → IfOk r (λ a. a.text.items ≡ accepted_text) → IfOk r
    (λ a. a.status ≡ status.Done) → IfOk r (λ a. SaysAccepted m a.text.items a.status)
says_accepted m (Ok a) written ended = (written, ended)
says_accepted m (Err e) written ended = tt

-- a module that is refused
pub refused_found : (IsMade : List ℕ → Status → Type 0) (bytes : List ℕ) (m : Module) (budget : ℕ) (f : CheckFault)
    (r : Result Written AllocError) → IsShown f (IsRefusal m budget f) → IfOk r (λ a. f ≢ checking.Memory) →
    IfOk r (λ a. a.text.items ≡ cause_text bytes budget (cause (family_names m.families.items) f)) → IfOk r
    (λ a. a.status ≡ cause_status (cause (family_names m.families.items) f)) →
    IfOk r (λ a. IsFoundOf IsMade bytes m budget a.text.items a.status)
refused_found IsMade bytes m budget f (Ok a) is some written ended = unaccepted f (is some) written ended
refused_found IsMade bytes m budget f (Err e) is some written ended = tt

-- a module that the bytes stand for
pub found_output : (IsMade : Module → List ℕ → Status → Type 0) (bytes : List ℕ) (budget : ℕ) (m : Module)
    (r : Result Written AllocError) → length bytes ≤ most_bytes → AreResolved bytes m →
    IfOk r (λ a. IsFoundOf (IsMade m) bytes m budget a.text.items a.status) → IfOk r
    (λ a. WritesOf AreUnresolved (FindsModule IsMade budget) bytes a.text.items a.status)
found_output IsMade bytes budget m (Ok a) short is found = makes short (record { resolved = m; is_resolved = is; found = found })
found_output IsMade bytes budget m (Err e) short is found = tt

-- ---- what it means

-- the bytes stand for a module that is accepted, of which this is made
record IsMadeOf (IsMade : Module → List ℕ → Status → Type 0) (budget : ℕ) (bytes text : List ℕ) (s : Status) : Type 0 where
  resolved : Module
  is_resolved : AreResolved bytes resolved
  derivations : List Deriv
  is_accepted : IsAccepted resolved budget derivations
  made : IsMade resolved text s

-- a status of an input for which nothing is made
data IsRefused (bytes : List ℕ) (s : Status) : Type 0 where
  refused_so : s ≡ status.Refused → MeansRefused bytes → IsRefused bytes s
  undecided_so : s ≡ status.Undecided → IsRefused bytes s
  limited_so : s ≡ status.Limit → IsRefused bytes s
  memory_so : s ≡ status.Memory → IsRefused bytes s

-- what is found of bytes that stand for no module has such a one
finding_refuses : (bytes : List ℕ) (f : Finding) (s : Status) → MeansRefused bytes → s ≡ finding_status f → IsRefused bytes s
finding_refuses bytes (finding.refused at phrase) s none e = refused_so e none
finding_refuses bytes (finding.too_deep at) s none e = limited_so e
finding_refuses bytes (finding.too_large at) s none e = limited_so e

-- so has a cause
cause_refuses : (bytes : List ℕ) (c : Cause) (s : Status) →
    (status.Refused ≡ cause_status c → MeansRefused bytes) → s ≡ cause_status c → IsRefused bytes s
cause_refuses bytes (refused at why) s none e = refused_so e (none refl)
cause_refuses bytes (undecided at got wanted) s none e = undecided_so e
cause_refuses bytes (too_large at) s none e = limited_so e
cause_refuses bytes nothing s none e = memory_so e

-- it isn't that of a command that did its work
not_done : (bytes : List ℕ) → IsRefused bytes status.Done → ⊥
not_done bytes (refused_so e none) = absurd (cc e)
not_done bytes (undecided_so e) = absurd (cc e)
not_done bytes (limited_so e) = absurd (cc e)
not_done bytes (memory_so e) = absurd (cc e)

-- that of an input that is refused means it
means_refused : (bytes : List ℕ) → IsRefused bytes status.Refused → MeansRefused bytes
means_refused bytes (refused_so e none) = none
means_refused bytes (undecided_so e) = absurd (cc e)
means_refused bytes (limited_so e) = absurd (cc e)
means_refused bytes (memory_so e) = absurd (cc e)

-- what that status means follows from what these four do, each where it is that one
no_run : (Means : Status → Type 0) (bytes : List ℕ) (s : Status) → (MeansRefused bytes → Means status.Refused) →
    (s ≡ status.Undecided → Means status.Undecided) → (s ≡ status.Limit → Means status.Limit) → Means status.Memory →
    IsRefused bytes s → Means s
no_run Means bytes s f u l n (refused_so e h) = subst Means (sym e) (f h)
no_run Means bytes s f u l n (undecided_so e) = subst Means (sym e) (u e)
no_run Means bytes s f u l n (limited_so e) = subst Means (sym e) (l e)
no_run Means bytes s f u l n (memory_so e) = subst Means (sym e) n

module _ (law : (m : Module) (budget : ℕ) (ds : List Deriv) → IsAccepted m budget ds → HasDerivations m ds)
    (refusal : RefusedHasNone) (resolving : OneModuleLaw) (lexing : OneLexing) (modules : OneModule)
    (safety : DerivedIsSafe) (complete : WithinIsNotRefused) where
  -- where the module that bytes stand for is refused, each of them is
  refused_means : (budget : ℕ) (bytes : List ℕ) (m : Module) (f : CheckFault) → AreResolved bytes m → IsRefusal m budget f →
      IsCause f → MeansRefused bytes
  refused_means budget bytes m f is h of_module n it ds derived =
      refusal m budget f of_module h ds (derivations_same n m (same_resolved lexing modules bytes resolving n m it is) ds derived)

  -- of an input something is made, or nothing is
  made_or_refused : (IsMade : Module → List ℕ → Status → Type 0) (budget : ℕ) (bytes text : List ℕ) (s : Status) →
      WritesOf AreUnresolved (FindsModule IsMade budget) bytes text s →
      IsMadeOf IsMade budget bytes text s ⊎ IsRefused bytes s
  made_or_refused IsMade budget bytes text s (too_long long w e) = inr (limited_so e)
  made_or_refused IsMade budget bytes text s (is_none short f h w e) =
      inr (finding_refuses bytes f s (λ m is. absurd (resolved_or_not lexing modules bytes m f is h)) e)
  made_or_refused IsMade budget bytes text s (makes short m) = by m.found
    where
      by : IsFoundOf (IsMade m.resolved) bytes m.resolved budget text s → IsMadeOf IsMade budget bytes text s ⊎ IsRefused bytes s
      by (accepted ds a made) = inl (record {
        resolved = m.resolved;
        is_resolved = m.is_resolved;
        derivations = ds;
        is_accepted =
            a;
        made = made;
      })
      by (unaccepted f h w e) =
          let names = family_names m.resolved.families.items in
          inr (cause_refuses bytes (cause names f) s
          (λ r. refused_means budget bytes m.resolved f m.is_resolved h (refused_cause names f r)) e)

  -- what it means that a module is accepted
  abbrev means_accepted : (budget : ℕ) (bytes : List ℕ) (m : Module) (ds : List Deriv) → AreResolved bytes m →
      IsAccepted m budget ds → MeansAccepted bytes
  means_accepted budget bytes m ds is a = record {
    declared = is.declared;
    read = is.read;
    resolved = m;
    is_resolved = is.resolved;
    derivations = ds;
    derived = law m budget ds a;
    safe = safety m ds (law m budget ds a);
  }

  -- a module that `check` doesn't accept isn't within the limits
  unaccepted_beyond : (budget : ℕ) (bytes text : List ℕ) (s : Status) → Writes (check budget) bytes text s →
      (s ≡ status.Done → ⊥) → MeansBeyond budget bytes
  unaccepted_beyond budget bytes text s w other l =
      other (makes_within lexing modules resolving complete SaysAccepted budget bytes text s w l).1.1

  check_means : (budget : ℕ) (bytes text : List ℕ) (s : Status) → Writes (check budget) bytes text s →
      MeansCheck budget bytes s
  check_means budget bytes text s w = elim (made_or_refused SaysAccepted budget bytes text s w) [
    | inl m ↦ record {
      done = λ e. means_accepted budget bytes m.resolved m.derivations m.is_resolved m.is_accepted;
      refused = λ e. let done = m.made.1 in absurd (cc (done, e));
      undecided = λ e. unaccepted_beyond budget bytes text s w (λ d. cc (d, e));
      limit = λ e. unaccepted_beyond budget bytes text s w (λ d. cc (d, e));
    }
    | inr r ↦ record {
      done = λ e. absurd (not_done bytes (subst (IsRefused bytes) e r));
      refused = λ e. means_refused bytes (subst (IsRefused bytes) e r);
      undecided = λ e. unaccepted_beyond budget bytes text s w (λ d. cc (d, e));
      limit = λ e. unaccepted_beyond budget bytes text s w (λ d. cc (d, e));
    }
  ]

  module _ (sound : AnswersAreSound) (ends : OneEnd) where
    module _ (shown : List Family → Report → List ℕ) where
      -- what the outcome of a run means, with reports written like this
      outcome_means : (events : Bool) (steps budget : ℕ) (bytes text : List ℕ) (s : Status) (m : Module) (ds : List Deriv) →
          AreResolved bytes m → IsAccepted m budget ds →
          SaysOutcome shown events steps m text s → MeansRun shown events budget s bytes text
      outcome_means events steps budget bytes text s m ds is a o =
          by o.outcome o.is.answer o.is.behind
          (outcome_sound sound m (safety m ds (law m budget ds a)) events steps o.outcome o.lines o.is) o.written o.ended
        where
          ends_as : (r : Report) → IsAnswer m o.is.main steps (Done r) → EndsAs m o.is.main r
          ends_as r (fs, d, least, last, few, is_report) = λ es c run l.
              let one = (ends m ds (law m budget ds a) o.is.main o.is.body fs d (least_runs (program m) m.types.items
              (started o.is.main) fs d least) last es c run).1 l in
              subst (λ z. IsReport (program m) z (length es) r) (sym one.1)
              (subst (λ k. IsReport (program m) d k r) (sym one.0) is_report)

          report_means : (r : Report) → IsAnswer m o.is.main steps (Done r) → IsSound m r →
              AreLines events m o.is.main (Done r) o.lines →
              text ≡ shown m.families.items r ++ o.lines → MeansReport shown events bytes text
          report_means r x h l w = record {
            accepted = means_accepted budget bytes m ds is a;
            report = r;
            lines = o.lines;
            written = w;
            sound = h;
            main = o.is.main;
            body = o.is.body;
            behind = l;
            ends = ends_as r x;
          }

          by_tasks : (ws : List Waiting) → MeansReport shown events bytes text →
              MeansRun shown events budget (waiting_status ws) bytes text
          by_tasks [] h = h
          by_tasks (w ∷ ws) h = h

          by : (c : Outcome) → IsAnswer m o.is.main steps c → AreLines events m o.is.main c o.lines → IsSoundOutcome m c →
              text ≡ outcome_text shown m.families.items c ++ o.lines → s ≡ outcome_status c →
              MeansRun shown events budget s bytes text
          by (Done r) x l h w e = subst (λ z. MeansRun shown events budget z bytes text) (sym e)
              (by_tasks r.waiting.items (report_means r x (h r refl) l w))
          by OutOfSteps x l h w e =
              subst (λ z. MeansRun shown events budget z bytes text) (sym e) (means_accepted budget bytes m ds is a)

      -- what is written of the run of a module
      source_means : (events : Bool) (steps budget : ℕ) (bytes text : List ℕ) (s : Status) →
          WritesOf AreUnresolved (FindsModule (SaysOutcome shown events steps) budget) bytes text s →
          MeansRun shown events budget s bytes text
      source_means events steps budget bytes text s w =
          elim (made_or_refused (SaysOutcome shown events steps) budget bytes text s w) [
            | inl m ↦ outcome_means events steps budget bytes text s m.resolved m.derivations m.is_resolved m.is_accepted m.made
            | inr r ↦ no_run (λ z. MeansRun shown events budget z bytes text) bytes s (λ none. none)
                (λ e. beyond (λ b. subst HasBegun e b)) (λ e. beyond (λ b. subst HasBegun e b)) tt r
          ]
        where
          beyond : (HasBegun s → ⊥) → MeansBeyond budget bytes
          beyond = unbegun_beyond lexing modules resolving complete shown events steps budget bytes text s w

    -- what is written of the run of a module with channels that hold events
    buffered_means : BufferedIsSafe → buffered_run.AnswersAreSound → buffered_run.AnswersAreEnds →
        (steps capacity budget : ℕ) (bytes text : List ℕ) (s : Status) →
        Writes (buffered steps capacity budget) bytes text s → MeansBuffered capacity budget s bytes text
    buffered_means safe law one steps capacity budget bytes text s w =
        elim (made_or_refused (SaysBuffered capacity steps) budget bytes text s w) [
          | inl m ↦ says_buffered safe law one capacity steps budget bytes text s
              (means_accepted budget bytes m.resolved m.derivations m.is_resolved m.is_accepted) m.made
          | inr r ↦ no_run (λ z. MeansBuffered capacity budget z bytes text) bytes s (λ none. none)
              (λ e. beyond (λ b. subst HasBegun e b)) (λ e. beyond (λ b. subst HasBegun e b)) tt r
        ]
      where
        beyond : (HasBegun s → ⊥) → MeansBeyond budget bytes
        beyond = unbuffered_beyond lexing modules resolving complete capacity steps budget bytes text s w

    pub meanings : BufferedIsSafe → buffered_run.AnswersAreSound → buffered_run.AnswersAreEnds → Meanings
    meanings safe law one (equiv budget false) bytes text s w = equiv_means budget bytes text s w
    meanings safe law one (equiv budget true) bytes text s w = proved_means budget bytes text s w
    meanings safe law one show bytes text s w = tt
    meanings safe law one (check budget) bytes text s w = check_means budget bytes text s w
    meanings safe law one (run steps workers budget events) bytes text s w =
        source_means report_text events steps budget bytes text s w
    meanings safe law one (buffered steps capacity budget) bytes text s w =
        buffered_means safe law one steps capacity budget bytes text s w
    meanings safe law one (make n) bytes text s w = source_means
        (made_summary n) false default_steps default_budget (made_text n) text s w
    meanings safe law one audit bytes text s w = audit_means bytes text s w
