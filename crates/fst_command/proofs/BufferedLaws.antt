-- What `run` with channels that hold events writes of a module that is accepted, and what it means.
use Rattle.std.proofs.Common.{◌≡◌, ◌∙◌, ℕ, suc, List, [], ◌∷◌, length, Some, Result, refl, sym, ap, subst, arith}
use Rattle.std.specs.Prelude.{Contains, IfOk, option_map}
use Rattle.std.specs.declared.alloc.AllocError.{AllocError}
use Rattle.std.proofs.lemmas.Result.{IfOk-weaker}
use Rattle.std.proofs.lemmas.Option.{same_Some}
use Rattle.fst_base.proofs.Lists.{contains_head, contains_tail}
use Rattle.fst_types.specs.declared.event.ChannelHistory.{ChannelHistory}
use Rattle.fst_terms.specs.CoreTree.{CoreTree}
use Rattle.fst_terms.specs.declared.core_module.Module.{Module}
use Rattle.fst_machine.specs.Machine.{Program}
use Rattle.fst_machine.specs.declared.code.Code.{Code}
use Rattle.fst_runs.specs.Configs as runs
use Rattle.fst_runs.specs.Configs.{main_body, program}
use Rattle.fst_vm.specs.declared.report.Report.{Report}
use Rattle.fst_vm.specs.declared.report.Waiting.{Waiting}
use Rattle.fst_process.specs.Reports.{IsReport}
use Rattle.fst_execution.specs.Execution.{IsDerived, IsPrepared}
use Rattle.fst_buffered.specs.declared.outcome.BufferedOutcome.{BufferedOutcome}
use Rattle.fst_buffered.specs.declared.outcome.BufferedOutcome.TheVariants.{Done, OutOfSteps}
use Rattle.fst_buffered.specs.Answers.{AnswersAreSound, AnswersAreEnds, AreUnread, CanRun, IsAnswer, IsOutcome, IsSoundOutcome, RunsRight}
use Rattle.fst_buffered.specs.Channels.{Channel, Config, core, entries, plain}
use Rattle.fst_buffered.specs.Safety.{BufferedIsSafe}
use Rattle.fst_report.specs.BufferedTexts.{AreWithin}
use Rattle.fst_command.specs.declared.status.Status.{Status}
use Rattle.fst_command.specs.Meanings.{IsBufferedSafe, MeansAccepted, MeansBuffered, MeansBufferedReport}
use Rattle.fst_command.specs.Output.{IsBufferedOf, SaysBuffered, buffered_outcome_status, buffered_outcome_text, waiting_status}
use Rattle.fst_command.proofs.OutcomeLaws.{prepared_main}

-- ---- what a buffered run comes to

module _ (safety : BufferedIsSafe) (capacity : ℕ) (m : Module) (d : IsDerived m) where
  -- no run goes wrong
  goes_right : (main : CoreTree) → main_body m.globals.items ≡ Some main → RunsRight m main capacity
  goes_right main body es c r = (safety m d.derivations d.derived main body capacity es c r).0.right

  module _ (k : Code) (ready : IsPrepared m k) where
    -- so the code can run
    pub can_run : CanRun k capacity
    can_run = record {
      source = m;
      main = ready.begins.main;
      from = ready.from;
      body = prepared_main m k ready;
      right = goes_right ready.begins.main (prepared_main m k ready);
    }

    -- and what it comes to is what the module's least run does
    pub is_buffered : (steps : ℕ) (r : Result BufferedOutcome AllocError) → IfOk r (IsOutcome k capacity steps) →
        IfOk r (IsBufferedOf capacity steps m)
    is_buffered steps r h = IfOk-weaker r (IsOutcome k capacity steps) (IsBufferedOf capacity steps m)
        (λ o is. record {
          main = ready.begins.main;
          body = prepared_main m k ready;
          answer = is m ready.begins.main ready.from (prepared_main m k ready)
              (goes_right ready.begins.main (prepared_main m k ready));
        }) h

-- its report is sound
pub buffered_sound : AnswersAreSound → (m : Module) → IsDerived m → (capacity steps : ℕ) (o : BufferedOutcome) →
    IsBufferedOf capacity steps m o → IsSoundOutcome m o
buffered_sound law m d capacity steps o h = law m d.derivations d.derived h.main h.body capacity steps o h.answer

-- ---- what one side hasn't taken

entries_many : (es : _) → length (entries es) ≡ length es
entries_many [] = refl
entries_many (e ∷ es) = ap suc (entries_many es)

module _ (m : Program) (c : Config) (n : ℕ) (r : Report) (is : IsReport m (core c) n r) where
  -- a channel of the report has as many entries as were put in
  as_many : (j : ChannelHistory) (k : Channel) → Contains r.channels.items j → c.channels j.name ≡ Some k →
      length j.entries.items ≡ length k.history
  as_many j k i there =
      let h : runs.Channel = record { declared = j.declared; history = j.entries.items } in
      let same : h ≡ plain k = same_Some h (plain k)
      (sym ((is.channels j.name h).1 (j, i, refl, refl, refl)) ∙ ap (option_map plain) there) in
      ap (λ (x : runs.Channel). length x.history) same ∙ entries_many k.history

  all_within : (js : List ChannelHistory) (ns : List ℕ) →
      ((j : ChannelHistory) → Contains js j → Contains r.channels.items j) → AreUnread c js ns → AreWithin js ns
  all_within [] [] all h = tt
  all_within [] (n ∷ ns) all h = absurd h
  all_within (j ∷ js) [] all h = absurd h
  all_within (j ∷ js) (n ∷ ns) all ((k, there, count), more) =
      let many = as_many j k (all j (contains_head js j j refl)) there in
      (omega (arith, many, count), all_within js ns (λ i h. all i (contains_tail js i j h)) more)

-- no channel of a report has more than its entries that one side hasn't taken
pub unread_within : (capacity steps : ℕ) (m : Module) (o : BufferedOutcome) (r : Report) (unread : _) →
    IsBufferedOf capacity steps m o → o ≡ Done r unread → AreWithin r.channels.items unread.items
unread_within capacity steps m o r unread h is =
    by (subst (IsAnswer m h.main capacity steps) is h.answer)
  where
    by : IsAnswer m h.main capacity steps (Done r unread) → AreWithin r.channels.items unread.items
    by (es, c, runs, last, few, report, left) =
        all_within (program m) c (length es) r report r.channels.items unread.items (λ j i. i) left

-- ---- what it means

-- what a buffered run of the accepted module that the bytes stand for comes to
pub says_buffered : BufferedIsSafe → AnswersAreSound → AnswersAreEnds →
    (capacity steps budget : ℕ) (bytes text : List ℕ) (s : Status)
    (a : MeansAccepted bytes) → SaysBuffered capacity steps a.resolved text s → MeansBuffered capacity budget s bytes text
says_buffered safety law one capacity steps budget bytes text s a o =
    by o.outcome o.is.answer (buffered_sound law a.resolved d capacity steps o.outcome o.is) o.written o.ended
  where
    d : IsDerived a.resolved
    d = record { derivations = a.derivations; derived = a.derived }

    safe : IsBufferedSafe capacity a.resolved
    safe main body es c r = safety a.resolved a.derivations a.derived main body capacity es c r

    by_tasks : (ws : List Waiting) → MeansBufferedReport capacity bytes text →
        MeansBuffered capacity budget (waiting_status ws) bytes text
    by_tasks [] h = h
    by_tasks (w ∷ ws) h = h

    by : (q : BufferedOutcome) → IsAnswer a.resolved o.is.main capacity steps q → IsSoundOutcome a.resolved q →
        text ≡ buffered_outcome_text a.resolved.families.items q →
        s ≡ buffered_outcome_status q → MeansBuffered capacity budget s bytes text
    by (Done r unread) x h w e = subst (λ z. MeansBuffered capacity budget z bytes text) (sym e)
        (by_tasks r.waiting.items (record {
          accepted = a;
          safe = safe;
          report = r;
          unread = unread.items;
          written = w;
          sound = h;
          main = o.is.main;
          body = o.is.body;
          ends = one a.resolved a.derivations a.derived o.is.main o.is.body capacity steps r unread x;
        }))
    by OutOfSteps x h w e =
        subst (λ z. MeansBuffered capacity budget z bytes text) (sym e) (record { accepted = a; safe = safe })
