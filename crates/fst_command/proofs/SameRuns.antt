-- Runs of two programs that have the same bodies, and whose tasks stand still at the same places.
use Rattle.std.proofs.Common.{◌≡◌, ◌∙◌, inl, inr, ℕ, Bool, true, false, List, [], ◌∷◌, length, Some, None, sym, ap, subst}
use Rattle.fst_types.specs.Tree.{Tree}
use Rattle.fst_terms.specs.CoreTree.{CoreTree}
use Rattle.fst_terms.specs.declared.core_module.Module.{Module}
use Rattle.fst_machine.specs.declared.request.Answer.{Answer}
use Rattle.fst_machine.specs.Machine.{Program, State, asked, after, child, pause}
use Rattle.fst_machine.specs.Programs.{bodies}
use Rattle.fst_runs.specs.declared.event.CoreEvent.{CoreEvent}
use Rattle.fst_runs.specs.declared.event.CoreEvent.TheVariants.{Local, New, Fork, Meet}
use Rattle.fst_runs.specs.Configs.{Config, program, started}
use Rattle.fst_runs.specs.Events.{Write, Does, IsLast, written}
use Rattle.fst_runs.specs.Least.{IsLeast, RunsLeast, WaitsAt}
use Rattle.fst_runs.specs.declared.event.Stamped.{Stamped}
use Rattle.fst_runs.specs.StampedRuns.{RunsAt, events_in}
use Rattle.fst_vm.specs.declared.report.Outcome.{Outcome}
use Rattle.fst_vm.specs.declared.report.Outcome.TheVariants.{Done, OutOfSteps}
use Rattle.fst_vm.specs.declared.report.Report.{Report}
use Rattle.fst_process.specs.Reports.{IsMainResult, IsReport, IsAnswer}
use Rattle.fst_names.specs.ResolvedModule.{AreSame}
use Rattle.fst_merge.specs.LeastEvents.{AreEventsOf}
use Rattle.fst_command.specs.Output.{AreLines}
use Rattle.fst_command.proofs.SameMachines.{pause_same, after_same}
use Rattle.fst_command.proofs.SameParts.{same_bodies, same_names}

-- tasks stand still at the same places, and are in the same state after an answer
pub record RunAlike (m n : Program) : Type 0 where
  pub pauses : (s : State) → pause m.families s ≡ pause n.families s
  pub answers : (s : State) (a : Answer) → after m (pause m.families s) a ≡ after n (pause n.families s) a

-- so it is with modules that have the same parts
pub run_alike : (m n : Module) → AreSame m n → RunAlike (program m) (program n)
run_alike m n s = record {
  pauses = stops;
  answers = λ t a. after_same m.families.items n.families.items (bodies m.globals.items) (bodies n.globals.items)
      (same_bodies m.globals.items n.globals.items s.globals) (pause m.families.items t) a ∙ ap
      (λ q. after (program n) q a) (stops t);
}
  where
    stops : (t : State) → pause m.families.items t ≡ pause n.families.items t
    stops = pause_same m.families.items n.families.items (same_names m.families.items n.families.items s.families)

-- so it is the other way round
pub alike_back : (m n : Program) → RunAlike m n → RunAlike n m
alike_back m n x = record { pauses = λ s. sym (x.pauses s); answers = λ s a. sym (x.answers s a) }

-- the same events are possible, and write the same
does_same : (m n : Program) → RunAlike m n → (types : List Tree) (c : Config) (e : CoreEvent) (w : Write) → Does m types c e w →
    Does n types c e w
does_same m n x types c (Local p) w d = record {
  task = d.task;
  state = d.state;
  asks = (d.asks.0, ap asked (sym (x.pauses d.task.state)) ∙ d.asks.1);
  leads = sym (x.answers d.task.state _) ∙ d.leads;
  writes = d.writes;
}
does_same m n x types c (New p) w d = record {
  task = d.task;
  state = d.state;
  number = d.number;
  declared = d.declared;
  asks = (d.asks.0, ap asked (sym (x.pauses d.task.state)) ∙ d.asks.1);
  typed = d.typed;
  leads = sym (x.answers d.task.state _) ∙ d.leads;
  writes = d.writes;
}
does_same m n x types c (Fork p) w d = record {
  task = d.task;
  state = d.state;
  begun = d.begun;
  asks = (d.asks.0, ap asked (sym (x.pauses d.task.state)) ∙ d.asks.1);
  begins = ap child (sym (x.pauses d.task.state)) ∙ d.begins;
  leads = sym (x.answers d.task.state _) ∙ d.leads;
  writes = d.writes;
}
does_same m n x types c (Meet p q k) w d = record {
  sender = d.sender;
  receiver = d.receiver;
  end = d.end;
  event = d.event;
  sent = d.sent;
  got = d.got;
  channel = d.channel;
  puts = (d.puts.0, ap asked (sym (x.pauses d.sender.state)) ∙ d.puts.1);
  gets = (d.gets.0, ap asked (sym (x.pauses d.receiver.state)) ∙ d.gets.1);
  named = d.named;
  there = d.there;
  sender_leads = sym (x.answers d.sender.state _) ∙ d.sender_leads;
  receiver_leads = sym (x.answers d.receiver.state _) ∙ d.receiver_leads;
  writes = d.writes;
}

module _ (m n : Program) (x : RunAlike m n) (types : List Tree) where
  last_same : (c : Config) → IsLast m types c → IsLast n types c
  last_same c l e w d = l e w (does_same n m (alike_back m n x) types c e w d)

  least_same : (c : Config) (e : CoreEvent) → IsLeast m types c e → IsLeast n types c e
  least_same c e l = record {
    path = l.path;
    takes_part = l.takes_part;
    none_before = λ q b can. l.none_before q b (can.0, can.1, can.2, does_same n m (alike_back m n x) types c can.0 can.1 can.3);
  }

  runs_same : (c : Config) (es : List CoreEvent) (d : Config) → RunsLeast m types c es d → RunsLeast n types c es d
  runs_same c [] d r = r
  runs_same c (e ∷ es) d r = (r.0, does_same m n x types c e r.0 r.1, least_same c e r.2, runs_same (written c r.0) es d r.3)

-- main has the same value
result_same : (m n : Program) → RunAlike m n → (c : Config) (r : Report) → IsMainResult m c r.result → IsMainResult n c r.result
result_same m n x c r h = by r.result h
  where
    by : (o : _) → IsMainResult m c o → IsMainResult n c o
    by None h = λ t v i e. h t v i (x.pauses t.state ∙ e)
    by (Some y) h = (h.0, h.1, h.2, sym (x.pauses h.0.state) ∙ h.3, h.4)

waits_same : (m n : Program) → RunAlike m n → (c : Config) (p : _) (y : _) → WaitsAt m c p y → WaitsAt n c p y
waits_same m n x c p y (t, i, inl h) = (t, i, inl (h.0, ap asked (sym (x.pauses t.state)) ∙ h.1))
waits_same m n x c p y (t, i, inr h) = (t, i, inr (ap asked (sym (x.pauses t.state)) ∙ h))

-- and the report is the same
pub report_same : (m n : Program) → RunAlike m n → (c : Config) (k : ℕ) (r : Report) → IsReport m c k r → IsReport n c k r
report_same m n x c k r h = record {
  result = result_same m n x c r h.result;
  waiting = λ p y. (
    λ i. waits_same m n x c p y ((h.waiting p y).0 i),
    λ i. (h.waiting p y).1 (waits_same n m (alike_back m n x) c p y i),
  );
  waiting_order = h.waiting_order;
  channels = h.channels;
  channels_order = h.channels_order;
  events = h.events;
}

-- what the least run of a module comes to, that of each comes to that has the same parts
pub answer_same : (m n : Module) → AreSame m n →
    (e : CoreTree) (steps : ℕ) (o : Outcome) → IsAnswer m e steps o → IsAnswer n e steps o
answer_same m n s e steps (Done r) (es, c, h, l, few, is) =
    let x = run_alike m n s in
    let runs = subst (λ z. RunsLeast (program n) z (started e) es c) s.types
    (runs_same (program m) (program n) x m.types.items (started e) es c h) in
    let last = subst (λ z. IsLast (program n) z c) s.types (last_same (program m) (program n) x m.types.items c l) in
    (es, c, runs, last, few, report_same (program m) (program n) x c (length es) r is)
answer_same m n s e steps OutOfSteps (es, c, h, many) =
    let x = run_alike m n s in (
      es,
      c,
      subst (λ z. RunsLeast (program n) z (started e) es c) s.types
          (runs_same (program m) (program n) x m.types.items (started e) es c h),
      many,
    )

-- ---- events with their stamps

module _ (m n : Program) (x : RunAlike m n) (types : List Tree) where
  at_same : (c : Config) (es : List Stamped) (d : Config) → RunsAt m types c es d → RunsAt n types c es d
  at_same c [] d r = r
  at_same c (e ∷ es) d r = (r.0, does_same m n x types c e.event r.0 r.1, r.2, at_same (written c r.0) es d r.3)

-- modules that have the same parts have the same events
events_same : (m n : Module) → AreSame m n → (e : CoreTree) (es : List Stamped) → AreEventsOf m e es → AreEventsOf n e es
events_same m n s e es a =
    let x = run_alike m n s in
    record {
      run = a.run;
      config = a.config;
      at = subst (λ z. RunsAt (program n) z (started e) a.run a.config) s.types
          (at_same (program m) (program n) x m.types.items (started e) a.run a.config a.at);
      least = subst (λ z. RunsLeast (program n) z (started e) (events_in a.run) a.config) s.types
          (runs_same (program m) (program n) x m.types.items (started e) (events_in a.run) a.config a.least);
      last = subst (λ z. IsLast (program n) z a.config) s.types
          (last_same (program m) (program n) x m.types.items a.config a.last);
      arranged = a.arranged;
      sorted = a.sorted;
      in_order = subst (λ z. RunsAt (program n) z (started e) es a.config) s.types
          (at_same (program m) (program n) x m.types.items (started e) es a.config a.in_order);
    }

-- so the lines behind a report are those of both
pub lines_same : (m n : Module) → AreSame m n → (events : Bool) (e : CoreTree) (o : Outcome) (lines : List ℕ) →
    AreLines events m e o lines → AreLines events n e o lines
lines_same m n s false e o lines l = l
lines_same m n s true e (Done r) lines l = (l.0, events_same m n s e l.0 l.1, l.2)
lines_same m n s true e OutOfSteps lines l = l
