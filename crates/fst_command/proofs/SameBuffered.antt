-- Buffered runs of two programs that have the same bodies, and whose tasks stand still at the same places.
use Rattle.std.proofs.Common.{◌≡◌, ◌∙◌, ℕ, List, [], ◌∷◌, length, sym, ap, subst}
use Rattle.fst_types.specs.Tree.{Tree}
use Rattle.fst_terms.specs.CoreTree.{CoreTree}
use Rattle.fst_terms.specs.declared.core_module.Module.{Module}
use Rattle.fst_machine.specs.Machine.{Program, asked, child}
use Rattle.fst_machine.specs.declared.request.Request.{Request}
use Rattle.fst_runs.specs.Configs.{Path, Task, program}
use Rattle.fst_names.specs.ResolvedModule.{AreSame}
use Rattle.fst_buffered.specs.declared.outcome.BufferedOutcome.{BufferedOutcome}
use Rattle.fst_buffered.specs.declared.outcome.BufferedOutcome.TheVariants.{Done, OutOfSteps}
use Rattle.fst_buffered.specs.Answers.{IsAnswer}
use Rattle.fst_buffered.specs.Channels.{Config, core, started}
use Rattle.fst_buffered.specs.Events.{Occurrence, local, new, fork, put, takes, Asks, Does, IsLast, IsLeast, RunsLeast}
use Rattle.fst_command.proofs.SameRuns.{RunAlike, alike_back, report_same, run_alike}

-- tasks ask for the same
asks_same : (m n : Program) → RunAlike m n → (c : Config) (p : Path) (t : Task) (q : Request) → Asks m c p t q → Asks n c p t q
asks_same m n x c p t q h = (h.0, ap asked (sym (x.pauses t.state)) ∙ h.1)

module _ (types : List Tree) (capacity : ℕ) where
  -- the same is possible, and leads to the same
  does_same : (m n : Program) → RunAlike m n → (c : Config) (e : Occurrence) (d : Config) → Does m types capacity c e d →
      Does n types capacity c e d
  does_same m n x c (local p) d (t, s, asks, leads, is) =
      (t, s, asks_same m n x c p t _ asks, sym (x.answers t.state _) ∙ leads, is)
  does_same m n x c (new p) d (t, s, k, a, asks, typed, leads, is) =
      (t, s, k, a, asks_same m n x c p t _ asks, typed, sym (x.answers t.state _) ∙ leads, is)
  does_same m n x c (fork p) d (t, s, b, asks, begins, leads, is) = (
    t,
    s,
    b,
    asks_same m n x c p t _ asks,
    ap child (sym (x.pauses t.state)) ∙ begins,
    sym (x.answers t.state _) ∙ leads,
    is,
  )
  does_same m n x c (put p y ev) d (t, s, k, asks, there, whole, room, leads, is) =
      (t, s, k, asks_same m n x c p t _ asks, there, whole, room, sym (x.answers t.state _) ∙ leads, is)
  does_same m n x c (takes p y ev) d (t, s, k, e, asks, there, next, same, leads, is) =
      (t, s, k, e, asks_same m n x c p t _ asks, there, next, same, sym (x.answers t.state _) ∙ leads, is)

  module _ (m n : Program) (x : RunAlike m n) where
    last_same : (c : Config) → IsLast m types capacity c → IsLast n types capacity c
    last_same c l e d h = l e d (does_same n m (alike_back m n x) c e d h)

    least_same : (c : Config) (p : Path) → IsLeast m types capacity c p → IsLeast n types capacity c p
    least_same c p l q b can = l q b (can.0, can.1, can.2, does_same n m (alike_back m n x) c can.0 can.1 can.3)

    runs_same : (c : Config) (es : List Occurrence) (d : Config) → RunsLeast m types capacity c es d →
        RunsLeast n types capacity c es d
    runs_same c [] d r = r
    runs_same c (e ∷ es) d (b, does, least, rest) =
        (b, does_same m n x c e b does, least_same c _ least, runs_same b es d rest)

-- what the least buffered run of a module comes to, that of each comes to that has the same parts
pub buffered_same : (m n : Module) → AreSame m n →
    (main : CoreTree) (capacity steps : ℕ) (o : BufferedOutcome) → IsAnswer m main capacity steps o →
    IsAnswer n main capacity steps o
buffered_same m n s main capacity steps (Done r unread) (es, c, h, l, few, is, left) =
    let x = run_alike m n s in
    let runs = subst (λ z. RunsLeast (program n) z capacity (started main) es c) s.types
    (runs_same m.types.items capacity (program m) (program n) x (started main) es c h) in
    let last = subst (λ z. IsLast (program n) z capacity c) s.types
    (last_same m.types.items capacity (program m) (program n) x c l) in
    (es, c, runs, last, few, report_same (program m) (program n) x (core c) (length es) r is, left)
buffered_same m n s main capacity steps OutOfSteps (es, c, h, many) =
    let x = run_alike m n s in (
      es,
      c,
      subst (λ z. RunsLeast (program n) z capacity (started main) es c) s.types
          (runs_same m.types.items capacity (program m) (program n) x (started main) es c h),
      many,
    )
