-- What is kept along the least buffered run is what the run comes to.
use Rattle.std.proofs.Common.{◌≡◌, ◌∙◌, ◌≤◌, ◌<◌, ℕ, zero, suc, List, [], ◌∷◌, ◌++◌, length, true, Option, Some, None, refl, sym, ap, subst, arith}
use Rattle.std.specs.declared.alloc.Global.{Global}
use Rattle.std.specs.declared.vec.Vec.{Vec}
use Rattle.std.proofs.lemmas.Bool.{false≢true}
use Rattle.fst_types.specs.Tree.{Tree}
use Rattle.fst_terms.specs.CoreTree.{CoreTree}
use Rattle.fst_terms.specs.declared.core_module.Module.{Module}
use Rattle.fst_machine.specs.declared.code.Code.{Code}
use Rattle.fst_machine.specs.declared.request.Request.{Request}
use Rattle.fst_machine.specs.Machine.{Program}
use Rattle.fst_runs.specs.Configs.{Path, channel_name, new_task, program}
use Rattle.fst_runs.specs.Events as meeting
use Rattle.fst_runs.specs.Names.{HasMakers, HasParents}
use Rattle.fst_runs.proofs.Laws.{makers_with, parents_with, named_new, named_fork, named_start}
use Rattle.fst_runs.proofs.Laws as update
use Rattle.fst_vm.specs.Slot.{Slot}
use Rattle.fst_vm.specs.declared.report.Report.{Report}
use Rattle.fst_process.specs.Reports.{IsReport}
use Rattle.fst_buffered.specs.declared.outcome.BufferedOutcome.TheVariants.{Done, OutOfSteps}
use Rattle.fst_buffered.specs.Answers.{RunsRight, CanRun, IsOutcome}
use Rattle.fst_buffered.specs.Channels.{Config, opened, plain, core, started}
use Rattle.fst_buffered.specs.Events.{Occurrence, local, new, fork, put, takes, in_state, Does, Runs, RunsLeast, IsLeast, IsLast, CanMove, path_of}
use Rattle.fst_buffered.specs.Wrong.{IsRight}
use Rattle.fst_buffered.specs.Kept.{Kept, moves_so, IsBegun, CanStart}
use Rattle.fst_buffered.specs.Moving.{can}
use Rattle.fst_buffered.specs.Running.{IsNextTask, CanDo, Steps, IsReached, IsKept, IsConfig, IsReported}
use Rattle.fst_buffered.proofs.Answering.{least_runs}
use Rattle.fst_buffered.proofs.Keeping.{is_kept}
use Rattle.fst_buffered.proofs.Moving.{moves_exactly, who_does}
use Rattle.fst_buffered.proofs.Rights.{is_there}
use Rattle.fst_buffered.proofs.Updates.{core_with_channel, names_grow}
use Rattle.fst_buffered.proofs.Within.{seen_within}

-- names stay fresh whatever happens
named_after : (m : Program) (types : List Tree) (capacity : ℕ) (c : Config) (e : Occurrence) (d : Config) →
    Does m types capacity c e d → HasMakers (core c) → HasParents (core c) →
    HasMakers (core d) × HasParents (core d)
named_after m types capacity c (local p) d f hm hp =
    subst (λ z. HasMakers (core z) × HasParents (core z)) (sym f.4) (
      makers_with (core c) p f.0 (in_state f.0 f.1) hm f.2.0 (omega arith, omega arith),
      parents_with (core c) p f.0 (in_state f.0 f.1) hp f.2.0 (omega arith, omega arith),
    )
named_after m types capacity c (new p) d f hm hp =
    subst (λ z. HasMakers (core z) × HasParents (core z)) (sym f.7)
    (subst (λ z. HasMakers (update.with_task z p (meeting.has_made f.0 f.1 f.0.clock)) ×
    HasParents (update.with_task z p (meeting.has_made f.0 f.1 f.0.clock)))
    (sym (core_with_channel c (channel_name p f.0.made) (opened f.3)))
    (named_new (core c) p f.0 f.1 f.0.clock (plain (opened f.3)) hm hp f.4.0))
named_after m types capacity c (fork p) d f hm hp =
    subst (λ z. HasMakers (core z) × HasParents (core z)) (sym f.6)
    (named_fork (core c) p f.0 f.1 f.0.clock (new_task f.2 0) hm hp f.3.0)
named_after m types capacity c (put p x ev) d f hm hp =
    subst (λ z. HasMakers (core z) × HasParents (core z)) (sym f.8)
    (names_grow c p f.0 (in_state f.0 f.1) x.channel f.2 _ hm hp f.3.0 (omega arith, omega arith) f.4)
named_after m types capacity c (takes p x ev) d f hm hp =
    subst (λ z. HasMakers (core z) × HasParents (core z)) (sym f.9)
    (names_grow c p f.0 (in_state f.0 f.1) x.channel f.2 _ hm hp f.4.0 (omega arith, omega arith) f.5)

-- a run with one event more
runs_more : (m : Program) (types : List Tree) (capacity : ℕ) (c : Config) (es : List Occurrence) (d : Config) (e : Occurrence)
    (b : Config) → Runs m types capacity c es d → Does m types capacity d e b →
    Runs m types capacity c (es ++ e ∷ []) b
runs_more m types capacity c [] d e b r f = (b, subst (λ z. Does m types capacity z e b) r f, refl)
runs_more m types capacity c (g ∷ es) d e b r f = (r.0, r.1, runs_more m types capacity r.0 es d e b r.2 f)

-- so it is with the least run
least_more : (m : Program) (types : List Tree) (capacity : ℕ) (c : Config) (es : List Occurrence) (d : Config) (e : Occurrence)
    (b : Config) → RunsLeast m types capacity c es d →
    Does m types capacity d e b → IsLeast m types capacity d (path_of e) → RunsLeast m types capacity c (es ++ e ∷ []) b
least_more m types capacity c [] d e b r f l =
    (b, subst (λ z. Does m types capacity z e b) r f, subst (λ z. IsLeast m types capacity z (path_of e)) r l, refl)
least_more m types capacity c (g ∷ es) d e b r f l = (r.0, r.1, r.2, least_more m types capacity r.0 es d e b r.3 f l)

one_longer : (es : List Occurrence) (e : Occurrence) → length (es ++ e ∷ []) ≡ suc (length es)
one_longer [] e = refl
one_longer (g ∷ es) e = ap suc (one_longer es e)

-- at first
pub kept_first : (k : Code) (capacity : ℕ) (d : Kept) → IsBegun k capacity d → IsKept k capacity zero d
kept_first k capacity d begun = λ m e from body right.
    record {
      events = [];
      config = started e;
      runs = refl;
      many = refl;
      reflects = begun m e from body (right [] (started e) refl);
      makers = (named_start e).0;
      parents = (named_start e).1;
    }

module _ (m : Module) (k : Code) (main : CoreTree) (capacity n : ℕ) (d : Kept) (x : IsReached m k main capacity n d)
    (right : RunsRight m main capacity) where
  abbrev c : Config
  c = x.config

  right_here : IsRight (program m) c
  right_here = right x.events c (least_runs (program m) m.types.items capacity x.events (started main) c x.runs)

  -- the test is the same of what is kept and of the configuration
  same_test : (q : Request) → can (length k.types.items) capacity d.channels q ≡ can (length m.types.items) capacity c.channels q
  same_test q = λ i. can (length (x.reflects.from.same_types i)) capacity (λ h. x.reflects.channels h i) q

  -- a task that is ready is there and can move
  ready_moves : (p : Path) → d.ready p ≡ true → CanMove (program m) m.types.items capacity c p
  ready_moves p e = go (d.tasks p) refl (sym (x.reflects.ready p) ∙ e)
    where
      go : (o : Option Slot) → d.tasks p ≡ o → moves_so (length k.types.items) capacity d.channels o ≡ true →
          CanMove (program m) m.types.items capacity c p
      go None there can = absurd (false≢true can)
      go (Some s) there can =
          let (t, f, is) = is_there m k p (d.tasks p) (c.tasks p) s (x.reflects.tasks p) there in
          (moves_exactly (program m) m.types.items capacity c p t s.request (f, is.asks)).0 (sym (same_test s.request) ∙ can)

  -- a task that can move is ready
  moves_ready : (p : Path) → CanMove (program m) m.types.items capacity c p → d.ready p ≡ true
  moves_ready p moves =
      let (t, e) = who_does (program m) m.types.items capacity c moves.0 moves.1 p moves.3 moves.2 in
      let (s, f, is) = is_kept m k p (d.tasks p) (c.tasks p) t (x.reflects.tasks p) e in
      x.reflects.ready p
      ∙ ap (moves_so (length k.types.items) capacity d.channels) f
      ∙ same_test s.request
      ∙ (moves_exactly (program m) m.types.items capacity c p t s.request (e, is.asks)).1 moves

  -- the least task that can move does the least thing that is possible
  goes : (p : Path) → IsNextTask d (Some p) → (e : Occurrence) × (b : Config) ×
      (path_of e ≡ p) × Does (program m) m.types.items capacity c e b × IsLeast (program m) m.types.items capacity c p
  goes p next =
      let f = ready_moves p next.0 in
      (f.0, f.1, f.2, f.3, λ q before moves. false≢true (sym (next.1 q before) ∙ moves_ready q moves))

  right_after : (e : Occurrence) (b : Config) → Does (program m) m.types.items capacity c e b → IsRight (program m) b
  right_after e b f =
      right (x.events ++ e ∷ []) b
      (runs_more (program m) m.types.items capacity (started main) x.events c e b
      (least_runs (program m) m.types.items capacity x.events (started main) c x.runs) f)

  -- which is possible
  next_possible : (p : Path) → IsNextTask d (Some p) → n < 4294967295 → CanDo k capacity d p
  next_possible p next few =
      let g = goes p next in (
        g.0,
        g.2,
        record {
          source = m;
          events = n;
          before = c;
          after = g.1;
          reflects = x.reflects;
          does = g.3;
          right_before = right_here;
          right_after = right_after g.0 g.1 g.3;
          makers = x.makers;
          parents = x.parents;
          few = few;
        },
      )

  -- what is kept after it
  reached_next : (p : Path) (f : Kept) → IsNextTask d (Some p) → Steps k capacity d p f →
      IsReached m k main capacity (suc n) f
  reached_next p f next steps =
      let g = goes p next in
      let named = named_after (program m) m.types.items capacity c g.0 g.1 g.3 x.makers x.parents in
      record {
        events = x.events ++ g.0 ∷ [];
        config = g.1;
        runs = least_more (program m) m.types.items capacity (started main) x.events c g.0 g.1 x.runs g.3
            (subst (IsLeast (program m) m.types.items capacity c) (sym g.2) g.4);
        many = one_longer x.events g.0 ∙ ap suc x.many;
        reflects = steps g.0 g.2 m n c g.1 x.reflects g.3 right_here (right_after g.0 g.1 g.3) x.makers x.parents;
        makers = named.0;
        parents = named.1;
      }

  -- where no task can move, nothing is possible
  reached_last : IsNextTask d None → IsLast (program m) m.types.items capacity c
  reached_last next e b f = false≢true (sym (next (path_of e)) ∙ moves_ready (path_of e) (e, b, refl, f))

-- what the least task does is possible, where no run is known to go wrong
pub possible_next : (k : Code) (capacity n : ℕ) (d : Kept) (p : Path) → IsKept k capacity n d →
    IsNextTask d (Some p) → n < 4294967295 → CanRun k capacity → CanDo k capacity d p
possible_next k capacity n d p kept next few x =
    next_possible x.source k x.main capacity n d (kept x.source x.main x.from x.body x.right) x.right p next few

-- and what is kept after it is what the run has come to
pub kept_next : (k : Code) (capacity n : ℕ) (d f : Kept) (p : Path) → IsKept k capacity n d →
    IsNextTask d (Some p) → Steps k capacity d p f → IsKept k capacity (suc n) f
kept_next k capacity n d f p kept next steps = λ m e from body right.
    reached_next m k e capacity n d (kept m e from body right) right p f next steps

-- where no run is known to go wrong, the first configuration is right
pub can_start : (k : Code) (capacity : ℕ) → CanRun k capacity → CanStart k
can_start k capacity x = record {
  source = x.source;
  main = x.main;
  from = x.from;
  body = x.body;
  right =
      x.right [] (started x.main) refl;
}

-- a task that is kept stands at its own path
pub its_path : (k : Code) (capacity n : ℕ) (d : Kept) (p : Path) (s : Slot) → IsKept k capacity n d → d.tasks p ≡ Some s →
    CanRun k capacity → s.task.path ≡ p
its_path k capacity n d p s kept there x =
    let y = kept x.source x.main x.from x.body x.right in
    let (t, e, is) = is_there x.source k p (d.tasks p) (y.config.tasks p) s (y.reflects.tasks p) there in
    is.path

-- what is kept is some configuration
pub some_config : (k : Code) (capacity n : ℕ) (d : Kept) → IsKept k capacity n d → n < 4294967295 → CanRun k capacity → IsConfig d
some_config k capacity n d kept few x =
    let y = kept x.source x.main x.from x.body x.right in
    record {
      source = x.source;
      code = k;
      capacity = capacity;
      events = n;
      config = y.config;
      reflects = y.reflects;
      few =
          few;
    }

-- the report of what is kept, with what is unread, is the answer where no task can move
pub answers_done : (k : Code) (capacity steps n : ℕ) (d : Kept) (r : Report) (unread : Vec ℕ Global) → IsKept k capacity n d →
    IsNextTask d None → n ≤ steps → IsReported d n r unread.items → IsOutcome k capacity steps (Done r unread)
answers_done k capacity steps n d r unread kept next few reported = λ m e from body right.
    let x = kept m e from body right in
    let run = least_runs (program m) m.types.items capacity x.events (started e) x.config x.runs in
    let within = seen_within (program m) m.types.items capacity e x.events x.config run in
    let y = reported m k capacity n x.config x.reflects within in (
      x.events,
      x.config,
      x.runs,
      reached_last m k e capacity n d x right next,
      subst (λ l. l ≤ steps) (sym x.many) few,
      subst (λ l. IsReport (program m) (core x.config) l r) (sym x.many) y.0,
      y.1,
    )

-- and the answer after one event too many
pub answers_out : (k : Code) (capacity steps : ℕ) (d : Kept) → IsKept k capacity (suc steps) d →
    IsOutcome k capacity steps OutOfSteps
answers_out k capacity steps d kept = λ m e from body right. let x = kept m e from body right in
    (x.events, x.config, x.runs, x.many)
