-- What the laws say.
use Rattle.std.specs.Prelude.{◌≡◌, Some, None, List, [], ◌∷◌, All, Contains}
use Rattle.fst_types.specs.Tree.{Tree}
use Rattle.fst_terms.specs.CoreTree.{CoreTree}
use Rattle.fst_terms.specs.declared.core_module.Module.{Module}
use Rattle.fst_derivations.specs.Deriv.{Deriv}
use Rattle.fst_derivations.specs.Modules.{HasDerivations, surroundings}
use Rattle.fst_derivations.specs.Rules.{Surroundings}
use Rattle.fst_types.specs.declared.event.Entry.{Entry}
use Rattle.fst_machine.specs.declared.request.Request.TheVariants.{Put}
use Rattle.fst_machine.specs.declared.request.Answer.TheVariants.{Sent}
use Rattle.fst_machine.specs.Machine.{State, request, answered}
use Rattle.fst_runs.specs.Configs.{main_body}
use Rattle.fst_cell.specs.declared.content.Offer.{Offer}
use Rattle.fst_cell.specs.End.{EndView, end_name}
use Rattle.fst_runs.specs.Logs.{Birth}
use Rattle.fst_records.specs.Records.{Course, FitsRecord}
use Rattle.fst_safety.specs.Safety.{main_type}
use Rattle.fst_safety.specs.Threads.{Thread, FitsIn}
use Rattle.fst_safety.specs.Tasks.{main_thread}
use Rattle.fst_safety.specs.Turns.{birth}
use Rattle.fst_safety.specs.WellTyped.{program_in}
use Rattle.fst_worker.specs.Works.{Went, GoesOnIn, Whole, IsRun, course_of}
use Rattle.fst_worker.specs.Pairs.{AreApart, ArePaired}
use Rattle.fst_worker.specs.Records.{Pair, IsShut, Pooled, IsOver, Closable, histories_of, missing, stands_on, told_course, IsAsClosed, Caught, AllCaught}

-- ---- the beginning

-- main's thread fits a module that has derivations, and it is whole by itself
pub record BeginLaw : Type 0 where
  pub fits : (m : Module) (ds : List Deriv) → HasDerivations m ds →
      (e : CoreTree) → main_body m.globals.items ≡ Some e →
      (a : Tree) × (main_type m.types.items m.globals.items ≡ Some a) ×
      FitsIn (surroundings m []) a (main_thread e)
  pub whole : (m : Surroundings) (e : CoreTree) →
      Whole m (birth (main_thread e)) (main_thread e ∷ [])

-- ---- turns

-- what holds of threads after turns
pub record Keeps (m : Surroundings) (a : Tree) (xs ys : List Thread) : Type 0 where
  pub fit : All (FitsIn m a) ys
  pub whole : (main : Birth) → Whole m main xs → Whole m main ys
  pub longer : All (GoesOnIn ys) xs

-- threads that fit and go on by turns fit again, nothing of a run is left out, and each of them is there with a longer log
abbrev pub WentLaw : Type 0
WentLaw = (m : Surroundings) (a : Tree) (xs ys : List Thread) → All (FitsIn m a) xs →
    Went m a xs ys → Keeps m a xs ys

-- ---- names and ends

-- in a run no two tasks have one path, no two channels and no two ends one name
abbrev pub ApartLaw : Type 0
ApartLaw = (m : Surroundings) (a : Tree) (main : Birth) (xs : List Thread) → IsRun m a main xs →
    AreApart m xs

-- and with each end the other end of its channel is there, with one cell and one declared type
abbrev pub PairLaw : Type 0
PairLaw = (m : Surroundings) (a : Tree) (main : Birth) (xs : List Thread) → IsRun m a main xs →
    ArePaired xs

-- so it is among the ends that are left when the channels of some were closed
abbrev pub PoolLaw : Type 0
PoolLaw = (m : Surroundings) (a : Tree) (main : Birth) (xs : List Thread) (ps : List Pair)
    (es : List EndView) → IsRun m a main xs → Pooled xs ps es →
    All IsShut ps → Closable es

-- ---- the end of a run

-- the threads of a run, all of whose channels were closed, with these pairs of ends
pub record Finishes (m : Surroundings) (main : Birth) (xs : List Thread)
    (ps : List Pair) : Type 0 where
  -- the channel of each end is one of those that were closed
  pub there : All (λ (x : Thread). All
      (λ (e : EndView). (p : Pair) × Contains ps p × (p.closed.history.name ≡ e.channel)) x.bag) xs
  -- an end that waits lacks nothing where closing has said that its offer stands; otherwise the last entry is its offer
  pub waiting : All (λ (x : Thread). (e : EndView) (o : Offer) (p : Pair) → Contains x.bag e →
      e.knows.offer ≡ Some o → Contains ps p →
      p.closed.history.name ≡ e.channel →
      IsAsClosed (histories_of ps) e o p.closed (stands_on e.knows.side p.closed.offered)) xs
  -- an end that doesn't wait lacks nothing
  pub level : All (λ (x : Thread). All
      (λ (e : EndView). e.knows.offer ≡ None → missing (histories_of ps) e ≡ None) x.bag) xs
  -- a task whose ends lack nothing stays as it is
  pub stays : All (λ (x : Thread). All (λ (e : EndView). missing (histories_of ps) e ≡ None) x.bag →
      Caught m (histories_of ps) x (course_of x)) xs
  -- a task one of whose ends lacks an entry asks to send its event there, and is told that it was sent
  pub told : All (λ (x : Thread). (e : EndView) (d : Entry) → Contains x.bag e →
      missing (histories_of ps) e ≡ Some d →
      (request m.families x.now.state ≡ Some (Put (end_name e) d.event)) ×
      ((s : State) → answered (program_in m) x.now.state Sent ≡ Some s →
      Caught m (histories_of ps) x (told_course m x e d))) xs
  -- then the logs and the histories are a record that fits
  pub record_fits : (ys : List Course) → AllCaught m (histories_of ps) xs ys →
      FitsRecord (program_in m) m.types main ys (histories_of ps)

-- where all channels were closed, and each task is told that what its end lacks was sent, logs and histories are a record that fits
abbrev pub RecordLaw : Type 0
RecordLaw = (m : Surroundings) (a : Tree) (main : Birth) (xs : List Thread) (ps : List Pair) →
    IsOver m a main xs ps → Finishes m main xs ps
