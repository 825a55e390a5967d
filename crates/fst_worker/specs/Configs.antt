-- Threads that were told what their ends lack, and the configuration that they make with the closed channels.
use Rattle.std.specs.Prelude.{◌≡◌, ◌⊎◌, Some, None, Contains, IsPermutation, List, [], ◌∷◌, All, map, ⊤}
use Rattle.fst_types.specs.Tree.{Tree}
use Rattle.fst_terms.specs.declared.core_module.Module.{Module}
use Rattle.fst_derivations.specs.Deriv.{Deriv}
use Rattle.fst_derivations.specs.Modules.{HasDerivations, surroundings}
use Rattle.fst_derivations.specs.Rules.{Surroundings}
use Rattle.fst_types.specs.declared.event.ChannelHistory.{ChannelHistory}
use Rattle.fst_types.specs.declared.event.Entry.{Entry}
use Rattle.fst_machine.specs.declared.request.Answer.TheVariants.{Sent}
use Rattle.fst_machine.specs.Machine.{State, answered}
use Rattle.fst_cell.specs.End.{EndView}
use Rattle.fst_safety.specs.WellTyped.{program_in}
use Rattle.fst_runs.specs.Logs.{Birth}
use Rattle.fst_safety.specs.Sound.{IsSound}
use Rattle.fst_safety.specs.Threads.{Thread}
use Rattle.fst_records.specs.Records.{Course, FitsRecord, config_of}
use Rattle.fst_worker.specs.Works.{IsRun, course_of}
use Rattle.fst_worker.specs.Records.{Pair, IsOver, AllCaught, histories_of, missing, told_course}

-- ---- threads that were told

-- the ends of x lack nothing, and y is its course
pub record Stayed (ks : List ChannelHistory) (x : Thread) (y : Course) : Type 0 where
  pub level : All (λ (e : EndView). missing ks e ≡ None) x.bag
  pub is : y ≡ course_of x

-- an end of x lacks an entry, and y is the course of x after it was told that this was sent
pub record Told (m : Surroundings) (ks : List ChannelHistory) (x : Thread)
    (y : Course) : Type 0 where
  pub end : EndView
  pub there : Contains x.bag end
  pub entry : Entry
  pub lacks : missing ks end ≡ Some entry
  pub state : State
  pub leads : answered (program_in m) x.now.state Sent ≡ Some state
  pub is : y ≡ told_course m x end entry

-- each of the courses ys is that of one of the threads xs, in order, which stayed as it was or was told
abbrev pub AreTold : Surroundings → List ChannelHistory → List Thread → List Course → Type 0
AreTold m ks [] [] = ⊤
AreTold m ks [] (y ∷ ys) = ⊥
AreTold m ks (x ∷ xs) [] = ⊥
AreTold m ks (x ∷ xs) (y ∷ ys) = (Stayed ks x y ⊎ Told m ks x y) × AreTold m ks xs ys

-- the courses ys are those of the threads zs
abbrev pub AreSame : List Course → List Thread → Type 0
AreSame ys zs = map course_of zs ≡ ys

-- ---- laws

-- what holds of the threads of a run that were told
pub record Joins (m : Surroundings) (a : Tree) (main : Birth) (xs : List Thread) (ps : List Pair)
    (ys : List Course) : Type 0 where
  -- each of them has gained what it lacked
  pub caught : AllCaught m (histories_of ps) xs ys
  -- so their logs and the histories are a record that fits
  pub record_fits : FitsRecord (program_in m) m.types main ys (histories_of ps)
  -- with some ends they are all threads of a run
  pub fit : (zs : List Thread) × AreSame ys zs × IsRun m a main zs
  -- the configuration that they make with the closed channels is sound, in whichever order these are
  pub sound : (ks : List ChannelHistory) → IsPermutation (histories_of ps) ks →
      IsSound m a (config_of ys ks)

-- where all channels of a run were closed, and each task is told what its end lacks, tasks and channels are a sound configuration
abbrev pub SoundLaw : Type 0
SoundLaw = (m : Module) (ds : List Deriv) → HasDerivations m ds →
    (a : Tree) (main : Birth) (xs : List Thread) (ps : List Pair) →
    IsOver (surroundings m []) a main xs ps →
    (ys : List Course) → AreTold (surroundings m []) (histories_of ps) xs ys →
    Joins (surroundings m []) a main xs ps ys
