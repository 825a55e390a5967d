-- How many channels and tasks the tasks have made, as maps of the program count them.
use Rattle.std.specs.Prelude.{◌≡◌, ℕ, ◌+◌, ◌<◌, List, ◌∷◌, ◌++◌, unwrap_or}
use Rattle.std.specs.Map.{lookup}
use Rattle.std.specs.declared.alloc.Global.{Global}
use Rattle.std.specs.declared.vec.Vec.{Vec}
use Rattle.fst_paths.specs.Paths.{at_path}
use Rattle.fst_runs.specs.declared.event.CoreEvent.{CoreEvent}
use Rattle.fst_runs.specs.declared.event.Stamped.{Stamped}
use Rattle.fst_runs.specs.Configs.{Path, same_path}
use Rattle.fst_runs.specs.Wrong.{once}
use Rattle.fst_merge.specs.EventTexts.{made_in, forked_in, event_text, event_line}
use Rattle.fst_merge.specs.declared.texts.Made.{Made}

-- counts by paths
abbrev pub Counts : Type 0
Counts = List (Vec ℕ Global × ℕ)

-- the count at a path
abbrev pub counted : Counts → Path → ℕ
counted ns p = unwrap_or (lookup (at_path p) ns) 0

-- one more is counted at this path
abbrev pub IsCounted : Path → Counts → Counts → Type 0
IsCounted p old new = (q : Path) → counted new q ≡ once (same_path p q) + counted old q

-- a count may rise
abbrev pub MayRise : Counts → Path → Type 0
MayRise ns p = counted ns p < 18446744073709551615

-- each count may
pub record MayCount (k : Made) : Type 0 where
  pub channels : (p : Path) → MayRise k.channels.entries p
  pub tasks : (p : Path) → MayRise k.tasks.entries p

-- the counts are those of these events
pub record IsCountOf (before : List Stamped) (k : Made) : Type 0 where
  pub channels : (p : Path) → counted k.channels.entries p ≡ made_in p before
  pub tasks : (p : Path) → counted k.tasks.entries p ≡ forked_in p before

-- whatever events were counted, the text gains what happens in this one, which is counted
abbrev pub GainsEvent : CoreEvent → Made → Made → List ℕ → List ℕ → Type 0
GainsEvent e old new text more = (before : List Stamped) → IsCountOf before old →
    (more ≡ text ++ event_text before e) ×
    ((n : ℕ) → IsCountOf (record { event = e; stamp = n } ∷ before) new)

-- the text gains its line
abbrev pub GainsLine : Stamped → Made → Made → List ℕ → List ℕ → Type 0
GainsLine e old new text more = (before : List Stamped) → IsCountOf before old →
    (more ≡ text ++ event_line before e) × IsCountOf (e ∷ before) new
