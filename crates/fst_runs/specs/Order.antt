-- The order of events: by their stamps, and then by the paths of their tasks.
use Rattle.std.specs.Prelude.{◌≡◌, ◌⊎◌, ◌<◌, ◌≤◌, List, [], ◌∷◌, Contains, ⊤, if◌then◌else◌}
use Rattle.std.specs.Ordering.{nat_cmp, is_lt}
use Rattle.std.specs.Cmp.Lexicographic.{slice_cmp}
use Rattle.fst_runs.specs.declared.event.CoreEvent.{CoreEvent}
use Rattle.fst_runs.specs.declared.event.CoreEvent.TheVariants.{Local, New, Fork, Meet}
use Rattle.fst_runs.specs.declared.event.Stamped.{Stamped}
use Rattle.fst_runs.specs.Configs.{Path}
use Rattle.fst_runs.specs.Least.{IsBefore}

-- each of these things comes before those behind it
abbrev pub AreRising : {X : Type 0} → (X → X → Type 0) → List X → Type 0
AreRising R [] = ⊤
AreRising R (x ∷ xs) = ((y : _) → Contains xs y → R x y) × AreRising R xs

-- the lesser of two paths
abbrev pub lesser : Path → Path → Path
lesser p q = if is_lt (slice_cmp nat_cmp q p) then q else p

-- the path by which an event is placed: that of its task, and of two tasks that meet the lesser one
abbrev pub path_of : CoreEvent → Path
path_of (Local p) = p
path_of (New p) = p
path_of (Fork p) = p
path_of (Meet p q h) = lesser p q

-- one event comes before another: by its stamp, and where they have one stamp by its path
abbrev pub Precedes : Stamped → Stamped → Type 0
Precedes d e = (d.stamp < e.stamp) ⊎
    ((d.stamp ≡ e.stamp) × IsBefore (path_of d.event) (path_of e.event))

-- the events are sorted
abbrev pub AreSorted : List Stamped → Type 0
AreSorted es = AreRising Precedes es

-- one event isn't later than another
abbrev pub NotLater : Stamped → Stamped → Type 0
NotLater d e = d.stamp ≤ e.stamp

-- their stamps don't fall
abbrev pub AreTimed : List Stamped → Type 0
AreTimed es = AreRising NotLater es
