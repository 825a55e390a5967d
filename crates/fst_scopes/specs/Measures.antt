-- How large a type is, and how many arguments it takes, counted to the greatest number of 64 bits.
use Rattle.std.specs.Prelude.{ℕ, suc, ◌+◌, ◌-◌, ◌^◌, min, List, ◌∷◌, Option, Some, option_map, if◌then◌else◌}
use Rattle.fst_types.specs.Size as size
use Rattle.fst_types.specs.Tree.{Tree, skip, send, receive, close, wait, select, offer, seq, rec, back, var, plain, arrow, pair, named}
use Rattle.fst_types.specs.WrittenTree as written
use Rattle.fst_types.specs.WrittenTree.{WrittenTree, WrittenBranches}
use Rattle.fst_terms.specs.Naming.{both}
use Rattle.fst_scopes.specs.Faults.{is_among}
use Rattle.fst_scopes.specs.declared.measure.Measure.{Measure}

-- how many arrows stand one behind the other in a type
abbrev pub arrows : Tree → ℕ
arrows skip = 0
arrows (send b) = 0
arrows (receive b) = 0
arrows close = 0
arrows wait = 0
arrows (select bs) = 0
arrows (offer bs) = 0
arrows (seq s t) = 0
arrows (rec t) = 0
arrows (back k) = 0
arrows (var k) = 0
arrows (plain b) = 0
arrows (arrow u s t) = suc (arrows t)
arrows (pair s t) = 0
arrows (named k) = 0

-- the greatest number that is counted to
abbrev pub ceiling : ℕ
ceiling = 2 ^ 64 - 1

-- what is counted of a type
abbrev pub measured : Tree → Measure
measured t = record { nodes = min (size.nodes t) ceiling; arrows = min (arrows t) ceiling }

-- what is counted of a node without parts
abbrev pub leaf : Measure
leaf = record { nodes = 1; arrows = 0 }

-- what is counted of a node with so many nodes below it
abbrev pub node : ℕ → Measure
node n = record { nodes = min (n + 1) ceiling; arrows = 0 }

-- what is counted of a node with two parts
abbrev pub node_of : Measure → Measure → Measure
node_of a b = node (a.nodes + b.nodes)

-- what is counted of a function
abbrev pub function_of : Measure → Measure → Measure
function_of a b = record {
  nodes = min (a.nodes + b.nodes + 1) ceiling;
  arrows =
      min (b.arrows + 1) ceiling;
}

abbrev mutual
  -- what is counted of a written type, from what is counted of the names in it that no `rec` binds
  pub measure : List (List ℕ) → (List ℕ → Option Measure) → WrittenTree → Option Measure
  measure recs m (written.skip at) = Some leaf
  measure recs m (written.send at b) = Some leaf
  measure recs m (written.receive at b) = Some leaf
  measure recs m (written.close at) = Some leaf
  measure recs m (written.wait at) = Some leaf
  measure recs m (written.select at bs) = option_map node (measure_all recs m bs)
  measure recs m (written.offer at bs) = option_map node (measure_all recs m bs)
  measure recs m (written.seq at t u) = both node_of (measure recs m t) (measure recs m u)
  measure recs m (written.rec at x t) = option_map (λ a. node a.nodes) (measure (x ∷ recs) m t)
  measure recs m (written.named at x) = if is_among recs x then Some leaf else m x
  measure recs m (written.plain at b) = Some leaf
  measure recs m (written.arrow at uses t u) =
      both function_of (measure recs m t) (measure recs m u)
  measure recs m (written.pair at t u) = both node_of (measure recs m t) (measure recs m u)

  -- how many nodes some branches have
  pub measure_all : List (List ℕ) → (List ℕ → Option Measure) → WrittenBranches → Option ℕ
  measure_all recs m written.none = Some 0
  measure_all recs m (written.branch l t bs) = both
      (λ a n. min (a.nodes + 1 + n) ceiling) (measure recs m t) (measure_all recs m bs)
