-- What is counted of a tree, by its shape.
use Rattle.std.specs.Prelude.{◌≡◌, ℕ, suc, ◌+◌, ◌-◌, ◌<◌, ◌^◌, max, List, slice_get, Some, true, false, ◌&&◌}
use Rattle.fst_parts.specs.declared.forms.Form.{Form}
use Rattle.fst_parts.specs.declared.forms.Form.TheVariants as forms
use Rattle.fst_parts.specs.declared.counts.Counts.{Counts}
use Rattle.fst_parts.specs.Shapes.{Shape, end, leaf, wrap, fork, link}
use Rattle.fst_parts.specs.Keys.{Stands}

-- the counts of nothing
abbrev pub end_counts : Counts
end_counts = record { nodes = 1; open_depth = 0; terminated = true }

-- those of a node without parts: only a recursion variable asks for binders
abbrev pub leaf_counts : Form → ℕ → Counts
leaf_counts forms.Back k = record { nodes = 1; open_depth = suc k; terminated = false }
leaf_counts form holds = record { nodes = 1; open_depth = 0; terminated = false }

-- those of a node with one part: the branches of a choice count the choice
abbrev pub wrap_counts : Form → Counts → Counts
wrap_counts forms.Rec c = record {
  nodes = c.nodes + 1;
  open_depth = c.open_depth - 1;
  terminated =
      c.terminated;
}
wrap_counts form c = record { nodes = c.nodes; open_depth = c.open_depth; terminated = false }

-- those of a node with two parts
abbrev pub fork_counts : Form → Counts → Counts → Counts
fork_counts forms.Seq c d =
    record {
      nodes = c.nodes + d.nodes + 1;
      open_depth = max c.open_depth d.open_depth;
      terminated =
          c.terminated && d.terminated;
    }
fork_counts form c d = record {
  nodes = c.nodes + d.nodes + 1;
  open_depth =
      max c.open_depth d.open_depth;
  terminated = false;
}

-- those of a branch and those behind it
abbrev pub link_counts : Counts → Counts → Counts
link_counts c d = record {
  nodes = c.nodes + d.nodes + 1;
  open_depth =
      max c.open_depth d.open_depth;
  terminated = false;
}

-- the counts of a shape
abbrev pub counts_of : Shape → Counts
counts_of end = end_counts
counts_of (leaf form holds) = leaf_counts form holds
counts_of (wrap form x) = wrap_counts form (counts_of x)
counts_of (fork form x y) = fork_counts form (counts_of x) (counts_of y)
counts_of (link l x y) = link_counts (counts_of x) (counts_of y)

-- the counts are those of the tree that has the number
pub record HasCounts (keys : List (List ℕ)) (at : ℕ) (c : Counts) : Type 0 where
  pub shape : Shape
  pub stands : Stands keys at shape
  pub counts : c ≡ counts_of shape

-- all counts are those of the trees that have their places as numbers
abbrev pub AreCounts : List (List ℕ) → List Counts → Type 0
AreCounts keys kept = (at : ℕ) (c : Counts) → slice_get kept at ≡ Some c → HasCounts keys at c

-- a number is that of a tree with few nodes
pub record HasFewNodes (keys : List (List ℕ)) (at : ℕ) : Type 0 where
  pub shape : Shape
  pub stands : Stands keys at shape
  pub few : (counts_of shape).nodes + 1 < 2 ^ 32

-- two numbers are those of trees with few nodes together
pub record HaveFewNodes (keys : List (List ℕ)) (first second : ℕ) : Type 0 where
  pub left : Shape
  pub right : Shape
  pub stands_left : Stands keys first left
  pub stands_right : Stands keys second right
  pub few : (counts_of left).nodes + (counts_of right).nodes + 1 < 2 ^ 32
