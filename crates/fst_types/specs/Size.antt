-- How large a type is.
use Rattle.std.specs.Prelude.{ℕ, ◌+◌, ◌<◌}
use Rattle.fst_base.specs.Limits.{most_nodes}
use Rattle.fst_types.specs.Tree.{Tree, skip, send, receive, close, wait, select, offer, seq, rec, back, var, plain, arrow, pair, named, Branches, none, branch}

abbrev mutual
  -- how many nodes a tree has, each branch of a choice one more
  pub nodes : Tree → ℕ
  nodes skip = 1
  nodes (send b) = 1
  nodes (receive b) = 1
  nodes close = 1
  nodes wait = 1
  nodes (select bs) = nodes_all bs + 1
  nodes (offer bs) = nodes_all bs + 1
  nodes (seq s t) = nodes s + nodes t + 1
  nodes (rec t) = nodes t + 1
  nodes (back k) = 1
  nodes (var k) = 1
  nodes (plain b) = 1
  nodes (arrow u s t) = nodes s + nodes t + 1
  nodes (pair s t) = nodes s + nodes t + 1
  nodes (named k) = 1

  -- how many nodes the branches have together, each branch one more
  pub nodes_all : Branches → ℕ
  nodes_all none = 0
  nodes_all (branch l t bs) = nodes t + 1 + nodes_all bs

-- the tree has more nodes than a type may have
abbrev pub HasTooManyNodes : Tree → Type 0
HasTooManyNodes t = most_nodes < nodes t
