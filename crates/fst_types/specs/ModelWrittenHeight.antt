-- How high the tree of a type as it was written is.
use Rattle.std.specs.Prelude.{ℕ, suc, max}
use Rattle.fst_types.specs.WrittenTree.{WrittenTree, skip, send, receive, close, wait, select, offer, seq, rec, named, plain, arrow, pair, WrittenBranches, none, branch}

abbrev mutual
  -- how many nodes the longest way down from the top has
  pub height : WrittenTree → ℕ
  height (skip at) = 1
  height (send at b) = 1
  height (receive at b) = 1
  height (close at) = 1
  height (wait at) = 1
  height (select at bs) = suc (height_all bs)
  height (offer at bs) = suc (height_all bs)
  height (seq at s t) = suc (max (height s) (height t))
  height (rec at x t) = suc (height t)
  height (named at x) = 1
  height (plain at b) = 1
  height (arrow at u s t) = suc (max (height s) (height t))
  height (pair at s t) = suc (max (height s) (height t))

  -- the height of the highest branch
  pub height_all : WrittenBranches → ℕ
  height_all none = 0
  height_all (branch l t bs) = max (height t) (height_all bs)
