-- A test of types.
use Rattle.std.specs.Prelude.{Bool, true, false, ◌&&◌, nat_eq}
use Rattle.std.specs.Str.{bytes_eq}
use Rattle.fst_types.specs.declared.base.Base.{Base}
use Rattle.fst_types.specs.declared.kind.Use.{Use}
use Rattle.fst_types.specs.declared.kind.Use.TheVariants.{Many, Once}
use Rattle.fst_types.specs.Order.{base_number}
use Rattle.fst_types.specs.Tree.{Tree, skip, send, receive, close, wait, select, offer, seq, rec, back, var, plain, arrow, pair, named, Branches, none, branch}

-- two base types are one
abbrev pub same_base : Base → Base → Bool
same_base a b = nat_eq (base_number a) (base_number b)

-- two arrows' uses are one
abbrev pub same_use : Use → Use → Bool
same_use Many Many = true
same_use Many Once = false
same_use Once Many = false
same_use Once Once = true

-- two types are one, as a test; that it holds of each type and itself is proved, so no form is left to the last row
abbrev mutual
  pub same_tree : Tree → Tree → Bool
  same_tree skip skip = true
  same_tree (send a) (send b) = same_base a b
  same_tree (receive a) (receive b) = same_base a b
  same_tree close close = true
  same_tree wait wait = true
  same_tree (select bs) (select cs) = same_branches bs cs
  same_tree (offer bs) (offer cs) = same_branches bs cs
  same_tree (seq s r) (seq t u) = same_tree s t && same_tree r u
  same_tree (rec s) (rec t) = same_tree s t
  same_tree (back j) (back k) = nat_eq j k
  same_tree (var j) (var k) = nat_eq j k
  same_tree (plain a) (plain b) = same_base a b
  same_tree (arrow x s r) (arrow y t u) = same_use x y && (same_tree s t && same_tree r u)
  same_tree (pair s r) (pair t u) = same_tree s t && same_tree r u
  same_tree (named j) (named k) = nat_eq j k
  same_tree s t = false

  -- the same branches, in one order
  pub same_branches : Branches → Branches → Bool
  same_branches none none = true
  same_branches none (branch m t cs) = false
  same_branches (branch l s bs) none = false
  same_branches (branch l s bs) (branch m t cs) =
      bytes_eq l m && (same_tree s t && same_branches bs cs)
