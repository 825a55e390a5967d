-- A type as it was written as a tree of numbers, and back.
use Rattle.std.specs.Prelude.{◌≡◌, ℕ, List, refl, ◌==◌, if◌then◌else◌}
use Rattle.std.proofs.Common.{sym, ◌∙◌, ap}
use Rattle.fst_types.specs.declared.kind.Use.TheVariants.{Many, Once}
use Rattle.fst_types.specs.WrittenTree.{WrittenTree, skip, send, receive, close, wait, select, offer, seq, rec, named, plain, arrow, pair, WrittenBranches, none, branch}
use Rattle.fst_types.specs.ModelCode.{name_code, name_at, name_at-name_code, base_code, base_at, base_at-base_code}
use base.Stored.{Coded, Gv, gnil, gnum, gcons, num}

-- a node: a number for its kind, its place and its parts
abbrev node : ℕ → ℕ → Gv → Gv → Gv
node tag at x y = gcons (gnum tag) (gcons (gnum at) (gcons x y))

abbrev mutual
  -- the code of a tree
  pub code_of : WrittenTree → Gv
  code_of (skip at) = node 0 at gnil gnil
  code_of (send at b) = node 1 at (base_code b) gnil
  code_of (receive at b) = node 2 at (base_code b) gnil
  code_of (close at) = node 12 at gnil gnil
  code_of (wait at) = node 13 at gnil gnil
  code_of (select at bs) = node 3 at (code_of_all bs) gnil
  code_of (offer at bs) = node 4 at (code_of_all bs) gnil
  code_of (seq at s t) = node 5 at (code_of s) (code_of t)
  code_of (rec at x t) = node 6 at (name_code x) (code_of t)
  code_of (named at x) = node 7 at (name_code x) gnil
  code_of (plain at b) = node 8 at (base_code b) gnil
  code_of (arrow at Many s t) = node 9 at (code_of s) (code_of t)
  code_of (arrow at Once s t) = node 10 at (code_of s) (code_of t)
  code_of (pair at s t) = node 11 at (code_of s) (code_of t)

  -- the code of branches
  pub code_of_all : WrittenBranches → Gv
  code_of_all none = gnil
  code_of_all (branch l t bs) = gcons (name_code l) (gcons (code_of t) (code_of_all bs))

-- the node of a number, from what its parts are read as
abbrev pub node_at : ℕ → ℕ → ℕ → List ℕ → WrittenBranches → WrittenTree → WrittenTree → WrittenTree
node_at tag at n x bs s t =
    if tag == 0 then skip at else
    if tag == 1 then send at (base_at n) else
    if tag == 2 then receive at (base_at n) else
    if tag == 3 then select at bs else
    if tag == 4 then offer at bs else
    if tag == 5 then seq at s t else
    if tag == 6 then rec at x t else
    if tag == 7 then named at x else
    if tag == 8 then plain at (base_at n) else
    if tag == 9 then arrow at Many s t else
    if tag == 10 then arrow at Once s t else
    if tag == 11 then pair at s t else
    if tag == 12 then close at else
    wait at

abbrev mutual
  -- the tree of a code
  pub tree_at : Gv → WrittenTree
  tree_at gnil = skip 0
  tree_at (gnum n) = skip 0
  tree_at (gcons t gnil) = skip 0
  tree_at (gcons t (gnum n)) = skip 0
  tree_at (gcons t (gcons n gnil)) = skip 0
  tree_at (gcons t (gcons n (gnum m))) = skip 0
  tree_at (gcons t (gcons n (gcons x y))) =
      node_at (num t) (num n) (num x) (name_at x) (branches_at x) (tree_at x) (tree_at y)

  -- the branches of a code
  pub branches_at : Gv → WrittenBranches
  branches_at gnil = none
  branches_at (gnum n) = none
  branches_at (gcons l gnil) = none
  branches_at (gcons l (gnum n)) = none
  branches_at (gcons l (gcons x y)) = branch (name_at l) (tree_at x) (branches_at y)

mutual
  -- a tree comes back from its code
  pub tree_at-code_of : (t : WrittenTree) → tree_at (code_of t) ≡ t
  tree_at-code_of (skip at) = refl
  tree_at-code_of (send at b) = ap (send at) (base_at-base_code b)
  tree_at-code_of (receive at b) = ap (receive at) (base_at-base_code b)
  tree_at-code_of (close at) = refl
  tree_at-code_of (wait at) = refl
  tree_at-code_of (select at bs) = ap (select at) (branches_at-code_of_all bs)
  tree_at-code_of (offer at bs) = ap (offer at) (branches_at-code_of_all bs)
  tree_at-code_of (seq at s t) = λ i. seq at (tree_at-code_of s i) (tree_at-code_of t i)
  tree_at-code_of (rec at x t) = λ i. rec at (name_at-name_code x i) (tree_at-code_of t i)
  tree_at-code_of (named at x) = ap (named at) (name_at-name_code x)
  tree_at-code_of (plain at b) = ap (plain at) (base_at-base_code b)
  tree_at-code_of (arrow at Many s t) =
      λ i. arrow at Many (tree_at-code_of s i) (tree_at-code_of t i)
  tree_at-code_of (arrow at Once s t) =
      λ i. arrow at Once (tree_at-code_of s i) (tree_at-code_of t i)
  tree_at-code_of (pair at s t) = λ i. pair at (tree_at-code_of s i) (tree_at-code_of t i)

  -- branches come back from their code
  pub branches_at-code_of_all : (bs : WrittenBranches) → branches_at (code_of_all bs) ≡ bs
  branches_at-code_of_all none = refl
  branches_at-code_of_all (branch l t bs) =
      λ i. branch (name_at-name_code l i) (tree_at-code_of t i) (branches_at-code_of_all bs i)

-- trees, told apart by their codes
abbrev pub written_code : Coded WrittenTree
written_code = record {
  code = code_of;
  inj =
      λ x y e. sym (tree_at-code_of x) ∙ ap tree_at e ∙ tree_at-code_of y;
}
