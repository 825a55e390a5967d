-- A tree as a tree of numbers, and back.
use Rattle.std.specs.Prelude.{◌≡◌, ℕ, suc, zero, List, [], ◌∷◌, refl, ◌==◌, if◌then◌else◌}
use Rattle.std.proofs.Common.{sym, ◌∙◌, ap}
use Rattle.fst_types.specs.declared.base.Base.{Base}
use Rattle.fst_types.specs.declared.base.Base.TheVariants.{Int, Bool, Char, Unit as Nothing}
use Rattle.fst_types.specs.declared.kind.Use.TheVariants.{Many, Once}
use Rattle.fst_types.specs.Tree.{Tree, skip, send, receive, close, wait, select, offer, seq, rec, back, var, plain, arrow, pair, named, Branches, none, branch}
use base.Stored.{Coded, Gv, gnil, gnum, gcons, num}

-- the code of a label
abbrev pub name_code : List ℕ → Gv
name_code [] = gnil
name_code (n ∷ ns) = gcons (gnum n) (name_code ns)

-- the label of a code
abbrev pub name_at : Gv → List ℕ
name_at gnil = []
name_at (gnum n) = []
name_at (gcons a b) = num a ∷ name_at b

-- a label comes back from its code
pub name_at-name_code : (ns : List ℕ) → name_at (name_code ns) ≡ ns
name_at-name_code [] = refl
name_at-name_code (n ∷ ns) = ap (λ m. n ∷ m) (name_at-name_code ns)

-- the code of a base type
abbrev pub base_code : Base → Gv
base_code Int = gnum 0
base_code Bool = gnum 1
base_code Char = gnum 2
base_code Nothing = gnum 3

-- the base type of a number
abbrev pub base_at : ℕ → Base
base_at zero = Int
base_at (suc zero) = Bool
base_at (suc (suc zero)) = Char
base_at (suc (suc (suc n))) = Nothing

-- a base type comes back from its code
pub base_at-base_code : (b : Base) → base_at (num (base_code b)) ≡ b
base_at-base_code Int = refl
base_at-base_code Bool = refl
base_at-base_code Char = refl
base_at-base_code Nothing = refl

abbrev mutual
  -- the code of a tree: a number for the kind of node, and its parts
  pub code_of : Tree → Gv
  code_of skip = gnil
  code_of (send b) = gcons (gnum 0) (gcons (base_code b) gnil)
  code_of (receive b) = gcons (gnum 1) (gcons (base_code b) gnil)
  code_of close = gcons (gnum 13) (gcons gnil gnil)
  code_of wait = gcons (gnum 14) (gcons gnil gnil)
  code_of (select bs) = gcons (gnum 2) (gcons (code_of_all bs) gnil)
  code_of (offer bs) = gcons (gnum 3) (gcons (code_of_all bs) gnil)
  code_of (seq s t) = gcons (gnum 4) (gcons (code_of s) (code_of t))
  code_of (rec t) = gcons (gnum 5) (gcons (code_of t) gnil)
  code_of (back k) = gcons (gnum 6) (gcons (gnum k) gnil)
  code_of (var k) = gcons (gnum 7) (gcons (gnum k) gnil)
  code_of (plain b) = gcons (gnum 8) (gcons (base_code b) gnil)
  code_of (arrow Many s t) = gcons (gnum 9) (gcons (code_of s) (code_of t))
  code_of (arrow Once s t) = gcons (gnum 10) (gcons (code_of s) (code_of t))
  code_of (pair s t) = gcons (gnum 11) (gcons (code_of s) (code_of t))
  code_of (named k) = gcons (gnum 12) (gcons (gnum k) gnil)

  -- the code of branches
  pub code_of_all : Branches → Gv
  code_of_all none = gnil
  code_of_all (branch l t bs) = gcons (name_code l) (gcons (code_of t) (code_of_all bs))

-- the node of a number, from what its parts are read as
abbrev pub node_at : ℕ → ℕ → Branches → Tree → Tree → Tree
node_at tag n bs s t =
    if tag == 0 then send (base_at n) else
    if tag == 1 then receive (base_at n) else
    if tag == 2 then select bs else
    if tag == 3 then offer bs else
    if tag == 4 then seq s t else
    if tag == 5 then rec s else
    if tag == 6 then back n else
    if tag == 7 then var n else
    if tag == 8 then plain (base_at n) else
    if tag == 9 then arrow Many s t else
    if tag == 10 then arrow Once s t else
    if tag == 11 then pair s t else
    if tag == 12 then named n else
    if tag == 13 then close else
    wait

abbrev mutual
  -- the tree of a code
  pub tree_at : Gv → Tree
  tree_at gnil = skip
  tree_at (gnum n) = skip
  tree_at (gcons t gnil) = skip
  tree_at (gcons t (gnum n)) = skip
  tree_at (gcons t (gcons x y)) = node_at (num t) (num x) (branches_at x) (tree_at x) (tree_at y)

  -- the branches of a code
  pub branches_at : Gv → Branches
  branches_at gnil = none
  branches_at (gnum n) = none
  branches_at (gcons l gnil) = none
  branches_at (gcons l (gnum n)) = none
  branches_at (gcons l (gcons x y)) = branch (name_at l) (tree_at x) (branches_at y)

mutual
  -- a tree comes back from its code
  pub tree_at-code_of : (t : Tree) → tree_at (code_of t) ≡ t
  tree_at-code_of skip = refl
  tree_at-code_of (send b) = ap send (base_at-base_code b)
  tree_at-code_of (receive b) = ap receive (base_at-base_code b)
  tree_at-code_of close = refl
  tree_at-code_of wait = refl
  tree_at-code_of (select bs) = ap select (branches_at-code_of_all bs)
  tree_at-code_of (offer bs) = ap offer (branches_at-code_of_all bs)
  tree_at-code_of (seq s t) = λ i. seq (tree_at-code_of s i) (tree_at-code_of t i)
  tree_at-code_of (rec t) = ap rec (tree_at-code_of t)
  tree_at-code_of (back k) = refl
  tree_at-code_of (var k) = refl
  tree_at-code_of (plain b) = ap plain (base_at-base_code b)
  tree_at-code_of (arrow Many s t) = λ i. arrow Many (tree_at-code_of s i) (tree_at-code_of t i)
  tree_at-code_of (arrow Once s t) = λ i. arrow Once (tree_at-code_of s i) (tree_at-code_of t i)
  tree_at-code_of (pair s t) = λ i. pair (tree_at-code_of s i) (tree_at-code_of t i)
  tree_at-code_of (named k) = refl

  -- branches come back from their code
  pub branches_at-code_of_all : (bs : Branches) → branches_at (code_of_all bs) ≡ bs
  branches_at-code_of_all none = refl
  branches_at-code_of_all (branch l t bs) =
      λ i. branch (name_at-name_code l i) (tree_at-code_of t i) (branches_at-code_of_all bs i)

-- trees, told apart by their codes
abbrev pub tree_code : Coded Tree
tree_code = record {
  code = code_of;
  inj =
      λ x y e. sym (tree_at-code_of x) ∙ ap tree_at e ∙ tree_at-code_of y;
}
