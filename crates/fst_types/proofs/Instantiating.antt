-- Branches as a list and as a tree.
use Rattle.std.proofs.Common.{◌≡◌, refl, ap, List, [], ◌∷◌, map}
use Rattle.fst_types.specs.Tree.{Tree, branch}
use Rattle.fst_types.specs.ModelView.{branches_of}
use Rattle.fst_types.specs.declared.ty.Branch.{Branch}
use Rattle.fst_types.specs.Instance.{instantiated, instantiated_all, instantiated_branch}

-- instantiating a list of branches instantiates the choice
pub instantiated_all_map : (args : List Tree) (bs : List Branch) →
    instantiated_all args (branches_of bs) ≡ branches_of (map (instantiated_branch args) bs)
instantiated_all_map args [] = refl
instantiated_all_map args (b ∷ bs) = ap (branch b.label (instantiated args b.body)) (instantiated_all_map args bs)
