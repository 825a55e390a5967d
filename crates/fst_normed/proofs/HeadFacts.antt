-- The facts about words of a normed grammar on which the bound on candidates rests.
use Rattle.std.proofs.Common.{[], ◌∷◌, ◌++◌, arith}
use Rattle.fst_norms.specs.Bounds.{total}
use Rattle.fst_normed.specs.Candidates.{residual}
use Rattle.fst_normed.specs.Laws.{CutLaw, HeadLaw, JoiningLaw, NeedLaw}
use Rattle.fst_norms.proofs.Laws.{same_from}
use Rattle.fst_normed.proofs.HeadLaws.{candidate_differs, front_differs, rest_differs}
use Rattle.fst_normed.proofs.JoinLaws as joins
use Rattle.fst_normed.proofs.NormedLaws.{weights}

pub cut_law : CutLaw
cut_law rows norms words g w x v hw hx hv =
    same_from rows w x (w ++ v) (x ++ v) (λ d. front_differs rows norms words g.range
    (weights rows norms words g) d.0 w x v hw hx hv d.1)

pub head_law : HeadLaw
head_law rows norms words g x y u v hu hv le alike = (
  same_from rows (y ∷ []) (x ∷ residual norms words x y) (x ∷ u) (y ∷ v)
      (candidate_differs rows norms words g.range (weights rows norms words g) x y u v hu hv le) alike,
  same_from rows u (residual norms words x y ++ v) (x ∷ u) (y ∷ v)
      (rest_differs rows norms words g.range (weights rows norms words g) x y u v hu hv le) alike,
)

pub joining_law : JoiningLaw
joining_law rows norms words g u v hu hv =
    joins.joined_or_differ rows norms words g.range (weights rows norms words g) (total norms u) u v hu hv (omega arith)

pub need_law : NeedLaw
need_law rows norms words g u v hu hv alike c n =
    same_from rows (c.1 ∷ []) (c.0 ∷ residual norms words c.0 c.1) u v
    (joins.needed_differs rows norms words g.range (weights rows norms words g) u v hu hv c n) alike
