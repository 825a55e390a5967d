-- No part of a list of parts is as large as the whole.
use Rattle.std.proofs.Common.{◌+◌, ◌*◌, ◌≤◌, List, [], ◌∷◌, arith}
use Rattle.fst_terms.specs.CoreTree.{CoreTree, cores_height, core_arms_height}
use Rattle.fst_terms.specs.ModelCoreView.{cores_of, core_arms_of}
use Rattle.fst_terms.specs.declared.core_term.Arm.{Arm}
use Rattle.fst_terms.specs.declared.core_term.Term.TheDeep.{size-Term, size-Arm}
use denote.Param.Weighed.{most}

-- of arguments
pub arguments_fall : (ts : List CoreTree) → most size-Term ts ≤ 3 * (cores_height (cores_of ts) + 1)
arguments_fall [] = omega arith
arguments_fall (t ∷ ts) = omega (arith, arguments_fall ts)

-- of arms
pub arms_fall : (bs : List Arm) → most size-Arm bs ≤ 3 * (core_arms_height (core_arms_of bs) + 1) + 2
arms_fall [] = omega arith
arms_fall (b ∷ bs) = omega (arith, arms_fall bs)
