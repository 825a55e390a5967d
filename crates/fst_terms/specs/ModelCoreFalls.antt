-- Each term within a term is lower.
use Rattle.std.specs.Prelude.{ℕ, ◌+◌, ◌≤◌, max, suc, List, [], ◌∷◌}
use Rattle.std.proofs.Common.{arith}
use Rattle.fst_terms.specs.CoreTree.{CoreTree, core_height, cores_height, core_arms_height}
use Rattle.fst_terms.specs.ModelCoreView.{cores_of, core_arms_of, core_of}
use Rattle.fst_terms.specs.declared.core_term.Form.{Form}
use Rattle.fst_terms.specs.declared.core_term.Form.TheVariants.{Local, GlobalUse, Int, Bool, Char, Unit as Nothing, Pair, Make, Lambda, Apply, Let, Split, If, Case, Operate, Not, New, Send, Receive, Close, Wait, Select, Match, Fork, Then}
use Rattle.fst_terms.specs.declared.core_term.Arm.{Arm}
use Rattle.fst_terms.specs.declared.core_term.Term.TheDeep.{deep-Form, deep-Arm}
use denote.Param.Weighed.{most}

-- no argument is higher than the highest of them
pub most_le-cores_height : (ts : List CoreTree) → most
    (λ t. core_height t + 1) ts ≤ suc (cores_height (cores_of ts))
most_le-cores_height [] = omega arith
most_le-cores_height (t ∷ ts) = omega (arith, most_le-cores_height ts)

-- no arm is higher than the highest of them
pub most_le-core_arms_height : (bs : List Arm) →
    most deep-Arm bs ≤ suc (core_arms_height (core_arms_of bs))
most_le-core_arms_height [] = omega arith
most_le-core_arms_height (b ∷ bs) = omega (arith, most_le-core_arms_height bs)

-- no part is as high as the whole
pub deep_le-height : (at : ℕ) (f : Form) → max (deep-Form f) 0 ≤ core_height (core_of at f)
deep_le-height at (Local k) = omega arith
deep_le-height at (GlobalUse k ts) = omega arith
deep_le-height at (Int n) = omega arith
deep_le-height at (Bool b) = omega arith
deep_le-height at (Char c) = omega arith
deep_le-height at Nothing = omega arith
deep_le-height at (Pair s t) = omega arith
deep_le-height at (Make f k ts) = omega (arith, most_le-cores_height ts.items)
deep_le-height at (Lambda u a x t) = omega arith
deep_le-height at (Apply s t) = omega arith
deep_le-height at (Let x s t) = omega arith
deep_le-height at (Split x y s t) = omega arith
deep_le-height at (If s t u) = omega arith
deep_le-height at (Case t bs) = omega (arith, most_le-core_arms_height bs.items)
deep_le-height at (Operate o s t) = omega arith
deep_le-height at (Not t) = omega arith
deep_le-height at (New a) = omega arith
deep_le-height at (Send s t) = omega arith
deep_le-height at (Receive t) = omega arith
deep_le-height at (Close t) = omega arith
deep_le-height at (Wait t) = omega arith
deep_le-height at (Select l t) = omega arith
deep_le-height at (Match t bs) = omega (arith, most_le-core_arms_height bs.items)
deep_le-height at (Fork t) = omega arith
deep_le-height at (Then s t) = omega arith
