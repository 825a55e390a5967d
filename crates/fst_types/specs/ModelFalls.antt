-- Each type within a type is lower.
use Rattle.std.specs.Prelude.{◌≤◌, max, suc, List, [], ◌∷◌}
use Rattle.std.proofs.Common.{arith}
use Rattle.fst_types.specs.Height.{height, height_all}
use Rattle.fst_types.specs.ModelView.{branches_of, tree_of}
use Rattle.fst_types.specs.declared.ty.TyForm.{TyForm}
use Rattle.fst_types.specs.declared.ty.TyForm.TheVariants.{Skip, Send, Receive, Close, Wait, Select, Offer, Seq, Rec, Back, Var, Plain, Arrow, Pair, Named}
use Rattle.fst_types.specs.declared.ty.Branch.{Branch}
use Rattle.fst_types.specs.declared.ty.Ty.TheDeep.{deep-TyForm, deep-Branch}
use denote.Param.Weighed.{most}

-- no branch is higher than the highest of them
pub most_le-height_all : (bs : List Branch) →
    most deep-Branch bs ≤ suc (height_all (branches_of bs))
most_le-height_all [] = omega arith
most_le-height_all (b ∷ bs) = omega (arith, most_le-height_all bs)

-- no part is as high as the whole
pub deep_le-height : (f : TyForm) → max (deep-TyForm f) 0 ≤ height (tree_of f)
deep_le-height Skip = omega arith
deep_le-height (Send b) = omega arith
deep_le-height (Receive b) = omega arith
deep_le-height Close = omega arith
deep_le-height Wait = omega arith
deep_le-height (Select bs) = omega (arith, most_le-height_all bs.items)
deep_le-height (Offer bs) = omega (arith, most_le-height_all bs.items)
deep_le-height (Seq s t) = omega arith
deep_le-height (Rec t) = omega arith
deep_le-height (Back k) = omega arith
deep_le-height (Var k) = omega arith
deep_le-height (Plain b) = omega arith
deep_le-height (Arrow u s t) = omega arith
deep_le-height (Pair s t) = omega arith
deep_le-height (Named k) = omega arith
