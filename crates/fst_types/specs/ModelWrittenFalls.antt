-- Each type within a written type is lower.
use Rattle.std.specs.Prelude.{ℕ, ◌≤◌, max, suc, List, [], ◌∷◌}
use Rattle.std.proofs.Common.{arith}
use Rattle.fst_types.specs.ModelWrittenHeight.{height, height_all}
use Rattle.fst_types.specs.ModelWrittenView.{written_branches, written_of}
use Rattle.fst_types.specs.declared.written.WrittenForm.{WrittenForm}
use Rattle.fst_types.specs.declared.written.WrittenForm.TheVariants.{Skip, Send, Receive, Close, Wait, Select, Offer, Seq, Rec, Named, Plain, Arrow, Pair}
use Rattle.fst_types.specs.declared.written.WrittenBranch.{WrittenBranch}
use Rattle.fst_types.specs.declared.written.Written.TheDeep.{deep-WrittenForm, deep-WrittenBranch}
use denote.Param.Weighed.{most}

-- no branch is higher than the highest of them
pub most_le-height_all : (bs : List WrittenBranch) →
    most deep-WrittenBranch bs ≤ suc (height_all (written_branches bs))
most_le-height_all [] = omega arith
most_le-height_all (b ∷ bs) = omega (arith, most_le-height_all bs)

-- no part is as high as the whole
pub deep_le-height : (at : ℕ) (f : WrittenForm) →
    max (deep-WrittenForm f) 0 ≤ height (written_of at f)
deep_le-height at Skip = omega arith
deep_le-height at (Send b) = omega arith
deep_le-height at (Receive b) = omega arith
deep_le-height at Close = omega arith
deep_le-height at Wait = omega arith
deep_le-height at (Select bs) = omega (arith, most_le-height_all bs.items)
deep_le-height at (Offer bs) = omega (arith, most_le-height_all bs.items)
deep_le-height at (Seq s t) = omega arith
deep_le-height at (Rec x t) = omega arith
deep_le-height at (Named x) = omega arith
deep_le-height at (Plain b) = omega arith
deep_le-height at (Arrow u s t) = omega arith
deep_le-height at (Pair s t) = omega arith
