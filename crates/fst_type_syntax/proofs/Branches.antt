-- The branches of a choice as they are read, and as they are kept.
use Rattle.std.proofs.Common.{◌≡◌, List, [], ◌∷◌, map, refl, ap}
use Rattle.fst_types.specs.WrittenTree.{branch}
use Rattle.fst_types.specs.ModelWrittenView.{written_branches}
use Rattle.fst_types.specs.declared.written.WrittenBranch.{WrittenBranch}
use Rattle.fst_type_syntax.specs.TypeReading.{branches}
use Rattle.fst_type_syntax.specs.Views.{labelled}

pub same_kept : (bs : List WrittenBranch) → branches (map labelled bs) ≡ written_branches bs
same_kept [] = refl
same_kept (b ∷ bs) = ap (branch b.label b.body) (same_kept bs)
