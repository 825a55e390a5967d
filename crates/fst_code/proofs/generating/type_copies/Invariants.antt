use Rattle.std.proofs.Common.{◌≡◌, take}
use Rattle.fst_code.proofs.generating.type_copies.Given as goal

abbrev pub invariant-loop-ty : goal.invariant-loop-ty
invariant-loop-ty l = l.copies.items ≡ take l.ty-index l.types
