-- Where each name stands for something.
use Rattle.std.proofs.Common.{◌≡◌, List, [], ◌∷◌, ◌++◌, refl}
use Rattle.fst_scopes.specs.declared.fault.NameFault.{NameFault}

-- two lists of faults are empty where both together are
pub none_named : (fs gs : List NameFault) → fs ++ gs ≡ [] → (fs ≡ []) × (gs ≡ [])
none_named [] gs e = (refl, e)
none_named (f ∷ fs) gs e = absurd cc
