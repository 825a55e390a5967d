-- Of the runs of a module that has derivations: events commute, and all runs that come to an end end alike.
use Rattle.std.proofs.Common.{◌≡◌, ◌∙◌, List, [], Some, sym}
use Rattle.fst_types.specs.Tree.{Tree}
use Rattle.fst_terms.specs.CoreTree.{CoreTree}
use Rattle.fst_terms.specs.declared.core_module.Module.{Module}
use Rattle.fst_derivations.specs.Deriv.{Deriv}
use Rattle.fst_derivations.specs.Modules.{HasDerivations, surroundings}
use Rattle.fst_runs.specs.Configs.{program, main_body, started}
use Rattle.fst_safety.specs.Sound.{IsSound}
use Rattle.fst_safety.specs.Diamond.{DiamondLaw, OneEnd, OneOrder, SameEvents}
use Rattle.fst_safety.proofs.Checked.{checked}
use Rattle.fst_safety.proofs.Commuting.{commute}
use Rattle.fst_safety.proofs.Modules.{main_typed}
use Rattle.fst_safety.proofs.OneEnd.{sound_regular, ends_alike}
use Rattle.fst_safety.proofs.OneOrder.{one_order}
use Rattle.fst_safety.proofs.Runs.{runs_sound, started_sound}
use Rattle.fst_safety.proofs.SameEvents.{same_events}

-- the start is sound
pub start_sound : (m : Module) (ds : List Deriv) → HasDerivations m ds → (e : CoreTree) → main_body m.globals.items ≡ Some e →
    (a : Tree) × IsSound (surroundings m []) a (started e)
start_sound m ds h e q =
    let k = main_typed m ds h e q in
    (k.type, started_sound (surroundings m []) (checked m ds h) k.type e k.printable k.typed)

-- two different events that are possible after a run commute
pub events_commute : DiamondLaw
events_commute m types c right makers parents a b v w da db n =
    commute m types c a b v w (record { fine = right; makers = makers; parents = parents }) da db n

-- runs that come to an end have one length and one end, and no run is longer
pub one_end : OneEnd
one_end m ds h e q es d r l fs c f =
    let s = start_sound m ds h e q in
    ends_alike (surroundings m []) (checked m ds h) s.0 fs es (started e) d c s.1 r l f

-- and the same events with the same stamps
pub all_same : SameEvents
all_same m ds h e q es fs c d r l s k w =
    let n = start_sound m ds h e q in
    same_events (surroundings m []) (checked m ds h) n.0 es fs (started e) d c n.1 s k r l w

-- which sorted are one list
pub one_text : OneOrder
one_text m ds h e q es fs c d r l s k gs hs a i b j =
    one_order gs hs i j (λ w. a w ∙ all_same m ds h e q es fs c d r l s k w ∙ sym (b w))
