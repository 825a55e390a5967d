use Rattle.std.proofs.Common.{ℕ, List, map, take, is_some}
use Rattle.fst_arms.specs.Places.{ArePlaces, found}
use Rattle.fst_arms.proofs.Meeting.{IsLeft}
use Rattle.fst_arms.proofs.places.are_each_once.Given as goal

abbrev pub invariant-loop-arm : goal.invariant-loop-arm
invariant-loop-arm l = (wanted : List (List ℕ)) → ArePlaces wanted l.fn.places.entries →
    IsLeft wanted (take l.arm-index (map (λ b. b.label) l.arms)) (λ x. is_some (found l.places.entries x))
