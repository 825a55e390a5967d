-- What a step with an instruction comes to, part by part.
use Rattle.std.specs.Prelude.{◌≡◌, ℕ, Bool, true, false, Option, Some, None, option_map, Result, List, [], ◌∷◌, reverse, slice_get}
use Rattle.std.specs.declared.result.Result.TheVariants.{Ok, Err}
use Rattle.std.specs.declared.alloc.AllocError.{AllocError}
use Rattle.fst_value.specs.ValueTree.{ValueTree, bool, make}
use Rattle.fst_value.specs.Stacks.{stacked}
use Rattle.fst_machine.specs.declared.code.Instr.{Instr}
use Rattle.fst_machine.specs.Code.{Compiled}
use Rattle.fst_machine.specs.Spots.{Slots, Call, Spot, ran}

-- the variables, the values on the stack and the calls around, the innermost first
pub record Parts : Type 0 where
  pub slots : Slots
  pub operands : List ValueTree
  pub calls : List Call

-- where code runs that has come to a place with these
abbrev pub spot_of : ℕ → Parts → Spot
spot_of i p = record { place = i; slots = p.slots; operands = p.operands; calls = p.calls }

-- the step is made and leads to a place, or it isn't and nothing changes; nothing changes either where memory is wanting
abbrev pub Acts : Compiled → Instr → ℕ → Parts → Result (Option ℕ) AllocError → Parts → Type 0
Acts c a j old (Ok (Some place)) new =
    (i : ℕ) → ran c a j (spot_of i old) old.operands ≡ Some (spot_of place new)
Acts c a j old (Ok None) new = ((i : ℕ) → ran c a j (spot_of i old) old.operands ≡ None) ×
    (new ≡ old)
Acts c a j old (Err e) new = new ≡ old

-- with the calls around in a list, the innermost last
abbrev pub parts : Slots → List ValueTree → List Call → Parts
parts os ops calls = record { slots = os; operands = ops; calls = reverse calls }

-- what a step comes to that changes something and leads to a place
abbrev pub Goes : {X : Type 0} → (X → Option (ℕ × X)) → X → Result (Option ℕ) AllocError → X →
    Type 0
Goes f old (Ok (Some place)) new = f old ≡ Some (place, new)
Goes f old (Ok None) new = (f old ≡ None) × (new ≡ old)
Goes f old (Err e) new = new ≡ old

-- the place where code goes on if a step was made
abbrev pub gone_on : ℕ → Result Bool AllocError → Result (Option ℕ) AllocError
gone_on j (Ok true) = Ok (Some j)
gone_on j (Ok false) = Ok None
gone_on j (Err e) = Err e

-- behind an instruction without the last value
abbrev pub shorter : ℕ → List ValueTree → Option (ℕ × List ValueTree)
shorter j [] = None
shorter j (v ∷ ops) = Some (j, ops)

-- behind a branch, by the last value
abbrev pub branched : ℕ → ℕ → List ValueTree → Option (ℕ × List ValueTree)
branched place behind (bool true ∷ ops) = Some (behind, ops)
branched place behind (bool false ∷ ops) = Some (place, ops)
branched place behind ops = None

-- in the arm of the constructor that the last value is, whose fields are put on the stack
abbrev pub armed : List ℕ → List ValueTree → Option (ℕ × List ValueTree)
armed places (make n o vs ∷ ops) = option_map
    (λ place. (place, stacked vs ops)) (slice_get places o)
armed places ops = None

-- back where the innermost call, the last one, goes on
abbrev pub returned : Slots × List Call → Option (ℕ × (Slots × List Call))
returned (os, calls) = back (reverse calls)
  where
    back : List Call → Option (ℕ × (Slots × List Call))
    back [] = None
    back (k ∷ ks) = Some (k.place, (k.slots, reverse ks))
