-- What single calls do to variables and to values on the stack.
use Rattle.std.specs.Prelude.{ℕ, ◌<◌, Bool, true, false, not, Option, Some, None, option_map, List, [], ◌∷◌, ◌++◌, slice_get, slice_index, EachIndex}
use Rattle.fst_terms.specs.declared.term.Op.{Op}
use Rattle.fst_value.specs.ValueTree.{ValueTree, bool, unit, pair, function, end, ValueTrees, none, value}
use Rattle.fst_value.specs.Cells.{ends_in}
use Rattle.fst_types.specs.declared.ends.EndName.{EndName}
use Rattle.fst_types.specs.declared.event.Event.{Event}
use Rattle.fst_types.specs.declared.event.Event.TheVariants.{Label, Closed}
use Rattle.fst_machine.specs.declared.request.Request.{Request}
use Rattle.fst_machine.specs.declared.request.Request.TheVariants.{Put, Get}
use Rattle.fst_machine.specs.Values.{operated, sent}
use Rattle.fst_machine.specs.declared.entry.LambdaEntry.{LambdaEntry}
use Rattle.fst_machine.specs.Code.{Compiled, place_of}
use Rattle.fst_machine.specs.declared.code.Instr.{Instr}
use Rattle.fst_machine.specs.declared.code.Instr.TheVariants.{Fork}
use Rattle.fst_machine.specs.Spots.{Slots, Spot, on_instr, moved_to, collected, slot_at, emptied, scalar, of_scalar}

-- the value of a variable is put on the stack
abbrev pub loaded : ℕ → Slots → List ValueTree → Option (List ValueTree)
loaded k os ops = option_map (λ v. v ∷ ops) (slot_at os k)

-- it is moved there
abbrev pub taken_out : ℕ → Slots × List ValueTree → Option (Slots × List ValueTree)
taken_out k p = option_map (λ v. (emptied k p.0, v ∷ p.1)) (slot_at p.0 k)

-- the last value becomes that of a new variable
abbrev pub bound : Slots × List ValueTree → Option (Slots × List ValueTree)
bound (os, []) = None
bound (os, v ∷ ops) = Some (Some v ∷ os, ops)

-- one more value
abbrev pub with_one : ValueTree → List ValueTree → Option (List ValueTree)
with_one v ops = Some (v ∷ ops)

-- a sign computes with the last two values
abbrev pub computed : Op → List ValueTree → Option (List ValueTree)
computed o [] = None
computed o (w ∷ []) = None
computed o (w ∷ v ∷ ops) = option_map (λ u. of_scalar u ∷ ops) (operated o (scalar v) (scalar w))

-- the truth value that the last value is
abbrev pub truth_on : List ValueTree → Option Bool
truth_on [] = None
truth_on (bool b ∷ ops) = Some b
truth_on (v ∷ ops) = None

-- the last value, a truth value, is turned round
abbrev pub negated : List ValueTree → Option (List ValueTree)
negated (bool b ∷ ops) = Some (bool (not b) ∷ ops)
negated ops = None

-- the end that the last value is
abbrev pub end_on : List ValueTree → Option EndName
end_on (end x ∷ ops) = Some x
end_on ops = None

-- the pair of the unit value and the last value, if this is an end
abbrev pub spare_for : List ValueTree → Option ValueTree
spare_for ops = option_map (λ x. pair unit (end x)) (end_on ops)

-- these values in order
abbrev pub trees_of : List ValueTree → ValueTrees
trees_of [] = none
trees_of (v ∷ vs) = value v (trees_of vs)

-- so many places are enough for values of these variables
abbrev pub HasRoom : ℕ → List ℕ → Type 0
HasRoom n ks = EachIndex ks (λ i. slice_index ks i < n)

-- behind an instruction, with a value in place of the last n ones
abbrev pub given_for : ℕ → ℕ → ValueTree → Spot → Option Spot
given_for j n v s = option_map (λ p. moved_to j (v ∷ p.1) s) (collected n s.operands none)

-- in the arm of a label that was received on the last value, an end
abbrev pub matched : List (List ℕ × ℕ) → Event → Spot → List ValueTree → Option Spot
matched places (Label l) s (end x ∷ ops) = option_map
    (λ place. moved_to place (end x ∷ ops) s) (place_of places l)
matched places ev s ops = None

-- to send the value before the last one on the last one, an end
abbrev pub sending : List ValueTree → Option Request
sending (end x ∷ v ∷ ops) = option_map (Put x) (sent (scalar v))
sending ops = None

-- to select a branch on the last value, an end
abbrev pub selecting : List ℕ → List ValueTree → Option Request
selecting l (end x ∷ ops) = Some (Put x (Label l))
selecting l ops = None

-- to close a channel on the last value, an end
abbrev pub closing : List ValueTree → Option Request
closing (end x ∷ ops) = Some (Put x Closed)
closing ops = None

-- to receive on the last value, an end
abbrev pub getting : List ValueTree → Option Request
getting (end x ∷ ops) = Some (Get x)
getting ops = None

-- the value before the last one is a function
abbrev pub function_below : List ValueTree → Bool
function_below (w ∷ function l vs ∷ ops) = true
function_below ops = false

-- its entry in the code
abbrev pub entry_below : Compiled → List ValueTree → Option LambdaEntry
entry_below c (w ∷ function l vs ∷ ops) = slice_get c.lambdas l
entry_below c ops = None

-- the entry of the task that an instruction makes
abbrev pub entry_of : Compiled → Instr → Option LambdaEntry
entry_of c (Fork l) = slice_get c.lambdas l
entry_of c a = None

-- the entry of the task that is made at a place
abbrev pub forked_entry : Compiled → ℕ → Option LambdaEntry
forked_entry c p = on_instr c p (λ a j. entry_of c a)

-- the ends in what a variable stands for
abbrev pub ends_in_slot : Option ValueTree → List EndName
ends_in_slot None = []
ends_in_slot (Some v) = ends_in v

-- the ends in what variables stand for, in order, each as often as it stands there
abbrev pub ends_in_slots : Slots → List EndName
ends_in_slots [] = []
ends_in_slots (o ∷ os) = ends_in_slot o ++ ends_in_slots os
