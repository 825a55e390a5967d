-- Values on a stack, the last one first.
use Rattle.std.specs.Prelude.{◌≡◌, ℕ, zero, suc, Option, Some, None, option_map, List, [], ◌∷◌, Bool, true, false}
use Rattle.std.specs.declared.result.Result.{Result}
use Rattle.std.specs.declared.result.Result.TheVariants.{Ok, Err}
use Rattle.std.specs.declared.alloc.AllocError.{AllocError}
use Rattle.std.specs.declared.vec.Vec.{Vec}
use Rattle.fst_value.specs.ValueTree.{ValueTree, pair, make, function, ValueTrees, none, value}

-- the last n values in order, in front of others, and the values below them
abbrev pub collected : ℕ → List ValueTree → ValueTrees → Option (ValueTrees × List ValueTree)
collected zero ops vs = Some (vs, ops)
collected (suc n) [] vs = None
collected (suc n) (v ∷ ops) vs = collected n ops (value v vs)

-- values on the stack, the first one last
abbrev pub stacked : ValueTrees → List ValueTree → List ValueTree
stacked none ops = ops
stacked (value v vs) ops = v ∷ stacked vs ops

-- the last value and, behind it, the one before are made a pair of the second and the first
abbrev pub paired : List ValueTree → Option (List ValueTree)
paired [] = None
paired (w ∷ []) = None
paired (w ∷ v ∷ ops) = Some (pair v w ∷ ops)

-- the last value, a pair, is replaced by its parts, the first one last
abbrev pub halved : List ValueTree → Option (List ValueTree)
halved (pair v w ∷ ops) = Some (v ∷ w ∷ ops)
halved ops = None

-- the last n values are made one
abbrev pub gathered : (ValueTrees → ValueTree) → ℕ → List ValueTree → Option (List ValueTree)
gathered f n ops = option_map (λ p. f p.0 ∷ p.1) (collected n ops none)

-- the last value, a constructor, is replaced by its fields, the first one last
abbrev pub opened : List ValueTree → Option (List ValueTree)
opened (make n o vs ∷ ops) = Some (stacked vs ops)
opened ops = None

-- the value before the last one, a function, is taken off, and the values that it captured in order
abbrev pub applied : List ValueTree → Option (List ValueTree × List ValueTree)
applied (w ∷ function l vs ∷ ops) = Some (stacked vs [], w ∷ ops)
applied ops = None

-- a value that is there is moved onto the stack
abbrev pub moved_on : Option ValueTree × List ValueTree → Option (Option ValueTree × List ValueTree)
moved_on p = option_map (λ v. (None, v ∷ p.1)) p.0

-- what a step comes to: it is made, or it can't be and nothing changes; nothing changes either where memory is wanting
abbrev pub Makes : {X : Type 0} → (X → Option X) → X → Result Bool AllocError → X → Type 0
Makes f old (Ok true) new = f old ≡ Some new
Makes f old (Ok false) new = (f old ≡ None) × (new ≡ old)
Makes f old (Err e) new = new ≡ old

-- what a step comes to that takes values: it is made, or it can't be and nothing changes; nothing changes either where memory is
-- wanting
abbrev pub Takes : {X A : Type 0} → (X → Option (List ValueTree × X)) → X →
    Result (Option (Vec ValueTree A)) AllocError → X → Type 0
Takes f old (Ok (Some taken)) new = f old ≡ Some (taken.items, new)
Takes f old (Ok None) new = (f old ≡ None) × (new ≡ old)
Takes f old (Err e) new = new ≡ old
