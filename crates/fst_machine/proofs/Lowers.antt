-- Each inner step goes down, where the code does.
use Rattle.std.proofs.Common.{◌≡◌, ◌<◌, ◌+◌, ℕ, zero, suc, true, false, Option, Some, None, option_map, option_and_then, List, [], ◌∷◌, slice_get, refl, sym, ap, ◌∙◌, subst, arith}
use Rattle.std.proofs.lemmas.Option.{none-some, same_Some}
use Rattle.fst_value.specs.ValueTree as tree
use Rattle.fst_value.specs.ValueTree.{ValueTree, ValueTrees}
use Rattle.fst_machine.specs.declared.code.Instr.{Instr}
use Rattle.fst_machine.specs.declared.code.Instr.TheVariants as instr
use Rattle.fst_machine.specs.Values.{operated}
use Rattle.fst_machine.specs.Code.{Compiled}
use Rattle.fst_machine.specs.Spots.{Slots, Call, Spot, ran, on_instr, inner, moved_to, slot_at, emptied, with_value, joined, in_arm, collected, captured_count, scalar, of_scalar}
use Rattle.fst_machine.specs.Standing.{LeadsBelow, GoesDown, places_of_calls, measure}
use Rattle.fst_machine.proofs.Steps.{spot}

-- a spot that is there by its equation
there : (u t : Spot) (m : ℕ) → Some u ≡ Some t → measure u < m → measure t < m
there u t m e h = subst (λ z. measure z < m) (same_Some u t e) h

value_lowers : (j : ℕ) (o : Option ValueTree) (ops : List ValueTree) (s t : Spot) → with_value j o ops s ≡ Some t →
    measure t < suc j + places_of_calls s.calls
value_lowers j None ops s t e = absurd (none-some t e)
value_lowers j (Some v) ops s t e = there (moved_to j (v ∷ ops) s) t (suc j + places_of_calls s.calls) e (omega arith)

joined_lowers : (j : ℕ) (o : Option (ValueTrees × List ValueTree)) (f : ValueTrees → ValueTree) (s t : Spot) →
    joined j o f s ≡ Some t → measure t < suc j + places_of_calls s.calls
joined_lowers j None f s t e = absurd (none-some t e)
joined_lowers j (Some p) f s t e = there (moved_to j (f p.0 ∷ p.1) s) t (suc j + places_of_calls s.calls) e (omega arith)

arm_lowers : (j : ℕ) (o : Option ℕ) (vs : ValueTrees) (ops : List ValueTree) (s t : Spot) →
    ((i : ℕ) → o ≡ Some i → i < suc j) → in_arm o vs ops s ≡ Some t → measure t < suc j + places_of_calls s.calls
arm_lowers j None vs ops s t h e = absurd (none-some t e)
arm_lowers j (Some i) vs ops s t h e = let b = h i refl in there _ t (suc j + places_of_calls s.calls) e (omega (arith, b))

-- an instruction leads to a lesser measure
pub ran_lowers : (c : Compiled) (a : Instr) (i j : ℕ) (slots : Slots) (held ops : List ValueTree) (calls : List Call) (t : Spot) →
    LeadsBelow (suc j) a →
    ran c a j (spot i slots held calls) ops ≡ Some t → measure t < suc j + places_of_calls calls
ran_lowers c (instr.Int n) i j slots held ops calls t h e = there _ t (suc j + places_of_calls calls) e (omega arith)
ran_lowers c (instr.Bool b) i j slots held ops calls t h e = there _ t (suc j + places_of_calls calls) e (omega arith)
ran_lowers c (instr.Char n) i j slots held ops calls t h e = there _ t (suc j + places_of_calls calls) e (omega arith)
ran_lowers c instr.Unit i j slots held ops calls t h e = there _ t (suc j + places_of_calls calls) e (omega arith)
ran_lowers c (instr.Load k) i j slots held ops calls t h e = value_lowers j (slot_at slots k) ops (spot i slots held calls) t e
ran_lowers c (instr.Take k) i j slots held ops calls t h e =
    value_lowers j (slot_at slots k) ops (spot i (emptied k slots) held calls) t e
ran_lowers c instr.Bind i j slots held (v ∷ ops) calls t h e = there _ t (suc j + places_of_calls calls) e (omega arith)
ran_lowers c (instr.Unbind n) i j slots held ops calls t h e = there _ t (suc j + places_of_calls calls) e (omega arith)
ran_lowers c instr.Pair i j slots held (w ∷ v ∷ ops) calls t h e = there _ t (suc j + places_of_calls calls) e (omega arith)
ran_lowers c instr.Split i j slots held (tree.pair v w ∷ ops) calls t h e =
    there _ t (suc j + places_of_calls calls) e (omega arith)
ran_lowers c (instr.Make n o k) i j slots held ops calls t h e =
    joined_lowers j (collected k ops tree.none) (tree.make n o) (spot i slots held calls) t e
ran_lowers c (instr.Function l) i j slots held ops calls t h e =
    joined_lowers j (collected (captured_count (slice_get c.lambdas l)) ops tree.none) (tree.function l)
    (spot i slots held calls) t e
ran_lowers c (instr.Operate o) i j slots held (w ∷ v ∷ ops) calls t h e =
    value_lowers j (option_map of_scalar (operated o (scalar v) (scalar w))) ops (spot i slots held calls) t e
ran_lowers c instr.Not i j slots held (tree.bool b ∷ ops) calls t h e = there _ t (suc j + places_of_calls calls) e (omega arith)
ran_lowers c (instr.Branch place) i j slots held (tree.bool true ∷ ops) calls t h e =
    there _ t (suc j + places_of_calls calls) e (omega arith)
ran_lowers c (instr.Branch place) i j slots held (tree.bool false ∷ ops) calls t h e =
    there _ t (suc j + places_of_calls calls) e (let b : place < suc j = h in omega (arith, b))
ran_lowers c (instr.Jump place) i j slots held ops calls t h e =
    there _ t (suc j + places_of_calls calls) e (let b : place < suc j = h in omega (arith, b))
ran_lowers c (instr.Case places) i j slots held (tree.make n o vs ∷ ops) calls t h e =
    arm_lowers j (slice_get places.items o) vs ops (spot i slots held calls) t (λ k g. h o k g) e
ran_lowers c instr.Drop i j slots held (v ∷ ops) calls t h e = there _ t (suc j + places_of_calls calls) e (omega arith)
ran_lowers c instr.Return i j slots held ops [] t h e = absurd (none-some t e)
ran_lowers c instr.Return i j slots held ops (k ∷ ks) t h e =
    there (spot k.place k.slots ops ks) t (suc j + places_of_calls (k ∷ ks)) e (omega arith)
ran_lowers c a i j slots held ops calls t h e = absurd (none-some t e)

at_place : (c : Compiled) (j : ℕ) (s t : Spot) (o : Option Instr) → GoesDown c → slice_get c.code j ≡ o →
    option_and_then {T = Instr} {U = Spot} (λ a. ran c a j s s.operands) o ≡ Some t →
    measure t < suc j + places_of_calls s.calls
at_place c j s t None g u e = absurd (none-some t e)
at_place c j s t (Some a) g u e = ran_lowers c a s.place j s.slots s.operands s.operands s.calls t
    (g (suc j) j a (record { place = refl; there = u })) e

-- each step lowers the measure
pub step_lowers : (c : Compiled) (s t : Spot) → GoesDown c → inner c s ≡ Some t → measure t < measure s
step_lowers c s t g e = go s.place refl
  where
    go : (i : ℕ) → s.place ≡ i → measure t < measure s
    go zero u = absurd (none-some t (sym (ap (λ i. on_instr c i (λ a j. ran c a j s s.operands)) u) ∙ e))
    go (suc j) u =
        let h : measure t < suc j + places_of_calls s.calls =
        at_place c j s t (slice_get c.code j) g refl (sym (ap (λ i. on_instr c i (λ a j. ran c a j s s.operands)) u) ∙ e) in
        omega (arith, h, u)
