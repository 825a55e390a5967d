-- Steps with single instructions.
use Rattle.std.proofs.Common.{◌≡◌, ◌∙◌, ℕ, Bool, true, false, Option, Some, None, option_map, List, [], ◌∷◌, slice_get, refl, sym, ap, subst}
use Rattle.std.specs.declared.result.Result.{Result}
use Rattle.std.specs.declared.result.Result.TheVariants.{Ok, Err}
use Rattle.std.specs.declared.alloc.AllocError.{AllocError}
use Rattle.std.proofs.lemmas.Option.{same_Some}
use Rattle.fst_terms.specs.declared.term.Op.{Op}
use Rattle.fst_value.specs.ValueTree.{ValueTree, int, bool, char, unit, pair, make, function, end, ValueTrees, none}
use Rattle.fst_value.specs.declared.value.Form.{Form}
use Rattle.fst_value.specs.Parts.{form_of}
use Rattle.fst_value.specs.Stacks.{gathered, Makes}
use Rattle.fst_machine.specs.declared.code.Instr.{Instr}
use Rattle.fst_machine.specs.declared.code.Instr.TheVariants as instr
use Rattle.fst_machine.specs.Values.{operated}
use Rattle.fst_machine.specs.Code.{Compiled}
use Rattle.fst_machine.specs.Spots.{Slots, Call, collected, joined, captured_count, scalar, of_scalar}
use Rattle.fst_vm.specs.Acts.{parts, spot_of, gone_on, Acts}
use Rattle.fst_vm.specs.Moves.{computed}
use Rattle.fst_vm.specs.Scalars.{scalar_at}

-- a value of a base type by its form
scalar_form : (v : ValueTree) → scalar_at (form_of v) ≡ scalar v
scalar_form (int n) = refl
scalar_form (bool b) = refl
scalar_form (char c) = refl
scalar_form unit = refl
scalar_form (pair v w) = refl
scalar_form (make n o vs) = refl
scalar_form (function l vs) = refl
scalar_form (end x) = refl

-- a sign that gives nothing for the last two values
pub none_computed : (o : Op) (l r : Form) (ops : List ValueTree) → Some l ≡ option_map form_of (slice_get ops 1) →
    Some r ≡ option_map form_of (slice_get ops 0) →
    operated o (scalar_at l) (scalar_at r) ≡ None → computed o ops ≡ None
none_computed o l r [] h g e = refl
none_computed o l r (w ∷ []) h g e = refl
none_computed o l r (w ∷ v ∷ ops) h g e =
    let same : operated o (scalar v) (scalar w) ≡ operated o (scalar_at l) (scalar_at r) =
    λ i. operated o ((sym (scalar_form v) ∙ ap scalar_at (sym (same_Some l (form_of v) h))) i)
    ((sym (scalar_form w) ∙ ap scalar_at (sym (same_Some r (form_of w) g))) i)
    in
    ap (option_map (λ u. of_scalar u ∷ ops)) (same ∙ e)

-- what a step comes to that makes one of the last values
joined_on : (j i : ℕ) (f : ValueTrees → ValueTree) (slots : Slots) (ops : List ValueTree) (calls : List Call)
    (o : Option (ValueTrees × List ValueTree)) →
    joined j o f (spot_of i (parts slots ops calls)) ≡ option_map
    (λ new. spot_of j (parts slots new calls)) (option_map (λ p. f p.0 ∷ p.1) o)
joined_on j i f slots ops calls None = refl
joined_on j i f slots ops calls (Some p) = refl

-- a function of the last values that it captures
function_made : (c : Compiled) (l j : ℕ) (slots : Slots) (ops new : List ValueTree) (calls : List Call)
    (r : Result Bool AllocError) →
    Makes (gathered (function l) (captured_count (slice_get c.lambdas l))) ops r new →
    Acts c (instr.Function l) j (parts slots ops calls) (gone_on j r) (parts slots new calls)
function_made c l j slots ops new calls (Ok true) m =
    λ i. joined_on j i (function l) slots ops calls (collected (captured_count (slice_get c.lambdas l)) ops none)
    ∙ ap (option_map (λ z. spot_of j (parts slots z calls))) m
function_made c l j slots ops new calls (Ok false) m = (
  λ i. joined_on j i (function l) slots ops calls (collected (captured_count (slice_get c.lambdas l)) ops none)
      ∙ ap (option_map (λ z. spot_of j (parts slots z calls))) m.0,
  ap (λ z. parts slots z calls) m.1,
)
function_made c l j slots ops new calls (Err e) m = ap (λ z. parts slots z calls) m

-- so it is where the numbers come from elsewhere
pub function_acts : (c : Compiled) (a : Instr) (l j n : ℕ) (slots : Slots) (ops new : List ValueTree) (calls : List Call)
    (r : Result Bool AllocError) (out : Result (Option ℕ) AllocError) →
    a ≡ instr.Function l → n ≡ captured_count (slice_get c.lambdas l) → out ≡ gone_on j r →
    Makes (gathered (function l) n) ops r new →
    Acts c a j (parts slots ops calls) out (parts slots new calls)
function_acts c a l j n slots ops new calls r out e k o m =
    let made = function_made c l j slots ops new calls r (subst (λ (z : ℕ). Makes (gathered (function l) z) ops r new) k m) in
    subst (λ z. Acts c z j (parts slots ops calls) out (parts slots new calls)) (sym e)
    (subst (λ z. Acts c (instr.Function l) j (parts slots ops calls) z (parts slots new calls)) (sym o) made)
