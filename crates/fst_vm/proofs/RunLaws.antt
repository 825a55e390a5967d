-- Steps one after the other.
use Rattle.std.proofs.Common.{◌≡◌, ◌∙◌, ◌-◌, ℕ, Bool, true, false, Option, Some, None, sym, ap, subst}
use Rattle.std.specs.declared.result.Result.{Result}
use Rattle.std.specs.declared.result.Result.TheVariants.{Ok, Err}
use Rattle.std.specs.declared.alloc.AllocError.{AllocError}
use Rattle.std.specs.Result.{IsErr}
use Rattle.std.proofs.lemmas.Bool.{false≢true}
use Rattle.fst_value.specs.Stacks.{Makes}
use Rattle.fst_machine.specs.declared.code.Instr.{Instr}
use Rattle.fst_machine.specs.Code.{Compiled}
use Rattle.fst_machine.specs.Spots.{Spot, ran, inner}
use Rattle.fst_vm.specs.Acts.{Acts, Parts, spot_of}
use Rattle.fst_vm.specs.Running.{ComesTo, here, next, instr_there}
use Rattle.fst_vm.proofs.PlaceLaws.{read_there}

-- one more step
pub one_further : (c : Compiled) (s t u : Spot) → ComesTo c s t → inner c t ≡ Some u → ComesTo c s u
one_further c s t u here e = next e here
one_further c s t u (next f k) e = next f (one_further c _ t u k e)

-- a step that was made
pub stepped : (c : Compiled) (a : Instr) (old new : Parts) (p q : ℕ) (o : Option ℕ) (s : Spot) → spot_of p old ≡ s →
    Some a ≡ instr_there c p → o ≡ Some q → Acts c a (p - 1) old (Ok o) new →
    inner c s ≡ Some (spot_of q new)
stepped c a old new p q o s v h e m =
    let there = read_there c p a (λ b j. ran c b j (spot_of p old) old.operands) h in
    let made : Acts c a (p - 1) old (Ok (Some q)) new = subst (λ (z : Option ℕ). Acts c a (p - 1) old (Ok z) new) e m in
    ap (inner c) (sym v) ∙ there ∙ made p

-- a step that there isn't
pub not_stepped : (c : Compiled) (a : Instr) (old new : Parts) (p : ℕ) (o : Option ℕ) (s : Spot) → spot_of p old ≡ s →
    Some a ≡ instr_there c p → o ≡ None → Acts c a (p - 1) old (Ok o) new →
    (inner c s ≡ None) × (spot_of p new ≡ s)
not_stepped c a old new p o s v h e m =
    let there = read_there c p a (λ b j. ran c b j (spot_of p old) old.operands) h in
    let none : Acts c a (p - 1) old (Ok None) new = subst (λ (z : Option ℕ). Acts c a (p - 1) old (Ok z) new) e m in
    (ap (inner c) (sym v) ∙ there ∙ none.0 p, ap (spot_of p) none.1 ∙ v)

-- where memory is wanting nothing changes
pub unchanged : {X : Type 0} (f : X → Option X) (old new : X) (r : Result Bool AllocError) → IsErr r → new ≡ old →
    Makes f old r new
unchanged f old new (Ok b) h e = absurd (false≢true h)
unchanged f old new (Err d) h e = e

-- what a step comes to says nothing but of where it begins
pub makes_alike : {X : Type 0} (f g : X → Option X) (old new : X) (r : Result Bool AllocError) → g old ≡ f old →
    Makes f old r new → Makes g old r new
makes_alike f g old new (Ok true) e m = e ∙ m
makes_alike f g old new (Ok false) e m = (e ∙ m.0, m.1)
makes_alike f g old new (Err d) e m = m
