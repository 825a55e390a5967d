-- Whether code leads back, by the way of its first instruction.
use Rattle.std.proofs.Common.{◌≡◌, ◌+◌, ◌-◌, ◌<◌, ◌∙◌, ℕ, zero, suc, Bool, false, Option, Some, None, slice_get, unwrap_or, option_and_then, refl, sym, ap, arith}
use Rattle.fst_machine.specs.declared.code.Instr.{Instr}
use Rattle.fst_machine.specs.Code.{Compiled}
use Rattle.fst_machine.specs.Spots.{returns_by, leads_back}
use Rattle.fst_vm.specs.declared.places.Way.{Way}
use Rattle.fst_vm.specs.Running.{instr_there}
use Rattle.fst_vm.specs.Ways.{leads_by, leads_on}

by_instr : (f : ℕ → Bool) (j : ℕ) (o : Option Instr) →
    unwrap_or (option_and_then (λ a. Some (returns_by f a j)) o) false ≡ leads_on f j o
by_instr f j None = refl
by_instr f j (Some a) = refl

one_step : (n : ℕ) (c : Compiled) (at : ℕ) → leads_back (suc n) c at ≡ leads_on (leads_back n c) (at - 1) (instr_there c at)
one_step n c zero = refl
one_step n c (suc j) = by_instr (leads_back n c) j (slice_get c.code j)
    ∙ ap (λ k. leads_on (leads_back n c) k (slice_get c.code j)) (let h : j ≡ suc j - 1 = omega arith in h)

-- where steps are left, code leads back as the way at its place does
pub way_tells : (k i : ℕ) (c : Compiled) (at : ℕ) (w : Way) → i < k →
    ((f : ℕ → Bool) → leads_by f w ≡ leads_on f (at - 1) (instr_there c at)) →
    leads_back (k - i) c at ≡ leads_by (leads_back (k - (i + 1)) c) w
way_tells k i c at w less is =
    ap (λ n. leads_back n c at) (let h : k - i ≡ suc (k - (i + 1)) = omega (arith, less) in h)
    ∙ one_step (k - (i + 1)) c at ∙ sym (is (leads_back (k - (i + 1)) c))
