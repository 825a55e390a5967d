-- The instruction at a place.
use Rattle.std.proofs.Common.{◌≡◌, ◌∙◌, ℕ, zero, suc, ◌-◌, ◌<◌, Option, Some, None, option_and_then, refl, sym, ap, arith}
use Rattle.std.proofs.lemmas.Option.{none-some}
use Rattle.fst_machine.specs.declared.code.Instr.{Instr}
use Rattle.fst_machine.specs.Code.{Compiled}
use Rattle.fst_machine.specs.Spots.{on_instr}
use Rattle.fst_vm.specs.Running.{instr_there}

-- what is read at a place that has an instruction
pub read_there : {X : Type 0} (c : Compiled) (p : ℕ) (a : Instr) (f : Instr → ℕ → Option X) → Some a ≡ instr_there c p →
    on_instr c p f ≡ f a (p - 1)
read_there c zero a f h = absurd (none-some a (sym h))
read_there c (suc j) a f h =
    let e : j ≡ suc j - 1 = omega arith in
    ap (λ (o : Option Instr). option_and_then (λ k. f k j) o) (sym h) ∙ ap (f a) e

-- where there is none, nothing is read
pub nothing_there : {X : Type 0} (c : Compiled) (p : ℕ) (f : Instr → ℕ → Option X) → None ≡ instr_there c p →
    on_instr c p f ≡ None
nothing_there c zero f h = refl
nothing_there c (suc j) f h = ap (λ (o : Option Instr). option_and_then (λ k. f k j) o) (sym h)

-- place 0 has none
pub there_is_place : (c : Compiled) (p : ℕ) (a : Instr) → Some a ≡ instr_there c p → 0 < p
there_is_place c zero a h = absurd (none-some a (sym h))
there_is_place c (suc j) a h = omega arith
