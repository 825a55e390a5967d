-- How instructions lead back to where a body was asked for.
use Rattle.std.specs.Prelude.{ℕ, Bool, true, false, Option, Some, None}
use Rattle.fst_machine.specs.declared.code.Instr.{Instr}
use Rattle.fst_machine.specs.Spots.{returns_by}
use Rattle.fst_vm.specs.declared.places.Way.{Way}
use Rattle.fst_vm.specs.declared.places.Way.TheVariants.{Back, Over, Elsewhere}

-- whether a way leads back, where f says so of places
abbrev pub leads_by : (ℕ → Bool) → Way → Bool
leads_by f Back = true
leads_by f (Over place) = f place
leads_by f Elsewhere = false

-- whether code leads back that begins with this instruction, which place j follows
abbrev pub leads_on : (ℕ → Bool) → ℕ → Option Instr → Bool
leads_on f j None = false
leads_on f j (Some i) = returns_by f i j
