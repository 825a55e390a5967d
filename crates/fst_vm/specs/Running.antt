-- Code that runs on to where it asks for something.
use Rattle.std.specs.Prelude.{◌≡◌, ℕ, zero, suc, Option, List, Some, None, slice_get}
use Rattle.fst_types.specs.declared.family.Family.{Family}
use Rattle.fst_machine.specs.declared.code.Code.{Code}
use Rattle.fst_machine.specs.declared.code.Instr.{Instr}
use Rattle.fst_machine.specs.Code.{Compiled}
use Rattle.fst_machine.specs.Programs.{compiled}
use Rattle.fst_machine.specs.Spots.{Spot, inner}

-- the code with its entries
abbrev pub code_of : List Family → Code → Compiled
code_of fs k = compiled fs k.code.items k.lambdas.items k.globals.items

-- one spot comes to another by steps that ask for nothing
pub data ComesTo (c : Compiled) : Spot → Spot → Type 0 where
  here : {s : Spot} → ComesTo c s s
  next : {s t u : Spot} → inner c s ≡ Some t → ComesTo c t u → ComesTo c s u

-- the instruction at a place
abbrev pub instr_there : Compiled → ℕ → Option Instr
instr_there c zero = None
instr_there c (suc j) = slice_get c.code j
