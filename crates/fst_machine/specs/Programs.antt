-- What terms of a module speak of, and which code is a module's.
use Rattle.std.specs.Prelude.{◌≡◌, ℕ, List, [], ◌∷◌, length, Option, Some, None, codes, if◌then◌else◌}
use Rattle.std.specs.Str.{bytes_eq}
use Rattle.fst_types.specs.Tree.{Tree}
use Rattle.fst_types.specs.declared.family.Family.{Family}
use Rattle.fst_terms.specs.CoreTree.{CoreTree}
use Rattle.fst_terms.specs.declared.core_module.Module.{Module}
use Rattle.fst_terms.specs.declared.global.GlobalEntry.{GlobalEntry}
use Rattle.fst_machine.specs.declared.code.Instr.{Instr}
use Rattle.fst_machine.specs.declared.entry.LambdaEntry.{LambdaEntry}
use Rattle.fst_machine.specs.Machine.{Program}
use Rattle.fst_machine.specs.Code.{Compiled, Comes, IsCode}
use Rattle.fst_machine.specs.Standing.{GoesDown}

-- the bodies of globals
abbrev pub bodies : List GlobalEntry → List CoreTree
bodies [] = []
bodies (g ∷ gs) = g.body ∷ bodies gs

-- the program that a module is
abbrev pub program : Module → Program
program m = record { families = m.families.items; bodies = bodies m.globals.items }

-- the body of the global named main
abbrev pub main_body : List GlobalEntry → Option CoreTree
main_body [] = None
main_body (g ∷ gs) = if bytes_eq g.name (codes "main") then Some g.body else main_body gs

-- the place where its code starts, where these are the places of the globals
abbrev pub main_place : List GlobalEntry → List ℕ → Option ℕ
main_place [] is = None
main_place (g ∷ gs) [] = None
main_place (g ∷ gs) (i ∷ is) = if bytes_eq g.name (codes "main") then Some i else main_place gs is

-- code with its entries and the places of its globals
abbrev pub compiled : List Family → List Instr → List LambdaEntry → List ℕ → Compiled
compiled families code lambdas globals =
    record { families = families; code = code; lambdas = lambdas; globals = globals }

-- the code is the module's: it computes the bodies of the globals, begins with that of main at its greatest place, and goes
-- down; and its types are the module's
pub record IsCodeOf (m : Module) (code : List Instr) (lambdas : List LambdaEntry) (globals : List ℕ)
    (types : List Tree) : Type 0 where
  pub stands : IsCode (compiled m.families.items code lambdas globals) (bodies m.globals.items)
  pub start : ℕ
  pub starts : main_place m.globals.items globals ≡ Some start
  pub first : Comes (compiled m.families.items code lambdas globals) (length code) start
  pub down : GoesDown (compiled m.families.items code lambdas globals)
  pub same_types : types ≡ m.types.items
