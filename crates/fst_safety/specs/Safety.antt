-- What is said of every run of a module that has a derivation.
use Rattle.std.specs.Prelude.{◌≡◌, List, [], ◌∷◌, Option, Some, None, slice_get, ⊤, codes, if◌then◌else◌}
use Rattle.std.specs.Str.{bytes_eq}
use Rattle.fst_types.specs.Tree as type
use Rattle.fst_types.specs.Tree.{Tree, plain, named}
use Rattle.fst_types.specs.declared.base.Base.TheVariants.{Int, Bool as Truth, Char, Unit as Nothing}
use Rattle.fst_types.specs.declared.family.Maker.{Maker}
use Rattle.fst_kinds.specs.WellFormed.{IsSession}
use Rattle.fst_terms.specs.CoreTree.{CoreTree}
use Rattle.fst_terms.specs.InRange.{maker_of}
use Rattle.fst_terms.specs.declared.core_module.Module.{Module}
use Rattle.fst_terms.specs.declared.global.GlobalEntry.{GlobalEntry}
use Rattle.fst_derivations.specs.Deriv.{Deriv}
use Rattle.fst_derivations.specs.Modules.{HasDerivations}
use Rattle.fst_derivations.specs.Parts.{AreAt}
use Rattle.fst_types.specs.declared.ends.ChannelName.{ChannelName}
use Rattle.fst_machine.specs.Values as value
use Rattle.fst_machine.specs.Values.{Value, Values, no_values}
use Rattle.fst_machine.specs.Machine.{pause, ended}
use Rattle.fst_runs.specs.declared.event.CoreEvent.{CoreEvent}
use Rattle.fst_runs.specs.Configs.{Config, Task, Channel, program, main_body, main_path, started}
use Rattle.fst_runs.specs.Events.{Runs}
use Rattle.fst_runs.specs.Wrong.{IsRight}

abbrev mutual
  -- no function and no end stands in the value
  pub IsShown : Value → Type 0
  IsShown (value.int n) = ⊤
  IsShown (value.bool b) = ⊤
  IsShown (value.char c) = ⊤
  IsShown value.unit = ⊤
  IsShown (value.pair v w) = IsShown v × IsShown w
  IsShown (value.made n o vs) = AreShown vs
  IsShown (value.function e env) = ⊥
  IsShown (value.end x) = ⊥

  -- nor in these values
  pub AreShown : Values → Type 0
  AreShown no_values = ⊤
  AreShown (value.value v vs) = IsShown v × AreShown vs

abbrev mutual
  -- the value is one of the type, whose values can be printed
  pub IsOf : Module → Value → Tree → Type 0
  IsOf m (value.int n) t = t ≡ plain Int
  IsOf m (value.bool b) t = t ≡ plain Truth
  IsOf m (value.char c) t = t ≡ plain Char
  IsOf m value.unit t = t ≡ plain Nothing
  IsOf m (value.pair v w) t = (a : Tree) × (b : Tree) ×
      (t ≡ type.pair a b) × IsOf m v a × IsOf m w b
  IsOf m (value.made n o vs) t =
      (c : Maker) × (ts : List Tree) × (maker_of (slice_get m.families.items n) o ≡ Some c) ×
      AreAt m.types.items c.fields.items ts ×
      AreOf m vs ts × (t ≡ named n)
  IsOf m (value.function e env) t = ⊥
  IsOf m (value.end x) t = ⊥

  -- the values are of these types, one each
  pub AreOf : Module → Values → List Tree → Type 0
  AreOf m no_values [] = ⊤
  AreOf m no_values (t ∷ ts) = ⊥
  AreOf m (value.value v vs) [] = ⊥
  AreOf m (value.value v vs) (t ∷ ts) = IsOf m v t × AreOf m vs ts

-- the type that the global named main is declared with, by its number in these types
abbrev pub main_type : List Tree → List GlobalEntry → Option Tree
main_type types [] = None
main_type types (g ∷ gs) = if bytes_eq g.name
    (codes "main") then slice_get types g.signature else main_type types gs

-- the value is one of main's declared type, and no function and no end stands in it
pub record HasMainType (m : Module) (v : Value) : Type 0 where
  pub type : Tree
  pub declared : main_type m.types.items m.globals.items ≡ Some type
  pub typed : IsOf m v type
  pub shown : IsShown v

-- nothing is wrong in the configuration; each channel's declared type is a closed well-formed session type; and where main has ended,
-- its value is one of main's declared type
pub record IsSafeAt (m : Module) (c : Config) : Type 0 where
  pub right : IsRight (program m) c
  pub sessions : (h : ChannelName) (k : Channel) → c.channels h ≡ Some k → IsSession [] k.declared
  pub result : (t : Task) (v : Value) → c.tasks main_path ≡ Some t →
      pause m.families.items t.state ≡ ended v → HasMainType m v

-- so it is whatever happens from this configuration on, in any order
abbrev pub StaysSafe : Module → Config → Type 0
StaysSafe m c = (es : List CoreEvent) (d : Config) → Runs (program m) m.types.items c es d →
    IsSafeAt m d

-- so it is in every run of the module
abbrev pub IsSafe : Module → Type 0
IsSafe m = (e : CoreTree) → main_body m.globals.items ≡ Some e → StaysSafe m (started e)

-- each module that has derivations is safe
abbrev pub DerivedIsSafe : Type 0
DerivedIsSafe = (m : Module) (ds : List Deriv) → HasDerivations m ds → IsSafe m
