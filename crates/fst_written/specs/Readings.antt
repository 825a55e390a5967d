-- The types that stand in a module, and the variables in scope there.
use Rattle.std.specs.Prelude.{ℕ, zero, suc, nat_eq, List, [], ◌∷◌, ◌++◌, length, slice_index, if◌then◌else◌}
use Rattle.std.specs.List.{list_any}
use Rattle.fst_types.specs.declared.kind.Kind.{Kind}
use Rattle.fst_terms.specs.declared.core_module.Module.{Module}
use Rattle.fst_terms.specs.declared.global.GlobalEntry.{GlobalEntry}
use Rattle.fst_derivations.specs.Modules.{Standing, types_in, IsFormedAt, scope_at, global_types, family_types}
use Rattle.fst_written.specs.declared.readings.Occurrence.{Occurrence}

-- a type that stands in a module, by its number, and the kinds of the variables in scope there
pub record Reading : Type 0 where
  pub number : ℕ
  pub vars : List Kind

-- the types that stand in an equation whose signature has variables of these kinds
abbrev pub standing_readings : List Kind → List Standing → List Reading
standing_readings vars [] = []
standing_readings vars (p ∷ ps) = record { number = p.0; vars = scope_at vars p.1 }
    ∷ standing_readings vars ps

-- the types that stand in globals: of each one its signature, and then those of its equation in order of text
abbrev pub global_readings : List GlobalEntry → List Reading
global_readings [] = []
global_readings (g ∷ gs) =
    record { number = g.signature; vars = g.kinds.items }
    ∷ (standing_readings g.kinds.items (types_in g.body) ++ global_readings gs)

-- types over no variables
abbrev pub closed_readings : List ℕ → List Reading
closed_readings [] = []
closed_readings (k ∷ ks) = record { number = k; vars = [] } ∷ closed_readings ks

-- the numbers below n that aren't among these, the least first
abbrev pub others : List ℕ → ℕ → List ℕ
others ks zero = []
others ks (suc n) = if list_any (nat_eq n) ks then others ks n else others ks n ++ n ∷ []

-- the types of a module: those of its globals, the fields of its data types, and those that stand nowhere
abbrev pub readings : Module → List Reading
readings m =
    global_readings m.globals.items ++ (closed_readings (family_types m.families.items) ++
    closed_readings (others (global_types m.globals.items ++ family_types m.families.items)
    (length m.types.items)))

-- the byte at which a type of a module begins, by its number
abbrev pub begins_at : Module → ℕ → ℕ
begins_at m k = slice_index m.places.items k

-- the byte at which a type that stands in a module begins
abbrev pub begins : Module → Reading → ℕ
begins m r = begins_at m r.number

-- the type is there, and well formed over the variables in scope
abbrev pub IsFormedReading : Module → Reading → Type 0
IsFormedReading m r = IsFormedAt m.types.items r.vars r.number

-- what an occurrence stands for
abbrev pub reading_of : Occurrence → Reading
reading_of o = record { number = o.number; vars = o.kinds.now }
