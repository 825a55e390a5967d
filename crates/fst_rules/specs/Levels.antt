-- A term and its derivation as the innermost first part and what stands around it.
use Rattle.std.specs.Prelude.{◌≡◌, ◌<◌, ℕ, List, [], ◌∷◌, Some, IsFalse, slice_get, ⊤}
use Rattle.fst_types.specs.Tree.{Tree}
use Rattle.fst_terms.specs.Around.{has_first}
use Rattle.fst_terms.specs.CoreTree.{CoreTree, core_height}
use Rattle.fst_derivations.specs.Deriv.{Deriv, Derivs, deriv_of}
use Rattle.fst_derivations.specs.Parts.{IsAnyConversion}
use Rattle.fst_context.specs.Vars.{no_vars}
use Rattle.fst_terms.specs.declared.core_module.Module.{Module}
use Rattle.fst_terms.specs.declared.global.GlobalEntry.{GlobalEntry}
use Rattle.fst_derivations.specs.Modules.{surroundings}
use Rattle.fst_derivations.specs.Rules.{Surroundings, Binding, fields, rest, Converted, converting, At, Row}
use Rattle.fst_rules.specs.Walks.{Walk, nowhere, after, row_walk, walk_of}
use Rattle.fst_rules.specs.declared.binding.Binds.{Binds}
use Rattle.fst_rules.specs.declared.binding.Binds.TheVariants.{Fields, Rest}
use Rattle.fst_rules.specs.declared.levels.Place.{Place}
use Rattle.fst_rules.specs.declared.levels.Level.{Level}
use Rattle.fst_rules.specs.declared.levels.Down.{Down}
use Rattle.fst_rules.specs.declared.levels.Down.TheVariants.{Head, Wrong, Step}

-- what the terms of an equation speak of
abbrev pub surroundings_at : Place → Surroundings
surroundings_at p = surroundings p.module.now p.vars.now

-- the walk over the levels around a part, the last first
abbrev pub rest_walk : Surroundings → List Level → Walk
rest_walk m [] = Some
rest_walk m (l ∷ ls) = after (rest_walk m ls) (walk_of m l.term.now (deriv_of l.derivation.now))

-- the terms of levels are lower than n
abbrev pub AreLower : ℕ → List Level → Type 0
AreLower n [] = ⊤
AreLower n (l ∷ ls) = (core_height l.term.now < n) × AreLower n ls

-- what stands below a row of a term
abbrev pub Descends : Surroundings → CoreTree → Tree → Derivs → Down → Type 0
Descends m e t ds Head = IsFalse (has_first e)
Descends m e t ds Wrong = row_walk m e t ds ≡ nowhere
Descends m e t ds (Step f d l) =
    (row_walk m e t ds ≡ after (walk_of m f.now (deriv_of d.now))
    (walk_of m l.term.now (deriv_of l.derivation.now))) ×
    (core_height f.now < core_height e) × (core_height l.term.now < core_height e)

-- what the variables of arms hold
abbrev pub binding_of : Binds → Binding
binding_of (Fields makers) = fields makers.now
binding_of (Rest s) = rest s.now

-- the tree is a derivation of the global's equation at its signature
abbrev pub IsDerived : Module → GlobalEntry → Deriv → Type 0
IsDerived m g d =
    (t : Tree) × (slice_get m.types.items g.signature ≡ Some t) ×
    At g.kinds.items t (Converted (IsAnyConversion g.kinds.items))
    (Row (surroundings m g.kinds.items) (converting (IsAnyConversion g.kinds.items)) g.body [])
    no_vars d
