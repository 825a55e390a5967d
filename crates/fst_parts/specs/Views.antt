-- What the code keeps, as the definitions see it.
use Rattle.std.specs.Prelude.{◌≡◌, ℕ, List, [], ◌∷◌, map, All, Bool, if◌then◌else◌}
use Rattle.fst_types.specs.Tree.{Tree}
use Rattle.fst_types.specs.declared.label.Label.{Label}
use Rattle.fst_types.specs.declared.label.Label.TheVariants.{Select, Offer}
use Rattle.fst_parts.specs.Shapes.{shape_of}
use Rattle.fst_parts.specs.Keys.{Stands}
use Rattle.fst_parts.specs.Place.{Place}
use Rattle.fst_parts.specs.Once.{Part}
use Rattle.fst_parts.specs.declared.found.Found.{Found}
use Rattle.fst_parts.specs.declared.numbers.Numbered.{Numbered}
use Rattle.fst_parts.specs.declared.parts.Parts.{Parts}
use Rattle.fst_parts.specs.declared.parts.Binders.{Binders, Top, Under'}

-- the label of a branch
abbrev pub branch_label : Bool → List ℕ → Label
branch_label offers l = if offers then Offer l else Select l

-- the place at this count of nodes in a closed type, under these binders
abbrev pub place_in : Tree → ℕ → List ℕ → Place
place_in whole at binders = record { whole = whole; at = at; binders = binders }

-- the part that a found one stands for
abbrev pub part_of : Found → Part
part_of p = record { place = place_in p.whole.ty.now p.at p.binders.items; type = p.part.ty.now }

-- the places of the binders around, from the innermost outward
abbrev pub places_of : Binders → List ℕ
places_of Top = []
places_of (Under' n p outer) = n ∷ places_of outer

-- the number of a type is that of its tree
abbrev pub HasNumber : List (List ℕ) → Numbered → Type 0
HasNumber keys t = Stands keys t.number (shape_of t.ty.now)

-- a part and the closed type around it have their numbers
pub record AreNumbered (keys : List (List ℕ)) (p : Found) : Type 0 where
  pub whole : HasNumber keys p.whole
  pub part : HasNumber keys p.part

-- what a part is found by: the number of its closed type, and its place there
abbrev pub key_of : Found → List ℕ
key_of p = p.whole.number ∷ p.at ∷ []

-- the parts have their numbers, and are found by them in this order
pub record IsKept (keys : List (List ℕ)) (p : Parts) : Type 0 where
  pub index : p.index ≡ map key_of p.found.items
  pub numbered : All (AreNumbered keys) p.found.items
