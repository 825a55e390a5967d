-- Which arms stand for which constructors or labels.
use Rattle.std.specs.Prelude.{◌≡◌, ◌↔◌, ◌<◌, ℕ, List, [], ◌∷◌, length, slice_get, slice_index, Some, Contains}
use Rattle.std.specs.List.{IsDistinct}
use Rattle.std.specs.Str.{bytes_eq}
use Rattle.fst_types.specs.declared.family.Maker.{Maker}
use Rattle.fst_terms.specs.CoreTree.{CoreArms, no_arms, arm}
use Rattle.fst_terms.specs.InRange.{maker_named}
use Rattle.fst_terms.specs.declared.core_term.Arm.{Arm}

-- the labels of arms
abbrev pub arm_labels : CoreArms → List (List ℕ)
arm_labels no_arms = []
arm_labels (arm l xs t bs) = l ∷ arm_labels bs

-- the same names, each found once
pub record AreEachOnce (wanted found : List (List ℕ)) : Type 0 where
  pub distinct : IsDistinct bytes_eq found
  pub same : (x : List ℕ) → Contains wanted x ↔ Contains found x

-- each arm has the number of the first constructor with its label
pub record AreMakerNumbers (makers : List Maker) (arms : List Arm) (numbers : List ℕ) : Type 0 where
  pub as_many : length numbers ≡ length arms
  pub within : (k : ℕ) → k < length arms → slice_index numbers k < length makers
  pub named : (k : ℕ) (b : Arm) → slice_get arms k ≡ Some b →
      maker_named b.label makers ≡ slice_get makers (slice_index numbers k)
