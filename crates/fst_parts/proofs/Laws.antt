-- What other crates cite of labels, and of parts and their numbers.
use Rattle.std.proofs.Common.{◌≡◌, ◌<◌, ◌+◌, ℕ, List, [], ◌++◌, length, drop, get_or}
use Rattle.fst_base.specs.Order.{IsRising}
use Rattle.fst_types.specs.ModelView.{branches_of}
use Rattle.fst_types.specs.Order.{label_cmp}
use Rattle.fst_types.specs.Size.{nodes}
use Rattle.fst_types.specs.Tree.{Tree, branch}
use Rattle.fst_types.specs.declared.label.Label.{Label}
use Rattle.fst_types.specs.declared.ty.Branch.{Branch}
use Rattle.fst_parts.specs.Counts.{counts_of}
use Rattle.fst_parts.specs.Labels.{labels_in, names, AreLetters}
use Rattle.fst_parts.specs.Letters.{with_labels}
use Rattle.fst_parts.specs.Place.{open_depth}
use Rattle.fst_parts.specs.Shapes.{shape_of}
use Rattle.fst_parts.proofs.BranchLaws as branches
use Rattle.fst_parts.proofs.CountLaws as counts
use Rattle.fst_parts.proofs.LabelLaws as labels
use Rattle.fst_parts.proofs.PlaceLaws as places
-- two types pass the test exactly where they are one
pub use Rattle.fst_parts.proofs.SameLaws.{same_tree_is}

-- what is inserted one by one into no labels are the labels of both types, each at its place
pub letters_are : (s r : Tree) → AreLetters s r (with_labels [] (labels_in s ++ labels_in r))
letters_are = labels.letters_are

-- the names among labels in order are in order
pub names_rise : (letters : List Label) → IsRising label_cmp letters → IsRising label_cmp (names letters)
names_rise = places.names_rise

-- the branches from a place on: the one there, and then the others
pub branches_at : (bs : List Branch) (i : ℕ) (b : Branch) → i < length bs → b ≡ get_or bs i b →
    branches_of (drop i bs) ≡ branch b.label b.body (branches_of (drop (i + 1) bs))
branches_at = branches.branches_at

-- the nodes that are counted of a type's shape are those of the type
pub nodes_of_tree : (t : Tree) → (counts_of (shape_of t)).nodes ≡ nodes t
nodes_of_tree = counts.nodes_of_tree

-- and so is how many binders it asks for
pub depth_of_tree : (t : Tree) → (counts_of (shape_of t)).open_depth ≡ open_depth t
depth_of_tree = counts.depth_of_tree
