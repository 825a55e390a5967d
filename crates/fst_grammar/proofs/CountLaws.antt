-- What is counted of types.
use Rattle.std.proofs.Common.{◌≡◌, refl, ◌&&◌}
use Rattle.fst_types.specs.declared.kind.Use.TheVariants.{Many, Once}
use Rattle.fst_types.specs.Tree.{Tree, skip, send, receive, close, wait, select, offer, seq, rec, back, var, plain, arrow, pair, named}
use Rattle.fst_lts.specs.Step.{terminated}
use Rattle.fst_parts.specs.Counts.{counts_of}
use Rattle.fst_parts.specs.Shapes.{shape_of}
use Rattle.fst_parts.proofs.Laws.{nodes_of_tree, depth_of_tree}
use Rattle.fst_grammar.specs.Counts.{tree_counts}

-- a shape is terminated where its tree is
ended_tree : (t : Tree) → (counts_of (shape_of t)).terminated ≡ terminated t
ended_tree skip = refl
ended_tree (send b) = refl
ended_tree (receive b) = refl
ended_tree close = refl
ended_tree wait = refl
ended_tree (select cs) = refl
ended_tree (offer cs) = refl
ended_tree (seq s r) = λ i. ended_tree s i && ended_tree r i
ended_tree (rec s) = ended_tree s
ended_tree (back k) = refl
ended_tree (var k) = refl
ended_tree (plain b) = refl
ended_tree (arrow Many s r) = refl
ended_tree (arrow Once s r) = refl
ended_tree (pair s r) = refl
ended_tree (named k) = refl

-- the counts of a tree's shape are those of the tree
pub counts_of_tree : (t : Tree) → counts_of (shape_of t) ≡ tree_counts t
counts_of_tree t = λ i. record { nodes = nodes_of_tree t i; open_depth = depth_of_tree t i; terminated = ended_tree t i }
