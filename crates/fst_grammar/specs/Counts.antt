-- What is counted of a type.
use Rattle.fst_types.specs.Tree.{Tree}
use Rattle.fst_types.specs.Size.{nodes}
use Rattle.fst_lts.specs.Step.{terminated}
use Rattle.fst_parts.specs.Place.{open_depth}
use Rattle.fst_parts.specs.declared.counts.Counts.{Counts}

-- the counts of a type
abbrev pub tree_counts : Tree → Counts
tree_counts t = record { nodes = nodes t; open_depth = open_depth t; terminated = terminated t }
