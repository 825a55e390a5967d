-- The parts of a row as a list.
use Rattle.std.proofs.Common.{◌≡◌, ◌∙◌, refl, ap, Vec, Global}
use Rattle.fst_types.specs.Tree.{Tree}
use Rattle.fst_derivations.specs.Deriv.{row, part, deriv_of, derivs_of, parts_of}
use Rattle.fst_derivations.specs.declared.derivation.Derivation.{Derivation, Row_of-Derivation, end_of-Derivation, more_of-Derivation, items-the_row-Derivation, items_hidden-the_row-Derivation-0}
use Rattle.fst_derivations.specs.declared.derivation.Derivation.TheViews.{Row}
use Rattle.fst_derivations.specs.declared.derivation.Derivation.TheBlock.{hidden-the_row-Derivation-0}

row_items : {m : _} (k : Row_of-Derivation m) → derivs_of k ≡ parts_of (items-the_row-Derivation m k)
row_items end_of-Derivation = refl
row_items (more_of-Derivation d rest) = ap (part (deriv_of d)) (row_items rest)

-- the parts of a row are those of the vector that it was made of
pub row_hidden : (v : Vec Derivation Global) → derivs_of (hidden-the_row-Derivation-0 v) ≡ parts_of v.items
row_hidden v = row_items (hidden-the_row-Derivation-0 v) ∙ ap parts_of (items_hidden-the_row-Derivation-0 v)

-- the plain form of a row
pub is_row : (t : Tree) (v : Vec Derivation Global) → deriv_of (Row t v) ≡ row t (parts_of v.items)
is_row t v = ap (row t) (row_hidden v)
