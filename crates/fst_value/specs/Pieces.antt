-- What is still to be written of a value.
use Rattle.std.specs.Prelude.{◌≡◌, ℕ, ◌+◌, ◌*◌, nat_lt, List, [], ◌∷◌, ◌++◌, length, drop, reverse, slice_get, codes}
use Rattle.std.specs.Prelude.{Bool, true, false, ◌&&◌, Option, None, Some, is_some, Result, IfOk}
use Rattle.std.specs.Fmt.{signed_decimal}
use Rattle.std.specs.Int.{is_negative}
use Rattle.std.specs.List.{flat_map}
use Rattle.std.specs.String.{string_bytes}
use Rattle.std.specs.declared.string.String.{String}
use Rattle.std.specs.declared.vec.Vec.{Vec}
use Rattle.fst_types.specs.declared.family.Family.{Family}
use Rattle.fst_types.specs.declared.family.Maker.{Maker}
use Rattle.fst_value.specs.ValueTree.{ValueTree}
use Rattle.fst_value.specs.declared.cells.Cell.{Cell}
use Rattle.fst_value.specs.declared.cells.Cell.TheVariants as cell
use Rattle.fst_value.specs.declared.printing.Piece.{Piece}
use Rattle.fst_value.specs.declared.printing.Piece.TheVariants.{Close, Next, Second, Fields}
use Rattle.fst_value.specs.declared.nodes.Node.{Node}
use Rattle.fst_value.specs.Cells.{taken}
use Rattle.fst_value.specs.Nodes.{nodes_of, values_in}
use Rattle.fst_value.specs.Texts.{truth_text, character_text, maker_in, value_text, fields_text}

-- the first of these values, if there is one
abbrev pub next_text : List Family → List ValueTree → List ℕ
next_text families [] = []
next_text families (v ∷ vs) = value_text families v

-- pieces, of which the first is written first, and the values that they take in order
abbrev pub pieces_text : List Family → List Piece → List ValueTree → List ℕ
pieces_text families [] vs = []
pieces_text families (Close ∷ ps) vs = codes ")" ++ pieces_text families ps vs
pieces_text families (Next ∷ ps) vs = next_text families vs ++ pieces_text families ps (drop 1 vs)
pieces_text families (Second ∷ ps) vs =
    codes ", " ++ next_text families vs ++ pieces_text families ps (drop 1 vs)
pieces_text families (Fields k ∷ ps) vs =
    fields_text families (taken k vs) ++ pieces_text families ps (drop k vs)

-- a text, and behind it pieces with the values that these nodes spell
abbrev pub whole_text : {Z : Type 0} → List Family → String Z → List Piece → List Node → List ℕ
whole_text families text ps ns = string_bytes text ++ pieces_text families ps (values_in ns)

-- where there is memory, and the nodes from a place on are left, the whole text is what it was with these pieces and the nodes
-- from the old place on
abbrev pub Unfolds : {E Z A : Type 0} → Result ℕ E → List Family → String Z → String Z →
    List Piece → Vec Piece A → List Node → ℕ → Type 0
Unfolds result families old new ps stack ns at =
    IfOk result (λ behind. whole_text families new
    (reverse stack.items) (drop behind ns) ≡ whole_text families old ps (drop at ns))

-- the nodes of the first value's parts and what stands behind it, or this alone where its parts aren't shown
abbrev pub behind_root : Bool → List Node → List Node
behind_root true ns = drop 1 ns
behind_root false ns = flat_map nodes_of (drop 1 (values_in ns))

-- as many pieces as are still to come, or more
abbrev pub weight : List Piece → List Node → ℕ
weight ps ns = length ps + 8 * length ns

-- the name of a constructor, if there is one
abbrev pub maker_name : Option Maker → List ℕ
maker_name (Some m) = m.name
maker_name None = codes "?"

-- how the value with this root begins
abbrev pub root_text : List Family → Cell → List ℕ
root_text families (cell.Int n) = signed_decimal n
root_text families (cell.Bool b) = truth_text b
root_text families (cell.Char c) = codes "'" ++ character_text c ++ codes "'"
root_text families cell.Unit = codes "()"
root_text families cell.Pair = codes "("
root_text families (cell.Make n o k) = maker_name (maker_in (slice_get families n) o)
root_text families (cell.Function l k) = codes "?"
root_text families (cell.End x) = codes "?"

-- the fields of a constructor, if there is one
abbrev pub made_pieces : Option Maker → ℕ → List Piece
made_pieces (Some m) k = Fields k ∷ []
made_pieces None k = []

-- what is written behind that
abbrev pub root_pieces : List Family → Cell → List Piece
root_pieces families (cell.Int n) = []
root_pieces families (cell.Bool b) = []
root_pieces families (cell.Char c) = []
root_pieces families cell.Unit = []
root_pieces families cell.Pair = Next ∷ Second ∷ Close ∷ []
root_pieces families (cell.Make n o k) = made_pieces (maker_in (slice_get families n) o) k
root_pieces families (cell.Function l k) = []
root_pieces families (cell.End x) = []

-- the parts of a value with this root are written, if it has any
abbrev pub is_shown : List Family → Cell → Bool
is_shown families (cell.Int n) = true
is_shown families (cell.Bool b) = true
is_shown families (cell.Char c) = true
is_shown families cell.Unit = true
is_shown families cell.Pair = true
is_shown families (cell.Make n o k) = is_some (maker_in (slice_get families n) o)
is_shown families (cell.Function l k) = false
is_shown families (cell.End x) = false

-- a value with this root stands in parentheses as a field
abbrev pub root_enclosed : List Family → Cell → Bool
root_enclosed families (cell.Int n) = is_negative n
root_enclosed families (cell.Bool b) = false
root_enclosed families (cell.Char c) = false
root_enclosed families cell.Unit = false
root_enclosed families cell.Pair = false
root_enclosed families (cell.Make n o k) = nat_lt 0 k && is_some (maker_in (slice_get families n) o)
root_enclosed families (cell.Function l k) = false
root_enclosed families (cell.End x) = false
