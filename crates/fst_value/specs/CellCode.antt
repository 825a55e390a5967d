-- Values as lists of cells, and cells as codes, and back.
use Rattle.std.specs.Prelude.{◌≡◌, ◌⊎◌, ℕ, ℤ, Bool, true, false, List, refl}
use Rattle.std.specs.Coded.{Coded, code_by, coded×, coded⊎, coded_ℕ, coded_ℤ, coded_bool, coded_list}
use Rattle.std.proofs.Common.{inl, inr}
use Rattle.fst_types.specs.declared.side.Side.{Side}
use Rattle.fst_types.specs.declared.side.Side.TheVariants.{Left, Right}
use Rattle.fst_value.specs.ValueTree.{ValueTree}
use Rattle.fst_types.specs.declared.ends.EndName.{EndName}
use Rattle.fst_value.specs.declared.cells.Cell.{Cell}
use Rattle.fst_value.specs.declared.cells.Cell.TheVariants as cell
use Rattle.fst_value.specs.Cells.{cells_of, spelled, first_or_unit}
use Rattle.fst_value.specs.CellFacts.{value-cells_of}

-- whether it is the left side
abbrev pub is_left : Side → Bool
is_left Left = true
is_left Right = false

-- the side by whether it is the left one
abbrev pub side_at : Bool → Side
side_at true = Left
side_at false = Right

-- a side comes back from whether it is the left one
pub side_at-is_left : (s : Side) → side_at (is_left s) ≡ s
side_at-is_left Left = refl
side_at-is_left Right = refl

-- ends, told apart by their codes
abbrev pub end_code : Coded EndName
end_code =
    code_by (List ℕ × (ℕ × Bool)) (coded× (coded_list coded_ℕ) (coded× coded_ℕ coded_bool))
    (λ x. (x.channel.maker, (x.channel.count, is_left x.side)))
    (λ p. record { channel = record { maker = p.0; count = p.1.0 }; side = side_at p.1.1 })
    (λ x i. record { channel = x.channel; side = side_at-is_left x.side i })

-- what a cell says: a number of its own or none, or how many parts there are, or an end
abbrev pub Said : Type 0
Said = ℤ ⊎ (Bool ⊎ (ℕ ⊎ (Bool ⊎ ((ℕ × (ℕ × ℕ)) ⊎ ((ℕ × ℕ) ⊎ EndName)))))

-- what this cell says
abbrev pub said : Cell → Said
said (cell.Int n) = inl n
said (cell.Bool b) = inr (inl b)
said (cell.Char c) = inr (inr (inl c))
said cell.Unit = inr (inr (inr (inl true)))
said cell.Pair = inr (inr (inr (inl false)))
said (cell.Make n o k) = inr (inr (inr (inr (inl (n, (o, k))))))
said (cell.Function l k) = inr (inr (inr (inr (inr (inl (l, k))))))
said (cell.End x) = inr (inr (inr (inr (inr (inr x)))))

-- the cell that says this
abbrev pub cell_of : Said → Cell
cell_of (inl n) = cell.Int n
cell_of (inr (inl b)) = cell.Bool b
cell_of (inr (inr (inl c))) = cell.Char c
cell_of (inr (inr (inr (inl true)))) = cell.Unit
cell_of (inr (inr (inr (inl false)))) = cell.Pair
cell_of (inr (inr (inr (inr (inl p))))) = cell.Make p.0 p.1.0 p.1.1
cell_of (inr (inr (inr (inr (inr (inl p)))))) = cell.Function p.0 p.1
cell_of (inr (inr (inr (inr (inr (inr x)))))) = cell.End x

-- a cell comes back from what it says
pub cell_of-said : (c : Cell) → cell_of (said c) ≡ c
cell_of-said (cell.Int n) = refl
cell_of-said (cell.Bool b) = refl
cell_of-said (cell.Char c) = refl
cell_of-said cell.Unit = refl
cell_of-said cell.Pair = refl
cell_of-said (cell.Make n o k) = refl
cell_of-said (cell.Function l k) = refl
cell_of-said (cell.End x) = refl

-- cells, told apart by their codes
abbrev pub cell_code : Coded Cell
cell_code =
    code_by Said
    (coded⊎ coded_ℤ (coded⊎ coded_bool
    (coded⊎ coded_ℕ (coded⊎ coded_bool
    (coded⊎ (coded× coded_ℕ (coded× coded_ℕ coded_ℕ))
    (coded⊎ (coded× coded_ℕ coded_ℕ) end_code))))))
    said cell_of cell_of-said

-- values, told apart by their cells
abbrev pub value_code : Coded ValueTree
value_code = code_by (List Cell) (coded_list cell_code) cells_of
    (λ cs. first_or_unit (spelled cs)) value-cells_of
