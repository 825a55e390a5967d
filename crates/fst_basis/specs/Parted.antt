-- Words in two parts.
use Rattle.std.specs.Prelude.{ℕ, List, ◌++◌, reverse}
use Rattle.fst_basis.specs.declared.rewriting.Parted.{Parted}

-- the word whose parts these are
abbrev pub word_of : Parted → List ℕ
word_of w = w.front.items ++ reverse w.back.items
