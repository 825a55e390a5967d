-- Numbers for the words of rules.
use Rattle.std.specs.Prelude.{◌≡◌, ℕ, ◌<◌, List, length, Some, slice_get}
use Rattle.std.specs.declared.vec.Vec.{Vec}
use Rattle.std.specs.declared.alloc.Global.{Global}
use Rattle.fst_words.specs.declared.rules.Rule.{Rule}
use Rattle.fst_words.specs.Words.{Productions, row_of}
use Rattle.fst_shared.specs.Shared.{word_of}

-- the number is that of the rule's word
pub record IsNumber (words : List (List ℕ)) (r : Rule) (n : ℕ) : Type 0 where
  pub within : n < length words
  pub word : word_of words n ≡ r.word

-- the numbers are those of the words of a row's rules
abbrev pub AreNumbers : List (List ℕ) → List Rule → List ℕ → Type 0
AreNumbers words row numbers = (i n : ℕ) (r : Rule) → slice_get row i ≡ Some r →
    slice_get numbers i ≡ Some n → IsNumber words r n

-- a row has as many numbers as rules, those of their words
pub record IsRow (words : List (List ℕ)) (row : List Rule) (numbers : List ℕ) : Type 0 where
  pub words_are : AreNumbers words row numbers
  pub count : length numbers ≡ length row

-- each row has its numbers
pub record AreNumbered (words : List (List ℕ)) (rows : Productions)
    (numbers : List (Vec ℕ Global)) : Type 0 where
  pub row : (n : ℕ) (v : Vec ℕ Global) → slice_get numbers n ≡ Some v →
      IsRow words (row_of rows n) v.items
  pub count : length numbers ≡ length rows
