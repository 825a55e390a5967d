-- How values are written.
use Rattle.std.specs.Prelude.{ℕ, ◌==◌, List, [], ◌++◌, Bool, true, false, Option, None, Some, is_some, slice_get, codes, encode_utf8, if◌then◌else◌}
use Rattle.std.specs.Fmt.{signed_decimal}
use Rattle.std.specs.Int.{is_negative}
use Rattle.std.specs.Str.{byte}
use Rattle.fst_types.specs.declared.family.Family.{Family}
use Rattle.fst_types.specs.declared.family.Maker.{Maker}
use Rattle.fst_value.specs.ValueTree.{ValueTree, int, bool, char, unit, pair, make, function, end, ValueTrees, none, value}

-- a truth value
abbrev pub truth_text : Bool → List ℕ
truth_text true = codes "True"
truth_text false = codes "False"

-- a character between its quotes, which four are escaped
abbrev pub character_text : ℕ → List ℕ
character_text c =
    if c == byte "\n" then codes "\\n" else
    if c == byte "\t" then codes "\\t" else
    if c == byte "\\" then codes "\\\\" else
    if c == byte "'" then codes "\\'" else
    encode_utf8 c

-- the k-th constructor of a data type, if there are both
abbrev pub maker_in : Option Family → ℕ → Option Maker
maker_in (Some f) k = slice_get f.makers.items k
maker_in None k = None

-- a constructor and its fields, if there is one
abbrev pub made_text : Option Maker → List ℕ → List ℕ
made_text (Some m) fields = m.name ++ fields
made_text None fields = codes "?"

-- a field stands in parentheses that is a negative number, or a constructor with fields that there is
abbrev pub is_enclosed : List Family → ValueTree → Bool
is_enclosed families (int n) = is_negative n
is_enclosed families (bool b) = false
is_enclosed families (char c) = false
is_enclosed families unit = false
is_enclosed families (pair v w) = false
is_enclosed families (make n o none) = false
is_enclosed families (make n o (value v vs)) = is_some (maker_in (slice_get families n) o)
is_enclosed families (function l vs) = false
is_enclosed families (end x) = false

abbrev mutual
  -- a value, where these are the data types
  pub value_text : List Family → ValueTree → List ℕ
  value_text families (int n) = signed_decimal n
  value_text families (bool b) = truth_text b
  value_text families (char c) = codes "'" ++ character_text c ++ codes "'"
  value_text families unit = codes "()"
  value_text families (pair v w) = codes "(" ++ value_text families v ++ codes ", " ++ value_text
      families w ++ codes ")"
  value_text families (make n o vs) =
      made_text (maker_in (slice_get families n) o) (fields_text families vs)
  value_text families (function l vs) = codes "?"
  value_text families (end x) = codes "?"

  -- the fields of a constructor, with a space before each
  pub fields_text : List Family → ValueTrees → List ℕ
  fields_text families none = []
  fields_text families (value v vs) =
      codes " " ++ (if is_enclosed families v then codes "(" ++ value_text families v ++ codes
      ")" else value_text families v) ++ fields_text families vs
