-- Which data types a type names.
use Rattle.std.specs.Prelude.{ℕ, ◌<◌, ⊤}
use Rattle.fst_types.specs.Tree.{Tree, skip, send, receive, close, wait, select, offer, seq, rec, back, var, plain, arrow, pair, named, Branches, none, branch}

abbrev mutual
  -- each data type that the type names is one of the first n
  pub IsNamedWithin : ℕ → Tree → Type 0
  IsNamedWithin n skip = ⊤
  IsNamedWithin n (send b) = ⊤
  IsNamedWithin n (receive b) = ⊤
  IsNamedWithin n close = ⊤
  IsNamedWithin n wait = ⊤
  IsNamedWithin n (select bs) = AllNamedWithin n bs
  IsNamedWithin n (offer bs) = AllNamedWithin n bs
  IsNamedWithin n (seq s r) = IsNamedWithin n s × IsNamedWithin n r
  IsNamedWithin n (rec s) = IsNamedWithin n s
  IsNamedWithin n (back k) = ⊤
  IsNamedWithin n (var k) = ⊤
  IsNamedWithin n (plain b) = ⊤
  IsNamedWithin n (arrow u s r) = IsNamedWithin n s × IsNamedWithin n r
  IsNamedWithin n (pair s r) = IsNamedWithin n s × IsNamedWithin n r
  IsNamedWithin n (named k) = k < n

  -- the same in each branch
  pub AllNamedWithin : ℕ → Branches → Type 0
  AllNamedWithin n none = ⊤
  AllNamedWithin n (branch l s bs) = IsNamedWithin n s × AllNamedWithin n bs
