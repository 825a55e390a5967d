-- Which variables of a signature a type has.
use Rattle.std.specs.Prelude.{ℕ, ◌<◌, ⊤}
use Rattle.fst_types.specs.Tree.{Tree, skip, send, receive, close, wait, select, offer, seq, rec, back, var, plain, arrow, pair, named, Branches, none, branch}

abbrev mutual
  -- each variable of a signature in the type is one of the first n; with n = 0 it has none
  pub HasVariablesBelow : ℕ → Tree → Type 0
  HasVariablesBelow n skip = ⊤
  HasVariablesBelow n (send b) = ⊤
  HasVariablesBelow n (receive b) = ⊤
  HasVariablesBelow n close = ⊤
  HasVariablesBelow n wait = ⊤
  HasVariablesBelow n (select bs) = HaveVariablesBelow n bs
  HasVariablesBelow n (offer bs) = HaveVariablesBelow n bs
  HasVariablesBelow n (seq s r) = HasVariablesBelow n s × HasVariablesBelow n r
  HasVariablesBelow n (rec s) = HasVariablesBelow n s
  HasVariablesBelow n (back k) = ⊤
  HasVariablesBelow n (var k) = k < n
  HasVariablesBelow n (plain b) = ⊤
  HasVariablesBelow n (arrow u s r) = HasVariablesBelow n s × HasVariablesBelow n r
  HasVariablesBelow n (pair s r) = HasVariablesBelow n s × HasVariablesBelow n r
  HasVariablesBelow n (named k) = ⊤

  -- the same in each branch
  pub HaveVariablesBelow : ℕ → Branches → Type 0
  HaveVariablesBelow n none = ⊤
  HaveVariablesBelow n (branch l s bs) = HasVariablesBelow n s × HaveVariablesBelow n bs
