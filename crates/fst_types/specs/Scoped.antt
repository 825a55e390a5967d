-- Which recursion variables a type has free.
use Rattle.std.specs.Prelude.{◌≡◌, ◌⊎◌, ℕ, suc, ◌<◌, ⊤}
use Rattle.fst_types.specs.Tree.{Tree, skip, send, receive, close, wait, select, offer, seq, rec, back, var, plain, arrow, pair, named, Branches, none, branch}

abbrev mutual
  -- each recursion variable belongs to a `rec` in the type or to one of n around it; with n = 0 none is free
  pub IsScoped : ℕ → Tree → Type 0
  IsScoped n skip = ⊤
  IsScoped n (send b) = ⊤
  IsScoped n (receive b) = ⊤
  IsScoped n close = ⊤
  IsScoped n wait = ⊤
  IsScoped n (select bs) = AllScoped n bs
  IsScoped n (offer bs) = AllScoped n bs
  IsScoped n (seq s r) = IsScoped n s × IsScoped n r
  IsScoped n (rec s) = IsScoped (suc n) s
  IsScoped n (back k) = k < n
  IsScoped n (var k) = ⊤
  IsScoped n (plain b) = ⊤
  IsScoped n (arrow u s r) = IsScoped n s × IsScoped n r
  IsScoped n (pair s r) = IsScoped n s × IsScoped n r
  IsScoped n (named k) = ⊤

  -- the same in each branch
  pub AllScoped : ℕ → Branches → Type 0
  AllScoped n none = ⊤
  AllScoped n (branch l s bs) = IsScoped n s × AllScoped n bs

abbrev mutual
  -- the variable of the k-th `rec` around the type, counted outward, is free in it
  pub IsFree : ℕ → Tree → Type 0
  IsFree k skip = ⊥
  IsFree k (send b) = ⊥
  IsFree k (receive b) = ⊥
  IsFree k close = ⊥
  IsFree k wait = ⊥
  IsFree k (select bs) = IsFreeInSome k bs
  IsFree k (offer bs) = IsFreeInSome k bs
  IsFree k (seq s r) = IsFree k s ⊎ IsFree k r
  IsFree k (rec s) = IsFree (suc k) s
  IsFree k (back j) = j ≡ k
  IsFree k (var j) = ⊥
  IsFree k (plain b) = ⊥
  IsFree k (arrow u s r) = IsFree k s ⊎ IsFree k r
  IsFree k (pair s r) = IsFree k s ⊎ IsFree k r
  IsFree k (named j) = ⊥

  -- it is free in one of the branches
  pub IsFreeInSome : ℕ → Branches → Type 0
  IsFreeInSome k none = ⊥
  IsFreeInSome k (branch l s bs) = IsFree k s ⊎ IsFreeInSome k bs
