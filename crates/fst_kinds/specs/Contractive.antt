-- Contractive types: each recursion variable stands behind a move (Almeida, Mordido, Vasconcelos, TACAS 2020).
use Rattle.std.specs.Prelude.{◌≡◌, ℕ, suc, Bool, true, false, ◌&&◌, ◌||◌, not, nat_eq, ⊤}
use Rattle.fst_types.specs.Tree.{Tree, skip, send, receive, close, wait, select, offer, seq, rec, back, var, plain, arrow, pair, named, Branches, none, branch}

-- what stands behind the type comes after a move
abbrev pub guards : Tree → Bool
guards skip = false
guards (send b) = true
guards (receive b) = true
guards close = true
guards wait = true
guards (select bs) = true
guards (offer bs) = true
guards (seq s r) = guards s || guards r
guards (rec s) = guards s
guards (back k) = true
guards (var k) = false
guards (plain b) = false
guards (arrow u s r) = false
guards (pair s r) = false
guards (named k) = false

-- the type comes to the k-th enclosing `rec`'s variable before any move
abbrev pub reaches : Tree → ℕ → Bool
reaches skip k = false
reaches (send b) k = false
reaches (receive b) k = false
reaches close k = false
reaches wait k = false
reaches (select bs) k = false
reaches (offer bs) k = false
reaches (seq s r) k = reaches s k || (not (guards s) && reaches r k)
reaches (rec s) k = reaches s (suc k)
reaches (back j) k = nat_eq j k
reaches (var j) k = false
reaches (plain b) k = false
reaches (arrow u s r) k = false
reaches (pair s r) k = false
reaches (named j) k = false

-- the type comes to no enclosing `rec`'s variable before any move
abbrev pub IsGuarded : Tree → Type 0
IsGuarded s = (k : ℕ) → reaches s k ≡ false

abbrev mutual
  -- in no part `rec x. S` does S reach x
  pub IsContractive : Tree → Type 0
  IsContractive skip = ⊤
  IsContractive (send b) = ⊤
  IsContractive (receive b) = ⊤
  IsContractive close = ⊤
  IsContractive wait = ⊤
  IsContractive (select bs) = AllContractive bs
  IsContractive (offer bs) = AllContractive bs
  IsContractive (seq s r) = IsContractive s × IsContractive r
  IsContractive (rec s) = IsContractive s × (reaches s 0 ≡ false)
  IsContractive (back k) = ⊤
  IsContractive (var k) = ⊤
  IsContractive (plain b) = ⊤
  IsContractive (arrow u s r) = IsContractive s × IsContractive r
  IsContractive (pair s r) = IsContractive s × IsContractive r
  IsContractive (named k) = ⊤

  -- the same in each branch
  pub AllContractive : Branches → Type 0
  AllContractive none = ⊤
  AllContractive (branch l s bs) = IsContractive s × AllContractive bs
