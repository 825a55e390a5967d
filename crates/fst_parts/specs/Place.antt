-- Where a part of a type stands.
use Rattle.std.specs.Prelude.{ℕ, zero, suc, ◌+◌, ◌-◌, max, nat_eq, List, [], ◌∷◌, Bool, if◌then◌else◌}
use Rattle.fst_types.specs.Tree.{Tree, skip, send, receive, close, wait, select, offer, seq, rec, back, var, plain, arrow, pair, named, Branches, none, branch}

abbrev mutual
  -- how many binders around a type its free recursion variables ask for
  pub open_depth : Tree → ℕ
  open_depth skip = 0
  open_depth (send b) = 0
  open_depth (receive b) = 0
  open_depth close = 0
  open_depth wait = 0
  open_depth (select cs) = open_depths cs
  open_depth (offer cs) = open_depths cs
  open_depth (seq s r) = max (open_depth s) (open_depth r)
  open_depth (rec s) = open_depth s - 1
  open_depth (back k) = suc k
  open_depth (var k) = 0
  open_depth (plain b) = 0
  open_depth (arrow u s r) = max (open_depth s) (open_depth r)
  open_depth (pair s r) = max (open_depth s) (open_depth r)
  open_depth (named k) = 0

  -- the same of the branches
  pub open_depths : Branches → ℕ
  open_depths none = 0
  open_depths (branch l s cs) = max (open_depth s) (open_depths cs)

-- no recursion variable is bound outside the type
abbrev pub is_closed : Tree → Bool
is_closed t = nat_eq (open_depth t) 0

-- a place in the smallest closed type around it: how many nodes of that type stand before it, and the places there of
-- the binders between, innermost first
pub record Place : Type 0 where
  pub whole : Tree
  pub at : ℕ
  pub binders : List ℕ

-- the place of a whole type
abbrev pub top_of : Tree → Place
top_of t = record { whole = t; at = 0; binders = [] }

-- so many nodes further on
abbrev pub place_past : Place → ℕ → Place
place_past p n = record { whole = p.whole; at = p.at + n; binders = p.binders }

-- the smallest closed type around a part, how many of its nodes stand before the part, and the binders between
abbrev pub whole_in : Bool → Tree → Tree → Tree
whole_in closed whole t = if closed then t else whole

-- where a closed type begins in itself: at its start
abbrev pub start_in : Bool → ℕ → ℕ
start_in closed at = if closed then 0 else at

-- the binders around a part: none around a closed type
abbrev pub binders_in : Bool → List ℕ → List ℕ
binders_in closed binders = if closed then [] else binders

-- the place of a part, by whether it is closed
abbrev pub own_place_if : Bool → Place → Tree → Place
own_place_if closed p t =
    record {
      whole = whole_in closed p.whole t;
      at = start_in closed p.at;
      binders =
          binders_in closed p.binders;
    }

-- the place of a part: a closed type is a whole of its own
abbrev pub own_place : Place → Tree → Place
own_place p t = own_place_if (is_closed t) p t

-- the place of the body of a `rec`
abbrev pub body_place : Place → Place
body_place p = record { whole = p.whole; at = p.at + 1; binders = p.at ∷ p.binders }

-- the place of the k-th binder outward
abbrev pub binder : List ℕ → ℕ → ℕ
binder [] k = 0
binder (n ∷ ns) zero = n
binder (n ∷ ns) (suc k) = binder ns k
