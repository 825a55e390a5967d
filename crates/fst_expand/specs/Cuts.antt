-- Cuts: what is left to show of two words once their heads are dropped, by the second BPA rule of expansion trees
-- (Almeida, Mordido, Vasconcelos, TACAS 2020).
use Rattle.std.specs.Prelude.{◌≡◌, ◌≢◌, ℕ, suc, List, [], ◌∷◌, ◌++◌, take, drop, Option, Some, None, nat_le, nat_lt, if◌then◌else◌}
use Rattle.std.specs.Str.{bytes_eq}
use Rattle.fst_types.specs.declared.side.Side.{Side}
use Rattle.fst_types.specs.declared.side.Side.TheVariants.{Left, Right}
use Rattle.fst_base.specs.Limits.{greatest_norm}
use Rattle.fst_norms.specs.Bounds.{bound_at}
use Rattle.fst_basis.specs.declared.proof.Pair.{Pair}
use Rattle.fst_norms.specs.Lowering.{lowered}

-- the most steps by which the other head is lowered
abbrev pub most_steps : ℕ
most_steps = 4096

-- a norm, where it is below 2^63
abbrev pub exact : Option ℕ → Option ℕ
exact None = None
exact (Some k) = if nat_lt k greatest_norm then Some k else None

-- the norm of a word's head, where it has one below 2^63
abbrev pub head_norm : List (Option ℕ) → List ℕ → Option ℕ
head_norm norms [] = None
head_norm norms (n ∷ w) = exact (bound_at norms n)

-- of two heads with these norms, which is dropped, and its norm: the lesser one, the left at a tie, if it is small enough
abbrev pub dropped : Option ℕ → Option ℕ → Option (Side × ℕ)
dropped None k = None
dropped (Some j) None = None
dropped (Some j) (Some k) =
    if nat_le j k
    then (if nat_le j most_steps then Some (Left, j) else None)
    else (if nat_le k most_steps then Some (Right, k) else None)

-- what the head of a word becomes by so many steps that lower its norm
abbrev pub lowered_head : List (List ℕ) → ℕ → List ℕ → List ℕ
lowered_head words k w = lowered words k (take 1 w)

-- the pair of two words, unless they are the same
abbrev pub unless_same : List ℕ → List ℕ → List Pair
unless_same x y = if bytes_eq x y then [] else record { left = x; right = y } ∷ []

-- the cut of two words where the head of one side is dropped, which has this norm: the head with what it leaves of the other one behind
-- it, and this other one
abbrev pub head_cut : List (List ℕ) → Side → ℕ → List ℕ → List ℕ → List Pair
head_cut words Left k x y = unless_same (take 1 x ++ lowered_head words k y) (take 1 y)
head_cut words Right k x y = unless_same (take 1 x) (take 1 y ++ lowered_head words k x)

-- the left word that is left then
abbrev pub left_rest : List (List ℕ) → Side → ℕ → List ℕ → List ℕ
left_rest words Left k x = drop 1 x
left_rest words Right k x = lowered_head words k x ++ drop 1 x

-- and the right one
abbrev pub right_rest : List (List ℕ) → Side → ℕ → List ℕ → List ℕ
right_rest words Left k y = lowered_head words k y ++ drop 1 y
right_rest words Right k y = drop 1 y

-- Two words have these cuts, and so many heads are dropped. The norms, and what each non-terminal becomes by a step that lowers its
-- norm, are those of a grammar.
pub data HasCuts (norms : List (Option ℕ)) (words : List (List ℕ)) : List ℕ → List ℕ → List Pair →
    ℕ → Type 0 where
  same : {x : List ℕ} → HasCuts norms words x x [] 0
  whole : {x y : List ℕ} → x ≢ y → dropped (head_norm norms x) (head_norm norms y) ≡ None →
      HasCuts norms words x y (record { left = x; right = y } ∷ []) 0
  drops : {x y : List ℕ} {side : Side} {k heads : ℕ} {cuts : List Pair} → x ≢ y →
      dropped (head_norm norms x) (head_norm norms y) ≡ Some (side, k) →
      HasCuts norms words (left_rest words side k x) (right_rest words side k y) cuts heads →
      HasCuts norms words x y (head_cut words side k x y ++ cuts) (suc heads)
