-- What other crates cite of well-formed types, of types at numbers and of scopes that are left.
use Rattle.std.proofs.Common.{◌≡◌, ◌+◌, ◌∷◌, ◌<◌, ℕ, List, [], Some, drop, get_or, length, slice_get}
use Rattle.fst_types.specs.Tree.{Tree, pair}
use Rattle.fst_types.specs.declared.kind.Kind.{Kind}
use Rattle.fst_context.specs.Scope.{Scope, at_or_not, left}
use Rattle.fst_derivations.specs.Parts.{AreAt, IsFormed}
use Rattle.fst_premises.specs.Scopes.{left_all}
use Rattle.fst_premises.proofs.Formed as formed
use Rattle.fst_premises.proofs.LeftScopes as scopes
use Rattle.fst_premises.proofs.Numbers as numbers

-- a closed well-formed type is well formed over any variables
pub closed_formed : (vars : List Kind) (t : Tree) → IsFormed [] t → IsFormed vars t
closed_formed = formed.closed_formed

-- a pair of well-formed types is one
pub pair_of_formed : (vars : List Kind) (s r : Tree) → IsFormed vars s → IsFormed vars r → IsFormed vars (pair s r)
pair_of_formed = formed.pair_of_formed

-- of types at numbers the i-th one, and those behind it
pub at_number : (types : List Tree) (ks : List ℕ) (ts : List Tree) (i d : ℕ) → AreAt types ks ts → i < length ks →
    (t : Tree) × (slice_get types (get_or ks i d) ≡ Some t) × (drop i ts ≡ t ∷ drop (i + 1) ts)
at_number = numbers.at_number

-- there are as many types as numbers
pub numbers_long : (types : List Tree) (ks : List ℕ) (ts : List Tree) → AreAt types ks ts → length ts ≡ length ks
numbers_long = numbers.numbers_long

-- leaving one variable after n others is leaving it before them
pub left_commutes : (n : ℕ) (z : Scope) → left (left_all n z) ≡ left_all n (left z)
left_commutes = scopes.left_commutes

-- the innermost mark after n variables were left
pub at_left : (n : ℕ) (z : Scope) → at_or_not (left_all n z).there 0 ≡ at_or_not z.there n
at_left = scopes.at_left
