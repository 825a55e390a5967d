-- What other crates cite of contexts: one taking after another is a split of the set that was taken; and which sets can be taken.
use Rattle.std.proofs.Common.{◌≡◌, ◌&&◌, ℕ, zero, suc, Bool, List, [], ◌∷◌, Some, true, false, not, slice_get, refl, ap}
use Rattle.fst_context.specs.Scope.{Scope, Variable, is_once, at_or_not, linear_at, mark, entered, left, begun, ended, without, IsWithin, Takes}
use Rattle.fst_context.specs.Vars.{Vars, no_vars, single, under, union, IsSplit, Both}
use Rattle.fst_context.proofs.Taking as taking

-- two takings after one another are one, in which the set is split
pub takes_both : (P Q : Vars → Type 0) (r s t : Scope) → Takes P r s → Takes Q s t → Takes (Both P Q) r t
takes_both = taking.takes_both

-- nothing was taken
pub takes_none : (P : Vars → Type 0) (s : Scope) → P no_vars → Takes P s s
takes_none = taking.takes_none

-- what was taken has a further property
pub takes_as : (P Q : Vars → Type 0) (r s : Scope) → ((u : Vars) → P u → Q u) → Takes P r s → Takes Q r s
takes_as = taking.takes_as

-- what was taken inside a variable that is used at its end
pub takes_inside : (P : Vars → Type 0) (n : List ℕ) (v : Variable) (r s : Scope) → Takes P (entered n v r) s →
    at_or_not s.there 0 ≡ false →
    Takes (λ u. P (under (is_once v.uses) u)) r (left s)
takes_inside = taking.takes_inside

-- what was taken in the body of an unrestricted function
pub takes_body : (P : Vars → Type 0) (r s : Scope) → Takes P (begun r) s → Takes (λ u. (u ≡ no_vars) × P u) r (ended s)
takes_body = taking.takes_body

-- two takings between the same scopes are of the same set
pub takes_same : (P Q : Vars → Type 0) (r s : Scope) → Takes P r s → Takes Q r s → Takes (λ u. P u × Q u) r s
takes_same = taking.takes_same

-- ---- sets that can be taken

-- which marks stay
pub at-mark : (u : Vars) (bs : List Bool) (k : ℕ) → at_or_not (mark u bs) k ≡ (at_or_not bs k && not (u k))
at-mark = taking.at-mark

-- one set after another is both together
pub without_twice : (u v : Vars) (s : Scope) → without v (without u s) ≡ without (union u v) s
without_twice = taking.without_twice

-- where a set that is split can be taken, its first part can
pub within_left : (s : Scope) (u v w : Vars) → IsSplit u v w → IsWithin u s → IsWithin v s
within_left = taking.within_left

-- and then the second one
pub within_right : (s : Scope) (u v w : Vars) → IsSplit u v w → IsWithin u s → IsWithin w (without v s)
within_right = taking.within_right

-- inside a variable, that one can be taken too, where it is linear
pub within_entered : (x : List ℕ) (v : Variable) (s : Scope) (u : Vars) → IsWithin u s →
    IsWithin (under (is_once v.uses) u) (entered x v s)
within_entered = taking.within_entered

-- then the scope is left as one from which the set was taken outside
pub left_entered : (x : List ℕ) (v : Variable) (s : Scope) (u : Vars) →
    left (without (under (is_once v.uses) u) (entered x v s)) ≡ without u s
left_entered = taking.left_entered

-- so a body is ended
pub ended_begun : (s : Scope) (u : Vars) → ended (without u (begun s)) ≡ without u s
ended_begun = taking.ended_begun

-- two sets that leave the same scope are the same
pub same_used : (u v : Vars) (s : Scope) → IsWithin u s → IsWithin v s → without u s ≡ without v s → u ≡ v
same_used = taking.same_used

-- whether a variable is linear is told by its use
pub linear_of : (vs : List Variable) (k : ℕ) (v : Variable) → slice_get vs k ≡ Some v → linear_at vs k ≡ is_once v.uses
linear_of [] k v h = absurd (cc h)
linear_of (x ∷ vs) zero v h = let same : x ≡ v = cc in ap (λ (z : Variable). is_once z.uses) same
linear_of (x ∷ vs) (suc k) v h = linear_of vs k v h

-- the set of one variable has it
pub single_at : (k : ℕ) → single true k k ≡ true
single_at zero = refl
single_at (suc k) = single_at k
