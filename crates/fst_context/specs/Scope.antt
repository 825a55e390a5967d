-- What a context holds: the variables that are entered and not left, the innermost first.
use Rattle.std.specs.Prelude.{◌≡◌, ℕ, zero, suc, ◌+◌, Bool, true, false, ◌&&◌, not, List, [], ◌∷◌, nat_lt}
use Rattle.fst_types.specs.Tree.{Tree}
use Rattle.fst_types.specs.declared.kind.Use.{Use}
use Rattle.fst_types.specs.declared.kind.Use.TheVariants.{Many, Once}
use Rattle.fst_context.specs.Vars.{Vars, outside}

-- whether a value of this use is linear
abbrev pub is_once : Use → Bool
is_once Many = false
is_once Once = true

-- a variable: its type, and how often its value may be used
pub record Variable : Type 0 where
  pub type : Tree
  pub uses : Use

-- the names of the variables, the variables, which of the linear ones are still there, and how many variables were entered
-- in each body that was begun and not ended, the innermost first
pub record Scope : Type 0 where
  pub names : List (List ℕ)
  pub variables : List Variable
  pub there : List Bool
  pub bodies : List ℕ

-- no variables, and no body
abbrev pub empty : Scope
empty = record { names = []; variables = []; there = []; bodies = [] }

-- one variable more in the innermost body
abbrev pub more : List ℕ → List ℕ
more [] = []
more (n ∷ ns) = suc n ∷ ns

-- one variable fewer: the innermost body that has one loses it
abbrev pub fewer : List ℕ → List ℕ
fewer [] = []
fewer (zero ∷ ns) = zero ∷ fewer ns
fewer (suc n ∷ ns) = n ∷ ns

-- the innermost body's variables join those of the body around it
abbrev pub joined : List ℕ → List ℕ
joined [] = []
joined (n ∷ []) = []
joined (n ∷ m ∷ ns) = (m + n) ∷ ns

-- all but the first
abbrev pub tail : {X : Type 0} → List X → List X
tail [] = []
tail (x ∷ xs) = xs

-- with one more variable
abbrev pub entered : List ℕ → Variable → Scope → Scope
entered x v s = record {
  names = x ∷ s.names;
  variables = v ∷ s.variables;
  there =
      is_once v.uses ∷ s.there;
  bodies = more s.bodies;
}

-- without the innermost variable
abbrev pub left : Scope → Scope
left s = record {
  names = tail s.names;
  variables = tail s.variables;
  there = tail s.there;
  bodies =
      fewer s.bodies;
}

-- at the beginning of the body of an unrestricted function
abbrev pub begun : Scope → Scope
begun s = record {
  names = s.names;
  variables = s.variables;
  there = s.there;
  bodies =
      zero ∷ s.bodies;
}

-- at the end of the innermost body
abbrev pub ended : Scope → Scope
ended s = record {
  names = s.names;
  variables = s.variables;
  there = s.there;
  bodies =
      joined s.bodies;
}

-- the k-th mark, and false where there is none
abbrev pub at_or_not : List Bool → ℕ → Bool
at_or_not [] k = false
at_or_not (b ∷ bs) zero = b
at_or_not (b ∷ bs) (suc k) = at_or_not bs k

-- whether the k-th variable is linear
abbrev pub linear_at : List Variable → ℕ → Bool
linear_at [] k = false
linear_at (v ∷ vs) zero = is_once v.uses
linear_at (v ∷ vs) (suc k) = linear_at vs k

-- whether the k-th variable was entered in the innermost body that was begun and not ended
abbrev pub is_inside : List ℕ → ℕ → Bool
is_inside [] k = true
is_inside (n ∷ ns) k = nat_lt k n

-- the linear variables that can be taken
abbrev pub open_in : Scope → Vars
open_in s k = at_or_not s.there k && is_inside s.bodies k

-- the marks without those of a set
abbrev pub mark : Vars → List Bool → List Bool
mark u [] = []
mark u (b ∷ bs) = (b && not (u zero)) ∷ mark (outside u) bs

-- the scope after these variables were taken
abbrev pub without : Vars → Scope → Scope
without u s = record {
  names = s.names;
  variables = s.variables;
  there = mark u s.there;
  bodies =
      s.bodies;
}

-- the scope with other marks
abbrev pub with_marks : List Bool → Scope → Scope
with_marks bs s = record { names = s.names; variables = s.variables; there = bs; bodies = s.bodies }

-- each variable of the set can be taken
abbrev pub IsWithin : Vars → Scope → Type 0
IsWithin u s = (k : ℕ) → u k ≡ true → open_in s k ≡ true

-- from one scope to another a set of variables that has a property was taken
pub record Takes (P : Vars → Type 0) (before after : Scope) : Type 0 where
  pub used : Vars
  pub fact : P used
  pub within : IsWithin used before
  pub rest : after ≡ without used before
