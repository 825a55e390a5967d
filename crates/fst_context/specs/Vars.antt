-- Sets of variables. A variable is its number outward, as a term writes it.
use Rattle.std.specs.Prelude.{◌≡◌, ℕ, zero, suc, Bool, true, false, ◌||◌, ◌&&◌}

-- a set of variables, as a test
abbrev pub Vars : Type 0
Vars = ℕ → Bool

-- no variable
abbrev pub no_vars : Vars
no_vars k = false

-- the set inside a binder, whose own variable is in it or not
abbrev pub under : Bool → Vars → Vars
under b u zero = b
under b u (suc k) = u k

-- what stays of a set outside its innermost binder
abbrev pub outside : Vars → Vars
outside u k = u (suc k)

-- one variable, or none
abbrev pub single : Bool → ℕ → Vars
single b zero = under b no_vars
single b (suc k) = under false (single b k)

-- the variables of both sets
abbrev pub union : Vars → Vars → Vars
union u v k = u k || v k

-- each variable of the whole is in exactly one part
pub record IsSplit (whole left right : Vars) : Type 0 where
  pub together : whole ≡ union left right
  pub apart : (k : ℕ) → (left k && right k) ≡ false

-- two parts between which the variables are split
pub record Both (P Q : Vars → Type 0) (u : Vars) : Type 0 where
  pub left : Vars
  pub right : Vars
  pub split : IsSplit u left right
  pub first : P left
  pub second : Q right
