-- Types in place of recursion variables, and the unfolding of a recursive type.
use Rattle.std.specs.Prelude.{ℕ, zero, suc, List, [], ◌∷◌, Option, Some, None, unwrap_or, IfSome, ⊤}
use Rattle.fst_types.specs.Tree.{Tree, skip, send, receive, close, wait, select, offer, seq, rec, back, var, plain, arrow, pair, named, Branches, none, branch}
use Rattle.fst_types.specs.Scoped.{IsScoped}

-- the k-th variable from the innermost binder: what its binder stands for, or t itself where it stands for nothing
abbrev pub variable : List (Option Tree) → ℕ → Tree → Tree
variable [] k t = t
variable (o ∷ env) zero t = unwrap_or o t
variable (o ∷ env) (suc k) t = variable env k t

abbrev mutual
  -- the type with what the binders around it stand for in place of its variables, put in as it stands: no variable
  -- of what is put in is counted anew, so only what has no free variables means the same there
  pub substitute : List (Option Tree) → Tree → Tree
  substitute env skip = skip
  substitute env (send b) = send b
  substitute env (receive b) = receive b
  substitute env close = close
  substitute env wait = wait
  substitute env (select bs) = select (substitute_all env bs)
  substitute env (offer bs) = offer (substitute_all env bs)
  substitute env (seq s r) = seq (substitute env s) (substitute env r)
  substitute env (rec s) = rec (substitute (None ∷ env) s)
  substitute env (back k) = variable env k (back k)
  substitute env (var k) = var k
  substitute env (plain b) = plain b
  substitute env (arrow u s r) = arrow u (substitute env s) (substitute env r)
  substitute env (pair s r) = pair (substitute env s) (substitute env r)
  substitute env (named k) = named k

  -- the same in each branch
  pub substitute_all : List (Option Tree) → Branches → Branches
  substitute_all env none = none
  substitute_all env (branch l s bs) = branch l (substitute env s) (substitute_all env bs)

-- the unfolding of `rec s`: its body with the whole type in place of its variable
abbrev pub unfolding_of : Tree → Tree
unfolding_of s = substitute (Some (rec s) ∷ []) s

-- all that the binders stand for is as P says
abbrev pub EnvHas : (Tree → Type 0) → List (Option Tree) → Type 0
EnvHas P [] = ⊤
EnvHas P (o ∷ env) = IfSome o P × EnvHas P env

-- each binder stands for a type without free recursion variables
abbrev pub AllClosed : List (Option Tree) → Type 0
AllClosed [] = ⊤
AllClosed (None ∷ env) = ⊥
AllClosed (Some t ∷ env) = IsScoped 0 t × AllClosed env

-- the k-th variable is one that no type is put in for
abbrev pub StandsForNothing : List (Option Tree) → ℕ → Type 0
StandsForNothing [] k = ⊤
StandsForNothing (None ∷ env) zero = ⊤
StandsForNothing (Some t ∷ env) zero = ⊥
StandsForNothing (o ∷ env) (suc k) = StandsForNothing env k
