-- Types in place of a signature's variables.
use Rattle.std.specs.Prelude.{ℕ, List, Option, slice_get, unwrap_or, map, option_map}
use Rattle.fst_types.specs.Tree.{Tree, skip, send, receive, close, wait, select, offer, seq, rec, back, var, plain, arrow, pair, named, Branches, none, branch}
use Rattle.fst_types.specs.declared.ty.Branch.{Branch}

-- the type that is given for the k-th variable, or the variable itself where none is
abbrev pub argument : List Tree → ℕ → Tree
argument args k = unwrap_or (slice_get args k) (var k)

abbrev mutual
  -- the type with the types that are given in place of a signature's variables
  pub instantiated : List Tree → Tree → Tree
  instantiated args skip = skip
  instantiated args (send b) = send b
  instantiated args (receive b) = receive b
  instantiated args close = close
  instantiated args wait = wait
  instantiated args (select bs) = select (instantiated_all args bs)
  instantiated args (offer bs) = offer (instantiated_all args bs)
  instantiated args (seq s r) = seq (instantiated args s) (instantiated args r)
  instantiated args (rec s) = rec (instantiated args s)
  instantiated args (back k) = back k
  instantiated args (var k) = argument args k
  instantiated args (plain b) = plain b
  instantiated args (arrow u s r) = arrow u (instantiated args s) (instantiated args r)
  instantiated args (pair s r) = pair (instantiated args s) (instantiated args r)
  instantiated args (named k) = named k

  -- the same in each branch
  pub instantiated_all : List Tree → Branches → Branches
  instantiated_all args none = none
  instantiated_all args (branch l s bs) = branch l (instantiated args s) (instantiated_all args bs)

-- a branch with the types that are given in place of a signature's variables
abbrev pub instantiated_branch : List Tree → Branch → Branch
instantiated_branch args b = record { label = b.label; body = instantiated args b.body }

-- what the binders stand for, each with the types that are given in place of a signature's variables
abbrev pub instantiated_env : List Tree → List (Option Tree) → List (Option Tree)
instantiated_env args env = map (option_map (instantiated args)) env

-- all that stands for a variable is as P says
abbrev pub ArgumentsHave : (Tree → Type 0) → List Tree → Type 0
ArgumentsHave P args = (k : ℕ) → P (argument args k)
