-- What instantiating keeps, and how it goes with substitution.
use Rattle.std.proofs.Common.{◌≡◌, ℕ, zero, suc, List, [], ◌∷◌, Option, Some, None, refl, sym, ap, arith}
use Rattle.fst_types.specs.Tree.{Tree, skip, send, receive, close, wait, select, offer, seq, rec, back, var, plain, arrow, pair, named, Branches, none, branch}
use Rattle.fst_types.specs.Order.{IsOrdered, AllOrdered, AreRising}
use Rattle.fst_types.specs.Substitution.{variable, substitute, substitute_all, unfolding_of}
use Rattle.fst_types.specs.Scoped.{IsScoped, AllScoped}
use Rattle.fst_types.specs.Instance.{argument, instantiated, instantiated_all, instantiated_env, ArgumentsHave}
use Rattle.fst_types.proofs.SubstitutionLaws.{scoped_wider, substitute_kept}

mutual
  -- where types without free variables are put for a signature's variables, no variable gets free
  pub instantiated_scoped : (n : ℕ) (args : List Tree) (s : Tree) → ArgumentsHave (IsScoped 0) args → IsScoped n s →
      IsScoped n (instantiated args s)
  instantiated_scoped n args skip ok h = tt
  instantiated_scoped n args (send b) ok h = tt
  instantiated_scoped n args (receive b) ok h = tt
  instantiated_scoped n args close ok h = tt
  instantiated_scoped n args wait ok h = tt
  instantiated_scoped n args (select bs) ok h = instantiated_all_scoped n args bs ok h
  instantiated_scoped n args (offer bs) ok h = instantiated_all_scoped n args bs ok h
  instantiated_scoped n args (seq s r) ok h = (instantiated_scoped n args s ok h.0, instantiated_scoped n args r ok h.1)
  instantiated_scoped n args (rec s) ok h = instantiated_scoped (suc n) args s ok h
  instantiated_scoped n args (back k) ok h = h
  instantiated_scoped n args (var k) ok h = scoped_wider 0 n (argument args k) (omega arith) (ok k)
  instantiated_scoped n args (plain b) ok h = tt
  instantiated_scoped n args (arrow u s r) ok h = (instantiated_scoped n args s ok h.0, instantiated_scoped n args r ok h.1)
  instantiated_scoped n args (pair s r) ok h = (instantiated_scoped n args s ok h.0, instantiated_scoped n args r ok h.1)
  instantiated_scoped n args (named k) ok h = tt

  instantiated_all_scoped : (n : ℕ) (args : List Tree) (bs : Branches) → ArgumentsHave (IsScoped 0) args → AllScoped n bs →
      AllScoped n (instantiated_all args bs)
  instantiated_all_scoped n args none ok h = tt
  instantiated_all_scoped n args (branch l s bs) ok h =
      (instantiated_scoped n args s ok h.0, instantiated_all_scoped n args bs ok h.1)

instantiated_rising : (args : List Tree) (bs : Branches) → AreRising bs → AreRising (instantiated_all args bs)
instantiated_rising args none r = r
instantiated_rising args (branch l s none) r = tt
instantiated_rising args (branch l s (branch m t bs)) r = (r.0, instantiated_rising args (branch m t bs) r.1)

mutual
  -- ordered types put into an ordered type give an ordered type
  pub instantiated_ordered : (args : List Tree) (s : Tree) → ArgumentsHave IsOrdered args → IsOrdered s →
      IsOrdered (instantiated args s)
  instantiated_ordered args skip ok o = tt
  instantiated_ordered args (send b) ok o = tt
  instantiated_ordered args (receive b) ok o = tt
  instantiated_ordered args close ok o = tt
  instantiated_ordered args wait ok o = tt
  instantiated_ordered args (select bs) ok o = (instantiated_rising args bs o.0, instantiated_all_ordered args bs ok o.1)
  instantiated_ordered args (offer bs) ok o = (instantiated_rising args bs o.0, instantiated_all_ordered args bs ok o.1)
  instantiated_ordered args (seq s r) ok o = (instantiated_ordered args s ok o.0, instantiated_ordered args r ok o.1)
  instantiated_ordered args (rec s) ok o = instantiated_ordered args s ok o
  instantiated_ordered args (back k) ok o = tt
  instantiated_ordered args (var k) ok o = ok k
  instantiated_ordered args (plain b) ok o = tt
  instantiated_ordered args (arrow u s r) ok o = (instantiated_ordered args s ok o.0, instantiated_ordered args r ok o.1)
  instantiated_ordered args (pair s r) ok o = (instantiated_ordered args s ok o.0, instantiated_ordered args r ok o.1)
  instantiated_ordered args (named k) ok o = tt

  instantiated_all_ordered : (args : List Tree) (bs : Branches) → ArgumentsHave IsOrdered args → AllOrdered bs →
      AllOrdered (instantiated_all args bs)
  instantiated_all_ordered args none ok o = tt
  instantiated_all_ordered args (branch l s bs) ok o =
      (instantiated_ordered args s ok o.0, instantiated_all_ordered args bs ok o.1)

instantiated_variable : (args : List Tree) (env : List (Option Tree)) (k j : ℕ) →
    instantiated args (variable env k (back j)) ≡ variable (instantiated_env args env) k (back j)
instantiated_variable args [] k j = refl
instantiated_variable args (None ∷ env) zero j = refl
instantiated_variable args (Some t ∷ env) zero j = refl
instantiated_variable args (o ∷ env) (suc k) j = instantiated_variable args env k j

mutual
  -- instantiating goes through substitution, where what is put for a signature's variables has no free ones of its own
  pub instantiated_substitute : (args : List Tree) (env : List (Option Tree)) (s : Tree) → ArgumentsHave (IsScoped 0) args →
      instantiated args (substitute env s) ≡ substitute (instantiated_env args env) (instantiated args s)
  instantiated_substitute args env skip ok = refl
  instantiated_substitute args env (send b) ok = refl
  instantiated_substitute args env (receive b) ok = refl
  instantiated_substitute args env close ok = refl
  instantiated_substitute args env wait ok = refl
  instantiated_substitute args env (select bs) ok = ap select (instantiated_substitute_all args env bs ok)
  instantiated_substitute args env (offer bs) ok = ap offer (instantiated_substitute_all args env bs ok)
  instantiated_substitute args env (seq s r) ok =
      λ i. seq (instantiated_substitute args env s ok i) (instantiated_substitute args env r ok i)
  instantiated_substitute args env (rec s) ok = ap rec (instantiated_substitute args (None ∷ env) s ok)
  instantiated_substitute args env (back k) ok = instantiated_variable args env k k
  instantiated_substitute args env (var k) ok = sym (substitute_kept 0 (instantiated_env args env) (argument args k) (ok k))
  instantiated_substitute args env (plain b) ok = refl
  instantiated_substitute args env (arrow u s r) ok =
      λ i. arrow u (instantiated_substitute args env s ok i) (instantiated_substitute args env r ok i)
  instantiated_substitute args env (pair s r) ok =
      λ i. pair (instantiated_substitute args env s ok i) (instantiated_substitute args env r ok i)
  instantiated_substitute args env (named k) ok = refl

  instantiated_substitute_all : (args : List Tree) (env : List (Option Tree)) (bs : Branches) → ArgumentsHave (IsScoped 0) args →
      instantiated_all args (substitute_all env bs) ≡ substitute_all (instantiated_env args env) (instantiated_all args bs)
  instantiated_substitute_all args env none ok = refl
  instantiated_substitute_all args env (branch l s bs) ok =
      λ i. branch l (instantiated_substitute args env s ok i) (instantiated_substitute_all args env bs ok i)

-- the instance of an unfolding is the unfolding of the instance
pub instantiated_unfolding_of : (args : List Tree) (s : Tree) → ArgumentsHave (IsScoped 0) args →
    instantiated args (unfolding_of s) ≡ unfolding_of (instantiated args s)
instantiated_unfolding_of args s ok = instantiated_substitute args (Some (rec s) ∷ []) s ok
