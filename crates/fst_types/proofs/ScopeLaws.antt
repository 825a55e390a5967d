-- What is found of a binder, and that what it stands for is written out in an end.
use Rattle.std.proofs.Common.{◌≡◌, ◌≤◌, ◌+◌, ℕ, zero, suc, [], ◌∷◌, Some, refl, ap, arith}
use Rattle.fst_types.specs.Tree.{Tree, rec}
use Rattle.fst_types.specs.Height.{height}
use Rattle.fst_types.specs.declared.scope.Scope.{Scope, Top, Kept', Under'}
use Rattle.fst_types.specs.Substitution.{variable, substitute, unfolding_of}
use Rattle.fst_types.proofs.SubstitutionLaws.{substitute_nothing, unfolding_of_scoped}
use Rattle.fst_types.specs.ModelScopes.{env_of, outward}

-- how high the types are together that the binders stand for
abbrev pub weight : Scope → ℕ
weight Top = 0
weight (Kept' p outer) = weight outer
weight (Under' t p outer) = height t.now + weight outer

-- the binders further out weigh no more
pub outward_weight : (scope : Scope) (k : ℕ) → weight (outward scope k) ≤ weight scope
outward_weight scope zero = omega arith
outward_weight Top (suc k) = omega arith
outward_weight (Kept' p outer) (suc k) = outward_weight outer k
outward_weight (Under' t p outer) (suc k) = omega (arith, outward_weight outer k)

-- the k-th variable is the innermost one of the binders from the k-th outward
pub outward_variable : (scope : Scope) (k : ℕ) (t : Tree) →
    variable (env_of scope) k t ≡ variable (env_of (outward scope k)) zero t
outward_variable scope zero t = refl
outward_variable Top (suc k) t = refl
outward_variable (Kept' p outer) (suc k) t = outward_variable outer k t
outward_variable (Under' t' p outer) (suc k) t = outward_variable outer k t

-- what the code goes by at a variable
pub ruleset of_variables = (outward_weight, outward_variable)

-- the unfolding with the whole type as it stands outside all binders
pub unfolding_at_top : (s : Tree) → substitute (Some (substitute [] (rec s)) ∷ []) s ≡ unfolding_of s
unfolding_at_top s = ap (λ t. substitute (Some t ∷ []) s) (substitute_nothing 0 (rec s))

-- what the code goes by where it unfolds
pub ruleset of_unfoldings = (unfolding_at_top, unfolding_of_scoped)
