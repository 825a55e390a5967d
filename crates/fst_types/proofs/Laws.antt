-- What other crates cite of types, their labels and substitution.
use Rattle.std.proofs.Common.{◌≡◌, ◌<◌, ◌≤◌, ℕ, List, [], ◌∷◌, length, get_or, true, Option, Some, None}
use Rattle.std.specs.Cmp.{IsTotalOrder}
use Rattle.fst_types.specs.Tree.{Tree, rec}
use Rattle.fst_types.specs.Height.{height, height_all}
use Rattle.fst_types.specs.Instance.{instantiated, instantiated_env, ArgumentsHave}
use Rattle.fst_types.specs.ModelView.{branches_of}
use Rattle.fst_types.specs.ModelWrittenHeight as written
use Rattle.fst_types.specs.ModelWrittenView.{written_branches}
use Rattle.fst_types.specs.Order.{IsOrdered, label_cmp, same_label}
use Rattle.fst_types.specs.Scoped.{IsScoped}
use Rattle.fst_types.specs.Substitution.{variable, substitute, unfolding_of, EnvHas, AllClosed}
use Rattle.fst_types.specs.declared.label.Label.{Label}
use Rattle.fst_types.specs.declared.ty.Branch.{Branch}
use Rattle.fst_types.specs.declared.written.WrittenBranch.{WrittenBranch}
use Rattle.fst_types.proofs.Heights as heights
use Rattle.fst_types.proofs.InstanceLaws as instance_part
use Rattle.fst_types.proofs.Labels as labels
use Rattle.fst_types.specs.Variables.{HasVariablesBelow}
use Rattle.fst_types.proofs.SubstitutionLaws as substitution
use Rattle.fst_types.proofs.VariableLaws as variables

-- a branch is no higher than the highest branch of its choice
pub height_at : (bs : List Branch) (i : ℕ) (d : Branch) → i < length bs →
    height ((get_or bs i d).body) ≤ height_all (branches_of bs)
height_at = heights.height_at

-- a written branch is no higher than the highest branch of its choice
pub written_height_at : (bs : List WrittenBranch) (i : ℕ) (d : WrittenBranch) → i < length bs →
    written.height ((get_or bs i d).body) ≤ written.height_all (written_branches bs)
written_height_at = heights.written_height_at

-- the order of labels is total
pub label_cmp_total : IsTotalOrder label_cmp
label_cmp_total = labels.label_cmp_total

-- two labels pass the test exactly where they are the same
pub same_label_is : (a b : Label) → (same_label a b ≡ true → a ≡ b) × (a ≡ b → same_label a b ≡ true)
same_label_is = labels.same_label_is

-- labels that pass the test are the same
pub same_label-same : (a b : Label) → same_label a b ≡ true → a ≡ b
same_label-same = labels.same_label-same

-- each label passes the test with itself
pub same_label-itself : (a : Label) → same_label a a ≡ true
same_label-itself = labels.same_label-itself

-- what holds of all that the binders stand for, and of a variable, holds of what the variable stands for
pub variable_has : (P : Tree → Type 0) (env : List (Option Tree)) (k : ℕ) (t : Tree) → EnvHas P env → P t → P (variable env k t)
variable_has = substitution.variable_has

-- a type without free variables from n on has none from a later m on
pub scoped_wider : (n m : ℕ) (s : Tree) → n ≤ m → IsScoped n s → IsScoped m s
scoped_wider = substitution.scoped_wider

-- a type with variables of a signature below n has them below a later m
pub variables_wider : (n m : ℕ) (t : Tree) → n ≤ m → HasVariablesBelow n t → HasVariablesBelow m t
variables_wider = variables.variables_wider

-- binders that stand for nothing change no type
pub substitute_nothing : (s : Tree) → substitute [] s ≡ s
substitute_nothing = substitution.substitute_nothing 0

-- a type whose free variables all stand for types without any has none left
pub substitute_scoped : (env : List (Option Tree)) (s : Tree) → AllClosed env → IsScoped (length env) s →
    IsScoped 0 (substitute env s)
substitute_scoped = substitution.all_put_scoped

-- ordered types put into an ordered type give an ordered type
pub substitute_ordered : (env : List (Option Tree)) (s : Tree) → EnvHas IsOrdered env → IsOrdered s → IsOrdered (substitute env s)
substitute_ordered = substitution.substitute_ordered

-- putting in one type after the others is putting them in all at once
pub substitute_after : (whole : Tree) (env : List (Option Tree)) → AllClosed env → (s : Tree) →
    substitute (Some whole ∷ []) (substitute (None ∷ env) s) ≡ substitute (Some whole ∷ env) s
substitute_after whole env ok = substitution.substitute_after whole env ok 0

-- the unfolding of a type without free variables has none
pub unfolding_of_scoped : (s : Tree) → IsScoped 0 (rec s) → IsScoped 0 (unfolding_of s)
unfolding_of_scoped = substitution.unfolding_of_scoped

-- the unfolding of an ordered type is ordered
pub unfolding_of_ordered : (s : Tree) → IsOrdered (rec s) → IsOrdered (unfolding_of s)
unfolding_of_ordered = substitution.unfolding_of_ordered

-- where types without free variables are put for a signature's variables, no variable gets free
pub instantiated_scoped : (n : ℕ) (args : List Tree) (s : Tree) → ArgumentsHave (IsScoped 0) args → IsScoped n s →
    IsScoped n (instantiated args s)
instantiated_scoped = instance_part.instantiated_scoped

-- an instance of an ordered type by ordered types is ordered
pub instantiated_ordered : (args : List Tree) (s : Tree) → ArgumentsHave IsOrdered args → IsOrdered s →
    IsOrdered (instantiated args s)
instantiated_ordered = instance_part.instantiated_ordered

-- instantiating goes through substitution
pub instantiated_substitute : (args : List Tree) (env : List (Option Tree)) (s : Tree) → ArgumentsHave (IsScoped 0) args →
    instantiated args (substitute env s) ≡ substitute (instantiated_env args env) (instantiated args s)
instantiated_substitute = instance_part.instantiated_substitute

-- the instance of an unfolding is the unfolding of the instance
pub instantiated_unfolding_of : (args : List Tree) (s : Tree) → ArgumentsHave (IsScoped 0) args →
    instantiated args (unfolding_of s) ≡ unfolding_of (instantiated args s)
instantiated_unfolding_of = instance_part.instantiated_unfolding_of
