-- What is said of the moves of instances.
use Rattle.std.specs.Prelude.{◌≡◌, ◌≤◌, ℕ, List, length, map, None}
use Rattle.fst_types.specs.Tree.{Tree, seq}
use Rattle.fst_types.specs.declared.kind.Kind.{Kind}
use Rattle.fst_types.specs.declared.label.Label.TheVariants.{Var}
use Rattle.fst_types.specs.Instance.{instantiated}
use Rattle.fst_kinds.specs.WellFormed.{IsSession, IsClosing, IsInstantiation}
use Rattle.fst_base.specs.Agreement.{Agree, Performs}
use Rattle.fst_lts.specs.Step.{step}

-- the instances of two types agree at every depth, alone and with any one type in front of both
pub record InstancesAgree (args : List Tree) (s r : Tree) : Type 0 where
  pub alone : Agree step step (instantiated args s) (instantiated args r)
  pub behind : (t : Tree) → Agree step step (seq t (instantiated args s))
      (seq t (instantiated args r))

-- session types that agree at every depth do so in every closing instance
abbrev pub InstanceLaw : Type 0
InstanceLaw =
    (vars : List Kind) (args : List Tree) (s r : Tree) → IsClosing vars args → IsSession vars s →
    IsSession vars r → Agree step step s r →
    InstancesAgree args s r

-- and in every instance by types that may hold variables of which outer has the kinds
abbrev pub InstanceLawOver : List Kind → Type 0
InstanceLawOver outer =
    (vars : List Kind) (args : List Tree) (s r : Tree) → IsInstantiation outer vars args →
    IsSession vars s → IsSession vars r → Agree step step s r →
    InstancesAgree args s r

-- the type moves by no signature's variable
abbrev pub IsUnled : Tree → Type 0
IsUnled s = (k : ℕ) → step s (Var k) ≡ None

-- there is a bound on how often the type moves by variables, one after the other
abbrev pub FewVariables : Tree → Type 0
FewVariables s = (m : ℕ) × ((ks : List ℕ) → Performs step s (map Var ks) → length ks ≤ m)
