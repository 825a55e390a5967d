-- What a task of a type may ask for where it stands still, and what it holds there.
use Rattle.std.specs.Prelude.{◌≡◌, ℕ, List, [], Some, slice_get}
use Rattle.fst_types.specs.Tree as type
use Rattle.fst_types.specs.Tree.{Tree, plain, arrow}
use Rattle.fst_types.specs.declared.base.Base.{Base}
use Rattle.fst_types.specs.declared.base.Base.TheVariants.{Unit as Nothing}
use Rattle.fst_types.specs.declared.kind.Use.{Use}
use Rattle.fst_types.specs.declared.kind.Use.TheVariants.{Many}
use Rattle.fst_types.specs.declared.label.Label.TheVariants.{Receive, Close, Wait}
use Rattle.fst_kinds.specs.WellFormed.{IsSession}
use Rattle.fst_lts.specs.Step.{step}
use Rattle.fst_lts.specs.Dual.{dual}
use Rattle.fst_lts.specs.Histories.{sending}
use Rattle.fst_arms.specs.Arms.{arm_labels, AreEachOnce}
use Rattle.fst_context.specs.Scope.{Variable}
use Rattle.fst_derivations.specs.Parts.{HasUse, IsOffering}
use Rattle.fst_derivations.specs.Rules.{Surroundings, rest}
use Rattle.fst_types.specs.declared.ends.EndName.{EndName}
use Rattle.fst_machine.specs.Free.{free, free_below}
use Rattle.fst_machine.specs.Values as value
use Rattle.fst_machine.specs.Machine.{State, Pause, stuck, calls, uses, makes, forks, puts, gets, closes, waits, matches, ended}
use Rattle.fst_runs.specs.Wrong.{IsUnspent, held_state, held_pause}
use Rattle.fst_safety.specs.Running.{Equals, IsUse, AreAlike, HasType, ArmsHaveType}
use Rattle.fst_safety.specs.Fitting.{Residuals, Fits, IsEnv, Takes, IsTyped}

-- what is asked for is allowed, and each answer that fits it leads on to a value of the type
abbrev pub Allowed : Surroundings → Residuals → Pause → Tree → Type 0
Allowed m r stuck t = ⊥
Allowed m r (calls e env v fs) t =
    (u : Use) × (a : Tree) × (c : Tree) × Fits m r (value.function e env) (arrow u a c) ×
    Fits m r v a × (d : Tree) × Equals c d × Takes m r fs d t
Allowed m r (uses g fs) t = (a : Tree) × IsUse m g a × (d : Tree) × Equals a d × Takes m r fs d t
Allowed m r (makes k fs) t =
    (s : Tree) × (slice_get m.types k ≡ Some s) × IsSession [] s ×
    (d : Tree) × Equals (type.pair s (dual s)) d × Takes m r fs d t
Allowed m r (forks e env fs) t =
    (a : Tree) × (g : List Variable) × IsEnv m r g (free e) env × HasType m g e a ×
    HasUse [] a Many × (d : Tree) × Equals (plain Nothing) d × Takes m r fs d t
Allowed m r (puts x ev fs) t =
    (s : Tree) × (q : Tree) × Fits m r (value.end x) s × (step s (sending ev) ≡ Some q) ×
    (d : Tree) × Equals q d × Takes m r fs d t
Allowed m r (gets x fs) t =
    (b : Base) × (s : Tree) × (q : Tree) × Fits m r (value.end x) s ×
    (step s (Receive b) ≡ Some q) × (d : Tree) × Equals (type.pair (plain b) q) d ×
    Takes m r fs d t
Allowed m r (closes x fs) t =
    (s : Tree) × (q : Tree) × Fits m r (value.end x) s × (step s Close ≡ Some q) ×
    (d : Tree) × Equals (plain Nothing) d × Takes m r fs d t
Allowed m r (waits x fs) t =
    (s : Tree) × (q : Tree) × Fits m r (value.end x) s × (step s Wait ≡ Some q) ×
    (d : Tree) × Equals (plain Nothing) d × Takes m r fs d t
Allowed m r (matches x bs env fs) t =
    (s : Tree) × (names : List (List ℕ)) × (b : Tree) ×
    (g : List Variable) × Fits m r (value.end x) s × IsOffering s names ×
    AreEachOnce names (arm_labels bs) ×
    IsEnv m r g (free_below bs) env × ArmsHaveType m (rest s) g bs b ×
    AreAlike g (free_below bs) bs × Takes m r fs b t
Allowed m r (ended v) t = Fits m r v t

-- the pause is one of the type, and holds each unspent end so often
abbrev pub Reached : Surroundings → Residuals → Pause → Tree → (EndName → ℕ) → Type 0
Reached m r p t n = Allowed m r p t × ((x : EndName) → IsUnspent r x → held_pause x p ≡ n x)

-- the state is one of the type, and holds each unspent end so often
abbrev pub Goes : Surroundings → Residuals → State → Tree → (EndName → ℕ) → Type 0
Goes m r s t n = IsTyped m r s t × ((x : EndName) → IsUnspent r x → held_state x s ≡ n x)
