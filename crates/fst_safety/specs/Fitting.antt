-- When values, environments, frames and states fit their types, where each end has its residual r.
use Rattle.std.specs.Prelude.{◌≡◌, ℕ, zero, suc, Bool, true, false, List, [], ◌∷◌, map, Option, Some, slice_get, ⊤}
use Rattle.fst_types.specs.Tree as type
use Rattle.fst_types.specs.Tree.{Tree, plain, arrow, named}
use Rattle.fst_types.specs.declared.base.Base.{Base}
use Rattle.fst_types.specs.declared.base.Base.TheVariants.{Int, Bool as Truth, Char, Unit as Nothing}
use Rattle.fst_types.specs.declared.family.Family.{Family}
use Rattle.fst_types.specs.declared.family.Maker.{Maker}
use Rattle.fst_types.specs.declared.kind.Use.{Use}
use Rattle.fst_types.specs.declared.kind.Use.TheVariants.{Many}
use Rattle.fst_types.specs.declared.label.Label.TheVariants.{Send, Receive, Select, Close, Wait}
use Rattle.fst_kinds.specs.WellFormed.{IsSession}
use Rattle.fst_lts.specs.Step.{step}
use Rattle.fst_terms.specs.InRange.{maker_of}
use Rattle.fst_arms.specs.Arms.{arm_labels, AreEachOnce}
use Rattle.fst_context.specs.Scope.{Variable}
use Rattle.fst_derivations.specs.Parts.{HasUse, AreAt, IsOffering}
use Rattle.fst_derivations.specs.Rules.{Surroundings, Operates, fields, rest}
use Rattle.fst_types.specs.declared.ends.EndName.{EndName}
use Rattle.fst_machine.specs.Free.{free, free_in, free_below, outside}
use Rattle.fst_machine.specs.Values as value
use Rattle.fst_machine.specs.Values.{Value, Values, no_values, Environment, none, hole, slot}
use Rattle.fst_machine.specs.Machine.{State, Frame, at_function, at_argument, at_first, at_second, at_field, at_let, at_split, at_if, at_case, at_left, at_right, at_not, at_value, at_target, at_receive, at_close, at_wait, at_select, at_match, at_seq, in_either}
use Rattle.fst_safety.specs.Running.{Equals, Alike, Plentiful, Spends, IsVariable, AreAlike, HasType, HaveTypes, ArmsHaveType}

-- the residuals of ends, of those that have one
abbrev pub Residuals : Type 0
Residuals = EndName → Option Tree

-- there is a value for the variable
abbrev pub present : Environment → ℕ → Bool
present none k = false
present (hole env) zero = false
present (hole env) (suc k) = present env k
present (slot v env) zero = true
present (slot v env) (suc k) = present env k

-- values for just these variables
abbrev pub Exactly : (ℕ → Bool) → Environment → Type 0
Exactly p env = (k : ℕ) → present env k ≡ p k

-- there is a first variable, and this holds of those behind it
abbrev pub OnTail : (List Variable → Type 0) → List Variable → Type 0
OnTail P [] = ⊥
OnTail P (v ∷ g) = P g

-- there is a first variable, and this holds of its type and of those behind it
abbrev pub OnBoth : (Tree → Type 0) → (List Variable → Type 0) → List Variable → Type 0
OnBoth P Q [] = ⊥
OnBoth P Q (v ∷ g) = P v.type × IsVariable v × Q g

abbrev mutual
  -- the value is one of the type
  pub Fits : Surroundings → Residuals → Value → Tree → Type 0
  Fits m r (value.int n) t = Equals (plain Int) t
  Fits m r (value.bool b) t = Equals (plain Truth) t
  Fits m r (value.char c) t = Equals (plain Char) t
  Fits m r value.unit t = Equals (plain Nothing) t
  Fits m r (value.pair v w) t = (a : Tree) ×
      (b : Tree) × Fits m r v a × Fits m r w b × Equals (type.pair a b) t
  Fits m r (value.made n o vs) t =
      (c : Maker) × (ts : List Tree) × (maker_of (slice_get m.families n) o ≡ Some c) ×
      AreAt m.types c.fields.items ts ×
      FitAll m r vs ts × Equals (named n) t
  Fits m r (value.function e env) t =
      (g : List Variable) × (u : Use) × (v : Variable) ×
      (b : Tree) × FitsEnv m r env g × Exactly (outside (free e)) env × IsVariable v ×
      HasType m (v ∷ g) e b × Spends v (free e zero) ×
      (u ≡ Many → Plentiful g (outside (free e))) × Equals (arrow u v.type b) t
  Fits m r (value.end x) t = (s : Tree) × (r x ≡ Some s) × IsSession [] s × Equals s t

  -- the values are of these types, one each
  pub FitAll : Surroundings → Residuals → Values → List Tree → Type 0
  FitAll m r no_values [] = ⊤
  FitAll m r no_values (t ∷ ts) = ⊥
  FitAll m r (value.value v vs) [] = ⊥
  FitAll m r (value.value v vs) (t ∷ ts) = Fits m r v t × FitAll m r vs ts

  -- the values that are there are of their variables' types
  pub FitsEnv : Surroundings → Residuals → Environment → List Variable → Type 0
  FitsEnv m r none g = ⊤
  FitsEnv m r (hole env) g = OnTail (FitsEnv m r env) g
  FitsEnv m r (slot v env) g = OnBoth (Fits m r v) (FitsEnv m r env) g

-- an environment for just these variables
abbrev pub IsEnv : Surroundings → Residuals → List Variable → (ℕ → Bool) → Environment → Type 0
IsEnv m r g p env = FitsEnv m r env g × Exactly p env

-- the values, the latest first, are of the types in front of these
abbrev pub FitBefore : Surroundings → Residuals → Values → List Tree → List Tree → Type 0
FitBefore m r no_values all ts = all ≡ ts
FitBefore m r (value.value v vs) all ts = (t : Tree) × Fits m r v t × FitBefore m r vs all (t ∷ ts)

-- the frames take a value of the first type to one of the second
abbrev pub Takes : Surroundings → Residuals → List Frame → Tree → Tree → Type 0
Takes m r [] a t = Equals a t
Takes m r (at_function f env ∷ fs) a t =
    (u : Use) × (b : Tree) × (c : Tree) × (g : List Variable) ×
    (a ≡ arrow u b c) × IsEnv m r g (free f) env × HasType m g f b ×
    (d : Tree) × Equals c d × Takes m r fs d t
Takes m r (at_argument v ∷ fs) a t = (u : Use) × (c : Tree) × Fits m r v (arrow u a c) ×
    (d : Tree) × Equals c d × Takes m r fs d t
Takes m r (at_first f env ∷ fs) a t =
    (b : Tree) × (g : List Variable) × IsEnv m r g (free f) env × HasType m g f b ×
    (d : Tree) × Equals (type.pair a b) d × Takes m r fs d t
Takes m r (at_second v ∷ fs) b t = (a : Tree) × Fits m r v a ×
    (d : Tree) × Equals (type.pair a b) d × Takes m r fs d t
Takes m r (at_field n o done es env ∷ fs) a t =
    (c : Maker) × (all : List Tree) × (ts : List Tree) × (g : List Variable) ×
    (maker_of (slice_get m.families n) o ≡ Some c) ×
    AreAt m.types c.fields.items all × FitBefore m r done all (a ∷ ts) ×
    IsEnv m r g (free_in es) env × HaveTypes m g es ts ×
    (d : Tree) × Equals (named n) d × Takes m r fs d t
Takes m r (at_let f env ∷ fs) a t =
    (v : Variable) × (b : Tree) × (g : List Variable) ×
    (a ≡ v.type) × IsVariable v × IsEnv m r g (outside (free f)) env ×
    HasType m (v ∷ g) f b × Spends v (free f zero) × Takes m r fs b t
Takes m r (at_split f env ∷ fs) a t =
    (v : Variable) × (w : Variable) × (b : Tree) × (g : List Variable) ×
    (a ≡ type.pair v.type w.type) × IsVariable v × IsVariable w ×
    IsEnv m r g (outside (outside (free f))) env × HasType m (w ∷ v ∷ g) f b ×
    Spends v (free f (suc zero)) × Spends w (free f zero) ×
    Takes m r fs b t
Takes m r (at_if f h env ∷ fs) a t =
    (b : Tree) × (g : List Variable) ×
    (a ≡ plain Truth) × IsEnv m r g (in_either f h) env × HasType m g f b × HasType m g h b ×
    Alike g (free f) (free h) × Takes m r fs b t
Takes m r (at_case bs env ∷ fs) a t =
    (n : ℕ) × (f : Family) × (b : Tree) × (g : List Variable) ×
    (a ≡ named n) × IsEnv m r g (free_below bs) env ×
    (slice_get m.families n ≡ Some f) ×
    AreEachOnce (map (λ o. o.name) f.makers.items) (arm_labels bs) ×
    ArmsHaveType m (fields f.makers.items) g bs b × AreAlike g (free_below bs) bs × Takes m r fs b t
Takes m r (at_left o f env ∷ fs) a t =
    (b : Tree) × (g : List Variable) × Operates o a b × IsEnv m r g (free f) env × HasType m g f a ×
    (d : Tree) × Equals b d × Takes m r fs d t
Takes m r (at_right o v ∷ fs) a t = (b : Tree) × Operates o a b × Fits m r v a ×
    (d : Tree) × Equals b d × Takes m r fs d t
Takes m r (at_not ∷ fs) a t = (a ≡ plain Truth) ×
    (d : Tree) × Equals (plain Truth) d × Takes m r fs d t
Takes m r (at_value f env ∷ fs) a t =
    (b : Base) × (s : Tree) × (q : Tree) × (g : List Variable) ×
    (a ≡ plain b) × IsEnv m r g (free f) env × HasType m g f s ×
    (step s (Send b) ≡ Some q) × (d : Tree) × Equals q d × Takes m r fs d t
Takes m r (at_target v ∷ fs) a t =
    (b : Base) × (q : Tree) × Fits m r v (plain b) × (step a (Send b) ≡ Some q) ×
    (d : Tree) × Equals q d × Takes m r fs d t
Takes m r (at_receive ∷ fs) a t =
    (b : Base) × (q : Tree) × (step a (Receive b) ≡ Some q) ×
    (d : Tree) × Equals (type.pair (plain b) q) d × Takes m r fs d t
Takes m r (at_close ∷ fs) a t = (q : Tree) × (step a Close ≡ Some q) ×
    (d : Tree) × Equals (plain Nothing) d × Takes m r fs d t
Takes m r (at_wait ∷ fs) a t = (q : Tree) × (step a Wait ≡ Some q) ×
    (d : Tree) × Equals (plain Nothing) d × Takes m r fs d t
Takes m r (at_select l ∷ fs) a t = (q : Tree) × (step a (Select l) ≡ Some q) ×
    (d : Tree) × Equals q d × Takes m r fs d t
Takes m r (at_match bs env ∷ fs) a t =
    (names : List (List ℕ)) × (b : Tree) ×
    (g : List Variable) × IsOffering a names × AreEachOnce names (arm_labels bs) ×
    IsEnv m r g (free_below bs) env × ArmsHaveType m (rest a) g bs b ×
    AreAlike g (free_below bs) bs × Takes m r fs b t
Takes m r (at_seq f env ∷ fs) a t =
    (b : Tree) × (g : List Variable) × HasUse [] a Many × IsEnv m r g (free f) env ×
    HasType m g f b × Takes m r fs b t

-- the state is that of a task whose value is of the type
pub record IsTyped (m : Surroundings) (r : Residuals) (s : State) (t : Tree) : Type 0 where
  pub variables : List Variable
  pub type : Tree
  pub environment : IsEnv m r variables (free s.term) s.environment
  pub term : HasType m variables s.term type
  pub frames : Takes m r s.frames type t
