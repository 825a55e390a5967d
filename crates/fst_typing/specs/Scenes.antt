-- What the arms of a term bind, and what has to hold before they and the arguments of a constructor are checked.
use Rattle.std.specs.Prelude.{◌≡◌, ◌⊎◌, ◌<◌, List, ℕ, ⊤, get_or, slice_get, slice_index, length}
use Rattle.fst_types.specs.Tree.{Tree}
use Rattle.fst_terms.specs.CoreTree.{CoreTree, CoreList, CoreArms, no_arms, arm}
use Rattle.fst_terms.specs.InRange.{AreInRange, maker_named, terms_length}
use Rattle.fst_terms.specs.declared.binder.Binder.{Binder}
use Rattle.fst_terms.specs.declared.core_term.Arm.{Arm}
use Rattle.fst_context.specs.Scope.{Scope, Takes, Variable}
use Rattle.fst_derivations.specs.Deriv.{Deriv, Derivs, part, row}
use Rattle.fst_derivations.specs.Parts.{AreVariables, IsFormed, enter_all}
use Rattle.fst_derivations.specs.Rules as rules
use Rattle.fst_derivations.specs.Rules.{Arms, Binds}
use Rattle.fst_derivations.specs.Modules.{types_in_all, AreStandingFormed, AreFieldsFormed}
use Rattle.fst_premises.specs.Checks.{Check, IsInSize, AreInSize}
use Rattle.fst_typing.specs.Typed.{checking, IsTypedUnder}
use Rattle.fst_premises.specs.Shown.{IsLargeBinder}
use Rattle.fst_typing.specs.Shown.{NoMore, Shows, Under}
use Rattle.fst_typing.specs.declared.infer_arms.Binding.{Binding}
use Rattle.fst_typing.specs.declared.infer_arms.Binding.TheVariants.{Fields, Rest}
use Rattle.fst_premises.specs.declared.fault.CheckFault.{CheckFault}
use Rattle.fst_premises.specs.Scenes.{bounds, AreHeld, IsReady, AreFormed}

-- a constructor's arguments are ready, as IsReady says of a term, and as many as the fields with these types
pub record AreFieldsReady (c : Check) (es : CoreList) (ks : List ℕ)
    (g : List Variable) : Type 0 where
  pub range : AreInRange (bounds c) (length g) es
  pub standing : AreStandingFormed c.surroundings.types c.surroundings.vars (types_in_all es)
  pub held : AreHeld c.surroundings.vars g
  pub fields : AreFieldsFormed c.surroundings.types ks
  pub long : length ks ≡ terms_length es

-- what the variables of arms hold
abbrev pub binding_of : Binding → rules.Binding
binding_of (Fields makers numbers) = rules.fields makers.now
binding_of (Rest t) = rules.rest t.now

-- the arm with this number and label has the number of its constructor
abbrev pub IsNumbered : Binding → ℕ → List ℕ → Type 0
IsNumbered (Fields makers numbers) i l =
    (i < length numbers.now) × (slice_index numbers.now i < length makers.now) ×
    (maker_named l makers.now ≡ slice_get makers.now (slice_index numbers.now i))
IsNumbered (Rest t) i l = ⊤

-- each arm has the number of its constructor
abbrev pub AreNumbered : Binding → List Arm → Type 0
AreNumbered B arms = (k : ℕ) (b : Arm) → k < length arms → b ≡ get_or arms k b →
    IsNumbered B k b.label

-- an arm's variables have well-formed types, under which its term is ready if they are within their size
pub record IsArmReady (c : Check) (B : rules.Binding) (l : List ℕ) (xs : List Binder) (e : CoreTree)
    (g : List Variable) : Type 0 where
  pub types : List Tree
  pub binds : Binds c.surroundings B l types
  pub formed : AreFormed c.surroundings.vars types
  pub long : length xs ≡ length types
  pub body : AreInSize types → (vs : List Variable) → AreVariables c.surroundings.vars types vs →
      IsReady c e (enter_all vs g)

-- so it is with each of some arms
abbrev pub AreArmsReady : Check → rules.Binding → CoreArms → List Variable → Type 0
AreArmsReady c B no_arms g = ⊤
AreArmsReady c B (arm l xs e bs) g = IsArmReady c B l xs e g × AreArmsReady c B bs g

-- a derivation of an arm, whose variables hold what B says
pub record IsArmTyped (c : Check) (B : rules.Binding) (l : List ℕ) (xs : List Binder)
    (before after : Scope) (e : CoreTree) (d : Deriv) : Type 0 where
  pub types : List Tree
  pub binds : Binds c.surroundings B l types
  pub typed : IsTypedUnder c xs types before after e d

-- d is one of the first of the arms
abbrev pub IsFirstTyped : Check → rules.Binding → CoreArms → Scope → Scope → Deriv → Type 0
IsFirstTyped c B no_arms before after d = ⊥
IsFirstTyped c B (arm l xs e bs) before after d = IsArmTyped c B l xs before after e d

-- an arm is refused: a variable's type is over its size, or the term under them is refused
abbrev pub ShowsArm : Check → rules.Binding → List ℕ → List Binder → CoreTree → Scope → CheckFault →
    Type 0
ShowsArm c B l xs e s f =
    (ts : List Tree) × Binds c.surroundings B l ts ×
    (IsLargeBinder xs ts f ⊎ Under c xs ts e s (λ z. Shows c e z f) NoMore f)

-- a row of arms behind what they look at
pub record AreArmsTyped (c : Check) (B : rules.Binding) (bs : CoreArms) (before after : Scope)
    (d w : Deriv) : Type 0 where
  pub type : Tree
  pub parts : Derivs
  pub is : w ≡ row type (part d parts)
  pub formed : IsFormed c.surroundings.vars type
  pub small : IsInSize type
  pub takes : Takes (λ u. Arms c.surroundings (checking c) B bs before.variables u type parts)
      before after
