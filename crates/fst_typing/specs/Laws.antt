-- What a refusal says of its module, and that a module is refused in one way.
use Rattle.std.specs.Prelude.{◌≡◌, ℕ, List, ⊤, Vec}
use Rattle.std.specs.Global.{Global}
use Rattle.fst_types.specs.Tree.{Tree}
use Rattle.fst_types.specs.declared.label.Label.{Label}
use Rattle.fst_types.specs.declared.side.Side.{Side}
use Rattle.fst_terms.specs.declared.core_module.Module.{Module}
use Rattle.fst_derivations.specs.Deriv.{Deriv}
use Rattle.fst_derivations.specs.Parts.{IsConversion}
use Rattle.fst_derivations.specs.Rules.{comparing}
use Rattle.fst_derivations.specs.Modules.{HasDerivations, HasPlainDerivations}
use Rattle.fst_premises.specs.declared.fault.CheckFault.{CheckFault}
use Rattle.fst_premises.specs.declared.fault.CheckFault.TheVariants.{Mismatch, Unused, UsedTwice, CapturedLinear, NotFunction, TypeArguments, KindOfArgument, NoSuchMove, Branches, NotPrintable, Undecided, Memory, Arms, Dropped, NotPair, Kinds, TooLarge}
use Rattle.fst_premises.specs.declared.fault.Difference.TheVariants.{Word}
use Rattle.fst_typing.specs.Checked.{HasDerivationsWithin, IsAccepted, IsRefusal}

-- the refusal is of the module itself: no question is undecided, no memory is wanting, and nothing is over its size
abbrev pub IsCause : CheckFault → Type 0
IsCause (Mismatch at got wanted d) = ⊤
IsCause (Unused at x) = ⊤
IsCause (UsedTwice at x) = ⊤
IsCause (CapturedLinear at x) = ⊤
IsCause (NotFunction at got) = ⊤
IsCause (TypeArguments at got wanted) = ⊤
IsCause (KindOfArgument at got wanted) = ⊤
IsCause (NoSuchMove at got asked) = ⊤
IsCause (Branches at x) = ⊤
IsCause (NotPrintable at got) = ⊤
IsCause (Undecided at got wanted g ps) = ⊥
IsCause Memory = ⊥
IsCause (Arms at got) = ⊤
IsCause (Dropped at got) = ⊤
IsCause (NotPair at got) = ⊤
IsCause (Kinds at fault) = ⊤
IsCause (TooLarge at) = ⊥

-- a module that has derivations has plain ones
abbrev pub DerivedHasPlain : Type 0
DerivedHasPlain = (m : Module) (ds : List Deriv) → HasDerivations m ds →
    (es : List Deriv) × HasPlainDerivations m (λ vars. comparing (IsConversion vars)) es

-- a module of which such a refusal is shown has no derivations
abbrev pub RefusedHasNone : Type 0
RefusedHasNone = (m : Module) (budget : ℕ) (f : CheckFault) → IsCause f → IsRefusal m budget f →
    (ds : List Deriv) → HasDerivations m ds → ⊥

-- of a module with plain derivations whose types and questions are within the limits no refusal is shown
abbrev pub WithinIsNotRefused : Type 0
WithinIsNotRefused = (m : Module) (budget : ℕ) (ds : List Deriv) →
    HasDerivationsWithin m budget ds → (f : CheckFault) → IsRefusal m budget f → ⊥

-- two refusals say the same: of a trace that tells two types apart the labels, and of a question that is left undecided the types
pub data SaySame : CheckFault → CheckFault → Type 0 where
  itself : {f g : CheckFault} → f ≡ g → SaySame f g
  traces : {at : ℕ} {found wanted : Tree} {v w : Vec Label Global} {side : Side} →
      v.items ≡ w.items → SaySame (Mismatch at found wanted (Word v side))
      (Mismatch at found wanted (Word w side))
  questions : {at : ℕ} {found wanted : Tree} {g h : _} {ps qs : _} →
      SaySame (Undecided at found wanted g ps) (Undecided at found wanted h qs)

-- a module is refused in one way at most
abbrev pub OneRefusal : Type 0
OneRefusal = (m : Module) (budget : ℕ) (f g : CheckFault) → IsRefusal m budget f →
    IsRefusal m budget g → SaySame f g

-- an accepted module is within the limits: so the modules of which this can be said are just those that are accepted where there is memory
abbrev pub AcceptedIsWithin : Type 0
AcceptedIsWithin = (m : Module) (budget : ℕ) (ds : List Deriv) → IsAccepted m budget ds →
    HasDerivationsWithin m budget ds

-- a module that is accepted isn't refused
abbrev pub AcceptedIsNotRefused : Type 0
AcceptedIsNotRefused = (m : Module) (budget : ℕ) (ds : List Deriv) → IsAccepted m budget ds →
    (f : CheckFault) → IsRefusal m budget f → ⊥
