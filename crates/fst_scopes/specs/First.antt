-- Where a fault of names stands, and which of some faults comes first.
use Rattle.std.specs.Prelude.{◌≡◌, ◌↔◌, ℕ, Bool, false, ◌||◌, ◌&&◌, nat_lt, nat_eq, List, [], ◌∷◌, Contains, Option, Some, None, if◌then◌else◌}
use Rattle.fst_scopes.specs.declared.fault.NameFault.{NameFault}
use Rattle.fst_scopes.specs.declared.fault.NameFault.TheVariants.{Unbound, Twice, Arity, AliasLoop, TooLarge, NoMain, Memory}

-- the byte at which a fault stands; the last two have no place
abbrev pub place : NameFault → ℕ
place (Unbound at x) = at
place (Twice at x) = at
place (Arity at got wanted) = at
place (AliasLoop at x) = at
place (TooLarge at) = at
place NoMain = 0
place Memory = 0

-- the number by which faults at one place are ordered
abbrev pub number : NameFault → ℕ
number (Unbound at x) = 1
number (Twice at x) = 2
number (Arity at got wanted) = 3
number (AliasLoop at x) = 4
number (TooLarge at) = 5
number NoMain = 6
number Memory = 7

-- a fault stands at a lesser place than another one, or at its place with a lesser number
abbrev pub comes_before : NameFault → NameFault → Bool
comes_before f g = nat_lt (place f)
    (place g) || (nat_eq (place f) (place g) && nat_lt (number f) (number g))

-- the first of a fault that was kept, if there is one, and a further fault, which is first only where it comes before
abbrev pub earlier : Option NameFault → NameFault → Option NameFault
earlier None f = Some f
earlier (Some kept) f = if comes_before f kept then Some f else Some kept

-- the first of a fault that was kept and of some further faults
abbrev pub first_from : Option NameFault → List NameFault → Option NameFault
first_from kept [] = kept
first_from kept (f ∷ fs) = first_from (earlier kept f) fs

-- the fault in the least place, at one place the one of the least number, and of such the first in the list
abbrev pub first_fault : List NameFault → Option NameFault
first_fault fs = first_from None fs

-- a fault is among these, and none of them comes before it
pub record IsFirst (fs : List NameFault) (f : NameFault) : Type 0 where
  pub there : Contains fs f
  pub least : (g : NameFault) → Contains fs g → comes_before g f ≡ false

-- what is said of the first of some faults
pub record FirstFaultLaw : Type 0 where
  pub first : (fs : List NameFault) (f : NameFault) → first_fault fs ≡ Some f → IsFirst fs f
  pub none : (fs : List NameFault) → (first_fault fs ≡ None) ↔ (fs ≡ [])
