-- What stands beside the terms within a term, as trees of numbers and back.
use Rattle.std.specs.Prelude.{◌≡◌, ℕ, ℤ, pos, negsuc, Bool, true, false, List, [], ◌∷◌, refl, ◌==◌, if◌then◌else◌}
use Rattle.fst_types.specs.ModelCode.{name_code, name_at, name_at-name_code}
use Rattle.fst_terms.specs.declared.binder.Binder.{Binder}
use Rattle.fst_terms.specs.declared.term.Op.{Op}
use Rattle.fst_terms.specs.declared.term.Op.TheVariants.{Add, Subtract, Multiply, Equal, Unequal, Less, AtMost, Greater, AtLeast, And, Or}
use base.Stored.{Gv, gnil, gnum, gcons, num}

-- the code of a list, from that of its items
abbrev pub list_code : {A : Type 0} → (A → Gv) → List A → Gv
list_code c [] = gnil
list_code c (x ∷ xs) = gcons (c x) (list_code c xs)

-- the list of a code
abbrev pub list_at : {A : Type 0} → (Gv → A) → Gv → List A
list_at d gnil = []
list_at d (gnum n) = []
list_at d (gcons x y) = d x ∷ list_at d y

-- a list comes back from its code where its items do
pub list_at-list_code : {A : Type 0} (c : A → Gv) (d : Gv → A) → ((x : A) → d (c x) ≡ x) →
    (xs : List A) → list_at d (list_code c xs) ≡ xs
list_at-list_code c d e [] = refl
list_at-list_code c d e (x ∷ xs) = λ i. e x i ∷ list_at-list_code c d e xs i

-- the code of a signed number
abbrev pub int_code : ℤ → Gv
int_code (pos n) = gnum n
int_code (negsuc n) = gcons gnil (gnum n)

-- the signed number of a code
abbrev pub int_at : Gv → ℤ
int_at gnil = pos 0
int_at (gnum n) = pos n
int_at (gcons x y) = negsuc (num y)

-- a signed number comes back from its code
pub int_at-int_code : (n : ℤ) → int_at (int_code n) ≡ n
int_at-int_code (pos n) = refl
int_at-int_code (negsuc n) = refl

-- the code of a truth value
abbrev pub bool_code : Bool → Gv
bool_code false = gnum 0
bool_code true = gnum 1

-- the truth value of a code
abbrev pub bool_at : Gv → Bool
bool_at x = num x == 1

-- a truth value comes back from its code
pub bool_at-bool_code : (b : Bool) → bool_at (bool_code b) ≡ b
bool_at-bool_code false = refl
bool_at-bool_code true = refl

-- the code of a name that is bound
abbrev pub binder_code : Binder → Gv
binder_code x = gcons (gnum x.at) (name_code x.name)

-- the name that is bound, of a code
abbrev pub binder_at : Gv → Binder
binder_at gnil = record { name = []; at = 0 }
binder_at (gnum n) = record { name = []; at = 0 }
binder_at (gcons x y) = record { name = name_at y; at = num x }

-- a name that is bound comes back from its code
pub binder_at-binder_code : (x : Binder) → binder_at (binder_code x) ≡ x
binder_at-binder_code x = λ i. record { name = name_at-name_code x.name i; at = x.at }

-- the code of a sign
abbrev pub op_code : Op → Gv
op_code Add = gnum 0
op_code Subtract = gnum 1
op_code Multiply = gnum 2
op_code Equal = gnum 3
op_code Unequal = gnum 4
op_code Less = gnum 5
op_code AtMost = gnum 6
op_code Greater = gnum 7
op_code AtLeast = gnum 8
op_code And = gnum 9
op_code Or = gnum 10

-- the sign of a number
abbrev pub op_at : ℕ → Op
op_at n =
    if n == 0 then Add else
    if n == 1 then Subtract else
    if n == 2 then Multiply else
    if n == 3 then Equal else
    if n == 4 then Unequal else
    if n == 5 then Less else
    if n == 6 then AtMost else
    if n == 7 then Greater else
    if n == 8 then AtLeast else
    if n == 9 then And else
    Or

-- a sign comes back from its code
pub op_at-op_code : (o : Op) → op_at (num (op_code o)) ≡ o
op_at-op_code Add = refl
op_at-op_code Subtract = refl
op_at-op_code Multiply = refl
op_at-op_code Equal = refl
op_at-op_code Unequal = refl
op_at-op_code Less = refl
op_at-op_code AtMost = refl
op_at-op_code Greater = refl
op_at-op_code AtLeast = refl
op_at-op_code And = refl
op_at-op_code Or = refl
