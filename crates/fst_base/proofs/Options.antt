-- Values that may be there.
use Rattle.std.proofs.Common.{◌≡◌, Bool, true, false, Option, Some, None, refl}
use Rattle.std.specs.Prelude.{IsSome, option_map, if◌then◌else◌}

-- a value of a function comes from a value
pub mapped_some : {X Y : Type 0} (f : X → Y) (o : Option X) (y : Y) → option_map f o ≡ Some y → (x : X) × (o ≡ Some x) × (f x ≡ y)
mapped_some f None y e = absurd (cc e)
mapped_some f (Some x) y e = (x, refl, cc)

-- a value that is there has a function's value
pub mapped_there : {X Y : Type 0} (f : X → Y) (o : Option X) → IsSome o → IsSome (option_map f o)
mapped_there f None e = absurd (cc e)
mapped_there f (Some x) e = refl

-- a function's value is there where its argument is
pub unmapped_there : {X Y : Type 0} (f : X → Y) (o : Option X) → IsSome (option_map f o) → IsSome o
unmapped_there f None e = absurd (cc e)
unmapped_there f (Some x) e = refl

-- a value by a test is there where the test holds
pub there_if : {X : Type 0} (x : X) (c : Bool) → c ≡ true → IsSome (if c then Some x else None)
there_if x true e = refl
there_if x false e = absurd (cc e)

-- the test holds where the value is there
pub if_there : {X : Type 0} (x : X) (c : Bool) → IsSome (if c then Some x else None) → c ≡ true
if_there x true e = refl
if_there x false e = absurd (cc e)

-- values that are there are one where what holds them is
pub some_same : {A : Type 0} {a b : A} → Some a ≡ Some b → a ≡ b
some_same e = cc e

-- no value is none
pub none_some : {A : Type 0} {a : A} → None ≡ Some a → ⊥
none_some e = cc e
