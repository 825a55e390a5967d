-- What holds of an option's value, or where there is none.
use Rattle.std.proofs.Common.{None, Some, Option, refl}
use Rattle.std.specs.Prelude.{IfNone, IfSome, IsSome}

pub some_with : {A : Type 0} {P Q : A → Type 0} (o : Option A) → ((a : A) → P a → Q a) → IfSome o P → IfSome o Q
some_with None f h = h
some_with (Some a) f h = f a h

pub none_with : {A : Type 0} {P Q : Type 0} (o : Option A) → (P → Q) → IfNone o P → IfNone o Q
none_with None f h = f h
none_with (Some a) f h = h

pub some_unless : {A : Type 0} {P : Type 0} (o : Option A) → (P → ⊥) → IfNone o P → IsSome o
some_unless None f h = absurd (f h)
some_unless (Some a) f h = refl
