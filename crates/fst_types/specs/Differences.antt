-- What tells two sides apart.
use Rattle.std.specs.Prelude.{◌↔◌, List, Option}
use Rattle.std.specs.declared.cmp.Ordering.{Ordering}
use Rattle.fst_types.specs.declared.side.Side.{Side}
use Rattle.fst_types.specs.declared.side.Side.TheVariants.{Left, Right}
use Rattle.fst_base.specs.Agreement.{Performs}
use Rattle.fst_base.specs.Order.{IsBefore}

-- this side performs the trace and the other doesn't
abbrev pub PerformsAlone : {T U A : Type 0} → (T → A → Option T) →
    (U → A → Option U) → T → U → List A → Side → Type 0
PerformsAlone f g x y w Left = Performs f x w × (Performs g y w → ⊥)
PerformsAlone f g x y w Right = Performs g y w × (Performs f x w → ⊥)

-- the least trace that exactly one side performs, and that side
pub record IsLeastDistinguishingTrace {T U A : Type 0} (f : T → A → Option T) (g : U → A → Option U)
    (R : A → A → Ordering) (x : T) (y : U) (w : List A) (side : Side) : Type 0 where
  pub alone : PerformsAlone f g x y w side
  pub least : (v : List A) → IsBefore R v w → (Performs f x v ↔ Performs g y v)
