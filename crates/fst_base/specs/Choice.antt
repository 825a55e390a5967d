-- A choice that opens only where it is asked to.
use Rattle.std.specs.Prelude.{Bool, true, false}

-- one of two, by a test
unfoldable pub choose : {A : Type 0} → Bool → A → A → A
choose true x y = x
choose false x y = y
