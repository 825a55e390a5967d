-- Equal types.
use Rattle.std.specs.Prelude.{ℕ, List}
use Rattle.fst_types.specs.Tree.{Tree, var, plain, arrow, pair, named}
use Rattle.fst_types.specs.declared.base.Base.{Base}
use Rattle.fst_types.specs.declared.kind.Kind.{Kind}
use Rattle.fst_types.specs.declared.kind.Use.{Use}
use Rattle.fst_kinds.specs.WellFormed.{IsSession}
use Rattle.fst_base.specs.Agreement.{Agree}
use Rattle.fst_lts.specs.Step.{step}

-- the types are the same, but that two session types in one place need only agree at every depth
pub data IsEqual (vars : List Kind) : Tree → Tree → Type 0 where
  -- two session types that agree at every depth
  sessions : {s r : Tree} → IsSession vars s → IsSession vars r → Agree step step s r →
      IsEqual vars s r
  -- a signature's variable and itself
  variables : {k : ℕ} → IsEqual vars (var k) (var k)
  -- a base type and itself
  base_types : {b : Base} → IsEqual vars (plain b) (plain b)
  -- a data type and itself
  data_types : {k : ℕ} → IsEqual vars (named k) (named k)
  -- two functions of one use with equal parts
  functions : {u : Use} {s r t v : Tree} → IsEqual vars s t → IsEqual vars r v →
      IsEqual vars (arrow u s r) (arrow u t v)
  -- two pairs with equal parts
  pairs : {s r t v : Tree} → IsEqual vars s t → IsEqual vars r v →
      IsEqual vars (pair s r) (pair t v)
