-- What can be written: what is ready, and small enough.
use Rattle.std.specs.Prelude.{◌≡◌, ◌<◌, ℕ, ◌+◌, List, length, slice_get, Some}
use Rattle.fst_terms.specs.CoreCount.{core_limit, core_count, cores_count, core_arms_count, globals_count}
use Rattle.fst_terms.specs.CoreTree.{CoreTree, CoreList}
use Rattle.fst_terms.specs.InRange.{Bounds}
use Rattle.fst_terms.specs.ModelCoreView.{core_arms_of}
use Rattle.fst_terms.specs.declared.core_term.Arm.{Arm}
use Rattle.fst_terms.specs.declared.global.GlobalEntry.{GlobalEntry}
use Rattle.fst_code.specs.Whole.{AreReady, IsReady}

-- a term can be written where n variables are in scope and l entries stand: it is ready under n
-- binders, and all these with its terms and bound names are fewer than a module may have
pub record IsWritable (n l : ℕ) (e : CoreTree) : Type 0 where
  pub bounds : Bounds
  pub ready : IsReady bounds n e
  pub few : n + l + core_count e < core_limit

-- so it is of these terms, one after the other
pub record AreWritable (n l : ℕ) (es : CoreList) : Type 0 where
  pub bounds : Bounds
  pub ready : AreReady bounds n es
  pub few : n + l + cores_count es < core_limit

-- so it is of the terms of these arms, each under its arm's binders too
pub record AreArmsWritable (n l : ℕ) (bs : List Arm) : Type 0 where
  pub bounds : Bounds
  pub ready : (k : ℕ) (b : Arm) → slice_get bs k ≡ Some b →
      IsReady bounds (length b.binders.items + n) b.body
  pub few : n + l + core_arms_count (core_arms_of bs) < core_limit

-- so it is of the bodies of these globals
pub record AreGlobalsWritable (l : ℕ) (gs : List GlobalEntry) : Type 0 where
  pub bounds : Bounds
  pub ready : (k : ℕ) (g : GlobalEntry) → slice_get gs k ≡ Some g → IsReady bounds 0 g.body
  pub few : l + globals_count gs < core_limit
