-- The code of globals.
use Rattle.std.specs.Prelude.{◌≡◌, ◌≤◌, ℕ, List, [], ◌∷◌, ⊤}
use Rattle.fst_terms.specs.CoreTree.{CoreTree}
use Rattle.fst_terms.specs.InRange.{Bounds}
use Rattle.fst_terms.specs.declared.global.GlobalEntry.{GlobalEntry}
use Rattle.fst_machine.specs.declared.code.Instr.TheVariants as instr
use Rattle.fst_machine.specs.Code.{Compiled, At, Computes, no_variables}
use Rattle.fst_code.specs.Whole.{IsReady}
use Rattle.fst_code.specs.Written.{top}

-- from place i a global's body is computed, if it is ready, and then returned from
pub record Starts (d : Compiled) (i : ℕ) (e : CoreTree) : Type 0 where
  pub last : ℕ
  pub behind : ℕ
  pub computes : (b : Bounds) (k : ℕ) → b.families ≡ d.families → IsReady b k e →
      Computes d i e no_variables last
  pub returns : At d last instr.Return behind
  pub within : i ≤ top d

-- so it is of each global, from its place
abbrev pub AllStart : Compiled → List GlobalEntry → List ℕ → Type 0
AllStart d [] [] = ⊤
AllStart d [] (i ∷ is) = ⊥
AllStart d (g ∷ gs) [] = ⊥
AllStart d (g ∷ gs) (i ∷ is) = Starts d i g.body × AllStart d gs is
