-- The code of arms.
use Rattle.std.specs.Prelude.{◌≡◌, ◌≤◌, ◌||◌, ℕ, ◌+◌, Bool, false, List, [], ◌∷◌, ⊤, length, slice_get, slice_set, Option, Some, None}
use Rattle.fst_types.specs.declared.family.Family.{Family}
use Rattle.fst_types.specs.declared.family.Maker.{Maker}
use Rattle.fst_terms.specs.CoreCount.{core_arms_count}
use Rattle.fst_terms.specs.InRange.{Bounds}
use Rattle.fst_terms.specs.ModelCoreView.{core_arms_of}
use Rattle.fst_terms.specs.declared.core_term.Arm.{Arm}
use Rattle.fst_machine.specs.declared.code.Instr.TheVariants as instr
use Rattle.fst_machine.specs.Free.{free, free_below, outside_all}
use Rattle.fst_machine.specs.Code.{Compiled, At, Comes, Forgets, BindsAll, Computes, also, within_all}
use Rattle.fst_code.specs.declared.codes.ArmCode.{ArmCode}
use Rattle.fst_code.specs.declared.makers.MakerPlace.{MakerPlace}
use Rattle.fst_code.specs.Marks.{marked}
use Rattle.fst_code.specs.Whole.{IsReady}
use Rattle.fst_code.specs.Written.{Extends, top}

-- from place i the last values become an arm's variables, its term is computed, if it is ready, and then place j comes; in the
-- set p is what is used behind
pub record RunsArm (d : Compiled) (i : ℕ) (b : Arm) (p : ℕ → Bool) (j : ℕ) : Type 0 where
  pub behind : ℕ
  pub last : ℕ
  pub next : ℕ
  pub binds : BindsAll d i b.binders.items (free b.body) behind
  pub computes : (g : Bounds) (k : ℕ) → g.families ≡ d.families → IsReady g k b.body →
      Computes d behind b.body (within_all b.binders.items p) last
  pub unbinds : At d last (instr.Unbind (length b.binders.items)) next
  pub comes : Comes d next j

-- the code of an arm was written
pub record IsWritten (d : Compiled) (ms : List Bool) (j : ℕ) (b : Arm) (a : ArmCode) : Type 0 where
  pub runs : RunsArm d a.start b (marked ms) j
  pub within : a.start ≤ top d
  pub marks : marked a.marks.items ≡ also (outside_all b.binders.items (free b.body)) (marked ms)
  pub deep : length a.marks.items ≡ length ms

-- so it is of each arm
abbrev pub AreWritten : Compiled → List Bool → ℕ → List Arm → List ArmCode → Type 0
AreWritten d ms j [] [] = ⊤
AreWritten d ms j [] (a ∷ cs) = ⊥
AreWritten d ms j (b ∷ bs) [] = ⊥
AreWritten d ms j (b ∷ bs) (a ∷ cs) = IsWritten d ms j b a × AreWritten d ms j bs cs

-- the variables that are marked in an arm
abbrev pub marks_of : List ArmCode → ℕ → Bool
marks_of [] k = false
marks_of (a ∷ cs) k = marked a.marks.items k || marks_of cs k

-- each arm has a mark for each of n variables
abbrev pub AllDeep : ℕ → List ArmCode → Type 0
AllDeep n cs = (k : ℕ) (a : ArmCode) → slice_get cs k ≡ Some a → length a.marks.items ≡ n

-- each arm's code begins at place n or below it
abbrev pub AllWithin : ℕ → List ArmCode → Type 0
AllWithin n cs = (k : ℕ) (a : ArmCode) → slice_get cs k ≡ Some a → a.start ≤ n

-- each of these places is n or below it
abbrev pub AreAtMost : ℕ → List ℕ → Type 0
AreAtMost n is = (k i : ℕ) → slice_get is k ≡ Some i → i ≤ n

-- from each of these places what the arms use and this one doesn't is dropped, and then the arm's code comes
abbrev pub AllForget : Compiled → (ℕ → Bool) → (ℕ → Bool) → List ArmCode → List ℕ → Type 0
AllForget d q p [] [] = ⊤
AllForget d q p [] (i ∷ is) = ⊥
AllForget d q p (a ∷ cs) [] = ⊥
AllForget d q p (a ∷ cs) (i ∷ is) =
    ((f : ℕ → Bool) → marked a.marks.items ≡ also f p → Forgets d i q f p a.start) ×
    AllForget d q p cs is

-- from place i what the arms use and this one doesn't is dropped, and then the arm runs
pub record RunsFrom (d : Compiled) (i : ℕ) (q p : ℕ → Bool) (b : Arm) (j : ℕ) : Type 0 where
  pub start : ℕ
  pub forgets : Forgets d i q (outside_all b.binders.items (free b.body)) p start
  pub runs : RunsArm d start b p j

-- so it is of each arm, from its place
abbrev pub AllRun : Compiled → (ℕ → Bool) → (ℕ → Bool) → List Arm → List ℕ → ℕ → Type 0
AllRun d q p [] [] j = ⊤
AllRun d q p [] (i ∷ is) j = ⊥
AllRun d q p (b ∷ bs) [] j = ⊥
AllRun d q p (b ∷ bs) (i ∷ is) j = RunsFrom d i q p b j × AllRun d q p bs is j

-- the code of arms was written, which start at these places, and no more entries than they have
-- terms and bound names
pub record WritesArms (c : Compiled) (ms : List Bool) (d : Compiled) (ns : List Bool)
    (bs : List Arm) (is : List ℕ) : Type 0 where
  pub extends : Extends c d
  pub entries : length d.lambdas ≤ length c.lambdas + core_arms_count (core_arms_of bs)
  pub run : AllRun d (free_below (core_arms_of bs)) (marked ms) bs is (top c)
  pub within : AreAtMost (top d) is
  pub marks : marked ns ≡ also (free_below (core_arms_of bs)) (marked ms)
  pub deep : length ns ≡ length ms

-- the labels of arms with these places
abbrev pub table_of : List Arm → List ℕ → List (List ℕ × ℕ)
table_of [] is = []
table_of (b ∷ bs) [] = []
table_of (b ∷ bs) (i ∷ is) = (b.label, i) ∷ table_of bs is

-- places by the numbers of constructors, of which one is given its own
abbrev pub put_at : Option MakerPlace → ℕ → List ℕ → List ℕ
put_at None i ps = ps
put_at (Some p) i ps = slice_set ps p.maker i

-- the arm stands for a constructor of the data type, which has place i in the table
pub record HasPlace (f : Family) (ps : List ℕ) (b : Arm) (i : ℕ) : Type 0 where
  pub number : ℕ
  pub maker : Maker
  pub there : slice_get f.makers.items number ≡ Some maker
  pub named : maker.name ≡ b.label
  pub placed : slice_get ps number ≡ Some i

-- so it is of each arm, with its place
abbrev pub ArePlacesOf : Family → List Arm → List ℕ → List ℕ → Type 0
ArePlacesOf f bs is ps = (k i : ℕ) (b : Arm) → slice_get bs k ≡ Some b → slice_get is k ≡ Some i →
    HasPlace f ps b i
