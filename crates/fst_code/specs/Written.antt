-- What is written so far, and what each function writes.
use Rattle.std.specs.Prelude.{◌≡◌, ◌≤◌, ℕ, ◌+◌, suc, Bool, List, [], length, slice_get, Some, if◌then◌else◌}
use Rattle.fst_types.specs.declared.family.Family.{Family}
use Rattle.fst_terms.specs.CoreCount.{core_count, cores_count}
use Rattle.fst_terms.specs.CoreTree.{CoreTree, CoreList}
use Rattle.fst_terms.specs.InRange.{Bounds}
use Rattle.fst_terms.specs.declared.binder.Binder.{Binder}
use Rattle.fst_machine.specs.declared.code.Instr.{Instr}
use Rattle.fst_machine.specs.declared.code.Instr.TheVariants as instr
use Rattle.fst_machine.specs.declared.entry.LambdaEntry.{LambdaEntry}
use Rattle.fst_machine.specs.Free.{free, free_in, outside_all}
use Rattle.fst_machine.specs.Code.{Compiled, At, Leads, Comes, Captures, Clears, Forgets, Lists, Binds, BindsAll, Computes, ComputesAll, also, within_all}
use Rattle.fst_code.specs.declared.built.Built.{Built}
use Rattle.fst_machine.specs.Standing.{GoesDown}
use Rattle.fst_code.specs.Marks.{marked}
use Rattle.fst_code.specs.Whole.{AreReady, IsReady}

-- the code that is written so far, with the data types of the module
abbrev pub compiled : List Family → Built → Compiled
compiled fs b = record {
  families = fs;
  code = b.code.items;
  lambdas = b.lambdas.items;
  globals =
      [];
}

-- the place of the instruction that was written last
abbrev pub top : Compiled → ℕ
top c = length c.code

-- more was written behind, and it goes down too
pub record Extends (c d : Compiled) : Type 0 where
  pub families : c.families ≡ d.families
  pub code : (k : ℕ) (a : Instr) → slice_get c.code k ≡ Some a → slice_get d.code k ≡ Some a
  pub lambdas : (k : ℕ) (e : LambdaEntry) → slice_get c.lambdas k ≡ Some e →
      slice_get d.lambdas k ≡ Some e
  pub longer : top c ≤ top d
  pub down : GoesDown c → GoesDown d

-- code was written for which P holds, with the place where it begins and the place that comes behind
-- it, and no entry
pub record Adds (P : Compiled → ℕ → ℕ → Type 0) (c d : Compiled) : Type 0 where
  pub extends : Extends c d
  pub entries : d.lambdas ≡ c.lambdas
  pub there : P d (top d) (top c)

-- an instruction was written
abbrev pub Pushes : Compiled → Compiled → Instr → Type 0
Pushes c d a = Adds (λ e i j. At e i a j) c d

-- what comes to a place was written
abbrev pub ComesTo : Compiled → Compiled → ℕ → Type 0
ComesTo c d j = Adds (λ e i h. Comes e i j) c d

-- what makes a variable of the last value was written
abbrev pub Enters : Compiled → Compiled → Bool → Type 0
Enters c d used = Adds (λ e i j. Binds e i used j) c d

-- what makes variables of the last values was written
abbrev pub EntersAll : Compiled → Compiled → List Binder → (ℕ → Bool) → Type 0
EntersAll c d xs p = Adds (λ e i j. BindsAll e i xs p j) c d

-- what puts variables on the stack was written
abbrev pub Loads : Compiled → Compiled → List ℕ → (ℕ → Bool) → Type 0
Loads c d ks p = Adds (λ e i j. Captures e i ks p j) c d

-- what drops variables was written
abbrev pub Drops : Compiled → Compiled → List ℕ → Type 0
Drops c d ks = Adds (λ e i j. Clears e i ks j) c d

-- what forgets variables in front of place j was written, and begins at place i, and no entry
pub record Forgot (c d : Compiled) (i : ℕ) (q f p : ℕ → Bool) (j : ℕ) : Type 0 where
  pub extends : Extends c d
  pub entries : d.lambdas ≡ c.lambdas
  pub forgets : Forgets d i q f p j
  pub within : i ≤ top d

-- the code of a term was written, if it is ready, and no more entries than it has terms and bound
-- names; in the marks before it, what is used behind, and afterwards what is used in it too
pub record Writes (c : Compiled) (ms : List Bool) (d : Compiled) (ns : List Bool)
    (e : CoreTree) : Type 0 where
  pub extends : Extends c d
  pub entries : length d.lambdas ≤ length c.lambdas + core_count e
  pub computes : (b : Bounds) (k : ℕ) → b.families ≡ c.families → IsReady b k e →
      Computes d (top d) e (marked ms) (top c)
  pub marks : marked ns ≡ also (free e) (marked ms)
  pub deep : length ns ≡ length ms

-- the code of terms one after the other was written
pub record WritesAll (c : Compiled) (ms : List Bool) (d : Compiled) (ns : List Bool)
    (es : CoreList) : Type 0 where
  pub extends : Extends c d
  pub entries : length d.lambdas ≤ length c.lambdas + cores_count es
  pub computes : (b : Bounds) (k : ℕ) → b.families ≡ c.families → AreReady b k es →
      ComputesAll d (top d) es (marked ms) (top c)
  pub marks : marked ns ≡ also (free_in es) (marked ms)
  pub deep : length ns ≡ length ms

-- of the code of a term all was written but that of its part e, which comes first and is under no
-- other binder
pub record Leaves (c : Compiled) (ms : List Bool) (d : Compiled) (ns : List Bool)
    (t e : CoreTree) : Type 0 where
  pub rest : (b : Compiled) (ls : List Bool) → Writes d ns b ls e → Writes c ms b ls t
  pub part : (b : Bounds) (k : ℕ) → IsReady b k t → IsReady b k e
  pub entries : length d.lambdas + core_count e ≤ length c.lambdas + core_count t
  pub deep : length ns ≡ length ms

-- the instruction for a task, or for a function
abbrev pub closing : Bool → ℕ → Instr
closing is_task l = if is_task then instr.Fork l else instr.Function l

-- what makes a function or a task of a body was written, and its entry: the body begins at place i
-- and uses these variables, and place j comes next
pub record Closes (c : Compiled) (ms : List Bool) (d : Compiled) (ns : List Bool) (is_task : Bool)
    (i : ℕ) (used : ℕ → Bool) (j : ℕ) : Type 0 where
  pub extends : Extends c d
  pub entries : length d.lambdas ≡ suc (length c.lambdas)
  pub number : ℕ
  pub entry : LambdaEntry
  pub above : ℕ
  pub behind : ℕ
  pub there : slice_get d.lambdas number ≡ Some entry
  pub starts : entry.start ≡ i
  pub lists : Lists entry.captured.items used
  pub captures : Captures d (top d) entry.captured.items (marked ms) above
  pub makes : At d above (closing is_task number) behind
  pub leads : Leads d behind j
  pub marks : marked ns ≡ also used (marked ms)
  pub deep : length ns ≡ length ms

-- the code of a term under these binders was written, and what makes variables of the last values
pub record WritesUnder (c : Compiled) (ms : List Bool) (d : Compiled) (ns : List Bool)
    (xs : List Binder) (e : CoreTree) : Type 0 where
  pub extends : Extends c d
  pub entries : length d.lambdas ≤ length c.lambdas + core_count e
  pub behind : ℕ
  pub binds : BindsAll d (top d) xs (free e) behind
  pub computes : (b : Bounds) (k : ℕ) → b.families ≡ c.families → IsReady b k e →
      Computes d behind e (within_all xs (marked ms)) (top c)
  pub marks : marked ns ≡ also (outside_all xs (free e)) (marked ms)
  pub deep : length ns ≡ length ms

-- an instruction was written, and the code of a term in front of it
pub record WritesBehind (c : Compiled) (ms : List Bool) (d : Compiled) (ns : List Bool) (a : Instr)
    (e : CoreTree) : Type 0 where
  pub extends : Extends c d
  pub entries : length d.lambdas ≤ length c.lambdas + core_count e
  pub behind : ℕ
  pub computes : (b : Bounds) (k : ℕ) → b.families ≡ c.families → IsReady b k e →
      Computes d (top d) e (marked ms) behind
  pub there : At d behind a (top c)
  pub marks : marked ns ≡ also (free e) (marked ms)
  pub deep : length ns ≡ length ms
