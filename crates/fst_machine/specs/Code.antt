-- Which code stands for which terms.
use Rattle.std.specs.Global.{Global}
use Rattle.std.specs.Prelude.{◌≡◌, ◌⊎◌, ℕ, zero, suc, Bool, true, false, not, ◌&&◌, ◌||◌, List, [], ◌∷◌, length, Vec, Some, Option, None, slice_get, ⊤, if◌then◌else◌}
use Rattle.std.specs.Str.{bytes_eq}
use Rattle.fst_types.specs.declared.family.Family.{Family}
use Rattle.fst_types.specs.declared.family.Maker.{Maker}
use Rattle.fst_terms.specs.declared.binder.Binder.{Binder}
use Rattle.fst_terms.specs.CoreTree.{CoreTree, local, global, int, bool, char, unit, pair, make, lambda, apply, let_in, split, if_else, case_of, operate, negate, new, send, receive, close, wait, select, match_with, fork, seq, CoreList, no_terms, term, CoreArms, no_arms, arm}
use Rattle.fst_terms.specs.InRange.{maker_of, HasFields, terms_length}
use Rattle.fst_machine.specs.declared.code.Instr.{Instr}
use Rattle.fst_machine.specs.declared.code.Instr.TheVariants as instr
use Rattle.fst_machine.specs.declared.entry.LambdaEntry.{LambdaEntry}
use Rattle.fst_machine.specs.Free.{is, free, free_in, free_below, outside, outside_all}
use Rattle.fst_machine.specs.Machine.{in_either}

-- code, with the entries of functions and tasks, and the places at which the globals start
pub record Compiled : Type 0 where
  pub families : List Family
  pub code : List Instr
  pub lambdas : List LambdaEntry
  pub globals : List ℕ

-- the instruction at place i, which is followed by place j
pub record At (c : Compiled) (i : ℕ) (a : Instr) (j : ℕ) : Type 0 where
  pub place : i ≡ suc j
  pub there : slice_get c.code j ≡ Some a

-- place i jumps to place j
pub record Leads (c : Compiled) (i j : ℕ) : Type 0 where
  pub behind : ℕ
  pub jump : At c i (instr.Jump j) behind

-- a variable is in one of two sets
abbrev pub also : (ℕ → Bool) → (ℕ → Bool) → ℕ → Bool
also q p k = q k || p k

-- a set of variables inside a binder, whose own variable isn't in it
abbrev pub within : (ℕ → Bool) → ℕ → Bool
within p zero = false
within p (suc k) = p k

-- inside these binders
abbrev pub within_all : List Binder → (ℕ → Bool) → ℕ → Bool
within_all [] p = p
within_all (x ∷ xs) p = within (within_all xs p)

-- variables of one set that are in neither of the others
abbrev pub dropped : (ℕ → Bool) → (ℕ → Bool) → (ℕ → Bool) → ℕ → Bool
dropped q f p k = q k && not (f k || p k)

-- the number is one of these
abbrev pub among : List ℕ → ℕ → Bool
among [] k = false
among (n ∷ ns) k = is n k || among ns k

-- no number stands twice
abbrev pub AreApart : List ℕ → Type 0
AreApart [] = ⊤
AreApart (n ∷ ns) = (among ns n ≡ false) × AreApart ns

-- the numbers of a set, each once
pub record Lists (ns : List ℕ) (p : ℕ → Bool) : Type 0 where
  pub members : (k : ℕ) → among ns k ≡ p k
  pub apart : AreApart ns

-- a variable is copied where it is used later, and else moved
abbrev pub load : Bool → ℕ → Instr
load true k = instr.Load k
load false k = instr.Take k

-- these variables are put on the stack, the last one last
abbrev pub Captures : Compiled → ℕ → List ℕ → (ℕ → Bool) → ℕ → Type 0
Captures c i [] p j = i ≡ j
Captures c i (k ∷ ks) p j = (h : ℕ) × At c i (load (p k) k) h × Captures c h ks p j

-- these variables are dropped
abbrev pub Clears : Compiled → ℕ → List ℕ → ℕ → Type 0
Clears c i [] j = i ≡ j
Clears c i (k ∷ ks) j = (h : ℕ) × (n : ℕ) × At c i (instr.Take k) h × At c h instr.Drop n ×
    Clears c n ks j

-- place i is place j, or jumps there
abbrev pub Comes : Compiled → ℕ → ℕ → Type 0
Comes c i j = (i ≡ j) ⊎ Leads c i j

-- the variables of a set that are in neither of the others are dropped, and then place j comes
pub record Forgets (c : Compiled) (i : ℕ) (q f p : ℕ → Bool) (j : ℕ) : Type 0 where
  pub variables : List ℕ
  pub listed : Lists variables (dropped q f p)
  pub last : ℕ
  pub clears : Clears c i variables last
  pub comes : Comes c last j

-- the last value becomes that of a new variable, and is dropped where this isn't used
abbrev pub Binds : Compiled → ℕ → Bool → ℕ → Type 0
Binds c i true j = At c i instr.Bind j
Binds c i false j = (h : ℕ) × (n : ℕ) × At c i instr.Bind h × At c h (instr.Take zero) n ×
    At c n instr.Drop j

-- so the last values become those of these binders, the last one innermost; p is the set of variables that are used there
abbrev pub BindsAll : Compiled → ℕ → List Binder → (ℕ → Bool) → ℕ → Type 0
BindsAll c i [] p j = i ≡ j
BindsAll c i (x ∷ xs) p j = (h : ℕ) × Binds c i (p (length xs)) h × BindsAll c h xs p j

-- no variable
abbrev pub no_variables : ℕ → Bool
no_variables k = false

-- the first place of a label in a table
abbrev pub place_of : List (List ℕ × ℕ) → List ℕ → Option ℕ
place_of [] l = None
place_of (p ∷ ps) l = if bytes_eq p.0 l then Some p.1 else place_of ps l

-- the constructor with this label is the one with this number of the data type, and has n fields
abbrev pub IsNumbered : Family → List ℕ → ℕ → ℕ → Type 0
IsNumbered f l o n = (m : Maker) × (slice_get f.makers.items o ≡ Some m) × (m.name ≡ l) ×
    (length m.fields.items ≡ n)

abbrev mutual
  -- from place i the code computes the term and goes on at place j with its value; p: the variables that are used behind
  pub Computes : Compiled → ℕ → CoreTree → (ℕ → Bool) → ℕ → Type 0
  Computes c i (local at k) p j = At c i (load (p k) k) j
  Computes c i (global at g ts) p j = At c i (instr.Global g) j
  Computes c i (int at n) p j = At c i (instr.Int n) j
  Computes c i (bool at b) p j = At c i (instr.Bool b) j
  Computes c i (char at n) p j = At c i (instr.Char n) j
  Computes c i (unit at) p j = At c i instr.Unit j
  Computes c i (pair at e f) p j =
      (h : ℕ) × (n : ℕ) × Computes c i e (also (free f) p) h × Computes c h f p n ×
      At c n instr.Pair j
  Computes c i (make at n o es) p j =
      (h : ℕ) × HasFields (maker_of (slice_get c.families n) o) (terms_length es) ×
      ComputesAll c i es p h × At c h (instr.Make n o (terms_length es)) j
  Computes c i (lambda at u t x e) p j =
      (l : ℕ) × (entry : LambdaEntry) × (h : ℕ) × (n : ℕ) × (s : ℕ) × (r : ℕ) ×
      (slice_get c.lambdas l ≡ Some entry) ×
      Lists entry.captured.items (outside (free e)) × Captures c i entry.captured.items p h ×
      At c h (instr.Function l) n × Leads c n j ×
      Binds c entry.start (free e zero) s × Computes c s e no_variables r ×
      ((q : ℕ) × At c r instr.Return q)
  Computes c i (apply at e f) p j =
      (h : ℕ) × (n : ℕ) × Computes c i e (also (free f) p) h × Computes c h f p n ×
      At c n instr.Call j
  Computes c i (let_in at x e f) p j =
      (h : ℕ) × (n : ℕ) × (r : ℕ) × Computes c i e (also (outside (free f)) p) h ×
      Binds c h (free f zero) n ×
      Computes c n f (within p) r × At c r (instr.Unbind 1) j
  Computes c i (split at x y e f) p j =
      (h : ℕ) × (n : ℕ) × (s : ℕ) × (r : ℕ) ×
      (q : ℕ) × Computes c i e (also (outside (outside (free f))) p) h × At c h instr.Split n ×
      Binds c n (free f (suc zero)) s × Binds c s (free f zero) r ×
      Computes c r f (within (within p)) q × At c q (instr.Unbind 2) j
  Computes c i (if_else at e f g) p j =
      (h : ℕ) × (n : ℕ) × (s : ℕ) × (r : ℕ) × (no : ℕ) × (q : ℕ) ×
      (t : ℕ) × Computes c i e (also (in_either f g) p) h × At c h (instr.Branch no) n ×
      Forgets c n (in_either f g) (free f) p s × Computes c s f p r × Comes c r j ×
      Forgets c no (in_either f g) (free g) p q × Computes c q g p t × Comes c t j
  Computes c i (case_of at e bs) p j =
      (h : ℕ) × (n : ℕ) × (places : Vec ℕ Global) × (d : ℕ) ×
      (f : Family) × Computes c i e (also (free_below bs) p) h × At c h (instr.Case places) n ×
      (slice_get c.families d ≡ Some f) × ComputesCases c f places.items bs (free_below bs) p j
  Computes c i (operate at o e f) p j =
      (h : ℕ) × (n : ℕ) × Computes c i e (also (free f) p) h × Computes c h f p n ×
      At c n (instr.Operate o) j
  Computes c i (negate at e) p j = (h : ℕ) × Computes c i e p h × At c h instr.Not j
  Computes c i (new at t) p j = At c i (instr.New t) j
  Computes c i (send at e f) p j =
      (h : ℕ) × (n : ℕ) × Computes c i e (also (free f) p) h × Computes c h f p n ×
      At c n instr.Send j
  Computes c i (receive at e) p j = (h : ℕ) × Computes c i e p h × At c h instr.Receive j
  Computes c i (close at e) p j = (h : ℕ) × Computes c i e p h × At c h instr.Close j
  Computes c i (wait at e) p j = (h : ℕ) × Computes c i e p h × At c h instr.Wait j
  Computes c i (select at l e) p j = (h : ℕ) × Computes c i e p h × At c h (instr.Select l) j
  Computes c i (match_with at e bs) p j =
      (h : ℕ) × (n : ℕ) × (places : Vec (List ℕ × ℕ) Global) ×
      Computes c i e (also (free_below bs) p) h × At c h (instr.Match places) n ×
      ComputesMatches c places.items bs (free_below bs) p j
  Computes c i (fork at e) p j =
      (l : ℕ) × (entry : LambdaEntry) × (h : ℕ) × (n : ℕ) × (r : ℕ) ×
      (slice_get c.lambdas l ≡ Some entry) ×
      Lists entry.captured.items (free e) × Captures c i entry.captured.items p h ×
      At c h (instr.Fork l) n × Leads c n j ×
      Computes c entry.start e no_variables r × ((q : ℕ) × At c r instr.Return q)
  Computes c i (seq at e f) p j =
      (h : ℕ) × (n : ℕ) × Computes c i e (also (free f) p) h × At c h instr.Drop n ×
      Computes c n f p j

  -- the terms one after the other
  pub ComputesAll : Compiled → ℕ → CoreList → (ℕ → Bool) → ℕ → Type 0
  ComputesAll c i no_terms p j = i ≡ j
  ComputesAll c i (term e es) p j = (h : ℕ) × Computes c i e (also (free_in es) p) h ×
      ComputesAll c h es p j

  -- at the place of each constructor of the data type f that has an arm: what all arms use and this doesn't is dropped, the
  -- fields become the arm's variables, and its term is computed; q: the variables that the arms use
  pub ComputesCases : Compiled → Family → List ℕ → CoreArms → (ℕ → Bool) → (ℕ → Bool) → ℕ → Type 0
  ComputesCases c f places no_arms q p j = ⊤
  ComputesCases c f places (arm l xs e bs) q p j =
      (o : ℕ) × (i : ℕ) × (h : ℕ) × (n : ℕ) × (r : ℕ) × (s : ℕ) × IsNumbered f l o (length xs) ×
      (slice_get places o ≡ Some i) ×
      Forgets c i q (outside_all xs (free e)) p h × BindsAll c h xs (free e) n ×
      Computes c n e (within_all xs p) r ×
      At c r (instr.Unbind (length xs)) s × Comes c s j × ComputesCases c f places bs q p j

  -- the same of labels: the table has the places of the arms in order, each with its label, and an arm has one variable, for the end
  pub ComputesMatches : Compiled → List (List ℕ × ℕ) → CoreArms → (ℕ → Bool) →
      (ℕ → Bool) → ℕ → Type 0
  ComputesMatches c [] no_arms q p j = ⊤
  ComputesMatches c (o ∷ os) no_arms q p j = ⊥
  ComputesMatches c [] (arm l xs e bs) q p j = ⊥
  ComputesMatches c (o ∷ os) (arm l xs e bs) q p j =
      (h : ℕ) × (n : ℕ) × (r : ℕ) × (s : ℕ) × (length xs ≡ 1) × (o.0 ≡ l) ×
      Forgets c o.1 q (outside (free e)) p h × Binds c h (free e zero) n ×
      Computes c n e (within p) r ×
      At c r (instr.Unbind 1) s × Comes c s j × ComputesMatches c os bs q p j

-- each global's body has no variable free, is computed from the place where it starts, and then returns
abbrev pub ComputesGlobals : Compiled → List CoreTree → List ℕ → Type 0
ComputesGlobals c [] [] = ⊤
ComputesGlobals c [] (i ∷ is) = ⊥
ComputesGlobals c (e ∷ es) [] = ⊥
ComputesGlobals c (e ∷ es) (i ∷ is) =
    ((r : ℕ) × (q : ℕ) × ((k : ℕ) → free e k ≡ false) × Computes c i e no_variables r ×
    At c r instr.Return q) × ComputesGlobals c es is

-- the code is one of a program: it computes the bodies of its globals
abbrev pub IsCode : Compiled → List CoreTree → Type 0
IsCode c bodies = ComputesGlobals c bodies c.globals
