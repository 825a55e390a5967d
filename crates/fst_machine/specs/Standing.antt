-- When running code stands for a task: it comes to the same request, and stands for the task after each answer.
use Rattle.std.specs.Prelude.{◌≡◌, ◌⊎◌, ◌<◌, ◌+◌, ℕ, zero, suc, Bool, true, false, Some, None, List, [], ◌∷◌, slice_get, ⊤}
use Rattle.fst_types.specs.declared.family.Family.{Family}
use Rattle.fst_terms.specs.CoreTree.{CoreTree}
use Rattle.fst_terms.specs.InRange.{maker_of, HasFields}
use Rattle.fst_value.specs.ValueTree as tree
use Rattle.fst_value.specs.ValueTree.{ValueTree, ValueTrees}
use Rattle.fst_machine.specs.declared.request.Answer.{Answer}
use Rattle.fst_machine.specs.declared.code.Instr.{Instr}
use Rattle.fst_machine.specs.declared.code.Instr.TheVariants as instr
use Rattle.fst_machine.specs.declared.entry.LambdaEntry.{LambdaEntry}
use Rattle.fst_machine.specs.Free.{free, outside}
use Rattle.fst_machine.specs.Values as value
use Rattle.fst_machine.specs.Values.{Value, Values, Environment, lookup, count}
use Rattle.fst_machine.specs.Machine.{begins, State, Pause, stuck, calls, uses, makes, forks, puts, gets, closes, waits, matches, ended, asked, pause, after, child, name_of}
use Rattle.fst_machine.specs.Code.{Compiled, At, Lists, Binds, Computes, no_variables, place_of, IsCode}
use Rattle.fst_machine.specs.Spots.{begins_at, Slots, Call, Spot, slot_at, inner, asked_at, told_at, child_at}

-- an entry of the code is that of a function with this body
pub record IsFunction (c : Compiled) (l : ℕ) (e : CoreTree) : Type 0 where
  pub entry : LambdaEntry
  pub body : ℕ
  pub back : ℕ
  pub last : ℕ
  pub there : slice_get c.lambdas l ≡ Some entry
  pub listed : Lists entry.captured.items (outside (free e))
  pub binds : Binds c entry.start (free e zero) body
  pub computes : Computes c body e no_variables back
  pub returns : At c back instr.Return last

-- an environment has no values but those of these variables
abbrev pub HasJust : (ℕ → Bool) → Environment → Type 0
HasJust q env = (k : ℕ) → q k ≡ false → lookup env k ≡ None

abbrev mutual
  -- which value of terms a value of code is
  pub Means : Compiled → ValueTree → Value → Type 0
  Means c (tree.int n) v = v ≡ value.int n
  Means c (tree.bool b) v = v ≡ value.bool b
  Means c (tree.char n) v = v ≡ value.char n
  Means c tree.unit v = v ≡ value.unit
  Means c (tree.pair x y) v = (a : Value) × (b : Value) ×
      (v ≡ value.pair a b) × Means c x a × Means c y b
  Means c (tree.make n o xs) v =
      (vs : Values) × (v ≡ value.made n o vs) ×
      HasFields (maker_of (slice_get c.families n) o) (count vs) × MeanAll c xs vs
  Means c (tree.function l xs) v =
      (e : CoreTree) × (env : Environment) × (f : IsFunction c l e) ×
      (v ≡ value.function e env) × MeanCaptured c xs f.entry.captured.items env ×
      HasJust (outside (free e)) env
  Means c (tree.end x) v = v ≡ value.end x

  -- so it is of each field
  pub MeanAll : Compiled → ValueTrees → Values → Type 0
  MeanAll c tree.none value.no_values = ⊤
  MeanAll c tree.none (value.value v vs) = ⊥
  MeanAll c (tree.value x xs) value.no_values = ⊥
  MeanAll c (tree.value x xs) (value.value v vs) = Means c x v × MeanAll c xs vs

  -- the values that are captured are those of these variables
  pub MeanCaptured : Compiled → ValueTrees → List ℕ → Environment → Type 0
  MeanCaptured c tree.none [] env = ⊤
  MeanCaptured c tree.none (k ∷ ks) env = ⊥
  MeanCaptured c (tree.value x xs) [] env = ⊥
  MeanCaptured c (tree.value x xs) (k ∷ ks) env = (v : Value) ×
      (lookup env k ≡ Some v) × Means c x v × MeanCaptured c xs ks env

-- a variable has a value in both, and they mean each other
abbrev pub MeansAt : Compiled → ℕ → Slots → Environment → Type 0
MeansAt c k slots env = (x : ValueTree) × (v : Value) × (slot_at slots k ≡ Some x) ×
    (lookup env k ≡ Some v) × Means c x v

-- the variables of a set have values in both, which mean each other, and the environment has no other
pub record MeansSlots (c : Compiled) (q : ℕ → Bool) (slots : Slots)
    (env : Environment) : Type 0 where
  pub meant : (k : ℕ) → q k ≡ true → MeansAt c k slots env
  pub just : HasJust q env

-- the variables that have values are the same in both, and these mean each other
abbrev pub AreAlike : Compiled → Slots → Environment → Type 0
AreAlike c slots env = (k : ℕ) → ((slot_at slots k ≡ None) × (lookup env k ≡ None)) ⊎
    MeansAt c k slots env

-- inner steps lead from a spot to one of these
pub data Reaches (c : Compiled) (P : Spot → Type 0) : Spot → Type 0 where
  here : {s : Spot} → P s → Reaches c P s
  further : {s t : Spot} → inner c s ≡ Some t → Reaches c P t → Reaches c P s

-- where a task has ended, the last value is the task's, and it is the only one
abbrev pub HasEnded : Compiled → List ValueTree → Pause → Type 0
HasEnded c ops (ended v) = (x : ValueTree) × (ops ≡ x ∷ []) × Means c x v
HasEnded c ops stuck = ⊤
HasEnded c ops (calls e env v fs) = ⊤
HasEnded c ops (uses g fs) = ⊤
HasEnded c ops (makes t fs) = ⊤
HasEnded c ops (forks e env fs) = ⊤
HasEnded c ops (puts x ev fs) = ⊤
HasEnded c ops (gets x fs) = ⊤
HasEnded c ops (closes x fs) = ⊤
HasEnded c ops (waits x fs) = ⊤
HasEnded c ops (matches x bs env fs) = ⊤

-- the spot asks for what is asked for at the pause, and after an answer it stands as S says; so does the task that it makes,
-- whose variables have the same values
pub record Rests (c : Compiled) (S : Spot → Pause → Type 0) (s : Spot) (q : Pause) : Type 0 where
  pub still : inner c s ≡ None
  pub alike : asked_at c s ≡ asked q
  pub value : HasEnded c s.operands q
  pub told : (bodies : List CoreTree) → IsCode c bodies → (a : Answer) (st : State) →
      after (record { families = c.families; bodies = bodies }) q a ≡ Some st →
      (pause c.families st ≡ stuck → ⊥) →
      (t : Spot) × (told_at c s a ≡ Some t) × S t (pause c.families st)
  pub made : (st : State) → child q ≡ Some st →
      (t : Spot) × (child_at c s ≡ Some t) × AreAlike c t.slots st.environment ×
      S t (pause c.families st)

-- for so many requests the spot stands for the task, or this is stuck
abbrev pub StandsFor : ℕ → Compiled → Spot → Pause → Type 0
StandsFor zero c s q = ⊤
StandsFor (suc n) c s q = (q ≡ stuck) ⊎ Reaches c (λ t. Rests c (StandsFor n c) t q) s

-- the spot stands for the task: it comes to what the task asks for, and stands for it after each answer
abbrev pub Stands : Compiled → Spot → Pause → Type 0
Stands c s q = (n : ℕ) → StandsFor n c s q

-- no two constructors have the same name
abbrev pub DistinctMakers : List Family → Type 0
DistinctMakers families =
    (n o n2 o2 : ℕ) (l : List ℕ) → name_of families n o ≡ Some l → name_of families n2 o2 ≡ Some l →
    (n ≡ n2) × (o ≡ o2)

-- where an instruction may go on but behind it, it goes on below place i
abbrev pub LeadsBelow : ℕ → Instr → Type 0
LeadsBelow i (instr.Jump j) = j < i
LeadsBelow i (instr.Branch j) = j < i
LeadsBelow i (instr.Case places) = (o j : ℕ) → slice_get places.items o ≡ Some j → j < i
LeadsBelow i (instr.Match places) = (l : List ℕ) (j : ℕ) → place_of places.items l ≡ Some j → j < i
LeadsBelow i a = ⊤

-- code goes from the greatest place down
abbrev pub GoesDown : Compiled → Type 0
GoesDown c = (i j : ℕ) (a : Instr) → At c i a j → LeadsBelow i a

-- the places at which the calls go on, together
abbrev pub places_of_calls : List Call → ℕ
places_of_calls [] = 0
places_of_calls (k ∷ ks) = k.place + places_of_calls ks

-- how many inner steps there are at most
abbrev pub measure : Spot → ℕ
measure s = s.place + places_of_calls s.calls

-- the code of a program stands for it: from the place where a global starts it asks for what the global's body asks for, and
-- so after each answer
abbrev pub CodeStands : Type 0
CodeStands =
    (c : Compiled) (bodies : List CoreTree) → IsCode c bodies → DistinctMakers c.families →
    (g : ℕ) (e : CoreTree) → slice_get bodies g ≡ Some e →
    (i : ℕ) × (slice_get c.globals g ≡ Some i) ×
    Stands c (begins_at i []) (pause c.families (begins e []))

-- each step of code that goes down lowers the measure, so there are finitely many between two requests
abbrev pub StepsEnd : Type 0
StepsEnd = (c : Compiled) → GoesDown c → (s t : Spot) → inner c s ≡ Some t → measure t < measure s
