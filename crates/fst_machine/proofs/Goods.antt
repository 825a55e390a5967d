-- What it is for terms that their code stands for them wherever a value comes that leads where they lead.
use Rattle.std.proofs.Common.{◌≡◌, ℕ, Bool, true, List, ◌∷◌, ◌∙◌}
use Rattle.fst_terms.specs.CoreTree.{CoreTree}
use Rattle.fst_value.specs.ValueTree.{ValueTree}
use Rattle.fst_machine.specs.Free.{free}
use Rattle.fst_machine.specs.Values.{Value, Environment, keep}
use Rattle.fst_machine.specs.Machine.{Frame, eval, resume}
use Rattle.fst_machine.specs.Code.{Compiled, Computes, also}
use Rattle.fst_machine.specs.Spots.{Slots, Call}
use Rattle.fst_machine.specs.Standing.{Means, MeansSlots, StandsFor}
use Rattle.fst_machine.proofs.Steps.{spot}
use Rattle.fst_machine.proofs.Slots.{Agree, part, in_also, in_behind}

-- a value that comes to a place leads where it leads the frames; p: the variables that are used there
abbrev pub Awaits : ℕ → Compiled → ℕ → (ℕ → Bool) → Slots → List ValueTree → List Call → List Frame → Type 0
Awaits n c j p slots ops calls fs =
    (x : ValueTree) (v : Value) (os : Slots) → Means c x v → Agree p slots os →
    StandsFor n c (spot j os (x ∷ ops) calls) (resume c.families fs v)

-- code that computes the term stands for it wherever its value is awaited
abbrev pub Good : ℕ → Compiled → CoreTree → Type 0
Good n c e =
    (i j : ℕ) (p : ℕ → Bool) (env : Environment) (slots : Slots) (ops : List ValueTree) (calls : List Call) (fs : List Frame) →
    Computes c i e p j → MeansSlots c (free e) slots env → Awaits n c j p slots ops calls fs →
    StandsFor n c (spot i slots ops calls) (eval c.families e env fs (resume c.families fs))

-- a value that comes to a place, with just these variables, leads where it leads the frames
abbrev pub Takes : ℕ → Compiled → ℕ → Slots → List ValueTree → List Call → List Frame → Type 0
Takes n c j slots ops calls fs = (x : ValueTree) (v : Value) → Means c x v →
    StandsFor n c (spot j slots (x ∷ ops) calls) (resume c.families fs v)

-- what is awaited doesn't look at variables that aren't used
pub later : (n : ℕ) (c : Compiled) (j : ℕ) (p r : ℕ → Bool) (slots os : Slots) (ops : List ValueTree) (calls : List Call)
    (fs : List Frame) →
    Agree r slots os → ((k : ℕ) → p k ≡ true → r k ≡ true) → Awaits n c j p slots ops calls fs → Awaits n c j p os ops calls fs
later n c j p r slots os ops calls fs a i k x v ot m b = k x v ot m (λ l g. b l g ∙ a l (i l g))

-- a part whose variables are kept, behind others
pub then_part : (n : ℕ) (c : Compiled) (f : CoreTree) (i j : ℕ) (p q : ℕ → Bool) (env : Environment) (slots os : Slots)
    (ops : List ValueTree) (calls : List Call) (fs : List Frame) →
    Good n c f → Computes c i f p j → MeansSlots c q slots env →
    ((k : ℕ) → free f k ≡ true → q k ≡ true) → Agree (also (free f) p) slots os → Awaits n c j p slots ops calls fs →
    StandsFor n c (spot i os ops calls) (eval c.families f (keep (free f) env) fs (resume c.families fs))
then_part n c f i j p q env slots os ops calls fs g h m u a k =
    g i j p (keep (free f) env) os ops calls fs h (part c q (free f) slots os env m u (λ l e. a l (in_also (free f) p l e)))
    (later n c j p (also (free f) p) slots os ops calls fs a (in_behind (free f) p) k)
