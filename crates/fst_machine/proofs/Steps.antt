-- One instruction's step, and what stands for a task before it.
use Rattle.std.proofs.Common.{◌≡◌, ◌⊎◌, ℕ, zero, suc, Option, Some, None, List, option_and_then, sym, ap, ◌∙◌, subst, inl, inr}
use Rattle.std.proofs.lemmas.Option.{none-some, same_Some}
use Rattle.fst_value.specs.ValueTree.{ValueTree}
use Rattle.fst_machine.specs.declared.code.Instr.{Instr}
use Rattle.fst_machine.specs.declared.request.Answer.{Answer}
use Rattle.fst_machine.specs.Machine.{Pause, stuck}
use Rattle.fst_machine.specs.Code.{Compiled, At}
use Rattle.fst_machine.specs.Spots.{Slots, Call, Spot, ran, on_instr, inner, asks, asked_at, told, told_at, forks_at, child_at}
use Rattle.fst_machine.specs.Standing.{Reaches, here, further, Rests, StandsFor}

-- a spot by its parts
abbrev pub spot : ℕ → Slots → List ValueTree → List Call → Spot
spot i slots ops calls = record { place = i; slots = slots; operands = ops; calls = calls }

-- what is read at a place that has an instruction
pub at_instr : {X : Type 0} (c : Compiled) (i : ℕ) (a : Instr) (j : ℕ) (f : Instr → ℕ → Option X) → At c i a j →
    on_instr c i f ≡ f a j
at_instr {X} c i a j f h = subst (λ z. on_instr c z f ≡ f a j) (sym h.place)
    (ap (λ (o : Option Instr). option_and_then {T = Instr} {U = X} (λ k. f k j) o) h.there)

-- the step at an instruction
pub step_at : (c : Compiled) (i : ℕ) (a : Instr) (j : ℕ) (slots : Slots) (ops : List ValueTree) (calls : List Call) → At c i a j →
    inner c (spot i slots ops calls) ≡ ran c a j (spot i slots ops calls) ops
step_at c i a j slots ops calls h = at_instr c i a j (λ k l. ran c k l (spot i slots ops calls) ops) h

-- what is asked for at an instruction
pub asked_at_instr : (c : Compiled) (i : ℕ) (a : Instr) (j : ℕ) (slots : Slots) (ops : List ValueTree) (calls : List Call) →
    At c i a j →
    asked_at c (spot i slots ops calls) ≡ asks a calls ops
asked_at_instr c i a j slots ops calls h = at_instr c i a j (λ k l. asks k calls ops) h

-- where an answer leads at an instruction
pub told_at_instr : (c : Compiled) (i : ℕ) (a : Instr) (j : ℕ) (slots : Slots) (ops : List ValueTree) (calls : List Call)
    (b : Answer) → At c i a j →
    told_at c (spot i slots ops calls) b ≡ told c a j (spot i slots ops calls) ops b
told_at_instr c i a j slots ops calls b h = at_instr c i a j (λ k l. told c k l (spot i slots ops calls) ops b) h

-- the task that an instruction makes
pub child_at_instr : (c : Compiled) (i : ℕ) (a : Instr) (j : ℕ) (slots : Slots) (ops : List ValueTree) (calls : List Call) →
    At c i a j →
    child_at c (spot i slots ops calls) ≡ forks_at c a ops
child_at_instr c i a j slots ops calls h = at_instr c i a j (λ k l. forks_at c k ops) h

-- what stands for a task one step later stands for it before
pub before_step : (n : ℕ) (c : Compiled) (s t : Spot) (q : Pause) → inner c s ≡ Some t → StandsFor n c t q → StandsFor n c s q
before_step zero c s t q e h = tt
before_step (suc n) c s t q e (inl h) = inl h
before_step (suc n) c s t q e (inr r) = inr (further e r)

still_here : (n : ℕ) (c : Compiled) (s : Spot) (q : Pause) → inner c s ≡ None → Reaches c (λ t. Rests c (StandsFor n c) t q) s →
    Rests c (StandsFor n c) s q
still_here n c s q h (here r) = r
still_here n c s q h (further e r) = absurd (none-some _ (sym h ∙ e))

-- what stands for a task and makes no step is stuck or rests
pub rests_or_stuck : (n : ℕ) (c : Compiled) (s : Spot) (q : Pause) → inner c s ≡ None → StandsFor (suc n) c s q →
    (q ≡ stuck) ⊎ Rests c (StandsFor n c) s q
rests_or_stuck n c s q h (inl e) = inl e
rests_or_stuck n c s q h (inr r) = inr (still_here n c s q h r)

one_on : (n : ℕ) (c : Compiled) (s t : Spot) (q : Pause) → inner c s ≡ Some t → Reaches c (λ u. Rests c (StandsFor n c) u q) s →
    Reaches c (λ u. Rests c (StandsFor n c) u q) t
one_on n c s t q h (here r) = absurd (none-some t (sym r.still ∙ h))
one_on n c s t q h (further e r) = subst (λ u. Reaches c (λ z. Rests c (StandsFor n c) z q) u) (same_Some _ t (sym e ∙ h)) r

-- what stands for a task still does one step later
pub one_step : (n : ℕ) (c : Compiled) (s t : Spot) (q : Pause) → inner c s ≡ Some t → StandsFor n c s q → StandsFor n c t q
one_step zero c s t q h k = tt
one_step (suc n) c s t q h (inl e) = inl e
one_step (suc n) c s t q h (inr r) = inr (one_on n c s t q h r)

-- so it does before an instruction that leads there
pub stepped : (n : ℕ) (c : Compiled) (i : ℕ) (a : Instr) (j : ℕ) (slots : Slots) (ops : List ValueTree) (calls : List Call)
    (t : Spot) (q : Pause) →
    At c i a j → ran c a j (spot i slots ops calls) ops ≡ Some t → StandsFor n c t q → StandsFor n c (spot i slots ops calls) q
stepped n c i a j slots ops calls t q h r k = before_step n c (spot i slots ops calls) t q
    (step_at c i a j slots ops calls h ∙ r) k

-- what rests is what stands
abbrev pub rests_here : (n : ℕ) (c : Compiled) (s : Spot) (q : Pause) → Rests c (StandsFor n c) s q → StandsFor (suc n) c s q
rests_here n c s q r = inr (here r)

reaches_map : (c : Compiled) (P Q : Spot → Type 0) (s : Spot) → ((t : Spot) → P t → Q t) → Reaches c P s → Reaches c Q s
reaches_map c P Q s f (here p) = here (f _ p)
reaches_map c P Q s f (further e r) = further e (reaches_map c P Q _ f r)

rests_map : (c : Compiled) (S T : Spot → Pause → Type 0) (s : Spot) (q : Pause) →
    ((t : Spot) (p : Pause) → S t p → T t p) → Rests c S s q → Rests c T s q
rests_map c S T s q f r =
    record {
      still = r.still;
      alike = r.alike;
      value = r.value;
      told = λ b i a st e g. let t = r.told b i a st e g in (t.0, t.1, f t.0 _ t.2);
      made = λ st e. let t = r.made st e in (t.0, t.1, t.2, f t.0 _ t.3);
    }

-- what stands for a task stands for it with one request less
pub fewer : (n : ℕ) (c : Compiled) (s : Spot) (q : Pause) → StandsFor (suc n) c s q → StandsFor n c s q
fewer zero c s q h = tt
fewer (suc n) c s q (inl h) = inl h
fewer (suc n) c s q (inr r) =
    inr (reaches_map c (λ t. Rests c (StandsFor (suc n) c) t q) (λ t. Rests c (StandsFor n c) t q) s
    (λ t. rests_map c (StandsFor (suc n) c) (StandsFor n c) t q (fewer n c)) r)
