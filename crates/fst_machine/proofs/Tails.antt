-- A call behind which the code only leads back needs no place among the calls.
use Rattle.std.proofs.Common.{◌≡◌, ℕ, zero, suc, Bool, true, false, Option, Some, unwrap_or, List, [], ◌∷◌, slice_get, drop, option_and_then, refl, sym, ◌∙◌, inl, inr}
use Rattle.std.proofs.lemmas.Bool.{false≢true}
use Rattle.std.proofs.lemmas.Option.{none-some}
use Rattle.fst_value.specs.ValueTree.{ValueTree}
use Rattle.fst_machine.specs.declared.code.Instr.{Instr}
use Rattle.fst_machine.specs.declared.code.Instr.TheVariants as instr
use Rattle.fst_machine.specs.Machine.{Frame, Pause, resume}
use Rattle.fst_machine.specs.Code.{Compiled, At, no_variables}
use Rattle.fst_machine.specs.Spots.{Slots, Call, returns_by, leads_back, around}
use Rattle.fst_machine.specs.Standing.{StandsFor}
use Rattle.fst_machine.proofs.Steps.{spot, step_at, asked_at_instr, told_at_instr, child_at_instr, before_step, one_step, stepped, rests_here, rests_or_stuck}
use Rattle.fst_machine.proofs.Goods.{Awaits, Takes}

module _ (c : Compiled) (ops : List ValueTree) where
  -- where a task's body returns, it doesn't matter from which place, nor which variables are left
  ends_alike : (m : ℕ) (i j k l : ℕ) (slots os : Slots) (q : Pause) → At c i instr.Return k → At c j instr.Return l →
      StandsFor m c (spot j slots ops []) q → StandsFor m c (spot i os ops []) q
  ends_alike zero i j k l slots os q h g s = tt
  ends_alike (suc m) i j k l slots os q h g s = elim (rests_or_stuck m c _ q (step_at c j instr.Return l slots ops [] g) s) [
    | inl e ↦ inl e
    | inr r ↦ rests_here m c _ q (record {
      still = step_at c i instr.Return k os ops [] h;
      alike = asked_at_instr c i instr.Return k os ops [] h ∙ sym (asked_at_instr c j instr.Return l slots ops [] g) ∙ r.alike;
      value = r.value;
      told = λ bodies ic a st e live. let t = r.told bodies ic a st e live in
          absurd (none-some t.0 (sym (told_at_instr c j instr.Return l slots ops [] a g) ∙ t.1));
      made = λ st e. let t = r.made st e in
          absurd (none-some t.0 (sym (child_at_instr c j instr.Return l slots ops [] g) ∙ t.1));
    })
  ]

  -- what returns stands for what the code stands for that returns elsewhere
  returns_alike : (m : ℕ) (i j k l : ℕ) (slots os : Slots) (calls : List Call) (q : Pause) →
      At c i instr.Return k → At c j instr.Return l →
      StandsFor m c (spot j slots ops calls) q → StandsFor m c (spot i os ops calls) q
  returns_alike m i j k l slots os [] q h g s = ends_alike m i j k l slots os q h g s
  returns_alike m i j k l slots os (call ∷ calls) q h g s =
      before_step m c _ (spot call.place call.slots ops calls) q (step_at c i instr.Return k os ops (call ∷ calls) h)
      (one_step m c _ (spot call.place call.slots ops calls) q (step_at c j instr.Return l slots ops (call ∷ calls) g) s)

  -- so it is for what leads back in less than n steps
  abbrev LeadsAlike : ℕ → Type 0
  LeadsAlike n = (m i j k : ℕ) (slots os : Slots) (calls : List Call) (q : Pause) → At c i instr.Return k →
      leads_back n c j ≡ true →
      StandsFor m c (spot j slots ops calls) q → StandsFor m c (spot i os ops calls) q

  -- by the instruction that it begins with
  begins_alike : (n : ℕ) → LeadsAlike n → (m i j k : ℕ) (slots os : Slots) (calls : List Call) (q : Pause) (o : Option Instr) →
      At c i instr.Return k → slice_get c.code j ≡ o →
      unwrap_or (option_and_then (λ a. Some (returns_by (leads_back n c) a j)) o) false ≡ true →
      StandsFor m c (spot (suc j) slots ops calls) q → StandsFor m c (spot i os ops calls) q
  begins_alike n alike m i j k slots os calls q (Some instr.Return) h there e s =
      returns_alike m i (suc j) k j slots os calls q h (record { place = refl; there = there }) s
  begins_alike n alike m i j k slots os calls q (Some (instr.Unbind b)) h there e s =
      alike m i j k (drop b slots) os calls q h e (one_step m c _ (spot j (drop b slots) ops calls) q
      (step_at c (suc j) (instr.Unbind b) j slots ops calls (record { place = refl; there = there })) s)
  begins_alike n alike m i j k slots os calls q (Some (instr.Jump place)) h there e s =
      alike m i place k slots os calls q h e (one_step m c _ (spot place slots ops calls) q
      (step_at c (suc j) (instr.Jump place) j slots ops calls (record { place = refl; there = there })) s)
  begins_alike n alike m i j k slots os calls q o h there e s = absurd (false≢true e)

  leads_alike : (n : ℕ) → LeadsAlike n
  leads_alike zero m i j k slots os calls q h e s = absurd (false≢true e)
  leads_alike (suc n) m i zero k slots os calls q h e s = absurd (false≢true e)
  leads_alike (suc n) m i (suc j) k slots os calls q h e s =
      begins_alike n (leads_alike n) m i j k slots os calls q (slice_get c.code j) h refl e s

-- a body's value goes back to where it was asked for
returned_awaited : (n : ℕ) (c : Compiled) (r q j : ℕ) (inside slots : Slots) (ops : List ValueTree) (calls : List Call)
    (fs : List Frame) →
    At c r instr.Return q → Takes n c j slots ops calls fs →
    Awaits n c r no_variables inside ops (record { place = j; slots = slots } ∷ calls) fs
returned_awaited n c r q j inside slots ops calls fs h k x v os m a =
    stepped n c r instr.Return q os (x ∷ ops) (record { place = j; slots = slots } ∷ calls) (spot j slots (x ∷ ops) calls)
    (resume c.families fs v) h refl (k x v m)

-- a body's value goes back to where it was asked for, or at once to where that leads back
pub called_awaited : (n : ℕ) (c : Compiled) (r q j : ℕ) (inside slots : Slots) (ops : List ValueTree) (calls : List Call)
    (fs : List Frame) →
    At c r instr.Return q → Takes n c j slots ops calls fs →
    Awaits n c r no_variables inside ops (around (leads_back j c j) (record { place = j; slots = slots }) calls) fs
called_awaited n c r q j inside slots ops calls fs h k = go (leads_back j c j) refl
  where
    go : (b : Bool) → leads_back j c j ≡ b → Awaits n c r no_variables inside ops
        (around b (record { place = j; slots = slots }) calls) fs
    go true e = λ x v os m a. leads_alike c (x ∷ ops) j n r j q slots os calls (resume c.families fs v) h e (k x v m)
    go false e = returned_awaited n c r q j inside slots ops calls fs h k
