-- Where something is asked for, the code stands for the task if it does after each answer.
use Rattle.std.proofs.Common.{◌≡◌, ℕ, zero, suc, false, Option, Some, None, option_map, List, [], ◌∷◌, slice_get, refl, sym, ap, ◌∙◌, subst}
use Rattle.std.proofs.lemmas.Option.{none-some, same_Some}
use Rattle.fst_terms.specs.CoreTree.{CoreTree}
use Rattle.fst_value.specs.ValueTree as tree
use Rattle.fst_value.specs.ValueTree.{ValueTree, ValueTrees}
use Rattle.fst_types.specs.declared.ends.EndName.{EndName}
use Rattle.fst_types.specs.declared.event.Event.{Event}
use Rattle.fst_types.specs.declared.event.Event.TheVariants as event
use Rattle.fst_machine.specs.declared.request.Request.TheVariants.{Put}
use Rattle.fst_machine.specs.declared.request.Answer.{Answer}
use Rattle.fst_machine.specs.declared.request.Answer.TheVariants.{Go, Made, Forked, Sent, Got}
use Rattle.fst_machine.specs.declared.code.Instr.TheVariants as instr
use Rattle.fst_machine.specs.declared.entry.LambdaEntry.{LambdaEntry}
use Rattle.fst_machine.specs.Free.{free, outside}
use Rattle.fst_machine.specs.Values as value
use Rattle.fst_machine.specs.Values.{Value, Environment, enter}
use Rattle.fst_machine.specs.Machine.{State, Frame, Pause, stuck, calls as applies, uses, makes, forks, puts, gets, closes, waits, ended, resume, pause, after, giving, lost, begins, ends, or_lost}
use Rattle.fst_machine.specs.Code.{Compiled, At, Lists, Computes, no_variables, ComputesGlobals, IsCode}
use Rattle.fst_machine.specs.Spots.{Slots, Call, Spot, inner, asked_at, told_at, child_at, spread, leads_back, around, called, start_of, captured_by, captured_count, collected, without_captured, forked_spot, begins_at, ends_of}
use Rattle.fst_machine.specs.Standing.{IsFunction, HasJust, Means, MeanCaptured, AreAlike, StandsFor}
use Rattle.fst_machine.proofs.Steps.{spot, step_at, asked_at_instr, told_at_instr, child_at_instr, rests_here}
use Rattle.fst_machine.proofs.Slots.{kept, entered, without, captured_means, captured_alike}
use Rattle.fst_machine.proofs.Moves.{pushed, captured_collected, bound}
use Rattle.fst_machine.proofs.Goods.{Awaits, Good, Takes}
use Rattle.fst_machine.proofs.Tails.{called_awaited}

-- after an answer that leads to a state, the spot stands for it
abbrev pub Stays : ℕ → Compiled → Spot → Answer → State → Type 0
Stays n c s a st = (t : Spot) × (told_at c s a ≡ Some t) × StandsFor n c t (pause c.families st)

-- so it is for each answer, where the state isn't stuck
abbrev pub Tells : ℕ → Compiled → Spot → Pause → Type 0
Tells n c s q =
    (bodies : List CoreTree) → IsCode c bodies → (a : Answer) (st : State) →
    after (record { families = c.families; bodies = bodies }) q a ≡ Some st → (pause c.families st ≡ stuck → ⊥) → Stays n c s a st

-- where a global's body starts
pub of_globals : (c : Compiled) (es : List CoreTree) (is : List ℕ) (g : ℕ) (e : CoreTree) → ComputesGlobals c es is →
    slice_get es g ≡ Some e →
    (i : ℕ) × (r : ℕ) × (q : ℕ) × (slice_get is g ≡ Some i) ×
    ((k : ℕ) → free e k ≡ false) × Computes c i e no_variables r × At c r instr.Return q
of_globals c [] is g e h u = absurd (none-some e u)
of_globals c (b ∷ es) [] g e h u = absurd h
of_globals c (b ∷ es) (i ∷ is) zero e h u =
    let s : b ≡ e = same_Some b e u in (
      i,
      h.0.0,
      h.0.1,
      refl,
      subst (λ z. (k : ℕ) → free z k ≡ false) s h.0.2,
      subst
          (λ z. Computes c i z no_variables h.0.0) s h.0.3,
      h.0.4,
    )
of_globals c (b ∷ es) (i ∷ is) (suc g) e h u = of_globals c es is g e h.1 u

-- a task's value is its end
pub ended_awaited : (n : ℕ) (c : Compiled) (r q : ℕ) (inside : Slots) → At c r instr.Return q →
    Awaits n c r no_variables inside [] [] []
ended_awaited zero c r q inside h x v os m a = tt
ended_awaited (suc n) c r q inside h x v os m a =
    rests_here n c (spot r os (x ∷ []) []) (ended v)
    (record {
      still = step_at c r instr.Return q os (x ∷ []) [] h;
      alike = asked_at_instr c r instr.Return q os (x ∷ []) [] h;
      value = (x, refl, m);
      told = λ bodies i b st e g. absurd (none-some st e);
      made = λ st e. absurd (none-some st e);
    })

module _ (n : ℕ) (c : Compiled) where
  -- the state that an answer leads to, by its equation
  pub settled : (s t : Spot) (a : Answer) (st0 st : State) → Some st0 ≡ Some st → told_at c s a ≡ Some t →
      StandsFor n c t (pause c.families st0) → Stays n c s a st
  settled s t a st0 st e h k = (t, h, subst (λ z. StandsFor n c t (pause c.families z)) (same_Some st0 st e) k)

  -- a lost state is stuck
  pub never_lost : {A : Type 0} (st : State) → Some lost ≡ Some st → (pause c.families st ≡ stuck → ⊥) → A
  never_lost st e g = absurd (g (ap (λ z. pause c.families z) (sym (same_Some lost st e))))

  -- something is sent
  pub puts_stand : (s t : Spot) (y : EndName) (ev : Event) (fs : List Frame) → inner c s ≡ None → asked_at c s ≡ Some (Put y ev) →
      told_at c s Sent ≡ Some t →
      StandsFor n c t (resume c.families fs (value.end y)) → StandsFor (suc n) c s (puts y ev fs)
  puts_stand s t y ev fs i a h k =
      rests_here n c s (puts y ev fs) (record {
        still = i;
        alike = a;
        value = tt;
        told = go;
        made =
            λ st e. absurd (none-some st e);
      })
    where
      go : Tells n c s (puts y ev fs)
      go bodies ic Sent st e g = settled s t Sent (giving (value.end y) fs) st e h k
      go bodies ic b st e g = absurd (none-some st e)

  -- something is received
  pub gets_stand : (i j : ℕ) (y : EndName) (slots : Slots) (ops : List ValueTree) (calls : List Call) (fs : List Frame) →
      At c i instr.Receive j → Takes n c j slots ops calls fs →
      StandsFor (suc n) c (spot i slots (tree.end y ∷ ops) calls) (gets y fs)
  gets_stand i j y slots ops calls fs h k =
      rests_here n c (spot i slots (tree.end y ∷ ops) calls) (gets y fs) (record {
        still = step_at c i instr.Receive j slots (tree.end y ∷ ops) calls h;
        alike = asked_at_instr c i instr.Receive j slots (tree.end y ∷ ops) calls h;
        value = tt;
        told = go;
        made = λ st e. absurd (none-some st e);
      })
    where
      got : (x : ValueTree) (v : Value) (a : Answer) (st : State) → Means c x v →
          told_at c (spot i slots (tree.end y ∷ ops) calls) a ≡ Some (spot j slots (tree.pair x (tree.end y) ∷ ops) calls) →
          Some (giving (value.pair v (value.end y)) fs) ≡ Some st → Stays n c (spot i slots (tree.end y ∷ ops) calls) a st
      got x v a st m u e =
          settled (spot i slots (tree.end y ∷ ops) calls) (spot j slots (tree.pair x (tree.end y) ∷ ops) calls) a
          (giving (value.pair v (value.end y)) fs) st e u
          (k (tree.pair x (tree.end y)) (value.pair v (value.end y)) (v, value.end y, refl, m, refl))

      go : Tells n c (spot i slots (tree.end y ∷ ops) calls) (gets y fs)
      go bodies ic (Got (event.Int m)) st e g = got (tree.int m) (value.int m) (Got (event.Int m)) st refl
          (told_at_instr c i instr.Receive j slots (tree.end y ∷ ops) calls (Got (event.Int m)) h) e
      go bodies ic (Got (event.Bool b)) st e g = got (tree.bool b) (value.bool b) (Got (event.Bool b)) st refl
          (told_at_instr c i instr.Receive j slots (tree.end y ∷ ops) calls (Got (event.Bool b)) h) e
      go bodies ic (Got (event.Char m)) st e g = got (tree.char m) (value.char m) (Got (event.Char m)) st refl
          (told_at_instr c i instr.Receive j slots (tree.end y ∷ ops) calls (Got (event.Char m)) h) e
      go bodies ic (Got event.Unit) st e g = got tree.unit value.unit (Got event.Unit) st refl
          (told_at_instr c i instr.Receive j slots (tree.end y ∷ ops) calls (Got event.Unit) h) e
      go bodies ic (Got (event.Label l)) st e g = never_lost st e g
      go bodies ic (Got event.Closed) st e g = never_lost st e g
      go bodies ic b st e g = absurd (none-some st e)

  -- a channel is closed
  pub closes_stand : (i j : ℕ) (y : EndName) (slots : Slots) (ops : List ValueTree) (calls : List Call) (fs : List Frame) →
      At c i instr.Close j → Takes n c j slots ops calls fs →
      StandsFor (suc n) c (spot i slots (tree.end y ∷ ops) calls) (closes y fs)
  closes_stand i j y slots ops calls fs h k =
      rests_here n c (spot i slots (tree.end y ∷ ops) calls) (closes y fs) (record {
        still = step_at c i instr.Close j slots (tree.end y ∷ ops) calls h;
        alike = asked_at_instr c i instr.Close j slots (tree.end y ∷ ops) calls h;
        value = tt;
        told = go;
        made = λ st e. absurd (none-some st e);
      })
    where
      go : Tells n c (spot i slots (tree.end y ∷ ops) calls) (closes y fs)
      go bodies ic Sent st e g =
          settled (spot i slots (tree.end y ∷ ops) calls) (spot j slots (tree.unit ∷ ops) calls) Sent (giving value.unit fs) st e
          (told_at_instr c i instr.Close j slots (tree.end y ∷ ops) calls Sent h) (k tree.unit value.unit refl)
      go bodies ic b st e g = absurd (none-some st e)

  -- a closing is waited for
  pub waits_stand : (i j : ℕ) (y : EndName) (slots : Slots) (ops : List ValueTree) (calls : List Call) (fs : List Frame) →
      At c i instr.Wait j → Takes n c j slots ops calls fs →
      StandsFor (suc n) c (spot i slots (tree.end y ∷ ops) calls) (waits y fs)
  waits_stand i j y slots ops calls fs h k =
      rests_here n c (spot i slots (tree.end y ∷ ops) calls) (waits y fs) (record {
        still = step_at c i instr.Wait j slots (tree.end y ∷ ops) calls h;
        alike = asked_at_instr c i instr.Wait j slots (tree.end y ∷ ops) calls h;
        value = tt;
        told = go;
        made = λ st e. absurd (none-some st e);
      })
    where
      go : Tells n c (spot i slots (tree.end y ∷ ops) calls) (waits y fs)
      go bodies ic (Got event.Closed) st e g =
          settled (spot i slots (tree.end y ∷ ops) calls) (spot j slots (tree.unit ∷ ops) calls) (Got event.Closed)
          (giving value.unit fs) st e (told_at_instr c i instr.Wait j slots (tree.end y ∷ ops) calls (Got event.Closed) h)
          (k tree.unit value.unit refl)
      go bodies ic (Got (event.Int m)) st e g = never_lost st e g
      go bodies ic (Got (event.Bool b)) st e g = never_lost st e g
      go bodies ic (Got (event.Char m)) st e g = never_lost st e g
      go bodies ic (Got event.Unit) st e g = never_lost st e g
      go bodies ic (Got (event.Label l)) st e g = never_lost st e g
      go bodies ic b st e g = absurd (none-some st e)

  -- a channel is made
  pub makes_stand : (i j t : ℕ) (slots : Slots) (ops : List ValueTree) (calls : List Call) (fs : List Frame) →
      At c i (instr.New t) j → Takes n c j slots ops calls fs → StandsFor (suc n) c (spot i slots ops calls) (makes t fs)
  makes_stand i j t slots ops calls fs h k =
      rests_here n c (spot i slots ops calls) (makes t fs) (record {
        still = step_at c i (instr.New t) j slots ops calls h;
        alike = asked_at_instr c i (instr.New t) j slots ops calls h;
        value = tt;
        told = go;
        made = λ st e. absurd (none-some st e);
      })
    where
      go : Tells n c (spot i slots ops calls) (makes t fs)
      go bodies ic (Made ch) st e g =
          settled (spot i slots ops calls) (spot j slots (ends_of ch ∷ ops) calls) (Made ch) (giving (ends ch) fs) st e
          (told_at_instr c i (instr.New t) j slots ops calls (Made ch) h)
          (k (ends_of ch) (ends ch) (_, _, refl, refl, refl))
      go bodies ic b st e g = absurd (none-some st e)

  module _ (before : (e : CoreTree) → Good n c e) where
    -- a function is called
    pub calls_stand : (i j l : ℕ) (xs : ValueTrees) (y : ValueTree) (e : CoreTree) (env : Environment) (w : Value) (slots : Slots)
        (ops : List ValueTree) (calls : List Call) (fs : List Frame) →
        At c i instr.Call j → (f : IsFunction c l e) → MeanCaptured c xs f.entry.captured.items env →
        HasJust (outside (free e)) env → Means c y w → Takes n c j slots ops calls fs →
        StandsFor (suc n) c (spot i slots (y ∷ tree.function l xs ∷ ops) calls) (applies e env w fs)
    calls_stand i j l xs y e env w slots ops calls fs h f mc hj my k =
        rests_here n c (spot i slots (y ∷ tree.function l xs ∷ ops) calls) (applies e env w fs) (record {
          still = step_at c i instr.Call j slots (y ∷ tree.function l xs ∷ ops) calls h;
          alike = asked_at_instr c i instr.Call j slots (y ∷ tree.function l xs ∷ ops) calls h;
          value = tt;
          told = go;
          made = λ st z. absurd (none-some st z);
        })
      where
        go : Tells n c (spot i slots (y ∷ tree.function l xs ∷ ops) calls) (applies e env w fs)
        go bodies ic Go st z g =
            settled (spot i slots (y ∷ tree.function l xs ∷ ops) calls)
            (spot f.entry.start (spread f.entry.captured.items xs) (y ∷ ops)
            (around (leads_back j c j) (record { place = j; slots = slots }) calls)) Go
            (record { term = e; environment = enter (free e zero) w env; frames = fs }) st z
            (told_at_instr c i instr.Call j slots (y ∷ tree.function l xs ∷ ops) calls Go h ∙ ap
            (λ o. called c (start_of o) (spread (captured_by o) xs) j (y ∷ ops)
            (spot i slots (y ∷ tree.function l xs ∷ ops) calls)) f.there)
            (bound n c (free e zero) f.entry.start f.body (spread f.entry.captured.items xs) ops
            (around (leads_back j c j) (record { place = j; slots = slots }) calls) y _ f.binds
            (before e f.body f.back no_variables (enter (free e zero) w env)
            (kept (free e zero) y ∷ (spread f.entry.captured.items xs)) ops
            (around (leads_back j c j) (record { place = j; slots = slots }) calls) fs f.computes
            (entered c (free e zero) (free e) (spread f.entry.captured.items xs) env y w refl
            (captured_means c xs f.entry.captured.items (outside (free e)) env mc f.listed.members hj) my)
            (called_awaited n c f.back f.last j (kept (free e zero) y ∷ (spread f.entry.captured.items xs)) slots ops
            calls fs f.returns k)))
        go bodies ic b st z g = absurd (none-some st z)

    -- a global is used
    pub uses_stand : (i j g : ℕ) (slots : Slots) (ops : List ValueTree) (calls : List Call) (fs : List Frame) →
        At c i (instr.Global g) j → Takes n c j slots ops calls fs → StandsFor (suc n) c (spot i slots ops calls) (uses g fs)
    uses_stand i j g slots ops calls fs h k =
        rests_here n c (spot i slots ops calls) (uses g fs) (record {
          still = step_at c i (instr.Global g) j slots ops calls h;
          alike = asked_at_instr c i (instr.Global g) j slots ops calls h;
          value = tt;
          told = go;
          made = λ st z. absurd (none-some st z);
        })
      where
        found : (bodies : List CoreTree) → IsCode c bodies → (st : State) → (pause c.families st ≡ stuck → ⊥) →
            (o : Option CoreTree) → slice_get bodies g ≡ o →
            Some (or_lost (option_map (λ e. begins e fs) o)) ≡ Some st → Stays n c (spot i slots ops calls) Go st
        found bodies ic st z None u e = never_lost st e z
        found bodies ic st z (Some b) u e =
            let w = of_globals c bodies c.globals g b ic u in
            settled (spot i slots ops calls) (spot w.0 [] ops
            (around (leads_back j c j) (record { place = j; slots = slots }) calls)) Go (begins b fs) st e
            (told_at_instr c i (instr.Global g) j slots ops calls Go h ∙ ap
            (λ o. called c o [] j ops (spot i slots ops calls)) w.3)
            (before b w.0 w.1 no_variables value.none [] ops
            (around (leads_back j c j) (record { place = j; slots = slots }) calls) fs w.5
            (without c (free b) w.4) (called_awaited n c w.1 w.2 j [] slots ops calls fs w.6 k))

        go : Tells n c (spot i slots ops calls) (uses g fs)
        go bodies ic Go st e z = found bodies ic st z (slice_get bodies g) refl e
        go bodies ic b st e z = absurd (none-some st e)

    -- a task is made
    pub forks_stand : (i j l r q : ℕ) (xs : ValueTrees) (e : CoreTree) (env : Environment) (slots : Slots) (ops : List ValueTree)
        (calls : List Call) (fs : List Frame) (entry : LambdaEntry) →
        At c i (instr.Fork l) j → slice_get c.lambdas l ≡ Some entry → Lists entry.captured.items (free e) →
        Computes c entry.start e no_variables r → At c r instr.Return q →
        MeanCaptured c xs entry.captured.items env → HasJust (free e) env →
        StandsFor n c (spot j slots (tree.unit ∷ ops) calls) (resume c.families fs value.unit) →
        StandsFor (suc n) c (spot i slots (pushed xs ops) calls) (forks e env fs)
    forks_stand i j l r q xs e env slots ops calls fs entry h u ls hc hr mc hj k =
        rests_here n c (spot i slots (pushed xs ops) calls) (forks e env fs) (record {
          still = step_at c i (instr.Fork l) j slots (pushed xs ops) calls h;
          alike = asked_at_instr c i (instr.Fork l) j slots (pushed xs ops) calls h;
          value = tt;
          told = go;
          made = make;
        })
      where
        taken : collected (captured_count (slice_get c.lambdas l)) (pushed xs ops) tree.none ≡ Some (xs, ops)
        taken = ap (λ o. collected (captured_count o) (pushed xs ops) tree.none) u
            ∙ captured_collected c xs entry.captured.items env ops mc

        go : Tells n c (spot i slots (pushed xs ops) calls) (forks e env fs)
        go bodies ic Forked st z g =
            settled (spot i slots (pushed xs ops) calls) (spot j slots (tree.unit ∷ ops) calls) Forked (giving value.unit fs) st z
            (told_at_instr c i (instr.Fork l) j slots (pushed xs ops) calls Forked h ∙ ap
            (λ o. without_captured j o (spot i slots (pushed xs ops) calls)) taken) k
        go bodies ic b st z g = absurd (none-some st z)

        make : (st : State) → Some (record { term = e; environment = env; frames = [] }) ≡ Some st →
            (t : Spot) × (child_at c (spot i slots (pushed xs ops) calls) ≡ Some t) × AreAlike c t.slots st.environment ×
            StandsFor n c t (pause c.families st)
        make st z = (
          begins_at entry.start (spread entry.captured.items xs),
          child_at_instr c i (instr.Fork l) j slots (pushed xs ops) calls h ∙ ap
              (λ o. forked_spot o (collected (captured_count (slice_get c.lambdas l)) (pushed xs ops) tree.none)) u ∙ ap
              (λ o. forked_spot (Some entry) o) taken,
          subst (λ (y : State). AreAlike c (spread entry.captured.items xs) y.environment) (same_Some _ st z)
              (captured_alike c xs entry.captured.items (free e) env mc ls.members hj),
          subst (λ y. StandsFor n c (begins_at entry.start (spread entry.captured.items xs)) (pause c.families y))
              (same_Some _ st z)
              (before e entry.start r no_variables env (spread entry.captured.items xs) [] [] [] hc
              (captured_means c xs entry.captured.items (free e) env mc ls.members hj)
              (ended_awaited n c r q (spread entry.captured.items xs) hr)),
        )
