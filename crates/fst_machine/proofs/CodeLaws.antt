-- The code of a program asks for what its terms ask for.
use Rattle.std.proofs.Common.{◌≡◌, ◌<◌, ◌⊎◌, ℕ, suc, Some, None, List, [], ◌∷◌, slice_get, sym, ap, ◌∙◌, subst, inl, inr}
use Rattle.std.proofs.lemmas.Option.{none-some, same_Some}
use Rattle.fst_terms.specs.CoreTree.{CoreTree}
use Rattle.fst_value.specs.ValueTree.{ValueTree}
use Rattle.fst_machine.specs.declared.request.Answer.{Answer}
use Rattle.fst_machine.specs.Free.{free}
use Rattle.fst_machine.specs.Values as value
use Rattle.fst_machine.specs.Values.{Value}
use Rattle.fst_machine.specs.Machine.{State, Pause, stuck, ended, asked, pause, after, child, begins}
use Rattle.fst_machine.specs.Code.{Compiled, no_variables, IsCode}
use Rattle.fst_machine.specs.Spots.{Spot, begins_at, inner, asked_at, told_at, child_at}
use Rattle.fst_machine.specs.Standing.{AreAlike, Means, Rests, StandsFor, Stands, DistinctMakers, GoesDown, measure}
use Rattle.fst_machine.proofs.Slots.{without}
use Rattle.fst_machine.proofs.Steps.{rests_or_stuck, one_step}
use Rattle.fst_machine.proofs.Requests.{of_globals, ended_awaited}
use Rattle.fst_machine.proofs.Lowers.{step_lowers}
use Rattle.fst_machine.proofs.Going.{all_go}

-- an inner step keeps what the code stands for
pub inner_stands : (c : Compiled) (s t : Spot) (q : Pause) → Stands c s q → inner c s ≡ Some t → Stands c t q
inner_stands c s t q h e n = one_step n c s t q e (h n)

-- where no step is left, the code asks for what the terms ask for
pub asks_alike : (c : Compiled) (s : Spot) (q : Pause) → Stands c s q → inner c s ≡ None →
    (q ≡ stuck → ⊥) → asked_at c s ≡ asked q
asks_alike c s q h e g = go (rests_or_stuck 0 c s q e (h 1))
  where
    go : (q ≡ stuck) ⊎ Rests c (StandsFor 0 c) s q → asked_at c s ≡ asked q
    go (inl b) = absurd (g b)
    go (inr r) = r.alike

-- where the task has ended, the only value on the stack means its value
pub ended_means : (c : Compiled) (s : Spot) (v : Value) → Stands c s (ended v) → inner c s ≡ None → (x : ValueTree) ×
    (s.operands ≡ x ∷ []) × Means c x v
ended_means c s v h e = go (rests_or_stuck 0 c s (ended v) e (h 1))
  where
    go : (ended v ≡ stuck) ⊎ Rests c (StandsFor 0 c) s (ended v) → (x : ValueTree) × (s.operands ≡ x ∷ []) × Means c x v
    go (inl b) = absurd (cc b)
    go (inr r) = r.value

module _ (c : Compiled) (bodies : List CoreTree) (ic : IsCode c bodies) (dm : DistinctMakers c.families) where
  -- the code of a global stands for its body
  pub start_stands : (g : ℕ) (e : CoreTree) → slice_get bodies g ≡ Some e →
      (i : ℕ) × (slice_get c.globals g ≡ Some i) × Stands c (begins_at i []) (pause c.families (begins e []))
  start_stands g e h =
      let w = of_globals c bodies c.globals g e ic h in (
        w.0,
        w.3,
        λ n. all_go n c dm e w.0 w.1 no_variables value.none [] [] [] [] w.5 (without c (free e) w.4)
            (ended_awaited n c w.1 w.2 [] w.6),
      )

  -- after an answer it stands for what the terms go on with
  pub told_stands : (s : Spot) (q : Pause) (a : Answer) (st : State) → Stands c s q → inner c s ≡ None →
      after (record { families = c.families; bodies = bodies }) q a ≡ Some st → (pause c.families st ≡ stuck → ⊥) →
      (t : Spot) × (told_at c s a ≡ Some t) × Stands c t (pause c.families st)
  told_stands s q a st h e u g =
      let first = told 0 in (
        first.0,
        first.1,
        λ n. let r = told n in subst
            (λ t. StandsFor n c t (pause c.families st)) (same_Some r.0 first.0 (sym r.1 ∙ first.1)) r.2,
      )
    where
      go : (n : ℕ) → (q ≡ stuck) ⊎ Rests c (StandsFor n c) s q → (t : Spot) ×
          (told_at c s a ≡ Some t) × StandsFor n c t (pause c.families st)
      go n (inl b) = absurd (none-some st (ap (λ z. after (record { families = c.families; bodies = bodies }) z a) (sym b) ∙ u))
      go n (inr r) = r.told bodies ic a st u g

      told : (n : ℕ) → (t : Spot) × (told_at c s a ≡ Some t) × StandsFor n c t (pause c.families st)
      told n = go n (rests_or_stuck n c s q e (h (suc n)))

  -- the code that a fork starts stands for the task that it makes, and its variables have the same values
  pub child_stands : (s : Spot) (q : Pause) (st : State) → Stands c s q → inner c s ≡ None → child q ≡ Some st →
      (t : Spot) × (child_at c s ≡ Some t) × AreAlike c t.slots st.environment × Stands c t (pause c.families st)
  child_stands s q st h e u =
      let first = made 0 in (
        first.0,
        first.1,
        first.2,
        λ n. let r = made n in subst
            (λ t. StandsFor n c t (pause c.families st)) (same_Some r.0 first.0 (sym r.1 ∙ first.1)) r.3,
      )
    where
      go : (n : ℕ) → (q ≡ stuck) ⊎ Rests c (StandsFor n c) s q →
          (t : Spot) × (child_at c s ≡ Some t) × AreAlike c t.slots st.environment × StandsFor n c t (pause c.families st)
      go n (inl b) = absurd (none-some st (ap child (sym b) ∙ u))
      go n (inr r) = r.made st u

      made : (n : ℕ) → (t : Spot) × (child_at c s ≡ Some t) × AreAlike c t.slots st.environment ×
          StandsFor n c t (pause c.families st)
      made n = go n (rests_or_stuck n c s q e (h (suc n)))

-- each inner step lowers the measure, where the code goes down
pub inner_lowers : (c : Compiled) (s t : Spot) → GoesDown c → inner c s ≡ Some t → measure t < measure s
inner_lowers c s t g e = step_lowers c s t g e
