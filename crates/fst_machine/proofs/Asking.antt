-- The forms that ask for something: their code stands for them, where that of their parts does and, for a request less, all code does.
use Rattle.std.proofs.Common.{◌≡◌, ℕ, suc, Bool, Option, Some, None, option_map, List, ◌∷◌, refl, sym, ap, ◌∙◌}
use Rattle.std.proofs.lemmas.Bool.{or_left, or_right}
use Rattle.fst_terms.specs.CoreTree.{CoreTree, CoreArms, global, apply, new, send, receive, close, wait, select, match_with, fork}
use Rattle.fst_value.specs.ValueTree as tree
use Rattle.fst_value.specs.ValueTree.{ValueTree}
use Rattle.fst_types.specs.declared.ends.EndName.{EndName}
use Rattle.fst_types.specs.declared.event.Event.{Event}
use Rattle.fst_types.specs.declared.event.Event.TheVariants.{Label}
use Rattle.fst_machine.specs.declared.request.Request.TheVariants.{Put}
use Rattle.fst_machine.specs.declared.request.Answer.TheVariants.{Sent}
use Rattle.fst_machine.specs.declared.code.Instr.TheVariants as instr
use Rattle.fst_machine.specs.Free.{free, free_below}
use Rattle.fst_machine.specs.Values as value
use Rattle.fst_machine.specs.Values.{Value, keep, sent}
use Rattle.fst_machine.specs.Machine.{Frame, at_function, at_argument, at_value, at_target, at_receive, at_close, at_wait, at_select, at_match, calls as applies, puts, gets, closes, waits, matches, resume, on}
use Rattle.fst_machine.specs.Code.{Compiled, At, also}
use Rattle.fst_machine.specs.Spots.{Slots, Call}
use Rattle.fst_machine.specs.Standing.{Means, StandsFor}
use Rattle.fst_machine.proofs.Steps.{spot, step_at, asked_at_instr, told_at_instr, fewer}
use Rattle.fst_machine.proofs.Slots.{Agree, part, in_also, in_behind}
use Rattle.fst_machine.proofs.Moves.{captures, led}
use Rattle.fst_machine.proofs.Goods.{Awaits, Good, then_part, Takes}
use Rattle.fst_machine.proofs.Requests.{puts_stand, gets_stand, closes_stand, waits_stand, makes_stand, calls_stand, uses_stand, forks_stand}
use Rattle.fst_machine.proofs.Operators.{nothing, sent_alike}
use Rattle.fst_machine.proofs.Shapes.{function_stands, end_stands}
use Rattle.fst_machine.proofs.Matches.{matches_stand}
use Rattle.fst_machine.proofs.Forms.{first_part}

module _ (n : ℕ) (c : Compiled) where
  -- what is awaited, for a request less
  pub sooner : (j : ℕ) (p : ℕ → Bool) (slots os : Slots) (ops : List ValueTree) (calls : List Call) (fs : List Frame) →
      Awaits (suc n) c j p slots ops calls fs → Agree p slots os →
      Takes n c j os ops calls fs
  sooner j p slots os ops calls fs k a x v m = fewer n c (spot j os (x ∷ ops) calls) (resume c.families fs v) (k x v os m a)

  send_stands : (i j : ℕ) (os : Slots) (ops : List ValueTree) (calls : List Call) (fs : List Frame) (x : ValueTree) (v : Value)
      (y : EndName) → At c i instr.Send j → Means c x v →
      Takes n c j os ops calls fs → StandsFor (suc n) c (spot i os (tree.end y ∷ x ∷ ops) calls)
      (on (sent v) (λ ev. puts y ev fs))
  send_stands i j os ops calls fs x v y h mx k = go (sent v) refl
    where
      go : (r : Option Event) → sent v ≡ r → StandsFor (suc n) c (spot i os (tree.end y ∷ x ∷ ops) calls)
          (on r (λ ev. puts y ev fs))
      go None e = nothing (suc n) c (spot i os (tree.end y ∷ x ∷ ops) calls)
      go (Some ev) e =
          puts_stand n c (spot i os (tree.end y ∷ x ∷ ops) calls) (spot j os (tree.end y ∷ ops) calls) y ev fs
          (step_at c i instr.Send j os (tree.end y ∷ x ∷ ops) calls h)
          (asked_at_instr c i instr.Send j os (tree.end y ∷ x ∷ ops) calls h ∙ ap (option_map (Put y)) (sent_alike c x v mx ∙ e))
          (told_at_instr c i instr.Send j os (tree.end y ∷ x ∷ ops) calls Sent h)
          (k (tree.end y) (value.end y) refl)

  -- a value is sent
  pub send_good : (at : ℕ) (e f : CoreTree) → Good (suc n) c e → Good (suc n) c f → Good (suc n) c (send at e f)
  send_good at e f ge gf i j p env slots ops calls fs h m k =
      first_part (suc n) c e i h.0 (also (free f) p) (free (send at e f)) env slots ops calls
      (at_value f (keep (free f) env) ∷ fs) ge h.2 m (λ l g. or_left (free e l) (free f l) g)
      (λ x v os mx a.
      then_part (suc n) c f h.0 h.1 p (free (send at e f)) env slots os (x ∷ ops) calls (at_target v ∷ fs) gf h.3 m
      (λ l g. or_right (free e l) (free f l) g) a
      (λ y w ot my b.
      end_stands (suc n) c (λ t. spot h.1 ot (t ∷ x ∷ ops) calls) (λ z. on (sent v) (λ ev. puts z ev fs)) y w my
      (λ z. send_stands h.1 j ot ops calls fs x v z h.4 mx (sooner j p slots ot ops calls fs k b))))

  -- something is received
  pub receive_good : (at : ℕ) (e : CoreTree) → Good (suc n) c e → Good (suc n) c (receive at e)
  receive_good at e ge i j p env slots ops calls fs h m k =
      ge i h.0 p env slots ops calls (at_receive ∷ fs) h.1 m
      (λ x v os mx a.
      end_stands (suc n) c (λ t. spot h.0 os (t ∷ ops) calls) (λ y. gets y fs) x v mx
      (λ y. gets_stand n c h.0 j y os ops calls fs h.2 (sooner j p slots os ops calls fs k a)))

  -- a channel is closed
  pub close_good : (at : ℕ) (e : CoreTree) → Good (suc n) c e → Good (suc n) c (close at e)
  close_good at e ge i j p env slots ops calls fs h m k =
      ge i h.0 p env slots ops calls (at_close ∷ fs) h.1 m
      (λ x v os mx a.
      end_stands (suc n) c (λ t. spot h.0 os (t ∷ ops) calls) (λ y. closes y fs) x v mx
      (λ y. closes_stand n c h.0 j y os ops calls fs h.2 (sooner j p slots os ops calls fs k a)))

  -- a closing is waited for
  pub wait_good : (at : ℕ) (e : CoreTree) → Good (suc n) c e → Good (suc n) c (wait at e)
  wait_good at e ge i j p env slots ops calls fs h m k =
      ge i h.0 p env slots ops calls (at_wait ∷ fs) h.1 m
      (λ x v os mx a.
      end_stands (suc n) c (λ t. spot h.0 os (t ∷ ops) calls) (λ y. waits y fs) x v mx
      (λ y. waits_stand n c h.0 j y os ops calls fs h.2 (sooner j p slots os ops calls fs k a)))

  -- a label is selected
  pub select_good : (at : ℕ) (l : List ℕ) (e : CoreTree) → Good (suc n) c e → Good (suc n) c (select at l e)
  select_good at l e ge i j p env slots ops calls fs h m k =
      ge i h.0 p env slots ops calls (at_select l ∷ fs) h.1 m
      (λ x v os mx a.
      end_stands (suc n) c (λ t. spot h.0 os (t ∷ ops) calls) (λ y. puts y (Label l) fs) x v mx
      (λ y.
      puts_stand n c (spot h.0 os (tree.end y ∷ ops) calls) (spot j os (tree.end y ∷ ops) calls) y (Label l) fs
      (step_at c h.0 (instr.Select l) j os (tree.end y ∷ ops) calls h.2)
      (asked_at_instr c h.0 (instr.Select l) j os (tree.end y ∷ ops) calls h.2)
      (told_at_instr c h.0 (instr.Select l) j os (tree.end y ∷ ops) calls Sent h.2)
      (sooner j p slots os ops calls fs k a (tree.end y) (value.end y) refl)))

  -- a channel is made
  pub new_good : (at t : ℕ) → Good (suc n) c (new at t)
  new_good at t i j p env slots ops calls fs h m k =
      makes_stand n c i j t slots ops calls fs h (sooner j p slots slots ops calls fs k (λ l g. refl))

  module _ (before : (e : CoreTree) → Good n c e) where
    -- a global is used
    pub global_good : (at g : ℕ) (ts : List ℕ) → Good (suc n) c (global at g ts)
    global_good at g ts i j p env slots ops calls fs h m k =
        uses_stand n c before i j g slots ops calls fs h (sooner j p slots slots ops calls fs k (λ l a. refl))

    -- a function is applied
    pub apply_good : (at : ℕ) (e f : CoreTree) → Good (suc n) c e → Good (suc n) c f → Good (suc n) c (apply at e f)
    apply_good at e f ge gf i j p env slots ops calls fs h m k =
        first_part (suc n) c e i h.0 (also (free f) p) (free (apply at e f)) env slots ops calls
        (at_function f (keep (free f) env) ∷ fs) ge h.2 m (λ l g. or_left (free e l) (free f l) g)
        (λ x v os mx a.
        then_part (suc n) c f h.0 h.1 p (free (apply at e f)) env slots os (x ∷ ops) calls (at_argument v ∷ fs) gf h.3 m
        (λ l g. or_right (free e l) (free f l) g) a
        (λ y w ot my b.
        function_stands (suc n) c (λ t. spot h.1 ot (y ∷ t ∷ ops) calls) (λ d own. applies d own w fs) x v mx
        (λ l xs d own fd mc hj. calls_stand n c before h.1 j l xs y d own w ot ops calls fs h.4 fd mc hj my
        (sooner j p slots ot ops calls fs k b))))

    -- a label is waited for
    pub match_good : (at : ℕ) (e : CoreTree) (bs : CoreArms) → Good (suc n) c e → Good (suc n) c (match_with at e bs)
    match_good at e bs ge i j p env slots ops calls fs h m k =
        first_part (suc n) c e i h.0 (also (free_below bs) p) (free (match_with at e bs)) env slots ops calls
        (at_match bs (keep (free_below bs) env) ∷ fs) ge h.3 m
        (λ l g. or_left (free e l) (free_below bs l) g)
        (λ x v os mx a.
        end_stands (suc n) c (λ t. spot h.0 os (t ∷ ops) calls) (λ y. matches y bs (keep (free_below bs) env) fs) x v mx
        (λ y.
        matches_stand n c before bs h.0 h.1 h.2 j p (free_below bs) y (keep (free_below bs) env) os ops calls fs h.4 h.5
        (part c (free (match_with at e bs)) (free_below bs) slots os env m (λ l g. or_right (free e l) (free_below bs l) g)
        (λ l g. a l (in_also (free_below bs) p l g))) (λ l g. g)
        (λ z w ot mz b. sooner j p slots ot ops calls fs k (λ l g. b l g ∙ a l (in_behind (free_below bs) p l g)) z w mz)))

    -- a task is made
    pub fork_good : (at : ℕ) (e : CoreTree) → Good (suc n) c (fork at e)
    fork_good at e i j p env slots ops calls fs h m k =
        captures (suc n) c h.1.captured.items i h.2 p slots ops calls env _ h.7 h.6.apart
        (λ l g. m.meant l (sym (h.6.members l) ∙ g))
        (λ os xs a mc.
        forks_stand n c before h.2 h.3 h.0 h.4 h.11.0 xs e env os ops calls fs h.1 h.8 h.5 h.6 h.10 h.11.1 mc m.just
        (led n c h.3 j os (tree.unit ∷ ops) calls (resume c.families fs value.unit) h.9
        (sooner j p slots os ops calls fs k a tree.unit value.unit refl)))
