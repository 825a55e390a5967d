-- What the tasks of a configuration ask for at ends, where nothing has gone wrong.
use Rattle.std.proofs.Common.{◌≡◌, ◌∙◌, List, Bool, true, false, Option, Some, None, refl, sym, ap, subst}
use Rattle.std.specs.Prelude.{option_map, option_and_then}
use Rattle.std.proofs.lemmas.Option.{none-some, same_Some}
use Rattle.fst_base.proofs.Options.{mapped_some}
use Rattle.fst_types.specs.Tree.{Tree}
use Rattle.fst_types.specs.declared.label.Label.{Label}
use Rattle.fst_types.specs.declared.label.Label.TheVariants.{Send, Receive, Select, Offer, Close, Wait, Var}
use Rattle.fst_lts.specs.Step.{step}
use Rattle.fst_lts.specs.Dual.{dual, dual_label}
use Rattle.fst_lts.specs.Histories.{is_output, sending, receiving, IsInput}
use Rattle.fst_terms.specs.CoreTree.{CoreArms}
use Rattle.fst_types.specs.declared.ends.EndName.{EndName}
use Rattle.fst_types.specs.declared.event.Event.{Event}
use Rattle.fst_types.specs.declared.event.Event.TheVariants as event
use Rattle.fst_machine.specs.declared.request.Request.{Request}
use Rattle.fst_machine.specs.declared.request.Request.TheVariants.{Put, Get}
use Rattle.fst_machine.specs.declared.request.Answer.TheVariants.{Sent, Got}
use Rattle.fst_machine.specs.Values.{Environment}
use Rattle.fst_machine.specs.Machine.{Program, State, Frame, Pause, matches, pause, asked, after, answered}
use Rattle.fst_lts.proofs.Laws.{one_direction, sending_output, receiving_output, dual_step, dual_sends, dual_label-dual_label}
use Rattle.fst_runs.specs.Configs.{Path, Task, Channel, Config, same_path, other, residual_in, channel_residual}
use Rattle.fst_runs.specs.Events.{Asks}
use Rattle.fst_runs.specs.Wrong.{held_state, amount, IsUnspent, IsAllowed, IsRight, end_of}
use Rattle.fst_runs.proofs.Asked.{put_pause, get_pause}
use Rattle.fst_runs.proofs.HeldEnds.{pause_none}
use Rattle.fst_runs.proofs.HistoryLaws.{residual-other}
use Rattle.fst_runs.proofs.NameLaws.{same_path-same}
use Rattle.fst_runs.proofs.Owners.{owner, allowed_unspent, asks_held}

-- where a type sends, its dual doesn't
pub no_two_sends : (s t u : Tree) (ev ew : Event) → step s (sending ev) ≡ Some t → step (dual s) (sending ew) ≡ Some u → ⊥
no_two_sends s t u ev ew e f =
    let z = mapped_some dual (step s (receiving ew)) u (sym (dual_sends s ew) ∙ f) in
    let d = one_direction s t z.0 (sending ev) (receiving ew) e z.1 in
    cc (sym (sending_output ev) ∙ d ∙ receiving_output ew)

input_directions : (a : Label) → IsInput a → (is_output a ≡ false) × (is_output (dual_label a) ≡ true)
input_directions (Send b) i = absurd i
input_directions (Receive b) i = (refl, refl)
input_directions (Select l) i = absurd i
input_directions (Offer l) i = (refl, refl)
input_directions Close i = absurd i
input_directions Wait i = (refl, refl)
input_directions (Var k) i = absurd i

-- where a type receives, its dual doesn't
no_two_receives : (s t u : Tree) (a b : Label) → IsInput a → IsInput b → step s a ≡ Some t → step (dual s) b ≡ Some u → ⊥
no_two_receives s t u a b i j e f =
    let g : step (dual s) b ≡ option_map dual (step s (dual_label b)) = ap (step (dual s)) (sym (dual_label-dual_label b))
    ∙ dual_step s (dual_label b) in
    let z = mapped_some dual (step s (dual_label b)) u (sym g ∙ f) in
    let d = one_direction s t z.0 a (dual_label b) e z.1 in
    cc (sym (input_directions a i).0 ∙ d ∙ (input_directions b j).1)

-- what asks to send goes on once it has sent
pub put_answered : (m : Program) (p : Pause) (x : EndName) (ev : Event) → asked p ≡ Some (Put x ev) → (s : State) ×
    (after m p Sent ≡ Some s)
put_answered m p x ev e = put_pause (λ w. (s : State) × (after m w Sent ≡ Some s)) p x ev e (λ fs. (_, refl)) (λ fs c. (_, refl))

-- what asks to receive goes on with each event
pub get_answered : (m : Program) (p : Pause) (x : EndName) (ev : Event) → asked p ≡ Some (Get x) → (s : State) ×
    (after m p (Got ev) ≡ Some s)
get_answered m p x ev e = get_pause (λ w. (s : State) × (after m w (Got ev) ≡ Some s)) p x e (λ fs. (_, refl)) (λ fs. (_, refl))
    (λ bs env fs. matched bs env fs ev)
  where
    matched : (bs : CoreArms) (env : Environment) (fs : List Frame) (ev : Event) → (s : State) ×
        (after m (matches x bs env fs) (Got ev) ≡ Some s)
    matched bs env fs (event.Int n) = (_, refl)
    matched bs env fs (event.Bool b) = (_, refl)
    matched bs env fs (event.Char k) = (_, refl)
    matched bs env fs event.Unit = (_, refl)
    matched bs env fs (event.Label l) = (_, refl)
    matched bs env fs event.Closed = (_, refl)

module _ (m : Program) (c : Config) (h : IsRight m c) where
  asks_allowed : (p : Path) (t : Task) (q : Request) → Asks m c p t q → IsAllowed (residual_in c) q
  asks_allowed p t q a =
      let f = h.asks p t a.0 in
      subst (IsAllowed (residual_in c)) (same_Some f.0 q (sym f.1 ∙ a.1)) f.2

  -- an end at which a task asks isn't spent
  pub right_unspent : (p : Path) (t : Task) (a : Request) (x : EndName) → Asks m c p t a → end_of a ≡ Some x →
      IsUnspent (residual_in c) x
  right_unspent p t a x f n = allowed_unspent (residual_in c) a x n (asks_allowed p t a f)

  -- and the task holds it
  holds : (p : Path) (t : Task) (a : Request) (x : EndName) → Asks m c p t a → end_of a ≡ Some x → held_state x t.state ≡ 0 → ⊥
  holds p t a x f n z = asks_held (pause m.families t.state) a x n f.1 (pause_none m.families x t.state z)

  -- two tasks that ask at one end are one
  pub right_one : (p q : Path) (t u : Task) (a b : Request) (x : EndName) → Asks m c p t a → Asks m c q u b → end_of a ≡ Some x →
      end_of b ≡ Some x → p ≡ q
  right_one p q t u a b x f g n k = pick (same_path p q) refl
    where
      pick : (z : Bool) → same_path p q ≡ z → p ≡ q
      pick true e = same_path-same p q e
      pick false e =
          let o = owner c x p t (h.owned x (right_unspent p t a x f n)) f.0 (holds p t a x f n) in
          absurd (holds q u b x g k (sym (ap (λ o. amount x o) g.0) ∙ o.1 q e))

  -- an end at which a task asks is one of a channel
  pub right_there : (p : Path) (t : Task) (a : Request) (x : EndName) → Asks m c p t a → end_of a ≡ Some x → (k : Channel) ×
      (c.channels x.channel ≡ Some k)
  right_there p t a x f n = pick (c.channels x.channel) refl (right_unspent p t a x f n)
    where
      pick : (o : Option Channel) → c.channels x.channel ≡ o → IsUnspent (residual_in c) x → (k : Channel) ×
          (c.channels x.channel ≡ Some k)
      pick None e u = absurd (none-some u.0 (sym (ap (option_and_then (channel_residual x.side)) e) ∙ u.1))
      pick (Some k) e u = (k, e)

  dual_at : (x : EndName) (s u : Tree) → residual_in c x ≡ Some s → residual_in c (other x) ≡ Some u → u ≡ dual s
  dual_at x s u e f = same_Some u (dual s) (sym f ∙ residual-other c x ∙ ap (option_map dual) e)

  -- no two tasks send at the two ends of a channel
  pub right_opposed : (p q : Path) (t u : Task) (x : EndName) (ev ew : Event) → Asks m c p t (Put x ev) →
      Asks m c q u (Put (other x) ew) → ⊥
  right_opposed p q t u x ev ew f g =
      let a = asks_allowed p t (Put x ev) f in
      let b = asks_allowed q u (Put (other x) ew) g in
      no_two_sends a.0 a.1 b.1 ev ew a.3 (subst (λ z. step z (sending ew) ≡ Some b.1) (dual_at x a.0 b.0 a.2 b.2) b.3)

  -- nor do two receive there
  pub right_received : (p q : Path) (t u : Task) (x : EndName) → Asks m c p t (Get x) → Asks m c q u (Get (other x)) → ⊥
  right_received p q t u x f g =
      let a = asks_allowed p t (Get x) f in
      let b = asks_allowed q u (Get (other x)) g in
      no_two_receives a.0 a.2 b.2 a.1 b.1 a.4 b.4 a.5 (subst (λ z. step z b.1 ≡ Some b.2) (dual_at x a.0 b.0 a.3 b.3) b.5)

  -- where one task sends at an end and another receives at the other, the answers lead both on
  pub right_meets : (p q : Path) (t u : Task) (x : EndName) (ev : Event) → Asks m c p t (Put x ev) →
      Asks m c q u (Get (other x)) →
      (s : State) × (v : State) × (answered m t.state Sent ≡ Some s) × (answered m u.state (Got ev) ≡ Some v)
  right_meets p q t u x ev f g =
      let s = put_answered m (pause m.families t.state) x ev f.1 in
      let v = get_answered m (pause m.families u.state) (other x) ev g.1 in
      (s.0, v.0, s.1, v.1)
