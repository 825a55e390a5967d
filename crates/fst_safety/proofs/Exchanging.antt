-- What a task becomes that exchanges an event on one of its ends.
use Rattle.std.proofs.Common.{◌≡◌, ◌∙◌, ℕ, ◌+◌, List, [], true, Some, refl, sym, ap, subst, arith}
use Rattle.std.specs.Prelude.{option_map}
use Rattle.fst_base.proofs.Options.{some_same}
use Rattle.fst_types.specs.Tree.{Tree, plain}
use Rattle.fst_types.specs.declared.base.Base.{Base}
use Rattle.fst_types.specs.declared.base.Base.TheVariants as base
use Rattle.fst_types.specs.declared.base.Base.TheVariants.{Unit as Nothing}
use Rattle.fst_types.specs.declared.label.Label.{Label}
use Rattle.fst_types.specs.declared.label.Label.TheVariants.{Receive, Offer, Close, Wait}
use Rattle.fst_kinds.specs.WellFormed.{IsSession}
use Rattle.fst_lts.specs.Step.{step, terminated, is_end}
use Rattle.fst_lts.specs.Histories.{sending, receiving}
use Rattle.fst_terms.specs.CoreTree.{CoreArms}
use Rattle.fst_derivations.specs.Rules.{Surroundings}
use Rattle.fst_types.specs.declared.ends.EndName.{EndName}
use Rattle.fst_types.specs.declared.event.Event.{Event}
use Rattle.fst_types.specs.declared.event.Event.TheVariants as event
use Rattle.fst_machine.specs.declared.request.Answer.TheVariants.{Sent, Got}
use Rattle.fst_machine.specs.Values as value
use Rattle.fst_machine.specs.Values.{Value, Environment, received}
use Rattle.fst_machine.specs.Machine.{Program, State, Frame, puts, gets, closes, waits, matches, giving, after, arm_state, or_lost}
use Rattle.fst_lts.proofs.Laws.{one_message, one_offer, one_wait, ended_skip}
use Rattle.fst_runs.specs.Configs.{same_end}
use Rattle.fst_runs.specs.Wrong.{held, held_env, held_frames, held_pause}
use Rattle.fst_safety.specs.Running.{Equals}
use Rattle.fst_safety.specs.Fitting.{Residuals, Fits, Takes}
use Rattle.fst_safety.specs.WellTyped.{IsWellTyped}
use Rattle.fst_safety.specs.Pauses.{Allowed, Goes}
use Rattle.fst_safety.proofs.Equals.{equals_itself, equals_back, equals_through, equals_session, equals_steps, session_formed, session_step}
use Rattle.fst_safety.proofs.Answers.{giving_goes, match_goes}
use Rattle.fst_safety.proofs.Idle.{spent_elsewhere}
use Rattle.fst_safety.proofs.Shapes.{plain_formed}
use Rattle.fst_safety.proofs.Asking.{end_moves}
use Rattle.fst_safety.proofs.StillLaws.{Still, less, takes_still, env_still}
use Rattle.fst_safety.proofs.Offers.{offering_moves}

of_base : (b c : Base) → Receive c ≡ Receive b → Equals (plain c) (plain b)
of_base b c e =
    let is : c ≡ b = cc in
    subst (λ z. Equals (plain z) (plain b)) (sym is) (equals_itself (plain b) (plain_formed b))

-- what is received by the label of a base type is a value of it, in which no end stands
pub received_fits : (m : Surroundings) (r : Residuals) (ev : Event) (b : Base) → receiving ev ≡ Receive b →
    (v : Value) × (received ev ≡ Some v) × Fits m r v (plain b) × ((z : EndName) → held z v ≡ 0)
received_fits m r (event.Int n) b e = (value.int n, refl, of_base b base.Int e, λ z. refl)
received_fits m r (event.Bool n) b e = (value.bool n, refl, of_base b base.Bool e, λ z. refl)
received_fits m r (event.Char n) b e = (value.char n, refl, of_base b base.Char e, λ z. refl)
received_fits m r event.Unit b e = (value.unit, refl, of_base b base.Unit e, λ z. refl)
received_fits m r (event.Label l) b e = absurd (cc e)
received_fits m r event.Closed b e = absurd (cc e)

-- an end's new residual is a type equal to that after the label, where it stands at a type that moves by the label
end_next : (m : Surroundings) (r r' : Residuals) (y : EndName) (now next : Tree) (a : Label) → r y ≡ Some now →
    step now a ≡ Some next → r' y ≡ Some next →
    (s t d : Tree) → Fits m r (value.end y) s → step s a ≡ Some t → Equals t d → Fits m r' (value.end y) d
end_next m r r' y now next a before moves later s t d f e q =
    let g = end_moves m r y s t a f e in
    let is : g.0 ≡ now = some_same (sym g.2 ∙ before) in
    let then_is : g.1 ≡ next = some_same (sym g.3 ∙ ap (λ w. step w a) is ∙ moves) in (
      next,
      later,
      session_step now next a (subst (IsSession []) is g.4) moves,
      equals_through (equals_back (subst (Equals t) then_is g.5)) q,
    )

-- an end's residual moves where a type moves at which the end stands
end_label : (m : Surroundings) (r : Residuals) (y : EndName) (now : Tree) → r y ≡ Some now →
    (s t : Tree) (a : Label) → Fits m r (value.end y) s → step s a ≡ Some t →
    (u : Tree) × (step now a ≡ Some u)
end_label m r y now before s t a f e =
    let g = end_moves m r y s t a f e in
    (g.1, subst (λ w. step w a ≡ Some g.1) (some_same (sym g.2 ∙ before)) g.3)

label_came : (l : List ℕ) (ev : Event) → Offer l ≡ receiving ev → (k : List ℕ) × (ev ≡ event.Label k)
label_came l (event.Int n) e = absurd (cc e)
label_came l (event.Bool n) e = absurd (cc e)
label_came l (event.Char n) e = absurd (cc e)
label_came l event.Unit e = absurd (cc e)
label_came l (event.Label k) e = (k, refl)
label_came l event.Closed e = absurd (cc e)

closing_came : (ev : Event) → receiving ev ≡ Wait → ev ≡ event.Closed
closing_came (event.Int n) e = absurd (cc e)
closing_came (event.Bool n) e = absurd (cc e)
closing_came (event.Char n) e = absurd (cc e)
closing_came event.Unit e = absurd (cc e)
closing_came (event.Label k) e = absurd (cc e)
closing_came event.Closed e = refl

-- the residual of y is first now, and then next
module _ (m : Surroundings) (well : IsWellTyped m) (r r' : Residuals) (y : EndName) (ev : Event) (now next : Tree)
    (before : r y ≡ Some now) where
  -- the state of a task that sent
  pub sent_goes : step now (sending ev) ≡ Some next → r' y ≡ Some next →
      (p : Program) (fs : List Frame) (t : Tree) (s : State) → Allowed m r (puts y ev fs) t →
      Still m r r' (λ z. held_frames z fs) → after p (puts y ev fs) Sent ≡ Some s →
      Goes m r' s t (λ z. held_pause z (puts y ev fs))
  sent_goes moves later p fs t s a still e =
      subst (λ k. Goes m r' k t (λ z. held_pause z (puts y ev fs))) (some_same e)
      (giving_goes m well r' (value.end y) fs a.4 t
      (end_next m r r' y now next (sending ev) before moves later a.0 a.1 a.4 a.2 a.3 a.5)
      (takes_still m r r' fs a.4 t a.6 still))

  -- the state of a task whose protocol at the end is over: the end isn't counted any more
  over_goes : (a : Label) → is_end a ≡ true → step now a ≡ Some next → r' y ≡ Some next →
      (fs : List Frame) (d t : Tree) → Equals (plain Nothing) d → Takes m r fs d t → Still m r r' (λ z. held_frames z fs) →
      Goes m r' (giving value.unit fs) t (λ z. held z (value.end y) + held_frames z fs)
  over_goes a ends moves later fs d t q k still =
      let g = giving_goes m well r' value.unit fs d t q (takes_still m r r' fs d t k still) in (
        g.0,
        λ z u.
            let n : held z (value.end y) ≡ 0 = spent_elsewhere m well r' z y next (same_end z y) refl u later
            (ap terminated (ended_skip now next a ends moves)) in
            let c = g.1 z u in
            omega (arith, c, n),
      )

  -- the state of a task that closed the channel
  pub closed_goes : ev ≡ event.Closed → step now (sending ev) ≡ Some next → r' y ≡ Some next →
      (p : Program) (fs : List Frame) (t : Tree) (s : State) → Allowed m r (closes y fs) t →
      Still m r r' (λ z. held_frames z fs) → after p (closes y fs) Sent ≡ Some s →
      Goes m r' s t (λ z. held_pause z (closes y fs))
  closed_goes is moves later p fs t s a still e =
      subst (λ k. Goes m r' k t (λ z. held_pause z (closes y fs))) (some_same e)
      (over_goes Close refl (subst (λ ev'. step now (sending ev') ≡ Some next) is moves) later fs a.4 t a.5 a.6 still)

  -- the state of a task that waited for that
  pub waited_goes : step now (receiving ev) ≡ Some next → r' y ≡ Some next →
      (p : Program) (fs : List Frame) (t : Tree) (s : State) → Allowed m r (waits y fs) t →
      Still m r r' (λ z. held_frames z fs) → after p (waits y fs) (Got ev) ≡ Some s →
      Goes m r' s t (λ z. held_pause z (waits y fs))
  waited_goes moves later p fs t s a still e =
      let mine = end_label m r y now before a.0 a.1 Wait a.2 a.3 in
      let is : ev ≡ event.Closed = closing_came ev (one_wait now mine.0 next (receiving ev) mine.1 moves) in
      let goes : Some (giving value.unit fs) ≡ Some s = ap (λ ev'. after p (waits y fs) (Got ev')) (sym is) ∙ e in
      subst (λ k. Goes m r' k t (λ z. held_pause z (waits y fs))) (some_same goes)
      (over_goes Wait refl (subst (λ ev'. step now (receiving ev') ≡ Some next) is moves) later fs a.4 t a.5 a.6 still)

  -- the state of a task that received a value
  pub received_goes : step now (receiving ev) ≡ Some next → r' y ≡ Some next →
      (p : Program) (fs : List Frame) (t : Tree) (s : State) → Allowed m r (gets y fs) t →
      Still m r r' (λ z. held_frames z fs) → after p (gets y fs) (Got ev) ≡ Some s → Goes m r' s t (λ z. held_pause z (gets y fs))
  received_goes moves later p fs t s a still e =
      let mine = end_label m r y now before a.1 a.2 (Receive a.0) a.3 a.4 in
      let same : receiving ev ≡ Receive a.0 = one_message now mine.0 next a.0 (receiving ev) mine.1 moves in
      let v = received_fits m r' ev a.0 same in
      let f : Fits m r' (value.end y) a.2 =
      end_next m r r' y now next (receiving ev) before moves later a.1 a.2 a.2 a.3
      (subst (λ k. step a.1 k ≡ Some a.2) (sym same) a.4)
      (equals_itself a.2 (session_formed (session_step a.1 a.2 (Receive a.0) (equals_session a.3.3 a.3.2) a.4))) in
      let g = giving_goes m well r' (value.pair v.0 (value.end y)) fs a.5 t (plain a.0, a.2, v.2, f, a.6)
      (takes_still m r r' fs a.5 t a.7 still) in
      let is : Some (giving (value.pair v.0 (value.end y)) fs) ≡ Some s =
      ap (λ o. Some (or_lost (option_map (λ v. giving (value.pair v (value.end y)) fs) o))) (sym v.1) ∙ e in
      subst (λ k. Goes m r' k t (λ z. held_pause z (gets y fs))) (some_same is)
      (g.0, λ z u. let n = v.3 z in let q = g.1 z u in omega (arith, n, q))

  -- the state of a task that received a label
  pub chosen_goes : step now (receiving ev) ≡ Some next → r' y ≡ Some next →
      (p : Program) (bs : CoreArms) (env : Environment) (fs : List Frame) (t : Tree) (s : State) →
      Allowed m r (matches y bs env fs) t → Still m r r' (λ z. held_env z env + held_frames z fs) →
      after p (matches y bs env fs) (Got ev) ≡ Some s → Goes m r' s t (λ z. held_pause z (matches y bs env fs))
  chosen_goes moves later p bs env fs t s a still e =
      let o = offering_moves a.0 a.1 a.5 in
      let mine = end_label m r y now before a.0 o.1 (Offer o.0) a.4 o.2 in
      let k = one_offer now mine.0 next o.0 (receiving ev) mine.1 moves in
      let c = label_came k.0 ev k.1 in
      let by : step now (Offer c.0) ≡ Some next = subst (λ ev'. step now (receiving ev') ≡ Some next) c.1 moves in
      let was : a.4.0 ≡ now = some_same (sym a.4.1 ∙ before) in
      let n = equals_steps now a.0 next (Offer c.0) (subst (λ w. Equals w a.0) was a.4.3) (subst (IsSession []) was a.4.2) by in
      let f : Fits m r' (value.end y) n.0 = (
        next,
        later,
        session_step now next (Offer c.0) (subst (IsSession []) was a.4.2) by,
        n.2,
      ) in
      let g = match_goes m well r' y bs c.0 a.1 env fs a.0 n.0 a.2 t a.3 f a.5 a.6 n.1
      (env_still m r r' a.3 _ env a.7 (less m r r' (λ z. held_env z env + held_frames z fs) (λ z. held_env z env) still
      (λ z q. omega (arith, q))))
      a.8 a.9
      (takes_still m r r' fs a.2 t a.10 (less m r r' (λ z. held_env z env + held_frames z fs) (λ z. held_frames z fs) still
      (λ z q. omega (arith, q)))) in
      let is : Some (arm_state bs c.0 y env fs) ≡ Some s = ap (λ ev'. after p (matches y bs env fs) (Got ev')) (sym c.1) ∙ e in
      subst (λ k. Goes m r' k t (λ z. held_pause z (matches y bs env fs))) (some_same is) g
