-- Threads stay typed, whatever they are told.
use Rattle.std.proofs.Common.{◌≡◌, ◌∙◌, ◌<◌, ℕ, ◌+◌, List, [], ◌∷◌, ◌++◌, Bool, true, false, Option, Some, None, refl, sym, ap, subst, arith}
use Rattle.std.specs.Prelude.{sum_by, is_some, option_and_then}
use Rattle.std.proofs.lemmas.List.Elements.{All-nil, All-cons, All-head}
use Rattle.std.proofs.lemmas.List.Sorted.{All-permutation}
use Rattle.std.proofs.lemmas.List.Sums.{sum_by_push}
use Rattle.fst_base.proofs.Options.{some_same}
use Rattle.fst_types.specs.Tree.{Tree}
use Rattle.fst_lts.specs.Step.{step}
use Rattle.fst_lts.specs.Histories.{sending, receiving, after_event, after_history, side_type}
use Rattle.fst_lts.proofs.Laws.{after_sent, after_received, not_both}
use Rattle.fst_derivations.specs.Modules.{surroundings}
use Rattle.fst_derivations.specs.Rules.{Surroundings}
use Rattle.fst_types.specs.declared.ends.EndName.{EndName}
use Rattle.fst_types.specs.declared.event.Event.{Event}
use Rattle.fst_types.specs.declared.event.Entry.{Entry}
use Rattle.fst_machine.specs.declared.request.Request.TheVariants as request
use Rattle.fst_machine.specs.declared.request.Answer.TheVariants.{Sent, Got}
use Rattle.fst_machine.specs.Machine.{State, answered, or_lost}
use Rattle.fst_machine.specs.Machine as machine
use Rattle.fst_runs.specs.Wrong.{IsAllowed}
use Rattle.fst_cell.specs.Answers.{end_with, longer}
use Rattle.fst_cell.specs.End.{EndView, end_name, residual_of}
use Rattle.fst_lts.specs.Residuals.{residual, sends, receives}
use Rattle.fst_runs.specs.declared.log.LogEntry.{LogEntry}
use Rattle.fst_safety.specs.WellTyped.{IsWellTyped, program_in}
use Rattle.fst_runs.specs.Logs.{Exchange, Enters, after_entry, part_in, parts_in, then_after}
use Rattle.fst_safety.specs.Threads.{shown}
use Rattle.fst_safety.specs.Threads.{Thread, FitsIn, FitsEnd, IsPast}
use Rattle.fst_safety.specs.Turns.{by_exchanges}
use Rattle.fst_safety.specs.Going.{GoesOnTo, IsMoved, with_entry, StayTyped, StepsOn, Opens, ForksOn, Tries, Sends, Receives}
use Rattle.fst_safety.proofs.Pasts.{rise_more}
use Rattle.fst_safety.proofs.Answered.{typed_asks, sent_typed, got_typed}
use Rattle.fst_safety.proofs.Checked.{checked}
use Rattle.fst_safety.proofs.ThreadExchanges.{held_once, exchange, exchanged_fits, exchanged_turn}
use Rattle.fst_safety.proofs.ThreadForks.{forked_fits, begun_fits, forked_turn}
use Rattle.fst_safety.proofs.ThreadOpenings.{made_fits, made_turn}
use Rattle.fst_safety.proofs.ThreadTurns.{tried_fits, tried_turn, stepped_fits, stepped_turn}

-- ---- one entry more

-- the type after a history, if there was one before
abbrev then_all : Option Tree → List Entry → Option Tree
then_all t [] = t
then_all t (e ∷ es) = then_all (then_after t e.event) es

none_all : (h : List Entry) → then_all None h ≡ None
none_all [] = refl
none_all (e ∷ h) = none_all h

then_is : (o : Option Tree) (h : List Entry) → option_and_then (λ t. after_history t h) o ≡ then_all o h
then_is None h = sym (none_all h)
then_is (Some t) [] = refl
then_is (Some t) (e ∷ h) = then_is (after_event t e.event) h

then_more : (o : Option Tree) (h : List Entry) (e : Entry) → then_all o (h ++ e ∷ []) ≡ then_after (then_all o h) e.event
then_more o [] e = refl
then_more o (d ∷ h) e = then_more (then_after o d.event) h e

parts_more : (n : EndName) (o : Option Tree) (h : List Entry) (e : Entry) →
    parts_in n o (h ++ e ∷ []) ≡ parts_in n o h ++ part_in n (sends (then_all o h) e.event) e ∷ []
parts_more n o [] e = refl
parts_more n o (d ∷ h) e = ap (λ (l : List Exchange). part_in n (sends o d.event) d ∷ l) (parts_more n (then_after o d.event) h e)

known_is : (e : EndView) → residual_of e.knows ≡ then_all (Some (side_type e.knows.side e.knows.declared)) e.knows.history
unfolding residual
known_is e = then_is (Some (side_type e.knows.side e.knows.declared)) e.knows.history

-- the residual with one entry more
longer_residual : (e : EndView) (k : ℕ) (x : Entry) (now next : Tree) → residual_of e.knows ≡ Some now →
    after_event now x.event ≡ Some next → residual_of (end_with e (longer e.knows k x)).knows ≡ Some next
longer_residual e k x now next q h =
    let o = Some (side_type e.knows.side e.knows.declared) in
    known_is (end_with e (longer e.knows k x)) ∙ then_more o e.knows.history x ∙ ap
    (λ t. then_after t x.event) (sym (known_is e) ∙ q) ∙ h

-- what an end shows with one entry more
pub longer_shown : (w : Exchange → ℕ) (e : EndView) (k : ℕ) (x : Entry) (b : Bool) → sends (residual_of e.knows) x.event ≡ b →
    by_exchanges w (end_with e (longer e.knows k x)) ≡ by_exchanges w e + w (part_in (end_name e) b x)
longer_shown w e k x b h =
    let o = Some (side_type e.knows.side e.knows.declared) in
    ap (sum_by w) (parts_more (end_name e) o e.knows.history x)
    ∙ sum_by_push w (shown e) (part_in (end_name e) (sends (then_all o e.knows.history) x.event) x)
    ∙ ap (λ (b : Bool). by_exchanges w e + w (part_in (end_name e) b x)) (ap (λ t. sends t x.event) (sym (known_is e)) ∙ h)

sends_it : (t u : Tree) (ev : Event) → step t (sending ev) ≡ Some u → sends (Some t) ev ≡ true
unfolding sends
sends_it t u ev e = ap is_some e

sends_not : (t u : Tree) (ev : Event) → step t (receiving ev) ≡ Some u → sends (Some t) ev ≡ false
unfolding sends
sends_not t u ev e = ap is_some (not_both t u ev e)

receives_it : (o : Option Tree) (ev : Event) → receives o ev ≡ true → (t : Tree) × (u : Tree) × (o ≡ Some t) ×
    (step t (receiving ev) ≡ Some u)
unfolding receives
receives_it None ev e = absurd (cc e)
receives_it (Some t) ev e = there (step t (receiving ev)) refl e
  where
    there : (o : Option Tree) → step t (receiving ev) ≡ o → is_some o ≡ true → (t' : Tree) × (u : Tree) × (Some t ≡ Some t') ×
        (step t' (receiving ev) ≡ Some u)
    there None q h = absurd (cc h)
    there (Some u) q h = (t, u, refl, q)

-- ---- exchanges

-- the end e has the entry taken more, which its task sent or received
module _ (m : Surroundings) (well : IsWellTyped m) (a : Tree) (x : Thread) (fits : FitsIn m a x) (e : EndView) (k : ℕ)
    (taken : Entry) (s : State) (bag retired : List EndView)
    (moved : IsMoved x e (end_with e (longer e.knows k taken)) bag retired) (late : x.now.clock < taken.stamp) where
  abbrev n : EndName
  n = end_name e

  abbrev f : EndView
  f = end_with e (longer e.knows k taken)

  e_fits : FitsEnd m x.now e
  e_fits = All-head (FitsEnd m x.now) e moved.rest
      (All-permutation (FitsEnd m x.now) x.bag (e ∷ moved.rest) moved.before fits.ends)

  e_known : fits.typed.residuals n ≡ residual_of e.knows
  e_known =
      let P = λ (e : EndView). fits.typed.residuals (end_name e) ≡ residual_of e.knows in
      All-head P e moved.rest (All-permutation P x.bag (e ∷ moved.rest) moved.before fits.typed.are.known)

  past : IsPast taken.stamp f
  past = rise_more 0 e.knows.history x.now.clock taken e_fits.past late

  module _ (asks : machine.request m.families x.now.state ≡ Some (request.Put n taken.event))
      (told : answered (program_in m) x.now.state Sent ≡ Some s) (sent : taken.sent ≡ x.now.clock) where
    abbrev g : LogEntry
    g = record { asked = request.Put n taken.event; answer = Sent; stamp = taken.stamp }

    enters : Enters (program_in m) x.path x.now g
    enters = record { asked = asks; is_answered = late; state = s; leads = told }

    there : answered (program_in m) x.now.state Sent ≡ Some (after_entry (program_in m) x.now g).state
    there = told ∙ ap (λ o. Some (or_lost o)) (sym told)

    allowed : IsAllowed fits.typed.residuals (request.Put n taken.event)
    allowed =
        let p = typed_asks m well x.now.state fits.typed.type fits.typed.residuals fits.typed.typed in
        subst (IsAllowed fits.typed.residuals) (some_same (sym p.1 ∙ asks)) p.2

    was : residual_of e.knows ≡ Some allowed.0
    was = sym e_known ∙ allowed.2

    is : residual_of f.knows ≡ Some allowed.1
    is = longer_residual e k taken allowed.0 allowed.1 was (after_sent allowed.0 allowed.1 taken.event allowed.3)

    pub sent_on : GoesOnTo m a x (with_entry m x (request.Put n taken.event) Sent taken.stamp bag retired) []
    sent_on =
        let one = held_once m a x fits g enters n e f bag retired moved refl refl allowed.0 allowed.1 was is refl past refl
        refl in
        let h = exchange m a x fits g enters n e f bag retired moved refl refl allowed.0 allowed.1 was is refl past refl refl in
        let goes = sent_typed m well x.now.state fits.typed.type
        (after_entry (program_in m) x.now g).state fits.typed.residuals _ n
        taken.event allowed.0 allowed.1 fits.typed.typed asks one h.0 allowed.3 h.1 h.2 there in
        record {
          fits = exchanged_fits m a x fits g enters n e f bag retired moved refl refl allowed.0 allowed.1 was is refl past refl
              refl goes;
          new_fit = All-nil (FitsIn m a);
          turn = exchanged_turn m a x fits g enters n e f bag retired moved refl refl allowed.0 allowed.1 was is refl past refl
              refl goes refl refl refl refl refl refl
              (λ w.
              let p = longer_shown w e k taken true (ap (λ o. sends o taken.event) was
              ∙ sends_it allowed.0 allowed.1 taken.event allowed.3) in
              let q : w (part_in n true taken) ≡ w (record
              { end = n; sends = true; event = taken.event; stamp = taken.stamp; clock = x.now.clock }) =
              λ i. w (record { end = n; sends = true; event = taken.event; stamp = taken.stamp; clock = sent i }) in
              omega (arith, p, q));
        }

  module _ (asks : machine.request m.families x.now.state ≡ Some (request.Get n))
      (told : answered (program_in m) x.now.state (Got taken.event) ≡ Some s)
      (may : receives (residual_of e.knows) taken.event ≡ true) (got : taken.got ≡ x.now.clock) where
    abbrev taking : LogEntry
    taking = record { asked = request.Get n; answer = Got taken.event; stamp = taken.stamp }

    enters_taking : Enters (program_in m) x.path x.now taking
    enters_taking = record { asked = asks; is_answered = late; state = s; leads = told }

    there_taking : answered (program_in m) x.now.state (Got taken.event) ≡ Some (after_entry (program_in m) x.now taking).state
    there_taking = told ∙ ap (λ o. Some (or_lost o)) (sym told)

    abbrev by : (t : Tree) × (u : Tree) × (residual_of e.knows ≡ Some t) × (step t (receiving taken.event) ≡ Some u)
    by = receives_it (residual_of e.knows) taken.event may

    is_then : residual_of f.knows ≡ Some by.1
    is_then = longer_residual e k taken by.0 by.1 by.2 (after_received by.0 by.1 taken.event by.3)

    pub got_on : GoesOnTo m a x (with_entry m x (request.Get n) (Got taken.event) taken.stamp bag retired) []
    got_on =
        let one = held_once m a x fits taking enters_taking n e f bag retired moved refl refl by.0 by.1 by.2 is_then refl past
        refl refl in
        let h = exchange m a x fits taking enters_taking n e f bag retired moved refl refl by.0 by.1 by.2 is_then refl past refl
        refl in
        let goes = got_typed m well x.now.state fits.typed.type
        (after_entry (program_in m) x.now taking).state fits.typed.residuals
        _ n taken.event by.0 by.1 fits.typed.typed asks one h.0 by.3 h.1 h.2 there_taking in
        record {
          fits = exchanged_fits m a x fits taking enters_taking n e f bag retired moved refl refl by.0 by.1 by.2 is_then refl past
              refl refl goes;
          new_fit = All-nil (FitsIn m a);
          turn = exchanged_turn m a x fits taking enters_taking n e f bag retired moved refl refl by.0 by.1 by.2 is_then refl past
              refl refl goes refl refl refl refl refl refl
              (λ w.
              let p = longer_shown w e k taken false (ap (λ o. sends o taken.event) by.2
              ∙ sends_not by.0 by.1 taken.event by.3) in
              let q : w (part_in n false taken) ≡ w (record
              { end = n; sends = false; event = taken.event; stamp = taken.stamp; clock = x.now.clock }) =
              λ i. w (record { end = n; sends = false; event = taken.event; stamp = taken.stamp; clock = got i }) in
              omega (arith, p, q));
        }

-- ---- all turns

steps_on : StepsOn
steps_on m ds h a x fits s asks told =
    let w = checked m ds h in
    record {
      fits = stepped_fits (surroundings m []) w a x fits asks s told;
      new_fit = All-nil (FitsIn (surroundings m []) a);
      turn = stepped_turn (surroundings m []) w a x fits asks s told;
    }

opens : Opens
opens m ds h a x fits k d s cell l r bag1 ret1 bag ret asks is told li ri pl pr =
    let w = checked m ds h in
    record {
      fits = made_fits (surroundings m []) w a x fits k d asks is s told cell l r li ri bag1 ret1 bag ret pl pr;
      new_fit = All-nil (FitsIn (surroundings m []) a);
      turn = made_turn (surroundings m []) w a x fits k d asks is s told cell l r li ri bag1 ret1 bag ret pl pr;
    }

forks_on : ForksOn
forks_on m ds h a x fits b s names mine theirs asks ch told all gone moved are =
    let w = checked m ds h in
    record {
      fits = forked_fits (surroundings m []) w a x fits asks b ch s told names mine theirs all gone moved are;
      new_fit = All-cons (FitsIn (surroundings m []) a) _ []
          (begun_fits (surroundings m []) w a x fits asks b ch s told names mine theirs all gone moved are)
          (All-nil (FitsIn (surroundings m []) a));
      turn = forked_turn (surroundings m []) w a x fits asks b ch s told names mine theirs all gone moved are;
    }

tries : Tries
tries m ds h a x fits e v rest bag before after side declared history fit = record {
  fits = tried_fits (surroundings m []) a x fits e v rest bag before after side declared history fit;
  new_fit = All-nil (FitsIn (surroundings m []) a);
  turn = tried_turn (surroundings m []) a x fits e v rest bag before after side declared history fit;
}

sends_on : Sends
sends_on m ds h a x fits e k taken s bag retired asks told sent late moved =
    sent_on (surroundings m []) (checked m ds h) a x fits e k taken s bag retired moved late asks told sent

receives_on : Receives
receives_on m ds h a x fits e k taken s bag retired asks told may got late moved =
    got_on (surroundings m []) (checked m ds h) a x fits e k taken s bag retired moved late asks told may got

-- threads stay typed
pub stay_typed : StayTyped
stay_typed = record { steps = steps_on; opens = opens; forks = forks_on; tries = tries; sends = sends_on; receives = receives_on }
