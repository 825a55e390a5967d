-- What the parts of a turn come to, for each thread that the task was.
use Rattle.std.proofs.Common.{◌≡◌, ◌∙◌, ◌≤◌, ◌⊎◌, inl, inr, ◌<◌, ℕ, ◌+◌, suc, List, [], ◌∷◌, ◌++◌, true, Some, None, Ok, Err, refl, sym, ap, subst, arith}
use Rattle.std.specs.Prelude.{sum_by, IsPermutation, is_some, slice_index_or}
use Rattle.std.specs.declared.alloc.AllocError.{AllocError}
use Rattle.std.proofs.lemmas.List.{length_push}
use Rattle.fst_base.proofs.Options.{some_same}
use Rattle.fst_types.specs.Tree.{Tree}
use Rattle.fst_lts.specs.Step.{step}
use Rattle.fst_lts.specs.Histories.{sending}
use Rattle.fst_types.specs.declared.ends.EndName.{EndName}
use Rattle.fst_types.specs.declared.event.Event.{Event}
use Rattle.fst_machine.specs.declared.code.Code.{Code}
use Rattle.fst_machine.specs.declared.request.Request.{Request}
use Rattle.fst_machine.specs.declared.request.Request.TheVariants as request
use Rattle.fst_machine.specs.declared.request.Answer.{Answer}
use Rattle.fst_machine.specs.declared.request.Answer.TheVariants.{Go, Sent, Got}
use Rattle.fst_machine.specs.Machine.{State, pause}
use Rattle.fst_machine.specs.Machine as machine
use Rattle.fst_machine.specs.Programs.{program}
use Rattle.fst_machine.specs.Spots.{inner, asked_at}
use Rattle.fst_vm.specs.Running.{code_of}
use Rattle.fst_vm.specs.TaskView.{TaskView}
use Rattle.fst_vm.specs.Tasks.{IsIn, IsAtRest, AsksFor, Takes, Stays}
use Rattle.fst_runs.specs.Wrong.{end_of, once}
use Rattle.fst_cell.specs.declared.content.Half.{Half}
use Rattle.fst_cell.specs.declared.content.Offer.{Offer}
use Rattle.fst_cell.specs.Answers.{FoundHeld, FoundNothing, FoundStanding, IsOffered, IsTaken, IsNoticed, end_with, longer, offered, entry}
use Rattle.fst_cell.specs.End.{EndView, end_name, residual_of}
use Rattle.fst_lts.specs.Residuals.{sends, asks}
use Rattle.fst_cell.specs.Rule.{tried}
use Rattle.fst_safety.specs.declared.tasks.TypedTask.{TypedTask}
use Rattle.fst_safety.specs.declared.tasks.Turned.TheVariants.{Moved, Offered, Left as Off, Ended}
use Rattle.fst_safety.specs.Threads.{Thread, FitsEnd, Waits, count_of}
use Rattle.fst_safety.specs.Turns.{of_ends}
use Rattle.fst_safety.specs.Going.{GoesOnTo, IsMoved, with_entry}
use Rattle.fst_safety.specs.Bags.{IsPlaced, IsPutBack, IsChanged, IsPassed, MayOffer, MayTake}
use Rattle.fst_safety.specs.Tasks.{Keeps, Fits, CanTurn, AsksNow, IsSame, HasGoneOn, HasTurned, TakesTurn, FoundNoWay, HasTried, offers, tries_at, work, module_of}
use Rattle.fst_safety.proofs.Going.{stay_typed}
use Rattle.fst_safety.proofs.Keeping.{stays, stands_in, stands_open, same_keeps, asks_alike, asks_it, allowed, fits_there, known_there, alive_in, takes_it, keeps_it, advanced_fits}
use Rattle.fst_safety.proofs.Pasts.{rise_short}
use Rattle.fst_safety.proofs.Told.{told_go, told_sent, told_got}
use Rattle.fst_safety.proofs.Tries.{tried_more, changed_sum, passed_sum, one_offer}

-- ---- nothing has happened

-- where memory was wanting the task is as it was
pub refused : (k : Code) (t u : TypedTask) (e : AllocError) → IsSame t u → TakesTurn k t (Err e) u
refused k t u e s a x f = record {
  after = x;
  new = [];
  goes = stays (module_of k) a x f.fits;
  keeps =
      same_keeps k t u x s f.keeps;
  done = omega arith;
  tries = λ z. omega arith;
  answers = (refl, refl, refl);
}

-- ---- a step

module _ (k : Code) (t : TypedTask) (now : AsksNow k t request.Step) where
  module _ (a : Tree) (x : Thread) (f : Fits k a t x) (stamp : ℕ) (next : stamp ≡ t.clock + 1) where
    asks_step : machine.request (module_of k).families x.now.state ≡ Some request.Step
    asks_step = asks_it k a t x f request.Step now

    told : (s : State) × (machine.answered (program k.module.value) x.now.state Go ≡ Some s)
    told = told_go (program k.module.value) (pause k.module.value.families.items x.now.state) asks_step

    goes : GoesOnTo (module_of k) a x (with_entry (module_of k) x request.Step Go stamp x.bag x.retired) []
    goes =
        let is : suc x.now.clock ≡ stamp = let c = f.keeps.clock in omega (arith, c, next) in
        subst (λ n. GoesOnTo (module_of k) a x (with_entry (module_of k) x request.Step Go n x.bag x.retired) []) is
        (stay_typed.steps k.module.value f.code.derivations f.code.derived a x f.fits told.0 asks_step told.1)

    pub step_takes : Takes k t.task Go
    step_takes = takes_it k a t x f Go told.0 now.0 told.1
        (alive_in k a t x f request.Step Go stamp x.bag x.retired [] told.0 told.1 goes) (λ e. absurd (cc e))

    pub step_turned : (u : TypedTask) → HasGoneOn k t request.Step Go stamp u → u.bag.items ≡ t.bag.items →
        u.retired.items ≡ t.retired.items → HasTurned k a (Ok Moved) u x
    step_turned u on bag retired = record {
      after = with_entry (module_of k) x request.Step Go stamp x.bag x.retired;
      new = [];
      goes = goes;
      keeps = keeps_it k a t x f request.Step Go stamp x.bag x.retired [] told.0 u u told.1 goes on refl on.made refl refl
          (bag ∙ f.keeps.bag) (retired ∙ f.keeps.retired);
      done = let n = length_push x.log (record { asked = request.Step; answer = Go; stamp = stamp }) in omega (arith, n);
      tries = λ z. omega arith;
      answers = (record { entry = record { asked = request.Step; answer = Go; stamp = stamp }; is = refl }, refl);
    }

-- ---- tries

-- an event that is sent is one that the residual sends
sends_it : (t u : Tree) (ev : Event) → step t (sending ev) ≡ Some u → sends (Some t) ev ≡ true
unfolding sends
sends_it t u ev e = ap is_some e

-- what the turn has changed of the task is its bag
pub record HasSameRest (t u : TypedTask) : Type 0 where
  pub task : u.task ≡ t.task
  pub made : u.made ≡ t.made
  pub clock : u.clock ≡ t.clock
  pub log : u.log.items ≡ t.log.items
  pub retired : u.retired.items ≡ t.retired.items

module _ (k : Code) (a : Tree) (t u : TypedTask) (x : Thread) (f : Fits k a t x) (n : EndName) (i : ℕ)
    (placed : IsPlaced n t.bag.items i) (same : HasSameRest t u)
    (P : EndView → EndView → Type 0) (c : IsChanged P t.bag.items i u.bag.items) where
  abbrev pub moved : Thread
  moved = record x { bag = c.rest ++ c.after ∷ [] }

  pub named : end_name c.before ≡ n
  named = sym (ap end_name (c.at c.before)) ∙ placed.1 c.before

  was : IsPermutation x.bag (c.before ∷ c.rest)
  was = subst (λ es. IsPermutation es (c.before ∷ c.rest)) f.keeps.bag c.was

  pub fits_before : FitsEnd (module_of k) x.now c.before
  fits_before = subst (FitsEnd (module_of k) x.now) (c.at c.before) (fits_there k a t x f n i placed c.before)

  pub has_tried : HasTried n c.before c.after x moved
  has_tried = record { named = named; rest = c.rest; was = was; is = refl }

  pub tried_goes : (v : Half) → c.after ≡ end_with c.before v → v.side ≡ c.before.knows.side →
      v.declared ≡ c.before.knows.declared → v.history ≡ c.before.knows.history →
      FitsEnd (module_of k) x.now (end_with c.before v) → GoesOnTo (module_of k) a x moved []
  tried_goes v is side declared history fit =
      stay_typed.tries k.module.value f.code.derivations f.code.derived a x f.fits c.before v c.rest (c.rest ++ c.after ∷ []) was
      (ap (λ (z : EndView). c.rest ++ z ∷ []) is) side declared history fit

  pub tried_keeps : Keeps k u moved
  tried_keeps = record {
    path = ap (λ w. w.path) same.task ∙ f.keeps.path;
    is_in = subst (λ w. IsIn k.module.value k w x.now.state) (sym same.task) f.keeps.is_in;
    forked = ap (λ w. w.forked) same.task ∙ f.keeps.forked;
    made = same.made ∙ f.keeps.made;
    clock = same.clock ∙ f.keeps.clock;
    log = same.log ∙ f.keeps.log;
    bag = c.is;
    retired = same.retired ∙ f.keeps.retired;
  }

  tries_up : (v : Half) → c.after ≡ end_with c.before v → v.side ≡ c.before.knows.side → c.before.knows.tries ≤ v.tries →
      (z : EndName) →
      of_ends (tries_at z) x ≤ of_ends (tries_at z) moved + 0
  tries_up v is side more z =
      let name : end_name c.after ≡ end_name c.before = ap end_name is ∙ ap
      (λ s. record { channel = c.before.channel; side = s }) side in
      let count : c.after.knows.tries ≡ v.tries = ap (λ (e : EndView). e.knows.tries) is in
      let a = changed_sum (tries_at z) x c.before c.after c.rest was in
      let up = tried_more z c.before c.after name (omega (arith, count, more)) in
      omega (arith, a, up)

  -- what was offered there before and after
  work_as : (m n : ℕ) → offers c.before ≡ m → offers c.after ≡ n → work moved + m ≡ work x + n
  work_as m n p q = let a = changed_sum offers x c.before c.after c.rest was in omega (arith, a, p, q)

  -- what stands offered is the same
  same_work : offers c.after ≡ offers c.before → work moved + 0 ≡ work x
  same_work p = let a = work_as (offers c.before) (offers c.before) refl p in omega (arith, a)

  -- an end that has tried fits as before
  try_fits : (w : ℕ) → FitsEnd (module_of k) x.now (end_with c.before (tried c.before.knows w))
  try_fits w = record {
    past = fits_before.past;
    waits = λ o q. let h = fits_before.waits o q in record { asks = h.asks; clock = h.clock; sends = h.sends };
  }

  pub try_goes : c.after ≡ end_with c.before (tried c.before.knows c.after.knows.found) → GoesOnTo (module_of k) a x moved []
  try_goes is = tried_goes (tried c.before.knows c.after.knows.found) is refl refl refl (try_fits c.after.knows.found)

  pub left_turned : (q : Request) → machine.request (module_of k).families x.now.state ≡ Some q → end_of q ≡ Some n →
      c.after ≡ end_with c.before (tried c.before.knows c.after.knows.found) →
      FoundNoWay c.before c.after → HasTurned k a (Ok (Off n)) u x
  left_turned q asks at is found = record {
    after = moved;
    new = [];
    goes = try_goes is;
    keeps = tried_keeps;
    done = same_work (ap offers is);
    tries = tries_up (tried c.before.knows c.after.knows.found) is refl (omega arith);
    answers = (
      record { asked = q; asks = asks; at = at; before = c.before; after = c.after; tried = has_tried; found = found },
      refl,
    );
  }

  pub want_turned : (e : AllocError) → c.after ≡ end_with c.before (tried c.before.knows c.after.knows.found) →
      HasTurned k a (Err e) u x
  want_turned e is = record {
    after = moved;
    new = [];
    goes = try_goes is;
    keeps = tried_keeps;
    done = same_work (ap offers is);
    tries = tries_up (tried c.before.knows c.after.knows.found) is refl (omega arith);
    answers = (refl, refl, refl);
  }

  pub offered_turned : (ev : Event) → machine.request (module_of k).families x.now.state ≡ Some (request.Put n ev) →
      c.before.knows.offer ≡ None →
      sends (residual_of c.before.knows) ev ≡ true → IsOffered c.before ev t.clock c.after → HasTurned k a (Ok Offered) u x
  offered_turned ev asks idle may by =
      let o : Offer = record { event = ev; clock = t.clock } in
      let v : Half = offered c.before.knows c.after.knows.found o in
      let fit : FitsEnd (module_of k) x.now (end_with c.before v) = record {
        past = fits_before.past;
        waits = λ p q.
            let is : o ≡ p = some_same q in
            record {
              asks = asks ∙ ap (λ z. Some (request.Put z ev)) (sym named) ∙ ap
                  (λ (p : Offer). Some (request.Put (end_name c.before) p.event)) is;
              clock = sym (ap (λ (p : Offer). p.clock) is) ∙ f.keeps.clock;
              sends = subst (λ (p : Offer). sends (residual_of c.before.knows) p.event ≡ true) is may;
            };
      } in
      record {
        after = moved;
        new = [];
        goes = tried_goes v by.now refl refl refl fit;
        keeps = tried_keeps;
        done = let a = work_as 0 1 (ap (λ o. once (is_some o)) idle) (ap offers by.now) in omega (arith, a);
        tries = tries_up v by.now refl (omega arith);
        answers = (
          record {
            name = n;
            event = ev;
            asks = asks;
            before = c.before;
            after = c.after;
            tried = has_tried;
            offered = subst (λ d. IsOffered c.before ev d c.after) f.keeps.clock by;
          },
          refl,
        );
      }

  -- an end that is as it was
  pub same_turned : (e : AllocError) → c.after ≡ c.before → HasTurned k a (Err e) u x
  same_turned e is = record {
    after = moved;
    new = [];
    goes = tried_goes c.before.knows is refl refl refl fits_before;
    keeps = tried_keeps;
    done = same_work (ap offers is);
    tries = tries_up c.before.knows is refl (omega arith);
    answers = (refl, refl, refl);
  }

-- ---- what ends allow

-- the end of a place may offer what the task asks to send there
pub may_offer : (k : Code) (a : Tree) (t : TypedTask) (x : Thread) (f : Fits k a t x) (n : EndName) (ev : Event) (i : ℕ) →
    AsksNow k t (request.Put n ev) → IsPlaced n t.bag.items i →
    t.clock < 4294967295 → (d : EndView) → (slice_index_or t.bag.items i d).knows.offer ≡ None →
    MayOffer ev (slice_index_or t.bag.items i d)
may_offer k a t x f n ev i now placed few d idle =
    let ok = allowed k.module.value f.code.derivations f.code.derived a x f.fits (request.Put n ev)
    (asks_it k a t x f (request.Put n ev) now) in
    let is = sym (known_there k a t x f n i placed d) ∙ ok.2 in
    let short = rise_short 0 (slice_index_or t.bag.items i d).knows.history x.now.clock
    (fits_there k a t x f n i placed d).past in
    let clock = f.keeps.clock in
    record {
      idle = idle;
      sends = ap (λ o. sends o ev) is ∙ sends_it ok.0 ok.1 ev ok.3;
      few = omega (arith, short, clock, few);
    }

-- the end of a place may take where the task asks to receive there
pub may_take : (k : Code) (a : Tree) (t : TypedTask) (x : Thread) (f : Fits k a t x) (n : EndName) (i : ℕ) →
    AsksNow k t (request.Get n) → IsPlaced n t.bag.items i →
    t.clock < 4294967295 → (d : EndView) → MayTake (slice_index_or t.bag.items i d)
unfolding asks
may_take k a t x f n i now placed few d =
    let ok = allowed k.module.value f.code.derivations f.code.derived a x f.fits (request.Get n)
    (asks_it k a t x f (request.Get n) now) in
    let is = sym (known_there k a t x f n i placed d) ∙ ok.3 in
    let short = rise_short 0 (slice_index_or t.bag.items i d).knows.history x.now.clock
    (fits_there k a t x f n i placed d).past in
    let clock = f.keeps.clock in
    record { asks = (ok.0, ok.1, ok.2, is, ok.4, ok.5); few = omega (arith, short, clock, few) }

-- ---- exchanges

module _ (k : Code) (t : TypedTask) (n : EndName) (i : ℕ) (placed : IsPlaced n t.bag.items i) (bag retired : List EndView) where
  module _ (a : Tree) (x : Thread) (f : Fits k a t x) (P : EndView → EndView → Type 0)
      (c : IsPassed P t.bag.items t.retired.items i bag retired) where
    its_name : end_name c.before ≡ n
    its_name = sym (ap end_name (c.at c.before)) ∙ placed.1 c.before

    fits_it : FitsEnd (module_of k) x.now c.before
    fits_it = subst (FitsEnd (module_of k) x.now) (c.at c.before) (fits_there k a t x f n i placed c.before)

    is_moved : (v : Half) → c.after ≡ end_with c.before v → IsMoved x c.before (end_with c.before v) bag retired
    is_moved v is = record {
      rest = c.rest;
      before = subst (λ es. IsPermutation es (c.before ∷ c.rest)) f.keeps.bag c.was;
      put = subst (λ (z : EndView). IsPutBack z c.rest x.retired bag retired) is
          (subst (λ es. IsPutBack c.after c.rest es bag retired) f.keeps.retired c.put);
    }

    exchange_tries : (v : Half) → c.after ≡ end_with c.before v → v.side ≡ c.before.knows.side → c.before.knows.tries ≤ v.tries →
        (z : EndName) →
        of_ends (tries_at z) x ≤ (sum_by (tries_at z) bag + sum_by (tries_at z) retired) + 0
    exchange_tries v is side more z =
        let name : end_name c.after ≡ end_name c.before = ap end_name is ∙ ap
        (λ s. record { channel = c.before.channel; side = s }) side in
        let count : c.after.knows.tries ≡ v.tries = ap (λ (e : EndView). e.knows.tries) is in
        let p = is_moved v is in
        let up = tried_more z c.before c.after name (omega (arith, count, more)) in
        let same : tries_at z c.after ≡ tries_at z (end_with c.before v) = ap (tries_at z) is in
        let a = passed_sum (tries_at z) x c.before (end_with c.before v) p.rest bag retired p.before p.put in
        omega (arith, a, up, same)

    -- its offer, where there was one, doesn't stand any more
    exchange_work : (v : Half) → c.after ≡ end_with c.before v → v.offer ≡ None →
        (q : Request) (r : Answer) (stamp : ℕ) → work x < work (with_entry (module_of k) x q r stamp bag retired) + 0
    exchange_work v is none q r stamp =
        let p = is_moved v is in
        let a = passed_sum offers x c.before (end_with c.before v) p.rest bag retired p.before p.put in
        let b = one_offer c.before in
        let n = length_push x.log (record { asked = q; answer = r; stamp = stamp }) in
        omega (arith, a, b, n)

    -- the offer was taken
    module _ (ev : Event) (stamp : ℕ) (now : AsksNow k t (request.Put n ev)) (by : IsNoticed c.before stamp c.after) where
      waits : Waits (module_of k) x.now c.before (record { event = by.taken.event; clock = by.taken.sent })
      waits = fits_it.waits (record { event = by.taken.event; clock = by.taken.sent }) by.offer

      told_it : (s : State) × (machine.answered (program k.module.value) x.now.state Sent ≡ Some s)
      told_it = told_sent (program k.module.value) (pause k.module.value.families.items x.now.state) n ev
          (asks_it k a t x f (request.Put n ev) now)

      is_request : request.Put (end_name c.before) by.taken.event ≡ request.Put n ev
      is_request = some_same (sym waits.asks ∙ asks_it k a t x f (request.Put n ev) now)

      sent_goes : GoesOnTo (module_of k) a x (with_entry (module_of k) x (request.Put n ev) Sent stamp bag retired) []
      sent_goes =
          let late : x.now.clock < by.taken.stamp = let c = waits.clock in let s = by.stamped in let q = by.stamp_is in
          omega (arith, c, s, q) in
          subst (λ q. GoesOnTo (module_of k) a x (with_entry (module_of k) x q Sent stamp bag retired) []) is_request
          (subst (λ z. GoesOnTo (module_of k) a x (with_entry (module_of k) x
          (request.Put (end_name c.before) by.taken.event) Sent z bag retired) []) by.stamp_is
          (stay_typed.sends k.module.value f.code.derivations f.code.derived a x f.fits c.before c.after.knows.found by.taken
          told_it.0 bag retired waits.asks told_it.1 waits.clock late
          (is_moved (longer c.before.knows c.after.knows.found by.taken) by.now)))

      pub sent_takes : (t' : TypedTask) → t'.task ≡ t.task → Takes k t'.task Sent
      sent_takes t' same = subst (λ w. Takes k w Sent) (sym same)
          (takes_it k a t x f Sent told_it.0 now.0 told_it.1
          (alive_in k a t x f (request.Put n ev) Sent stamp bag retired [] told_it.0 told_it.1 sent_goes)
          (λ e. absurd (cc e)))

      pub sent_turned : (u : TypedTask) → HasGoneOn k t (request.Put n ev) Sent stamp u → u.bag.items ≡ bag →
          u.retired.items ≡ retired → HasTurned k a (Ok Moved) u x
      sent_turned u on bag_is retired_is = record {
        after = with_entry (module_of k) x (request.Put n ev) Sent stamp bag retired;
        new = [];
        goes = sent_goes;
        keeps = keeps_it k a t x f (request.Put n ev) Sent stamp bag retired [] told_it.0 u u told_it.1 sent_goes on refl on.made
            refl refl bag_is retired_is;
        done = exchange_work (longer c.before.knows c.after.knows.found by.taken) by.now refl (request.Put n ev) Sent stamp;
        tries = exchange_tries (longer c.before.knows c.after.knows.found by.taken) by.now refl (omega arith);
        answers = (record { entry = record { asked = request.Put n ev; answer = Sent; stamp = stamp }; is = refl }, refl);
      }

    -- an event was taken
    module _ (ev : Event) (stamp : ℕ) (now : AsksNow k t (request.Get n)) (by : IsTaken c.before t.clock ev stamp c.after) where
      asks_get : machine.request (module_of k).families x.now.state ≡ Some (request.Get n)
      asks_get = asks_it k a t x f (request.Get n) now

      told_event : (s : State) × (machine.answered (program k.module.value) x.now.state (Got ev) ≡ Some s)
      told_event = told_got (program k.module.value) (pause k.module.value.families.items x.now.state) n ev asks_get

      got_goes : GoesOnTo (module_of k) a x (with_entry (module_of k) x (request.Get n) (Got ev) stamp bag retired) []
      got_goes =
          let late : x.now.clock < stamp = let c = f.keeps.clock in let s = by.stamped in omega (arith, c, s) in
          subst (λ z. GoesOnTo (module_of k) a x (with_entry (module_of k) x (request.Get z) (Got ev) stamp bag retired) [])
          its_name
          (stay_typed.receives k.module.value f.code.derivations f.code.derived a x f.fits c.before c.after.knows.found
          (entry ev stamp by.sent t.clock) told_event.0 bag retired
          (asks_get ∙ ap (λ z. Some (request.Get z)) (sym its_name)) told_event.1 by.received f.keeps.clock late
          (is_moved (longer c.before.knows c.after.knows.found (entry ev stamp by.sent t.clock)) by.now))

      pub got_takes : (t' : TypedTask) → t'.task ≡ t.task → Takes k t'.task (Got ev)
      got_takes t' same =
          subst (λ w. Takes k w (Got ev)) (sym same)
          (takes_it k a t x f (Got ev) told_event.0 now.0 told_event.1
          (alive_in k a t x f (request.Get n) (Got ev) stamp bag retired [] told_event.0 told_event.1 got_goes)
          (λ e. absurd (cc e)))

      pub got_turned : (u : TypedTask) → HasGoneOn k t (request.Get n) (Got ev) stamp u → u.bag.items ≡ bag →
          u.retired.items ≡ retired → HasTurned k a (Ok Moved) u x
      got_turned u on bag_is retired_is = record {
        after = with_entry (module_of k) x (request.Get n) (Got ev) stamp bag retired;
        new = [];
        goes = got_goes;
        keeps = keeps_it k a t x f (request.Get n) (Got ev) stamp bag retired [] told_event.0 u u told_event.1 got_goes on refl
            on.made refl refl bag_is retired_is;
        done = exchange_work (longer c.before.knows c.after.knows.found (entry ev stamp by.sent t.clock)) by.now refl
            (request.Get n) (Got ev) stamp;
        tries = exchange_tries (longer c.before.knows c.after.knows.found (entry ev stamp by.sent t.clock)) by.now refl
            (omega arith);
        answers = (record { entry = record { asked = request.Get n; answer = Got ev; stamp = stamp }; is = refl }, refl);
      }

-- ---- ends that found no way to go on

pub now_held_or_standing : (e f : EndView) → FoundHeld e f ⊎ FoundStanding e f → f ≡ end_with e (tried e.knows f.knows.found)
now_held_or_standing e f (inl h) = h.now
now_held_or_standing e f (inr h) = h.now

pub held_or_standing : (e f : EndView) → FoundHeld e f ⊎ FoundStanding e f → FoundNoWay e f
held_or_standing e f (inl h) = inl h
held_or_standing e f (inr h) = inr (inr h)

pub now_held_or_nothing : (e f : EndView) → FoundHeld e f ⊎ FoundNothing e f → f ≡ end_with e (tried e.knows f.knows.found)
now_held_or_nothing e f (inl h) = h.now
now_held_or_nothing e f (inr h) = h.now

pub held_or_nothing : (e f : EndView) → FoundHeld e f ⊎ FoundNothing e f → FoundNoWay e f
held_or_nothing e f (inl h) = inl h
held_or_nothing e f (inr h) = inr (inl h)

-- ---- ends at which something is asked

-- an end at which the task asks to send stands in its bag
pub sender_stands : (k : Code) (a : Tree) (t : TypedTask) (x : Thread) → Fits k a t x →
    (n : EndName) (ev : Event) → AsksNow k t (request.Put n ev) → count_of n t.bag.items ≡ 0 → ⊥
sender_stands k a t x f n ev now none =
    let ok = allowed k.module.value f.code.derivations f.code.derived a x f.fits (request.Put n ev)
    (asks_it k a t x f (request.Put n ev) now) in
    stands_in k a t x f n ok.0 ok.1 (sending ev) ok.2 ok.3 none

-- so does one at which it asks to receive
pub receiver_stands : (k : Code) (a : Tree) (t : TypedTask) (x : Thread) → Fits k a t x →
    (n : EndName) → AsksNow k t (request.Get n) → count_of n t.bag.items ≡ 0 → ⊥
receiver_stands k a t x f n now none =
    let ok = allowed k.module.value f.code.derivations f.code.derived a x f.fits (request.Get n)
    (asks_it k a t x f (request.Get n) now) in
    stands_in k a t x f n ok.0 ok.2 ok.1 ok.3 ok.5 none

pub same_asks : (k : Code) (t u : TypedTask) (q : Request) → IsSame t u → AsksNow k t q → AsksNow k u q
same_asks k t u q s now = (
  λ fs. ap (inner (code_of fs k)) s.task.2 ∙ now.0 fs,
  ap (asked_at (code_of k.module.value.families.items k)) s.task.2 ∙ now.1,
)

-- ---- what it asks for

-- and a turn from there is one of it
pub advanced : (k : Code) (t : TypedTask) (v : TaskView) (r : _) (u : TypedTask) → Stays k t.task v →
    TakesTurn k (record t { task = v }) r u → TakesTurn k t r u
advanced k t v r u s h a x f = h a x (advanced_fits k a t (record t { task = v }) x s refl refl refl refl refl f)

-- where memory was wanting it fits
pub advance_refused : (k : Code) (t : TypedTask) (v : TaskView) (e : AllocError) → Stays k t.task v →
    TakesTurn k t (Err e) (record t { task = v })
advance_refused k t v e s a x f = record {
  after = x;
  new = [];
  goes = stays (module_of k) a x f.fits;
  keeps = (advanced_fits k a t (record t { task = v }) x s refl refl refl refl refl f).keeps;
  done = omega arith;
  tries = λ z. omega arith;
  answers = (refl, refl, refl);
}

-- what it asked for it asks for where it has run on
pub asks_still : (k : Code) (t : TypedTask) (v : TaskView) (q : Request) → CanTurn k t → Stays k t.task v → AsksFor k t.task q →
    IsAtRest k v → AsksNow k (record t { task = v }) q
asks_still k t v q c s asks rests =
    let f = c.2 in
    let g = advanced_fits k c.0 t (record t { task = v }) c.1 s refl refl refl refl refl f in (
      rests,
      asks_alike k c.0 (record t { task = v }) c.1 g rests
          ∙ asks k.module.value c.1.now.state f.keeps.is_in
          (stands_open k.module.value f.code.derivations f.code.derived c.0 c.1 f.fits),
    )

-- and where that is nothing its value is there
pub ended_turned : (k : Code) (t : TypedTask) → AsksNow k t request.Ended → TakesTurn k t (Ok Ended) t
ended_turned k t now a x f = record {
  after = x;
  new = [];
  goes = stays (module_of k) a x f.fits;
  keeps = f.keeps;
  done =
      omega arith;
  tries = λ z. omega arith;
  answers = (asks_it k a t x f request.Ended now, refl, refl);
}
