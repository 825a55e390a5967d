-- The marks of one event more.
use Rattle.std.proofs.Common.{◌≡◌, ◌∙◌, ◌<◌, ℕ, suc, max, Bool, true, false, Some, List, [], ◌∷◌, ◌++◌, refl, sym, ap, arith}
use Rattle.std.specs.Prelude.{if◌then◌else◌}
use Rattle.std.proofs.lemmas.List.{append-nil, append_assoc}
use Rattle.fst_base.proofs.Options.{some_same}
use Rattle.fst_lts.specs.Histories.{last_stamp}
use Rattle.fst_types.specs.declared.ends.ChannelName.{ChannelName}
use Rattle.fst_types.specs.declared.ends.EndName.{EndName}
use Rattle.fst_types.specs.declared.event.Event.{Event}
use Rattle.fst_machine.specs.declared.request.Request.TheVariants as request
use Rattle.fst_machine.specs.declared.request.Answer.TheVariants as answer
use Rattle.fst_runs.specs.declared.event.CoreEvent.TheVariants.{Local, New, Fork, Meet}
use Rattle.fst_runs.specs.declared.log.LogEntry.{LogEntry}
use Rattle.fst_runs.specs.Configs.{Path, same_path, other, child_path, channel_name}
use Rattle.fst_runs.specs.Events.{meeting_stamp}
use Rattle.fst_runs.specs.Logs.{forks_after}
use Rattle.fst_runs.specs.Notes.{Note, entries_at}
use Rattle.fst_runs.proofs.Laws.{same_path-same, entries_at-append}
use Rattle.fst_process.specs.declared.marks.Done.TheVariants as done
use Rattle.fst_process.specs.declared.marks.Mark.{Mark}
use Rattle.fst_vm.specs.Slot.{Slot}
use Rattle.fst_process.specs.Kept.{Channel, Kept}
use Rattle.fst_process.specs.Marks.{mark_of, marks_from, forks_behind, forked_by}
use Rattle.fst_process.specs.Marking.{with_mark, CanHappen, AddsMarks}
use Rattle.fst_process.proofs.Ends.{there_bare}
use Rattle.fst_process.proofs.Moving.{kept_asks}
use Rattle.fst_process.proofs.Stepping.{its_task, clock_few}
use Rattle.fst_process.proofs.FireMeet.{stamps_few}
use Rattle.fst_process.proofs.NoteLaws.{same_path-swapped}

-- the marks of two logs, one behind the other
pub marks_from-append : (p : Path) (n : ℕ) (es gs : List LogEntry) →
    marks_from p n (es ++ gs) ≡ marks_from p n es ++ marks_from p (forks_behind n es) gs
marks_from-append p n [] gs = refl
marks_from-append p n (e ∷ es) gs =
    ap (λ (l : List Mark). mark_of p n e ∷ l) (marks_from-append p (forks_after e.answer n) es gs)

-- a mark more is that of a note
one_marked : (p q : Path) (x : Mark) (f : Path → List Mark) (n : ℕ) (e : LogEntry) → (p ≡ q → mark_of q n e ≡ x) →
    with_mark p x f q ≡ f q ++ marks_from q n (entries_at q (record { path = p; entry = e } ∷ []))
one_marked p q x f n e is =
    ap (λ b. if b then f p ++ x ∷ [] else f q) (same_path-swapped p q) ∙ by (same_path q p) refl
  where
    by : (b : Bool) → same_path q p ≡ b →
        (if b then f p ++ x ∷ [] else f q) ≡ f q ++ marks_from q n (if b then e ∷ [] else [])
    by true s = let z : p ≡ q = sym (same_path-same q p s) in λ i. f (z i) ++ sym (is z) i ∷ []
    by false s = sym (append-nil (f q))

-- and so it is with two
two_marked : (p q r : Path) (x y : Mark) (f : Path → List Mark) (n : ℕ) (e g : LogEntry) →
    (p ≡ r → mark_of r n e ≡ x) → (q ≡ r → (l : ℕ) → mark_of r l g ≡ y) →
    with_mark q y (with_mark p x f) r
    ≡ f r ++ marks_from r n (entries_at r (record { path = p; entry = e } ∷ record { path = q; entry = g } ∷ []))
two_marked p q r x y f n e g is is' =
    let first : List Note = record { path = p; entry = e } ∷ [] in
    let second : List Note = record { path = q; entry = g } ∷ [] in
    let l = forks_behind n (entries_at r first) in
    one_marked q r y (with_mark p x f) l g (λ z. is' z l)
    ∙ ap (λ (v : List Mark). v ++ marks_from r l (entries_at r second)) (one_marked p r x f n e is)
    ∙ append_assoc (f r) (marks_from r n (entries_at r first)) (marks_from r l (entries_at r second))
    ∙ ap (λ (v : List Mark). f r ++ v)
    (sym (marks_from-append r n (entries_at r first) (entries_at r second))
    ∙ ap (marks_from r n) (sym (entries_at-append r first second)))

module _ (d : Kept) (p : Path) (f g : Path → List Mark) where
  -- a step is marked
  pub local_marks :
      ((s : Slot) → d.tasks p ≡ Some s → g ≡ with_mark p (record { done = done.Local; stamp = suc s.clock }) f) →
      AddsMarks d (Local p) f g
  local_marks h = λ m k n c w r does q.
      let s = kept_asks m k n d c r p does.task request.Step does.asks in
      let is = s.3 in
      ap (λ z. z q) (h s.0 s.1)
      ∙ one_marked p q (record { done = done.Local; stamp = suc s.0.clock }) f (forked_by (c.tasks q))
      (record { asked = request.Step; answer = answer.Go; stamp = suc does.task.clock })
      (λ z i. record { done = done.Local; stamp = suc (sym is.clock i) })

  -- so is a channel that is made
  pub new_marks : (name : ChannelName) → name ≡ channel_name p (d.made p) →
      ((s : Slot) → d.tasks p ≡ Some s → g ≡ with_mark p (record { done = done.Made name; stamp = suc s.clock }) f) →
      AddsMarks d (New p) f g
  new_marks name its h = λ m k n c w r does q.
      let s = kept_asks m k n d c r p does.task (request.New does.number) does.asks in
      let is = s.3 in
      let named : channel_name p does.task.made ≡ name = ap (channel_name p) (sym is.made) ∙ sym its in
      ap (λ z. z q) (h s.0 s.1)
      ∙ one_marked p q (record { done = done.Made name; stamp = suc s.0.clock }) f (forked_by (c.tasks q))
      (record {
        asked = request.New does.number;
        answer = answer.Made (channel_name p does.task.made);
        stamp = suc does.task.clock;
      }) (λ z i. record { done = done.Made (named i); stamp = suc (sym is.clock i) })

  -- and a task that is forked
  pub fork_marks : (s : Slot) → d.tasks p ≡ Some s → (path : Path) → path ≡ child_path s.task.path s.task.forked →
      g ≡ with_mark p (record { done = done.Forked path; stamp = suc s.clock }) f → AddsMarks d (Fork p) f g
  fork_marks s there path its h = λ m k n c w r does q.
      let is = its_task m k n d c p s does.task r there does.asks.0 in
      let named : p ≡ q → child_path q (forked_by (c.tasks q)) ≡ path = λ z.
      ap (λ o. child_path o (forked_by (c.tasks o))) (sym z)
      ∙ ap (λ o. child_path p (forked_by o)) does.asks.0
      ∙ (λ i. child_path (sym is.path i) (sym is.forked i))
      ∙ sym its in
      ap (λ z. z q) h
      ∙ one_marked p q (record { done = done.Forked path; stamp = suc s.clock }) f (forked_by (c.tasks q))
      (record { asked = request.Fork; answer = answer.Forked; stamp = suc does.task.clock })
      (λ z i. record { done = done.Forked (named z i); stamp = suc (sym is.clock i) })

put_end : (x y : EndName) (ev ew : Event) → request.Put x ev ≡ request.Put y ew → x ≡ y
put_end x y ev ew e = cc e

put_event : (x y : EndName) (ev ew : Event) → request.Put x ev ≡ request.Put y ew → ev ≡ ew
put_event x y ev ew e = cc e

module _ (d : Kept) (p q : Path) (h : ChannelName) (s : Slot) (there : d.tasks p ≡ Some s) where
  module _ (o : Slot) (there' : d.tasks q ≡ Some o) where
    -- the stamp of what passes is in bounds
    pub meeting_few : (last : ℕ) → ((j : Channel) → d.channels h ≡ Some j → last ≡ last_stamp j.history) →
        CanHappen d (Meet p q h) → max (max s.clock o.clock) last < 4294967296
    meeting_few last is x =
        let y = x.1 in
        let j = there_bare (d.channels h) (y.before.channels h) y.does.channel (y.reflects.channels h) y.does.there in
        let a = clock_few x.0 d p s (Meet p q h) there y in
        let b = clock_few x.0 d q o (Meet p q h) there' y in
        let l = stamps_few x.0 d p q h j.0 j.1 y in
        let e = is j.0 j.1 in
        omega (arith, a, b, l, e)

    -- a meeting is marked at both tasks
    pub meet_marks : (x : EndName) (ev : Event) → s.request ≡ request.Put x ev → (l : ℕ) →
        ((j : Channel) → d.channels h ≡ Some j → l ≡ suc (max (max s.clock o.clock) (last_stamp j.history))) →
        (f mid g : Path → List Mark) → mid ≡ with_mark p (record { done = done.Put x ev; stamp = l }) f →
        g ≡ with_mark q (record { done = done.Got (other x) ev; stamp = l }) mid → AddsMarks d (Meet p q h) f g
    meet_marks x ev asks l stamped f mid g first second = λ m k n c w r does e.
        let is = its_task m k n d c p s does.sender r there does.puts.0 in
        let is' = its_task m k n d c q o does.receiver r there' does.gets.0 in
        let same : request.Put does.end does.event ≡ request.Put x ev = some_same (sym does.puts.1 ∙ is.asks) ∙ asks in
        let end : does.end ≡ x = put_end does.end x does.event ev same in
        let event : does.event ≡ ev = put_event does.end x does.event ev same in
        let j = there_bare (d.channels h) (c.channels h) does.channel (r.channels h) does.there in
        let stamp : meeting_stamp does.sender does.receiver does.channel ≡ l = sym (stamped j.0 j.1
        ∙ (λ a. suc (max (max (is.clock a) (is'.clock a)) (last_stamp (j.2 a).history)))) in
        ap (λ z. z e) (second ∙ ap (with_mark q (record { done = done.Got (other x) ev; stamp = l })) first)
        ∙ two_marked p q e (record { done = done.Put x ev; stamp = l }) (record { done = done.Got (other x) ev; stamp = l }) f
        (forked_by (c.tasks e))
        (record {
          asked = request.Put does.end does.event;
          answer = answer.Sent;
          stamp = meeting_stamp does.sender does.receiver does.channel;
        })
        (record {
          asked = request.Get (other does.end);
          answer = answer.Got does.event;
          stamp = meeting_stamp does.sender does.receiver does.channel;
        })
        (λ z i. record { done = done.Put (end i) (event i); stamp = stamp i })
        (λ z n i. record { done = done.Got (other (end i)) (event i); stamp = stamp i })
