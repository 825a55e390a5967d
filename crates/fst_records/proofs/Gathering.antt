-- The events that the parts of a record's logs begin are the record's events.
use Rattle.std.proofs.Common.{◌≡◌, ◌∙◌, ◌⊎◌, inl, inr, ◌≤◌, ℕ, ◌+◌, List, [], ◌∷◌, Bool, true, false, ◌&&◌, refl, sym, ap, subst, arith}
use Rattle.std.specs.Prelude.{sum_by, Contains, nat_eq, if◌then◌else◌}
use Rattle.std.proofs.lemmas.Bool.{and_from}
use Rattle.std.proofs.lemmas.List.Sums.{sum_by-append, sum_by-cons}
use Rattle.fst_base.proofs.Lists.{contains_head, contains_tail, contains_none, from_contains}
use Rattle.fst_types.specs.Tree.{Tree}
use Rattle.fst_types.specs.declared.ends.ChannelName.{ChannelName}
use Rattle.fst_types.specs.declared.event.ChannelHistory.{ChannelHistory}
use Rattle.fst_types.specs.declared.event.Entry.{Entry}
use Rattle.fst_lts.specs.Stamps.{AreStamped}
use Rattle.fst_machine.specs.declared.request.Request.{Request}
use Rattle.fst_machine.specs.declared.request.Request.TheVariants as request
use Rattle.fst_machine.specs.declared.request.Answer.{Answer}
use Rattle.fst_machine.specs.declared.request.Answer.TheVariants as answer
use Rattle.fst_machine.specs.Machine.{Program}
use Rattle.fst_runs.specs.declared.event.CoreEvent.{CoreEvent}
use Rattle.fst_runs.specs.declared.event.CoreEvent.TheVariants.{Local, New, Fork, Meet}
use Rattle.fst_runs.specs.declared.event.Stamped.{Stamped}
use Rattle.fst_runs.specs.declared.log.LogEntry.{LogEntry}
use Rattle.fst_runs.specs.Configs.{Path, Task, same_channel}
use Rattle.fst_runs.specs.Logs.{Birth, IsAnswered, exchanged_by}
use Rattle.fst_runs.specs.Wrong.{once}
use Rattle.fst_runs.proofs.Laws.{same_channel-itself}
use Rattle.fst_records.specs.Records.{Course, main_birth, FitsRecord, IsRecorded, shows}
use Rattle.fst_records.specs.Gathering.{gets, getter, event_at, gathered}
use Rattle.fst_records.specs.Laws.{GatherLaw}
use Rattle.fst_records.specs.Parts.{Part, got, parts_of, part_by, parts_by, all_by}
use Rattle.fst_records.proofs.Codes.{just, just_itself, just_same, part_code}
use Rattle.fst_records.proofs.Collecting.{has_events}
use Rattle.fst_records.proofs.Entries.{corresponds}
use Rattle.fst_records.proofs.Found.{on_name}
use Rattle.fst_records.proofs.Receipts.{parts_count, received, passing, receipts}
use Rattle.fst_records.proofs.Stamps.{nat_itself, AtMostOne, one_more}
use Rattle.fst_records.proofs.Sums.{sum_less, some_in}
use Rattle.fst_records.proofs.Tests.{there_sums}

-- ---- what is got over a channel at a stamp

module _ (h : ChannelName) (n : ℕ) where
  -- 1 for a part by which something was got there
  abbrev pub count : Part → ℕ
  count r = once (gets h n r)

  -- this channel and this stamp
  abbrev here : ChannelName → ℕ → Bool
  here g k = same_channel h g && nat_eq n k

  entry_counts : (path : Path) (t : Task) (clock stamp : ℕ) (q : Request) (a : Answer) → IsAnswered path t stamp q a →
      part_by count path (record { asked = q; answer = a; stamp = stamp })
      ≡ 0 + sum_by (received here) (exchanged_by clock stamp q a)
  entry_counts path t clock stamp request.Step answer.Go i = omega arith
  entry_counts path t clock stamp (request.New k) (answer.Made g) i = omega arith
  entry_counts path t clock stamp request.Fork answer.Forked i = omega arith
  entry_counts path t clock stamp (request.Put x ev) answer.Sent i = omega arith
  entry_counts path t clock stamp (request.Get x) (answer.Got ev) i = omega arith
  entry_counts path t clock stamp q a i = absurd i

  -- at most one entry has a stamp, and none where the stamps begin behind it
  entries_once : (g : ChannelName) (b : ℕ) (es : List Entry) → AreStamped b es →
      AtMostOne (same_channel h g) n b (sum_by (passing here g) es)
  entries_once g b [] s = record { most = omega arith; past = λ l. refl }
  entries_once g b (e ∷ es) s =
      subst (AtMostOne (same_channel h g) n b) (sym (sum_by-cons (passing here g) e es))
      (one_more (same_channel h g) n b e.stamp (passing here g e) (sum_by (passing here g) es)
      (let a = s.0 in omega (arith, a)) refl (entries_once g e.stamp es s.3))

  channel_once : (k : ChannelHistory) → IsRecorded k → shows (received here) k ≤ on_name h k
  channel_once k r =
      let a = receipts here k r in
      let b = (entries_once k.name 0 k.entries.items r.stamped).most in
      omega (arith, a, b)

  no_answers : (ys : List Course) → sum_by (λ (y : Course). sum_by (λ (e : LogEntry). 0) y.log) ys ≡ 0
  no_answers [] = refl
  no_answers (y ∷ ys) =
      let a = sum_by-cons (λ (y : Course). sum_by (λ (e : LogEntry). 0) y.log) y ys in
      let b = none y.log in
      let c = no_answers ys in
      omega (arith, a, b, c)
    where
      none : (es : List LogEntry) → sum_by (λ (e : LogEntry). 0) es ≡ 0
      none [] = refl
      none (e ∷ es) = let a = sum_by-cons (λ (e : LogEntry). 0) e es in let b = none es in omega (arith, a, b)

  -- at most one task got something over a channel at a stamp
  pub got_once : (m : Program) (types : List Tree) (main : Birth) (ys : List Course) (ks : List ChannelHistory) →
      FitsRecord m types main ys ks →
      sum_by (parts_by count) ys ≤ 1
  got_once m types main ys ks fits =
      let a = parts_count count (λ a. 0) (received here) entry_counts m types ys fits.logs in
      let b = no_answers ys in
      let c = fits.exchanged (received here) in
      let d = sum_less (shows (received here)) (on_name h) IsRecorded channel_once ks fits.histories in
      let e = (corresponds m types main ys ks fits).names h in
      omega (arith, a, b, c, d, e)

  -- the one that did is the one that is found
  pub getter_is : (all : List Part) → sum_by count all ≤ 1 →
      (r : Part) → Contains all r → gets h n r ≡ true → getter all h n ≡ r.path
  getter_is [] one r c g = absurd (contains_none r c)
  getter_is (x ∷ xs) one r c g = by (gets h n x) refl (from_contains xs r x c) (getter_is xs)
    where
      sum : sum_by count (x ∷ xs) ≡ count x + sum_by count xs
      sum = sum_by-cons count x xs

      by : (b : Bool) → gets h n x ≡ b → (x ≡ r) ⊎ Contains xs r →
          (sum_by count xs ≤ 1 → (r : Part) → Contains xs r → gets h n r ≡ true → getter xs h n ≡ r.path) →
          (if b then x.path else getter xs h n) ≡ r.path
      by true e (inl q) more = ap (λ (r : Part). r.path) q
      by true e (inr d) more =
          let a = sum in
          let b = there_sums count xs r d in
          let i = ap once e in
          let j = ap once g in
          absurd (omega (arith, a, b, i, j, one))
      by false e (inl q) more = let z : true ≡ false = sym g ∙ sym (ap (gets h n) q) ∙ e in absurd (cc z)
      by false e (inr d) more = more (let a = sum in omega (arith, a, one)) r d g

-- ---- events

-- the parts in the events that a part begins, however they are weighed
abbrev begun_by : (Part → ℕ) → List Part → Part → ℕ
begun_by w all r = all_by w (event_at all r.path r.stamp r.deed)

gathered_by : (w : Part → ℕ) (all rs : List Part) → all_by w (gathered all rs) ≡ sum_by (begun_by w all) rs
gathered_by w all [] = refl
gathered_by w all (r ∷ rs) =
    let f = λ (e : Stamped). sum_by w (parts_of e.event e.stamp) in
    let a = sum_by-append f (event_at all r.path r.stamp r.deed) (gathered all rs) in
    let b = sum_by-cons (begun_by w all) r rs in
    let ih = gathered_by w all rs in
    omega (arith, a, b, ih)

-- the task that got it is found
abbrev IsFound : List Part → CoreEvent → ℕ → Type 0
IsFound all e n = (p q : Path) (h : ChannelName) → e ≡ Meet p q h → getter all h n ≡ q

-- then an event's parts begin just this event
event_by : (w : Part → ℕ) (all : List Part) (e : CoreEvent) (n : ℕ) → IsFound all e n →
    sum_by (begun_by w all) (parts_of e n) ≡ sum_by w (parts_of e n)
event_by w all (Local p) n found = omega arith
event_by w all (New p) n found = omega arith
event_by w all (Fork p) n found = omega arith
event_by w all (Meet p q h) n found =
    let a = ap (λ (o : Path). w (record { path = o; deed = got h; stamp = n })) (found p q h refl) in
    omega (arith, a)

events_by : (w : Part → ℕ) (all : List Part) (es : List Stamped) → ((e : Stamped) → Contains es e → IsFound all e.event e.stamp) →
    all_by (begun_by w all) es ≡ all_by w es
events_by w all [] found = refl
events_by w all (e ∷ es) found =
    let f = λ (w : Part → ℕ) (e : Stamped). sum_by w (parts_of e.event e.stamp) in
    let a = sum_by-cons (f (begun_by w all)) e es in
    let b = sum_by-cons (f w) e es in
    let c = event_by w all e.event e.stamp (found e (contains_head es e e refl)) in
    let ih = events_by w all es (λ d c. found d (contains_tail es d e c)) in
    omega (arith, a, b, c, ih)

-- the part of the task that gets in one of the events is among all parts
got_part : (all : List Part) (es : List Stamped) → ((w : Part → ℕ) → sum_by w all ≡ all_by w es) → (e : Stamped) → Contains es e →
    (p q : Path) (h : ChannelName) → e.event ≡ Meet p q h → Contains all (record { path = q; deed = got h; stamp = e.stamp })
got_part all es are e c p q h s =
    let r : Part = record { path = q; deed = got h; stamp = e.stamp } in
    let w = just part_code r in
    let a = there_sums (λ (e : Stamped). sum_by w (parts_of e.event e.stamp)) es e c in
    let b = are w in
    let d = ap (λ o. sum_by w (parts_of o e.stamp)) s in
    let f = just_itself part_code r in
    let x = some_in w all (omega (arith, a, b, d, f)) in
    subst (Contains all) (sym (just_same part_code r x.0 x.2)) x.1

-- the events that all parts of the logs begin are the record's
pub gathers : GatherLaw
gathers m types main ys ks fits all are w =
    let r = has_events m types main ys ks fits in
    let each : (v : Part → ℕ) → sum_by v all ≡ all_by v r.list = λ v. are v ∙ sym (r.are v) in
    let a = gathered_by w all all in
    let b = each (begun_by w all) in
    let c = events_by w all r.list (λ s k p q h f.
    getter_is h s.stamp all
    (let i = are (count h s.stamp) in let j = got_once h s.stamp m types (main_birth main) ys ks fits in omega (arith, i, j))
    (record { path = q; deed = got h; stamp = s.stamp }) (got_part all r.list each s k p q h f)
    (and_from (same_channel h h) (nat_eq s.stamp s.stamp) (same_channel-itself h) (nat_itself s.stamp))) in
    let g = r.are w in
    omega (arith, a, b, c, g)
