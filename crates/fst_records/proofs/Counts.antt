-- A record has as many events as its list of events.
use Rattle.std.proofs.Common.{◌≡◌, ℕ, ◌+◌, List, [], ◌∷◌, length, true, refl, arith}
use Rattle.std.specs.Prelude.{sum_by, All}
use Rattle.std.proofs.lemmas.List.Elements.{All-head, All-tail}
use Rattle.std.proofs.lemmas.List.Sums.{sum_by-cons}
use Rattle.fst_types.specs.declared.event.ChannelHistory.{ChannelHistory}
use Rattle.fst_types.specs.declared.event.Entry.{Entry}
use Rattle.fst_machine.specs.declared.request.Request.{Request}
use Rattle.fst_machine.specs.declared.request.Request.TheVariants.{Step, New, Fork, Put, Get}
use Rattle.fst_machine.specs.declared.request.Answer.{Answer}
use Rattle.fst_machine.specs.declared.request.Answer.TheVariants.{Go, Made, Forked, Sent, Got}
use Rattle.fst_runs.specs.declared.event.CoreEvent.{CoreEvent}
use Rattle.fst_runs.specs.declared.event.CoreEvent.TheVariants as event
use Rattle.fst_runs.specs.declared.event.Stamped.{Stamped}
use Rattle.fst_runs.specs.Configs.{Path, Task}
use Rattle.fst_runs.specs.Logs.{Exchange, IsAnswered, exchanged_by}
use Rattle.fst_records.specs.Records.{IsRecorded, shows}
use Rattle.fst_records.specs.Growing.{alone}
use Rattle.fst_records.specs.Laws.{CountLaw}
use Rattle.fst_records.specs.Parts.{Deed, stepped, made, forked, sent, got, Part, parts_of, part_by, all_by}
use Rattle.fst_records.proofs.Receipts.{parts_count, received, receipts}

-- 1 for what is counted as an event: of two tasks that meet the one that gets
abbrev own : Deed → ℕ
own stepped = 1
own made = 1
own forked = 1
own (sent h) = 0
own (got h) = 1

-- of a part
abbrev count : Part → ℕ
count r = own r.deed

-- 1 for what is got
abbrev got_any : Exchange → ℕ
got_any = received (λ h n. true)

one_event : (e : CoreEvent) (n : ℕ) → sum_by count (parts_of e n) ≡ 1
one_event (event.Local p) n = omega arith
one_event (event.New p) n = omega arith
one_event (event.Fork p) n = omega arith
one_event (event.Meet p q h) n = omega arith

all_events : (es : List Stamped) → all_by count es ≡ length es
all_events [] = refl
all_events (e ∷ es) =
    let a = sum_by-cons (λ (e : Stamped). sum_by count (parts_of e.event e.stamp)) e es in
    let b = one_event e.event e.stamp in
    let c = all_events es in
    omega (arith, a, b, c)

entry_counts : (path : Path) (t : Task) (clock stamp : ℕ) (q : Request) (a : Answer) → IsAnswered path t stamp q a →
    part_by count path (record { asked = q; answer = a; stamp = stamp }) ≡ alone a + sum_by got_any (exchanged_by clock stamp q a)
entry_counts path t clock stamp Step Go i = omega arith
entry_counts path t clock stamp (New n) (Made h) i = omega arith
entry_counts path t clock stamp Fork Forked i = omega arith
entry_counts path t clock stamp (Put x ev) Sent i = omega arith
entry_counts path t clock stamp (Get x) (Got ev) i = omega arith
entry_counts path t clock stamp q a i = absurd i

all_ones : (es : List Entry) → sum_by (λ (d : Entry). 1) es ≡ length es
all_ones [] = refl
all_ones (d ∷ es) = let a = sum_by-cons (λ (d : Entry). 1) d es in let b = all_ones es in omega (arith, a, b)

histories_count : (ks : List ChannelHistory) → All IsRecorded ks →
    sum_by (shows got_any) ks ≡ sum_by (λ (k : ChannelHistory). length k.entries.items) ks
histories_count [] all = refl
histories_count (k ∷ ks) all =
    let a = sum_by-cons (shows got_any) k ks in
    let b = sum_by-cons (λ (k : ChannelHistory). length k.entries.items) k ks in
    let c = receipts (λ h n. true) k (All-head IsRecorded k ks all) in
    let d = all_ones k.entries.items in
    let ih = histories_count ks (All-tail IsRecorded k ks all) in
    omega (arith, a, b, c, d, ih)

-- a record has as many events as its list
pub as_many : CountLaw
as_many m types main ys ks fits es are =
    let a = all_events es in
    let b = are count in
    let c = parts_count count alone got_any entry_counts m types ys fits.logs in
    let d = fits.exchanged got_any in
    let e = histories_count ks fits.histories in
    omega (arith, a, b, c, d, e)
