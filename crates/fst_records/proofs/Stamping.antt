-- No number in a record that fits is over the number of its events.
use Rattle.std.proofs.Common.{◌≡◌, ◌⊎◌, inl, inr, ◌<◌, ◌≤◌, ℕ, zero, suc, ◌+◌, ◌-◌, Bool, true, false, not, List, [], ◌∷◌, ◌++◌, length, Option, Some, None, refl, sym, ap, subst, arith}
use Rattle.std.specs.Prelude.{sum_by, All, Contains, max, nat_eq}
use Rattle.std.proofs.lemmas.Bool.Decides.{nat_tests}
use Rattle.std.proofs.lemmas.List.Elements.{All-head, All-tail, All-weaker, All-contains, All-contains_itself}
use Rattle.std.proofs.lemmas.List.Sums.{sum_by-append, sum_by-cons, sum_by-le-sum_by}
use Rattle.fst_types.specs.Tree.{Tree}
use Rattle.fst_types.specs.declared.side.Side.TheVariants.{Left, Right}
use Rattle.fst_lts.specs.Histories.{side_type}
use Rattle.fst_types.specs.declared.ends.ChannelName.{ChannelName}
use Rattle.fst_types.specs.declared.ends.EndName.{EndName}
use Rattle.fst_types.specs.declared.event.ChannelHistory.{ChannelHistory}
use Rattle.fst_types.specs.declared.event.Entry.{Entry}
use Rattle.fst_machine.specs.declared.request.Request.{Request}
use Rattle.fst_machine.specs.declared.request.Request.TheVariants.{Step, New, Fork, Put, Get}
use Rattle.fst_machine.specs.declared.request.Answer.{Answer}
use Rattle.fst_machine.specs.declared.request.Answer.TheVariants.{Go, Made, Forked, Sent, Got}
use Rattle.fst_machine.specs.Machine.{Program, State, pause, child}
use Rattle.fst_runs.specs.Configs.{Path, Task, same_channel, child_path, ChannelsWithin}
use Rattle.fst_runs.specs.Wrong.{once}
use Rattle.fst_lts.specs.Residuals.{residual, sends}
use Rattle.fst_lts.specs.Stamps.{AreStamped, StampedTo}
use Rattle.fst_runs.specs.declared.log.LogEntry.{LogEntry}
use Rattle.fst_runs.specs.Logs.{Birth, Exchange, Follows, IsAnswered, after_entry, exchanged_by, exchanges, birth_of, born_by, births, part_in, parts_in, then_after}
use Rattle.fst_runs.proofs.Laws.{later, few_made, few_forks}
use Rattle.fst_records.specs.Records.{Course, bears, began, opens, trades, FitsRecord, IsLogged, IsRecorded, shows}
use Rattle.fst_records.specs.Entries.{IsExchanged, part_at}
use Rattle.fst_records.specs.Growing.{alone, events_of, IsWithin, AreWithin}
use Rattle.fst_records.specs.Laws.{StampLaw}
use Rattle.fst_records.proofs.Counting.{opened_in}
use Rattle.fst_records.proofs.Entries.{corresponds}
use Rattle.fst_records.proofs.Sums.{sum_both, some_in}
use Rattle.fst_records.proofs.Tests.{channel_counts, counts_or, there_sums}

-- ---- numbers

-- 1 for this number
abbrev at : ℕ → ℕ → ℕ
at c n = once (nat_eq n c)

same_number : (m n : ℕ) → nat_eq m n ≡ true → m ≡ n
same_number m n h = grind (arith, nat_tests)

itself : (n : ℕ) → nat_eq n n ≡ true
itself n = grind (arith, nat_tests)

at_itself : (c : ℕ) → at c c ≡ 1
at_itself c = ap once (itself c)

at_or : (c n : ℕ) → ((n ≡ c) × (at c n ≡ 1)) ⊎ (at c n ≡ 0)
at_or c n = counts_or (n ≡ c) (nat_eq n c) (same_number n c)

at_is : (c n : ℕ) → 0 < at c n → n ≡ c
at_is c n h = by (at_or c n)
  where
    by : ((n ≡ c) × (at c n ≡ 1)) ⊎ (at c n ≡ 0) → n ≡ c
    by (inl q) = q.0
    by (inr z) = absurd (omega (arith, h, z))

-- 1 for each number from 1 to this one
abbrev upto : ℕ → ℕ → ℕ
upto zero s = 0
upto (suc n) s = upto n s + at (suc n) s

upto_is : (n s : ℕ) → (upto n s ≤ 1) × (n < s → upto n s ≡ 0)
upto_is zero s = (omega arith, λ l. refl)
upto_is (suc n) s = by (at_or (suc n) s) (upto_is n s)
  where
    by : ((s ≡ suc n) × (at (suc n) s ≡ 1)) ⊎ (at (suc n) s ≡ 0) → (upto n s ≤ 1) × (n < s → upto n s ≡ 0) →
        (upto (suc n) s ≤ 1) × (suc n < s → upto (suc n) s ≡ 0)
    by (inl q) ih =
        let e = q.0 in
        let o = q.1 in
        let z = ih.1 (omega (arith, e)) in
        (omega (arith, z, o), λ l. absurd (omega (arith, l, e)))
    by (inr o) ih =
        let b = ih.0 in
        (omega (arith, b, o), λ l. let z = ih.1 (omega (arith, l)) in omega (arith, z, o))

-- ---- events, by their stamps

-- what a task does alone, by its stamp
abbrev alone_by : (ℕ → ℕ) → Answer → ℕ → ℕ
alone_by w Go s = w s
alone_by w (Made h) s = w s
alone_by w Forked s = w s
alone_by w Sent s = 0
alone_by w (Got ev) s = 0

abbrev own_by : (ℕ → ℕ) → List LogEntry → ℕ
own_by w log = sum_by (λ (e : LogEntry). alone_by w e.answer e.stamp) log

-- the entries of a history
abbrev passed_by : (ℕ → ℕ) → List Entry → ℕ
passed_by w h = sum_by (λ (e : Entry). w e.stamp) h

-- all events
abbrev events_by : (ℕ → ℕ) → List Course → List ChannelHistory → ℕ
events_by w ys ks = sum_by (λ (y : Course). own_by w y.log) ys + sum_by (λ (k : ChannelHistory). passed_by w k.entries.items) ks

alone_le : (w : ℕ → ℕ) → ((s : ℕ) → w s ≤ 1) → (a : Answer) (s : ℕ) → alone_by w a s ≤ alone a
alone_le w h Go s = h s
alone_le w h (Made n) s = h s
alone_le w h Forked s = h s
alone_le w h Sent s = omega arith
alone_le w h (Got ev) s = omega arith

passed_le : (w : ℕ → ℕ) → ((s : ℕ) → w s ≤ 1) → (h : List Entry) → passed_by w h ≤ length h
passed_le w h [] = omega arith
passed_le w h (e ∷ es) = let a = sum_by-cons (λ (e : Entry). w e.stamp) e es in let b = h e.stamp in let c = passed_le w h es in
    omega (arith, a, b, c)

-- no more than all of them
events_le : (w : ℕ → ℕ) → ((s : ℕ) → w s ≤ 1) →
    (ys : List Course) (ks : List ChannelHistory) → events_by w ys ks ≤ events_of ys ks
events_le w h ys ks =
    let a = sum_by-le-sum_by (λ (y : Course). own_by w y.log) (λ (y : Course). sum_by (λ (e : LogEntry). alone e.answer) y.log) ys
    (λ y. sum_by-le-sum_by (λ (e : LogEntry). alone_by w e.answer e.stamp) (λ (e : LogEntry). alone e.answer) y.log
    (λ e. alone_le w h e.answer e.stamp)) in
    let b = sum_by-le-sum_by (λ (k : ChannelHistory). passed_by w k.entries.items)
    (λ (k : ChannelHistory). length k.entries.items) ks
    (λ k. passed_le w h k.entries.items) in
    omega (arith, a, b)

alone_both : (v w : ℕ → ℕ) (a : Answer) (s : ℕ) → alone_by (λ s. v s + w s) a s ≡ alone_by v a s + alone_by w a s
alone_both v w Go s = refl
alone_both v w (Made h) s = refl
alone_both v w Forked s = refl
alone_both v w Sent s = refl
alone_both v w (Got ev) s = refl

events_both : (v w : ℕ → ℕ) (ys : List Course) (ks : List ChannelHistory) → events_by
    (λ s. v s + w s) ys ks ≡ events_by v ys ks + events_by w ys ks
events_both v w ys ks =
    let a = sum_both (λ (y : Course). own_by (λ s. v s + w s) y.log) (λ (y : Course). own_by v y.log)
    (λ (y : Course). own_by w y.log)
    (λ y. sum_both (λ (e : LogEntry). alone_by (λ s. v s + w s) e.answer e.stamp) (λ (e : LogEntry). alone_by v e.answer e.stamp)
    (λ (e : LogEntry). alone_by w e.answer e.stamp) (λ e. alone_both v w e.answer e.stamp) y.log) ys in
    let b = sum_both (λ (k : ChannelHistory). passed_by (λ s. v s + w s) k.entries.items)
    (λ (k : ChannelHistory). passed_by v k.entries.items)
    (λ (k : ChannelHistory). passed_by w k.entries.items)
    (λ k. sum_both (λ (e : Entry). v e.stamp + w e.stamp) (λ (e : Entry). v e.stamp) (λ (e : Entry). w e.stamp)
    (λ e. refl) k.entries.items) ks in
    omega (arith, a, b)

-- ---- logs

-- what is forked at a stamp is an event there
birth_at : (c : ℕ) (path : Path) (stamp : ℕ) (o : Option State) → sum_by
    (λ (b : Birth). at c b.first.clock) (birth_of path stamp o) ≤ at c stamp
birth_at c path stamp None = omega arith
birth_at c path stamp (Some s) = omega arith

born_at : (c : ℕ) (p : Program) (path : Path) (t : Task) (stamp : ℕ) (a : Answer) →
    sum_by (λ (b : Birth). at c b.first.clock) (born_by p path t stamp a) ≤ alone_by (at c) a stamp
born_at c p path t stamp Go = omega arith
born_at c p path t stamp (Made h) = omega arith
born_at c p path t stamp Forked = birth_at c (child_path path t.forked) stamp (child (pause p.families t.state))
born_at c p path t stamp Sent = omega arith
born_at c p path t stamp (Got ev) = omega arith

births_at : (c : ℕ) (p : Program) (path : Path) (t : Task) (log : List LogEntry) →
    sum_by (λ (b : Birth). at c b.first.clock) (births p path t log) ≤ own_by (at c) log
births_at c p path t [] = omega arith
births_at c p path t (e ∷ es) =
    let w = λ (b : Birth). at c b.first.clock in
    let a = sum_by-append w (born_by p path t e.stamp e.answer) (births p path (after_entry p t e) es) in
    let b = sum_by-cons (λ (e : LogEntry). alone_by (at c) e.answer e.stamp) e es in
    let d = born_at c p path t e.stamp e.answer in
    let ih = births_at c p path (after_entry p t e) es in
    omega (arith, a, b, d, ih)

-- an entry is of one task or is exchanged
entry_at : (c : ℕ) (path : Path) (t : Task) (stamp : ℕ) (q : Request) (a : Answer) → IsAnswered path t stamp q a →
    at c stamp ≡ alone_by (at c) a stamp + sum_by (λ (g : Exchange). at c g.stamp) (exchanged_by t.clock stamp q a)
entry_at c path t stamp Step Go h = omega arith
entry_at c path t stamp (New k) (Made n) h = omega arith
entry_at c path t stamp Fork Forked h = omega arith
entry_at c path t stamp (Put x ev) Sent h = omega arith
entry_at c path t stamp (Get x) (Got ev) h = omega arith
entry_at c path t stamp q a h = absurd h

log_at : (c : ℕ) (p : Program) (path : Path) (t : Task) (log : List LogEntry) (u : Task) → Follows p path t log u →
    sum_by (λ (e : LogEntry). at c e.stamp) log ≡ own_by (at c) log + sum_by
    (λ (g : Exchange). at c g.stamp) (exchanges t.clock log)
log_at c p path t [] u f = refl
log_at c p path t (e ∷ es) u f =
    let w = λ (g : Exchange). at c g.stamp in
    let a = sum_by-append w (exchanged_by t.clock e.stamp e.asked e.answer) (exchanges e.stamp es) in
    let b = sum_by-cons (λ (e : LogEntry). alone_by (at c) e.answer e.stamp) e es in
    let d = sum_by-cons (λ (e : LogEntry). at c e.stamp) e es in
    let g = entry_at c path t e.stamp e.asked e.answer f.0.is_answered in
    let ih = log_at c p path (after_entry p t e) es u f.1 in
    omega (arith, a, b, d, g, ih)

-- counts are no more than clocks
counts_below : (p : Program) (path : Path) (t : Task) (log : List LogEntry) (u : Task) → Follows p path t log u →
    t.made ≤ t.clock → t.forked ≤ t.clock →
    (u.made ≤ u.clock) × (u.forked ≤ u.clock)
counts_below p path t [] u f m k = subst (λ (v : Task). (v.made ≤ v.clock) × (v.forked ≤ v.clock)) (sym f) (m, k)
counts_below p path t (e ∷ es) u f m k =
    let l = later path t e.stamp e.asked e.answer f.0.is_answered in
    let a = few_made e.answer t.made in
    let b = few_forks e.answer t.forked in
    counts_below p path (after_entry p t e) es u f.1 (omega (arith, l, a, m)) (omega (arith, l, b, k))

-- ---- histories

part_stamp : (x : EndName) (b : Bool) (e : Entry) → (part_in x b e).stamp ≡ e.stamp
part_stamp x true e = refl
part_stamp x false e = refl

parts_at : (c : ℕ) (x : EndName) (o : Option Tree) (h : List Entry) → sum_by
    (λ (g : Exchange). at c g.stamp) (parts_in x o h) ≡ passed_by (at c) h
parts_at c x o [] = refl
parts_at c x o (e ∷ es) =
    let w = λ (g : Exchange). at c g.stamp in
    let a = sum_by-cons w (part_in x (sends o e.event) e) (parts_in x (then_after o e.event) es) in
    let b = sum_by-cons (λ (e : Entry). at c e.stamp) e es in
    let d = ap (at c) (part_stamp x (sends o e.event) e) in
    let ih = parts_at c x (then_after o e.event) es in
    omega (arith, a, b, d, ih)

-- both clocks of an entry are those of its parts
both_clocks : (P : ℕ → Type 0) (x y : EndName) (b d : Bool) (e : Entry) → b ≡ not d → P (part_in x b e).clock →
    P (part_in y d e).clock → P e.sent × P e.got
both_clocks P x y true true e n l r = absurd (cc n)
both_clocks P x y true false e n l r = (l, r)
both_clocks P x y false true e n l r = (r, l)
both_clocks P x y false false e n l r = absurd (cc n)

-- an entry of a history with this stamp, which is 1 more than the greatest of its clocks and of a number that stands before it
record IsNext (P : ℕ → Type 0) (h : List Entry) (s : ℕ) : Type 0 where
  before : List Entry
  entry : Entry
  behind : List Entry
  is : h ≡ before ++ entry ∷ behind
  stamp : entry.stamp ≡ s
  last : ℕ
  holds : P last
  next : entry.stamp ≡ 1 + max (max entry.sent entry.got) last

next_later : (P : ℕ → Type 0) (e : Entry) (es : List Entry) (s : ℕ) → IsNext P es s → IsNext P (e ∷ es) s
next_later P e es s n = record {
  before = e ∷ n.before;
  entry = n.entry;
  behind = n.behind;
  is = ap (λ l. e ∷ l) n.is;
  stamp = n.stamp;
  last = n.last;
  holds = n.holds;
  next = n.next;
}

is_next : (P : ℕ → Type 0) (b : ℕ) (h : List Entry) (s : ℕ) → AreStamped b h → P b → All (λ (e : Entry). P e.stamp) h →
    0 < passed_by (at s) h → IsNext P h s
is_next P b [] s st here all l = absurd (omega (arith, l))
is_next P b (e ∷ es) s st here all l =
    by (at_or s e.stamp)
    (is_next P e.stamp es s st.3 (All-head (λ (e : Entry). P e.stamp) e es all) (All-tail (λ (e : Entry). P e.stamp) e es all))
  where
    by : ((e.stamp ≡ s) × (at s e.stamp ≡ 1)) ⊎ (at s e.stamp ≡ 0) →
        (0 < passed_by (at s) es → IsNext P es s) → IsNext P (e ∷ es) s
    by (inl q) more = record { before = []; entry = e; behind = es; is = refl; stamp = q.0; last = b; holds = here; next = st.0 }
    by (inr z) more = let a = sum_by-cons (λ (e : Entry). at s e.stamp) e es in
        next_later P e es s (more (omega (arith, a, z, l)))

stamped_to : (n : ℕ) (h : List Entry) → All (λ (e : Entry). e.stamp ≤ n) h → StampedTo n h
stamped_to n [] all = tt
stamped_to n (e ∷ es) all = (
  All-head (λ (e : Entry). e.stamp ≤ n) e es all,
  stamped_to n es (All-tail (λ (e : Entry). e.stamp ≤ n) e es all),
)

-- the number of a channel and its stamps aren't over n
abbrev ChannelWithin : ℕ → ChannelHistory → Type 0
ChannelWithin n k = (k.name.count ≤ n) × StampedTo n k.entries.items

channels_within : (n : ℕ) (ks : List ChannelHistory) → All (ChannelWithin n) ks → ChannelsWithin n ks
channels_within n [] all = tt
channels_within n (k ∷ ks) all =
    let a = All-head (ChannelWithin n) k ks all in
    (a.0, a.1, channels_within n ks (All-tail (ChannelWithin n) k ks all))

-- what holds of two numbers holds of the greater
of_greater : (P : ℕ → Type 0) (a b : ℕ) → P a → P b → P (max a b)
of_greater P a b p q = by (b - a) refl
  where
    by : (n : ℕ) → b - a ≡ n → P (max a b)
    by zero e = subst P (omega (arith, e)) p
    by (suc n) e = subst P (omega (arith, e)) q

-- ---- what holds along a log

-- the clock at its end
end_holds : (P : ℕ → Type 0) (p : Program) (path : Path) (t : Task) (log : List LogEntry) (u : Task) → Follows p path t log u →
    P t.clock →
    All (λ (e : LogEntry). P e.stamp) log → P u.clock
end_holds P p path t [] u f h all = subst (λ (v : Task). P v.clock) (sym f) h
end_holds P p path t (e ∷ es) u f h all =
    end_holds P p path (after_entry p t e) es u f.1 (All-head (λ (e : LogEntry). P e.stamp) e es all)
    (All-tail (λ (e : LogEntry). P e.stamp) e es all)

own_is : (c : ℕ) (path : Path) (t : Task) (stamp : ℕ) (q : Request) (a : Answer) → IsAnswered path t stamp q a →
    0 < alone_by (at (suc c)) a stamp → t.clock ≡ c
own_is c path t stamp Step Go h l = let e = at_is (suc c) stamp l in omega (arith, e, h)
own_is c path t stamp (New k) (Made n) h l = let e = at_is (suc c) stamp l in let s = h.0 in omega (arith, e, s)
own_is c path t stamp Fork Forked h l = let e = at_is (suc c) stamp l in omega (arith, e, h)
own_is c path t stamp (Put x ev) Sent h l = absurd (omega (arith, l))
own_is c path t stamp (Get x) (Got ev) h l = absurd (omega (arith, l))
own_is c path t stamp q a h l = absurd h

-- the clock before an event that a task logged alone
own_holds : (P : ℕ → Type 0) (c : ℕ) (p : Program) (path : Path) (t : Task) (log : List LogEntry) (u : Task) →
    Follows p path t log u → P t.clock →
    All (λ (e : LogEntry). P e.stamp) log → 0 < own_by (at (suc c)) log → P c
own_holds P c p path t [] u f h all l = absurd (omega (arith, l))
own_holds P c p path t (e ∷ es) u f h all l =
    by (alone_by (at (suc c)) e.answer e.stamp) refl
    (own_holds P c p path (after_entry p t e) es u f.1 (All-head (λ (e : LogEntry). P e.stamp) e es all)
    (All-tail (λ (e : LogEntry). P e.stamp) e es all))
  where
    by : (n : ℕ) → alone_by (at (suc c)) e.answer e.stamp ≡ n → (0 < own_by (at (suc c)) es → P c) → P c
    by zero z more = let a = sum_by-cons (λ (e : LogEntry). alone_by (at (suc c)) e.answer e.stamp) e es in
        more (omega (arith, a, z, l))
    by (suc n) z more = subst P (own_is c path t e.stamp e.asked e.answer f.0.is_answered (omega (arith, z))) h

exchange_is : (c clock stamp : ℕ) (q : Request) (a : Answer) → 0 < sum_by
    (λ (g : Exchange). at c g.clock) (exchanged_by clock stamp q a) → clock ≡ c
exchange_is c clock stamp (Put x ev) Sent l = at_is c clock (omega (arith, l))
exchange_is c clock stamp (Get x) (Got ev) l = at_is c clock (omega (arith, l))
exchange_is c clock stamp q a l = absurd (omega (arith, l))

-- the clock of an exchange
exchange_holds : (P : ℕ → Type 0) (c : ℕ) (clock : ℕ) (log : List LogEntry) → P clock → All (λ (e : LogEntry). P e.stamp) log →
    0 < sum_by (λ (g : Exchange). at c g.clock) (exchanges clock log) → P c
exchange_holds P c clock [] h all l = absurd (omega (arith, l))
exchange_holds P c clock (e ∷ es) h all l =
    by (sum_by (λ (g : Exchange). at c g.clock) (exchanged_by clock e.stamp e.asked e.answer)) refl
    (exchange_holds P c e.stamp es (All-head (λ (e : LogEntry). P e.stamp) e es all)
    (All-tail (λ (e : LogEntry). P e.stamp) e es all))
  where
    by : (n : ℕ) → sum_by (λ (g : Exchange). at c g.clock) (exchanged_by clock e.stamp e.asked e.answer) ≡ n →
        (0 < sum_by (λ (g : Exchange). at c g.clock) (exchanges e.stamp es) → P c) → P c
    by zero z more =
        let a = sum_by-append (λ (g : Exchange). at c g.clock) (exchanged_by clock e.stamp e.asked e.answer)
        (exchanges e.stamp es) in
        more (omega (arith, a, z, l))
    by (suc n) z more = subst P (exchange_is c clock e.stamp e.asked e.answer (omega (arith, z))) h

-- ---- a record

module _ (m : Program) (types : List Tree) (main : Birth) (ys : List Course) (ks : List ChannelHistory)
    (fits : FitsRecord m types main ys ks) (early : main.first.clock ≡ 0) where
  -- how many events have this stamp
  abbrev happens : ℕ → ℕ
  happens c = events_by (at c) ys ks

  -- one has it, or it is 0
  abbrev Hit : ℕ → Type 0
  Hit c = (c ≡ 0) ⊎ (0 < happens c)

  -- events that a task logged alone
  own_happens : (c : ℕ) (y : Course) → Contains ys y → own_by (at c) y.log ≤ happens c
  own_happens c y i = let a = there_sums (λ (y : Course). own_by (at c) y.log) ys y i in omega (arith, a)

  -- what the logs exchange at a stamp are the entries of histories with it, twice
  exchanged_at : (c : ℕ) → sum_by (trades (λ (g : Exchange). at c g.stamp)) ys ≤ happens c + happens c
  exchanged_at c =
      let w = λ (g : Exchange). at c g.stamp in
      let a = fits.exchanged w in
      let b = sum_both (shows w) (λ (k : ChannelHistory). passed_by (at c) k.entries.items)
      (λ (k : ChannelHistory). passed_by (at c) k.entries.items)
      (λ k.
      let l = parts_at c (record { channel = k.name; side = Left }) (Some (side_type Left k.declared)) k.entries.items in
      let r = parts_at c (record { channel = k.name; side = Right }) (Some (side_type Right k.declared)) k.entries.items in
      omega (arith, l, r)) ks in
      omega (arith, a, b)

  logged : (y : Course) → Contains ys y → IsLogged m types y
  logged y i = All-contains (IsLogged m types) ys y fits.logs i

  -- stamps in logs
  log_hits : (y : Course) → Contains ys y → All (λ (e : LogEntry). Hit e.stamp) y.log
  log_hits y i = All-weaker (Contains y.log) (λ (e : LogEntry). Hit e.stamp)
      (λ e j.
      let c = e.stamp in
      let a = there_sums (λ (e : LogEntry). at c e.stamp) y.log e j in
      let o = at_itself c in
      let b = log_at c m y.path y.first y.log y.now (logged y i).follows in
      let d = own_happens c y i in
      let f = there_sums (trades (λ (g : Exchange). at c g.stamp)) ys y i in
      let g = exchanged_at c in
      inr (omega (arith, a, o, b, d, f, g))) y.log (All-contains_itself y.log)

  -- and in histories
  history_hits : (k : ChannelHistory) → Contains ks k → All (λ (e : Entry). Hit e.stamp) k.entries.items
  history_hits k i = All-weaker (Contains k.entries.items) (λ (e : Entry). Hit e.stamp)
      (λ e j.
      let c = e.stamp in
      let a = there_sums (λ (e : Entry). at c e.stamp) k.entries.items e j in
      let o = at_itself c in
      let b = there_sums (λ (k : ChannelHistory). passed_by (at c) k.entries.items) ks k i in
      inr (omega (arith, a, o, b))) k.entries.items (All-contains_itself k.entries.items)

  -- the clock at which a task began
  first_hits : (y : Course) → Contains ys y → Hit y.first.clock
  first_hits y i = by y.first.clock refl
    where
      by : (n : ℕ) → y.first.clock ≡ n → Hit y.first.clock
      by zero e = inl e
      by (suc n) e = among (at_or y.first.clock main.first.clock)
        where
          among : ((main.first.clock ≡ y.first.clock) × (at y.first.clock main.first.clock ≡ 1)) ⊎
              (at y.first.clock main.first.clock ≡ 0) → Hit y.first.clock
          among (inl q) = let s = q.0 in absurd (omega (arith, s, early, e))
          among (inr z) =
              let c = y.first.clock in
              let w = λ (b : Birth). at c b.first.clock in
              let a = there_sums (λ (x : Course). w (began x)) ys y i in
              let o = at_itself c in
              let b = fits.births w in
              let d = sum_by-le-sum_by (bears m w) (λ (x : Course). own_by (at c) x.log) ys
              (λ x. births_at c m x.path x.first x.log) in
              inr (omega (arith, a, o, b, d, z))

  -- and that at which it stands
  clock_hits : (y : Course) → Contains ys y → Hit y.now.clock
  clock_hits y i = end_holds Hit m y.path y.first y.log y.now (logged y i).follows (first_hits y i) (log_hits y i)

  -- the clock of what a task exchanged
  exchange_hits : (g : Exchange) → IsExchanged ys g → Hit g.clock
  exchange_hits g x =
      let a = there_sums (λ (f : Exchange). at g.clock f.clock) (exchanges x.task.first.clock x.task.log) g x.logged in
      let o = at_itself g.clock in
      exchange_holds Hit g.clock x.task.first.clock x.task.log (first_hits x.task x.there) (log_hits x.task x.there)
      (omega (arith, a, o))

  -- what an entry's stamp follows
  passed_hits : (c : ℕ) (k : ChannelHistory) → Contains ks k → 0 < passed_by (at (suc c)) k.entries.items → Hit c
  passed_hits c k i l =
      let r = corresponds m types main ys ks fits in
      let n = is_next Hit 0 k.entries.items (suc c) (All-contains IsRecorded ks k fits.histories i).stamped (inl refl)
      (history_hits k i) l in
      let b = both_clocks Hit (record { channel = k.name; side = Left }) (record { channel = k.name; side = Right })
      (sends (residual Left k.declared n.before) n.entry.event) (sends (residual Right k.declared n.before) n.entry.event) n.entry
      (r.one_sends k n.before n.entry n.behind i n.is)
      (exchange_hits (part_at k Left n.before n.entry) (r.exchanged k Left n.before n.entry n.behind i n.is))
      (exchange_hits (part_at k Right n.before n.entry) (r.exchanged k Right n.before n.entry n.behind i n.is)) in
      let d = n.stamp in
      let e = n.next in
      subst Hit (omega (arith, d, e)) (of_greater Hit (max n.entry.sent n.entry.got) n.last
      (of_greater Hit n.entry.sent n.entry.got b.0 b.1) n.holds)

  -- the stamp before that of an event is one, or 0
  before_hits : (c : ℕ) → 0 < happens (suc c) → Hit c
  before_hits c l = by (sum_by (λ (y : Course). own_by (at (suc c)) y.log) ys) refl
    where
      by : (n : ℕ) → sum_by (λ (y : Course). own_by (at (suc c)) y.log) ys ≡ n → Hit c
      by zero z =
          let r = some_in (λ (k : ChannelHistory). passed_by (at (suc c)) k.entries.items) ks (omega (arith, z, l)) in
          passed_hits c r.0 r.1 r.2
      by (suc n) z =
          let r = some_in (λ (y : Course). own_by (at (suc c)) y.log) ys (omega (arith, z)) in
          own_holds Hit c m r.0.path r.0.first r.0.log r.0.now (logged r.0 r.1).follows (first_hits r.0 r.1)
          (log_hits r.0 r.1) r.2

  counted : (n : ℕ) → Hit n → n ≤ events_by (upto n) ys ks
  counted zero h = omega arith
  counted (suc n) (inl e) = absurd (omega (arith, e))
  counted (suc n) (inr l) =
      let ih = counted n (before_hits n l) in
      let b = events_both (upto n) (at (suc n)) ys ks in
      omega (arith, ih, b, l)

  -- it isn't over the number of all events
  few : (n : ℕ) → Hit n → n ≤ events_of ys ks
  few n h =
      let a = counted n h in
      let b = events_le (upto n) (λ s. (upto_is n s).0) ys ks in
      omega (arith, a, b)

  task_within : (y : Course) → Contains ys y → IsWithin (events_of ys ks) y
  task_within y i =
      let l = logged y i in
      let c = few y.now.clock (clock_hits y i) in
      let a = l.none_made in
      let b = l.none_forked in
      let d = counts_below m y.path y.first y.log y.now l.follows (omega (arith, a)) (omega (arith, b)) in
      let e = d.0 in
      let f = d.1 in
      record {
        clock = c;
        forked = omega (arith, c, f);
        made = omega (arith, c, e);
        stamps = All-weaker (λ (e : LogEntry). Hit e.stamp) (λ (e : LogEntry). e.stamp ≤ events_of ys ks)
            (λ e h. few e.stamp h) y.log (log_hits y i);
      }

  channel_within : (k : ChannelHistory) → Contains ks k → ChannelWithin (events_of ys ks) k
  channel_within k i =
      let w = λ (n : ChannelName) (t : Tree). once (same_channel k.name n) in
      let a = there_sums (λ (j : ChannelHistory). w j.name j.declared) ks k i in
      let o = channel_counts k.name k.name refl in
      let b = fits.channels w in
      let r = some_in (opens types w) ys (omega (arith, a, o, b)) in
      let d = (opened_in m types k.name r.0.path r.0.first r.0.log r.0.now (logged r.0 r.1).follows r.2).last in
      let e = (task_within r.0 r.1).made in (
        omega (arith, d, e),
        stamped_to (events_of ys ks) k.entries.items
            (All-weaker (λ (e : Entry). Hit e.stamp) (λ (e : Entry). e.stamp ≤ events_of ys ks)
            (λ e h. few e.stamp h) k.entries.items (history_hits k i)),
      )

  -- nothing is
  pub all_within : AreWithin (events_of ys ks) ys ks
  all_within = record {
    tasks = All-weaker (Contains ys) (IsWithin (events_of ys ks)) task_within ys (All-contains_itself ys);
    channels = channels_within (events_of ys ks) ks
        (All-weaker (Contains ks) (ChannelWithin (events_of ys ks)) channel_within ks (All-contains_itself ks));
  }

-- of each record
pub stamps : StampLaw
stamps = all_within
