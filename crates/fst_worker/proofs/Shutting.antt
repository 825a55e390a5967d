-- Ends whose channels were closed: what an end lacks of its history is its own offer.
use Rattle.std.proofs.Common.{◌≡◌, ◌∙◌, ◌⊎◌, inl, inr, ◌<◌, ◌≤◌, ℕ, ◌+◌, Bool, true, false, not, ◌&&◌, List, [], ◌∷◌, ◌++◌, length, Option, Some, None, refl, sym, ap, subst, arith}
use Rattle.std.specs.Prelude.{sum_by, All, Contains, slice_get, option_to_list, nat_eq, nat_lt, if◌then◌else◌}
use Rattle.std.proofs.lemmas.Bool.{and_from}
use Rattle.std.proofs.lemmas.Bool.Decides.{nat_tests}
use Rattle.std.proofs.lemmas.List.{append-nil}
use Rattle.std.proofs.lemmas.List.Elements.{All-nil, All-cons, All-head, All-tail, All-weaker, All-contains_itself}
use Rattle.std.proofs.lemmas.List.Sums.{sum_by-cons}
use Rattle.fst_base.proofs.Bools.{and_parts, is_less, same_nat}
use Rattle.fst_base.proofs.Lists.{get-last, from_contains, contains_none}
use Rattle.fst_types.specs.Tree.{Tree}
use Rattle.fst_types.specs.declared.side.Side.TheVariants.{Left}
use Rattle.fst_derivations.specs.Rules.{Surroundings}
use Rattle.fst_types.specs.declared.ends.ChannelName.{ChannelName}
use Rattle.fst_types.specs.declared.event.ChannelHistory.{ChannelHistory}
use Rattle.fst_types.specs.declared.event.Entry.{Entry}
use Rattle.fst_runs.specs.Configs.{Task, same_channel}
use Rattle.fst_runs.specs.Wrong.{once}
use Rattle.fst_runs.proofs.Laws.{same_channel-itself}
use Rattle.fst_cell.specs.declared.content.Half.{Half}
use Rattle.fst_cell.specs.declared.content.Offer.{Offer}
use Rattle.fst_cell.specs.Close.{Trails}
use Rattle.fst_cell.specs.End.{EndView, residual_of}
use Rattle.fst_lts.specs.Residuals.{sends}
use Rattle.fst_lts.specs.Stamps.{AreStamped}
use Rattle.fst_runs.specs.Logs.{Birth}
use Rattle.fst_safety.specs.Threads.{Thread, FitsIn, FitsEnd, IsSpent}
use Rattle.fst_safety.specs.Turns.{of_ends, on_side, by_type}
use Rattle.fst_worker.specs.Works.{opens}
use Rattle.fst_worker.specs.Records.{Pair, IsShut, IsOver, Paired, histories_of, missing, IsTrailing}
use Rattle.fst_records.proofs.Laws.{event_code, sum_none, none_in_sum, channel_counts, there_sums, same_by, same_by-itself, same_by-same}
use Rattle.fst_worker.proofs.Apart.{channels_once}

-- ---- one end

-- an end lacks nothing, or it waits and lacks what it offers
abbrev pub settled : Option Entry → Option Offer → Bool
settled None o = true
settled (Some d) None = false
settled (Some d) (Some o) = same_by event_code d.event o.event && (nat_eq d.sent o.clock && nat_lt o.clock d.stamp)

-- an end doesn't wait, or its residual sends what it offers
abbrev pub sends_by : Option Tree → Option Offer → Bool
sends_by r None = true
sends_by r (Some o) = sends r o.event

-- what is lacked is what is offered
record Lacks (d : Entry) (o : Offer) : Type 0 where
  event : d.event ≡ o.event
  sent : d.sent ≡ o.clock
  later : o.clock < d.stamp

equal_number : (m n : ℕ) → m ≡ n → nat_eq m n ≡ true
equal_number m n h = grind (arith, nat_tests)

less_number : (m n : ℕ) → m < n → nat_lt m n ≡ true
less_number m n h = grind (arith, nat_tests)

to_settled : (d : Entry) (o : Offer) → Lacks d o → settled (Some d) (Some o) ≡ true
to_settled d o l =
    and_from (same_by event_code d.event o.event) (nat_eq d.sent o.clock && nat_lt o.clock d.stamp)
    (same_by-itself event_code d.event o.event l.event)
    (and_from (nat_eq d.sent o.clock) (nat_lt o.clock d.stamp) (equal_number d.sent o.clock l.sent)
    (less_number o.clock d.stamp l.later))

from_settled : (d : Entry) (o : Offer) → settled (Some d) (Some o) ≡ true → Lacks d o
from_settled d o h =
    let p = and_parts (same_by event_code d.event o.event) (nat_eq d.sent o.clock && nat_lt o.clock d.stamp) h in
    let q = and_parts (nat_eq d.sent o.clock) (nat_lt o.clock d.stamp) p.1 in
    record {
      event = same_by-same event_code d.event o.event p.0;
      sent = same_nat d.sent o.clock q.0;
      later =
          is_less o.clock d.stamp q.1;
    }

-- what an end that lacks an entry waits for
waits_for : (d : Entry) (o : Option Offer) → settled (Some d) o ≡ true → (x : Offer) × (o ≡ Some x) × Lacks d x
waits_for d None h = absurd (cc h)
waits_for d (Some o) h = (o, refl, from_settled d o h)

get_none : (h : List Entry) → slice_get h (length h) ≡ None
get_none [] = refl
get_none (x ∷ h) = get_none h

stamped_later : (n : ℕ) (h : List Entry) (d : Entry) → AreStamped n (h ++ d ∷ []) → d.sent < d.stamp
stamped_later n [] d f = let s = f.0 in omega (arith, s)
stamped_later n (c ∷ h) d f = stamped_later c.stamp h d f.3

-- how much of a history an end lacks
pub record Reaches (h : List Entry) (v : Half) : Type 0 where
  pub lacks : Option Entry
  pub is : h ≡ v.history ++ option_to_list lacks
  pub next : slice_get h (length v.history) ≡ lacks
  pub settles : settled lacks v.offer ≡ true

level : (h : List Entry) (v : Half) → v.history ≡ h → Reaches h v
level h v e = record {
  lacks = None;
  is = sym (append-nil v.history ∙ e);
  next = ap (λ l. slice_get l (length v.history)) (sym e) ∙ get_none v.history;
  settles = refl;
}

reaches : (h : List Entry) (v : Half) → (v.offer ≡ None → v.history ≡ h) → Trails h v → AreStamped 0 h → Reaches h v
reaches h v idle trails stamped = by v.offer refl
  where
    some : (o : Offer) → v.offer ≡ Some o → (v.history ≡ h) ⊎
        ((e : Entry) × (h ≡ v.history ++ e ∷ []) × (e.event ≡ o.event) × (e.sent ≡ o.clock)) → Reaches h v
    some o q (inl e) = level h v e
    some o q (inr (d, is, event, sent)) =
        let late = stamped_later 0 v.history d (subst (AreStamped 0) is stamped) in
        let l : Lacks d o = record { event = event; sent = sent; later = omega (arith, late, sent) } in
        record {
          lacks = Some d;
          is = is;
          next = ap (λ l. slice_get l (length v.history)) is ∙ get-last v.history d;
          settles = ap (settled (Some d)) q ∙ to_settled d o l;
        }

    by : (o : Option Offer) → v.offer ≡ o → Reaches h v
    by None q = level h v (idle q)
    by (Some o) q = some o q (trails o q)

-- ---- tests of all ends

-- the end passes the test
abbrev pub Passes : (EndView → Bool) → EndView → Type 0
Passes t e = t e ≡ true

-- both ends of the pair pass it
abbrev pub BothPass : (EndView → Bool) → Pair → Type 0
BothPass t p = Passes t p.left × Passes t p.right

-- all ends of the thread pass it
abbrev pub EndsPass : (EndView → Bool) → Thread → Type 0
EndsPass t x = All (Passes t) x.bag × All (Passes t) x.retired

-- 1 for an end that doesn't pass it
abbrev fails : (EndView → Bool) → EndView → ℕ
fails t e = once (not (t e))

fails_not : (b : Bool) → once (not b) ≡ 0 → b ≡ true
fails_not true h = refl
fails_not false h = absurd (omega (arith, h))

passed : (t : EndView → Bool) (e : EndView) → Passes t e → fails t e ≡ 0
passed t e h = ap (λ b. once (not b)) h

module _ (xs : List Thread) (ps : List Pair) (paired : Paired xs ps) (t : EndView → Bool) where
  -- what all ends of closed channels pass, all ends of threads pass
  pub ends_pass : All (BothPass t) ps → All (EndsPass t) xs
  ends_pass h =
      let z = sum_none (λ (p : Pair). fails t p.left + fails t p.right) (BothPass t)
      (λ p q. let a = passed t p.left q.0 in let b = passed t p.right q.1 in omega (arith, a, b)) ps h in
      let s = paired (fails t) in
      All-weaker (λ (x : Thread). of_ends (fails t) x ≡ 0) (EndsPass t)
      (λ x q. (of_list x.bag (omega (arith, q)), of_list x.retired (omega (arith, q)))) xs
      (none_in_sum (of_ends (fails t)) xs (omega (arith, z, s)))
    where
      of_list : (es : List EndView) → sum_by (fails t) es ≡ 0 → All (Passes t) es
      of_list es q = All-weaker (λ (e : EndView). fails t e ≡ 0) (Passes t)
          (λ e z. fails_not (t e) z) es (none_in_sum (fails t) es q)

  -- and the other way round
  pub pairs_pass : All (EndsPass t) xs → All (BothPass t) ps
  pairs_pass h =
      let z = sum_none (of_ends (fails t)) (EndsPass t)
      (λ x q.
      let a = sum_none (fails t) (Passes t) (passed t) x.bag q.0 in
      let b = sum_none (fails t) (Passes t) (passed t) x.retired q.1 in
      omega (arith, a, b)) xs h in
      let s = paired (fails t) in
      All-weaker (λ (p : Pair). fails t p.left + fails t p.right ≡ 0) (BothPass t)
      (λ p q. (fails_not (t p.left) (omega (arith, q)), fails_not (t p.right) (omega (arith, q)))) ps
      (none_in_sum (λ (p : Pair). fails t p.left + fails t p.right) ps (omega (arith, z, s)))

-- ---- what is missing

-- an end, whose channel's history is this one, and lacks so much of it
pub record IsBehind (ks : List ChannelHistory) (e : EndView) (h : List Entry) : Type 0 where
  pub lacks : Option Entry
  pub is : h ≡ e.knows.history ++ option_to_list lacks
  pub missing_is : missing ks e ≡ lacks
  pub sends_it : (d : Entry) → lacks ≡ Some d → sends (residual_of e.knows) d.event ≡ true

-- a pair, by its channel
abbrev pub of_channel : ChannelName → Pair → ℕ
of_channel h p = once (same_channel h p.closed.history.name)

-- what is said of the channel of a name, by the first pair that has it
abbrev pub look : {R : Type 0} → (Pair → R) → R → List Pair → ChannelName → R
look f none [] h = none
look f none (p ∷ ps) h = if same_channel h p.closed.history.name then f p else look f none ps h

look_or : {R : Type 0} (f : Pair → R) (none : R) (ps : List Pair) (h : ChannelName) (p q : Pair) → h ≡ p.closed.history.name →
    sum_by (of_channel h) (q ∷ ps) ≤ 1 →
    (Contains ps p → look f none ps h ≡ f p) → (q ≡ p) ⊎ Contains ps p → look f none (q ∷ ps) h ≡ f p
look_or f none ps h p q is le more (inl i) =
    ap (λ (b : Bool). if b then f q else look f none ps h)
    (ap (λ n. same_channel n q.closed.history.name) (is ∙ ap (λ (p : Pair). p.closed.history.name) (sym i))
    ∙ same_channel-itself q.closed.history.name) ∙ ap f i
look_or f none ps h p q is le more (inr i) = ap
    (λ (b : Bool). if b then f q else look f none ps h) (apart (same_channel h q.closed.history.name) refl) ∙ more i
  where
    apart : (b : Bool) → same_channel h q.closed.history.name ≡ b → b ≡ false
    apart false r = refl
    apart true r =
        let a = sum_by-cons (of_channel h) q ps in
        let b = ap once r in
        let c = there_sums (of_channel h) ps p i in
        let d = channel_counts h p.closed.history.name is in
        absurd (omega (arith, a, b, c, d, le))

-- where only one pair has a name, it is said of that
pub look_of : {R : Type 0} (f : Pair → R) (none : R) (ps : List Pair) (h : ChannelName) (p : Pair) → Contains ps p →
    h ≡ p.closed.history.name →
    sum_by (of_channel h) ps ≤ 1 →
    look f none ps h ≡ f p
look_of f none [] h p c is le = absurd (contains_none p c)
look_of f none (q ∷ ps) h p c is le =
    look_or f none ps h p q is le (λ i. look_of f none ps h p i is
    (let a = sum_by-cons (of_channel h) q ps in omega (arith, a, le))) (from_contains ps p q c)

-- the entry of the pair's history behind those that an end knows
abbrev behind_in : EndView → Pair → Option Entry
behind_in e p = slice_get p.closed.history.entries.items (length e.knows.history)

missing_is : (ps : List Pair) (e : EndView) → missing (histories_of ps) e ≡ look (behind_in e) None ps e.channel
missing_is [] e = refl
missing_is (p ∷ ps) e = ap (λ (r : Option Entry). if same_channel e.channel p.closed.history.name then behind_in e p else r)
    (missing_is ps e)

missing_of : (ps : List Pair) (e : EndView) (p : Pair) → Contains ps p → e.channel ≡ p.closed.history.name →
    sum_by (of_channel e.channel) ps ≤ 1 →
    missing (histories_of ps) e ≡ slice_get p.closed.history.entries.items (length e.knows.history)
missing_of ps e p c is le = missing_is ps e ∙ look_of (behind_in e) None ps e.channel p c is le

-- the left end of a pair, and its right one, weigh as the channel
shut_type : (w : ChannelName → Tree → ℕ) (p : Pair) → IsShut p →
    by_type Left w p.left + by_type Left w p.right ≡ w p.closed.history.name p.closed.history.declared
shut_type w p s =
    let a : by_type Left w p.left ≡ w p.closed.history.name p.closed.history.declared = λ i. on_side Left (s.left_side i)
    (w (sym s.closed.named i) (sym s.closed.left_declared i)) in
    let b : by_type Left w p.right ≡ 0 = ap (λ t. on_side Left t (w p.right.channel p.right.knows.declared)) s.right_side in
    omega (arith, a, b)

-- a sum over pairs by what closing them gave
pub by_histories : (f : Pair → ℕ) (g : ChannelHistory → ℕ) (P : Pair → Type 0) → ((p : Pair) → P p → f p ≡ g p.closed.history) →
    (ps : List Pair) → All P ps →
    sum_by f ps ≡ sum_by g (histories_of ps)
by_histories f g P e [] all = refl
by_histories f g P e (p ∷ ps) all =
    let a = sum_by-cons f p ps in
    let b = sum_by-cons g p.closed.history (histories_of ps) in
    let d = e p (All-head P p ps all) in
    let ih = by_histories f g P e ps (All-tail P p ps all) in
    omega (arith, a, b, d, ih)

-- what holds of all histories, by what holds of the pairs
pub all_histories : (P : Pair → Type 0) (Q : ChannelHistory → Type 0) → ((p : Pair) → P p → Q p.closed.history) →
    (ps : List Pair) → All P ps →
    All Q (histories_of ps)
all_histories P Q f [] all = All-nil Q
all_histories P Q f (p ∷ ps) all = All-cons Q p.closed.history (histories_of ps) (f p (All-head P p ps all))
    (all_histories P Q f ps (All-tail P p ps all))

module _ (m : Surroundings) (a : Tree) (main : Birth) (xs : List Thread) (ps : List Pair) (over : IsOver m a main xs ps) where
  -- the histories of the closed channels
  abbrev ks : List ChannelHistory
  ks = histories_of ps

  -- they are those of the channels that the logs open
  pub are_opened : (w : ChannelName → Tree → ℕ) → sum_by (λ (k : ChannelHistory). w k.name k.declared) ks ≡ sum_by (opens m w) xs
  are_opened w =
      let p = over.paired (by_type Left w) in
      let q = by_histories (λ (p : Pair). by_type Left w p.left + by_type Left w p.right)
      (λ (k : ChannelHistory). w k.name k.declared) IsShut (shut_type w) ps over.shut in
      let c = over.run.whole.typed Left w in
      omega (arith, p, q, c)

  -- no two pairs have one name
  pub names_once : (h : ChannelName) → sum_by (of_channel h) ps ≤ 1
  names_once h =
      let q = by_histories (of_channel h) (λ (k : ChannelHistory). once (same_channel h k.name)) IsShut
      (λ p s. refl) ps over.shut in
      let b = are_opened (λ n t. once (same_channel h n)) in
      let d = channels_once m a main xs over.run h in
      omega (arith, q, b, d)

  -- each pair, and that it is there
  pub here : All (λ (p : Pair). Contains ps p × IsShut p) ps
  here = λ k d l. (All-contains_itself ps k d l, over.shut k d l)

  -- how much of the history the left end lacks
  pub left_reaches : (p : Pair) → IsShut p → Reaches p.closed.history.entries.items p.left.knows
  left_reaches p s = reaches p.closed.history.entries.items p.left.knows s.closed.left_level s.closed.left s.closed.stamped

  -- and the right one
  pub right_reaches : (p : Pair) → IsShut p → Reaches p.closed.history.entries.items p.right.knows
  right_reaches p s = reaches p.closed.history.entries.items p.right.knows s.closed.right_level s.closed.right s.closed.stamped

  -- so much is missing
  pub left_missing : (p : Pair) → Contains ps p → (s : IsShut p) → missing ks p.left ≡ (left_reaches p s).lacks
  left_missing p c s = missing_of ps p.left p c (sym s.closed.named) (names_once p.left.channel) ∙ (left_reaches p s).next

  -- of both
  pub right_missing : (p : Pair) → Contains ps p → (s : IsShut p) → missing ks p.right ≡ (right_reaches p s).lacks
  right_missing p c s = missing_of ps p.right p c (s.channel ∙ sym s.closed.named) (names_once p.right.channel)
      ∙ (right_reaches p s).next

  -- the end lacks nothing, or what it offers
  abbrev settles : EndView → Bool
  settles e = settled (missing ks e) e.knows.offer

  -- all ends lack nothing, or what they offer
  pub all_settled : All (EndsPass settles) xs
  all_settled = ends_pass xs ps over.paired settles (All-weaker (λ (p : Pair). Contains ps p × IsShut p) (BothPass settles)
      (λ p q. (
        ap (λ d. settled d p.left.knows.offer) (left_missing p q.0 q.1) ∙ (left_reaches p q.1).settles,
        ap (λ d. settled d p.right.knows.offer) (right_missing p q.0 q.1) ∙ (right_reaches p q.1).settles,
      )) ps here)

  -- all that wait may send what they offer
  abbrev pub may_send : EndView → Bool
  may_send e = sends_by (residual_of e.knows) e.knows.offer

  sends_waiting : (t : Task) (e : EndView) → FitsEnd m t e → Passes may_send e
  sends_waiting t e f = by e.knows.offer refl
    where
      by : (o : Option Offer) → e.knows.offer ≡ o → sends_by (residual_of e.knows) e.knows.offer ≡ true
      by None q = ap (sends_by (residual_of e.knows)) q
      by (Some o) q = ap (sends_by (residual_of e.knows)) q ∙ (f.waits o q).sends

  -- so do the ends of all pairs
  pub all_send : All (BothPass may_send) ps
  all_send = pairs_pass xs ps over.paired may_send (All-weaker (FitsIn m a) (EndsPass may_send)
      (λ x f. (
        All-weaker (FitsEnd m x.now) (Passes may_send) (sends_waiting x.now) x.bag f.ends,
        All-weaker IsSpent (Passes may_send) (λ e s. ap (sends_by (residual_of e.knows)) s.idle) x.retired f.spent,
      )) xs over.run.fit)

  behind : (e : EndView) (h : List Entry) (r : Reaches h e.knows) → missing ks e ≡ r.lacks → Passes may_send e → IsBehind ks e h
  behind e h r q may = record {
    lacks = r.lacks;
    is = r.is;
    missing_is = q;
    sends_it = λ d i.
        let w = waits_for d e.knows.offer (ap (λ l. settled l e.knows.offer) (sym i) ∙ r.settles) in
        ap (sends (residual_of e.knows)) w.2.event ∙ sym (ap (sends_by (residual_of e.knows)) w.1) ∙ may;
  }

  -- both ends of each pair are behind their channel's history by what they sent
  pub all_behind : All (λ (p : Pair). IsBehind ks p.left p.closed.history.entries.items ×
      IsBehind ks p.right p.closed.history.entries.items) ps
  all_behind = λ k d l.
      let q = here k d l in
      let s = all_send k d l in (
        behind _ _ (left_reaches _ q.1) (left_missing _ q.0 q.1) s.0,
        behind _ _ (right_reaches _ q.1) (right_missing _ q.0 q.1) s.1,
      )

  -- an end that doesn't wait lacks nothing
  pub idle_level : (e : EndView) → Passes settles e → e.knows.offer ≡ None → missing ks e ≡ None
  idle_level e h q = by (missing ks e) refl
    where
      by : (o : Option Entry) → missing ks e ≡ o → o ≡ None
      by None i = refl
      by (Some d) i =
          let c : settled (Some d) None ≡ true = (λ j. settled (sym i j) (sym q j)) ∙ h in
          absurd (cc c)

  -- an end that lacks an entry waits, and the entry is its offer
  pub lacking_waits : (e : EndView) → Passes settles e → (d : Entry) → missing ks e ≡ Some d → (o : Offer) ×
      (e.knows.offer ≡ Some o) × IsTrailing ks e o d
  lacking_waits e h d i =
      let w = waits_for d e.knows.offer (ap (λ l. settled l e.knows.offer) (sym i) ∙ h) in
      (w.0, w.1, record { lacks = i; event = w.2.event; sent = w.2.sent; later = w.2.later })
