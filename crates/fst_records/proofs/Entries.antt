-- What tasks of a record have exchanged are the entries of its histories.
use Rattle.std.proofs.Common.{◌≡◌, ◌∙◌, ◌⊎◌, inl, inr, ◌<◌, ◌≤◌, ℕ, zero, suc, not, List, [], ◌∷◌, ◌++◌, Option, Some, None, IsSome, refl, sym, ap, subst, arith}
use Rattle.std.specs.Prelude.{sum_by, All, Contains, option_map, option_and_then, is_some}
use Rattle.std.proofs.lemmas.List.Elements.{All-contains, All-contains_itself, All-weaker}
use Rattle.fst_base.proofs.Lists.{contains_head, contains_tail, contains_none, from_contains}
use Rattle.fst_types.specs.Tree.{Tree}
use Rattle.fst_types.specs.declared.side.Side.{Side}
use Rattle.fst_types.specs.declared.side.Side.TheVariants.{Left, Right}
use Rattle.fst_lts.specs.Dual.{dual}
use Rattle.fst_lts.specs.Histories.{sending, receiving, over, after_event, after_history, side_type}
use Rattle.fst_lts.specs.Step.{step}
use Rattle.fst_lts.proofs.Laws.{not_both, dual_sends, after_history-dual}
use Rattle.fst_types.specs.declared.ends.EndName.{EndName}
use Rattle.fst_types.specs.declared.event.ChannelHistory.{ChannelHistory}
use Rattle.fst_types.specs.declared.event.Entry.{Entry}
use Rattle.fst_types.specs.declared.event.Event.{Event}
use Rattle.fst_machine.specs.Machine.{Program}
use Rattle.fst_runs.specs.Configs.{same_channel}
use Rattle.fst_runs.specs.Wrong.{once}
use Rattle.fst_lts.specs.Residuals.{residual, sends}
use Rattle.fst_runs.specs.Logs.{Birth, Exchange, exchanges, part_in, parts_in, then_after}
use Rattle.fst_records.specs.Records.{Course, trades, FitsRecord, IsLogged, IsRecorded, shown_of, shows}
use Rattle.fst_records.specs.Entries.{StandsIn, IsExchanged, Correspond, part_at}
use Rattle.fst_records.specs.Laws.{EntryLaw}
use Rattle.fst_records.proofs.Codes.{just, just_itself, just_same, exchange_code}
use Rattle.fst_records.proofs.Paths.{IsLed, paths_once, names_once}
use Rattle.fst_records.proofs.Sums.{some_in}
use Rattle.fst_records.proofs.Tests.{there_sums}

-- ---- sums

-- an exchange that counts among some is one of them
one_of : (g : Exchange) (gs : List Exchange) → 0 < sum_by (just exchange_code g) gs → Contains gs g
one_of g gs h =
    let r = some_in (just exchange_code g) gs h in
    subst (Contains gs) (sym (just_same exchange_code g r.0 r.2)) r.1

counts_in : (g : Exchange) (gs : List Exchange) → Contains gs g → 0 < sum_by (just exchange_code g) gs
counts_in g gs c = let a = there_sums (just exchange_code g) gs g c in let b = just_itself exchange_code g in omega (arith, a, b)

-- ---- parts of a history

-- the type behind a history, if there was one before
abbrev behind_all : Option Tree → List Entry → Option Tree
behind_all o h = option_and_then (λ t. after_history t h) o

-- a part of a history is that of an entry
record IsPart (n : EndName) (o : Option Tree) (h : List Entry) (g : Exchange) : Type 0 where
  before : List Entry
  entry : Entry
  behind : List Entry
  is : h ≡ before ++ entry ∷ behind
  part : g ≡ part_in n (sends (behind_all o before) entry.event) entry

behind_first : (o : Option Tree) (e : Entry) (h : List Entry) → behind_all (then_after o e.event) h ≡ behind_all o (e ∷ h)
behind_first None e h = refl
behind_first (Some t) e h = refl

behind_none : (o : Option Tree) → behind_all o [] ≡ o
behind_none None = refl
behind_none (Some t) = refl

part_or : (n : EndName) (o : Option Tree) (e : Entry) (h : List Entry) (g : Exchange) →
    (part_in n (sends o e.event) e ≡ g) ⊎ IsPart n (then_after o e.event) h g → IsPart n o (e ∷ h) g
part_or n o e h g (inl q) = record {
  before = [];
  entry = e;
  behind = h;
  is = refl;
  part = sym q ∙ ap (λ t. part_in n (sends t e.event) e) (sym (behind_none o));
}
part_or n o e h g (inr p) = record {
  before = e ∷ p.before;
  entry = p.entry;
  behind = p.behind;
  is = ap (λ (l : List Entry). e ∷ l) p.is;
  part = p.part ∙ ap (λ t. part_in n (sends t p.entry.event) p.entry) (behind_first o e p.before);
}

is_part : (n : EndName) (o : Option Tree) (h : List Entry) (g : Exchange) → Contains (parts_in n o h) g → IsPart n o h g
is_part n o [] g c = absurd (contains_none g c)
is_part n o (e ∷ h) g c = part_or n o e h g
    (by (from_contains (parts_in n (then_after o e.event) h) g (part_in n (sends o e.event) e) c)
    (is_part n (then_after o e.event) h g))
  where
    by : (part_in n (sends o e.event) e ≡ g) ⊎ Contains (parts_in n (then_after o e.event) h) g →
        (Contains (parts_in n (then_after o e.event) h) g → IsPart n (then_after o e.event) h g) →
        (part_in n (sends o e.event) e ≡ g) ⊎ IsPart n (then_after o e.event) h g
    by (inl q) more = inl q
    by (inr q) more = inr (more q)

-- and the part of each entry is there
part_there : (n : EndName) (o : Option Tree) (before : List Entry) (e : Entry) (behind : List Entry) →
    Contains (parts_in n o (before ++ e ∷ behind)) (part_in n (sends (behind_all o before) e.event) e)
part_there n o [] e behind = contains_head (parts_in n (then_after o e.event) behind)
    (part_in n (sends (behind_all o []) e.event) e)
    (part_in n (sends o e.event) e)
    (ap (λ t. part_in n (sends t e.event) e) (sym (behind_none o)))
part_there n o (c ∷ before) e behind = contains_tail (parts_in n (then_after o c.event) (before ++ e ∷ behind))
    (part_in n (sends (behind_all o (c ∷ before)) e.event) e) (part_in n (sends o c.event) c)
    (subst (λ t. Contains (parts_in n (then_after o c.event) (before ++ e ∷ behind)) (part_in n (sends t e.event) e))
    (behind_first o c before)
    (part_there n (then_after o c.event) before e behind))

residual_is : (s : Side) (t : Tree) (h : List Entry) → residual s t h ≡ behind_all (Some (side_type s t)) h
unfolding residual
residual_is s t h = refl

-- ---- who sends

-- an event by which a type goes on, behind a trace
pub trace_at : (t : Tree) (before : List Entry) (e : Entry) (behind : List Entry) →
    IsSome (after_history t (before ++ e ∷ behind)) →
    (s : Tree) × (after_history t before ≡ Some s) × IsSome (after_event s e.event)
trace_at t [] e behind h = (t, refl, by (after_event t e.event) h)
  where
    by : (o : Option Tree) → IsSome (option_and_then (λ y. after_history y behind) o) → IsSome o
    by None h = h
    by (Some u) h = refl
trace_at t (c ∷ before) e behind h = by (after_event t c.event) h (λ y. trace_at y before e behind)
  where
    by : (o : Option Tree) → IsSome (option_and_then (λ y. after_history y (before ++ e ∷ behind)) o) →
        ((y : Tree) → IsSome (after_history y (before ++ e ∷ behind)) → (s : Tree) ×
        (after_history y before ≡ Some s) × IsSome (after_event s e.event)) →
        (s : Tree) × (option_and_then (λ y. after_history y before) o ≡ Some s) × IsSome (after_event s e.event)
    by None h more = absurd (cc h)
    by (Some u) h more = more u h

-- a type that goes on by an event sends it, or its dual does
either_sends : (s : Tree) (ev : Event) → IsSome (after_event s ev) →
    is_some (step s (sending ev)) ≡ not (is_some (option_map dual (step s (receiving ev))))
either_sends s ev h = by (step s (sending ev)) refl (step s (receiving ev)) refl h
  where
    by : (a : Option Tree) → step s (sending ev) ≡ a → (b : Option Tree) → step s (receiving ev) ≡ b → IsSome (over a b) →
        is_some a ≡ not (is_some (option_map dual b))
    by None p None q h = absurd (cc h)
    by None p (Some u) q h = refl
    by (Some t) p None q h = refl
    by (Some t) p (Some u) q h = absurd (cc (sym p ∙ not_both s u ev q))

pub sides_send : (t : Tree) (before : List Entry) (s : Tree) (ev : Event) → after_history t before ≡ Some s →
    IsSome (after_event s ev) →
    sends (residual Left t before) ev ≡ not (sends (residual Right t before) ev)
unfolding residual sends
sides_send t before s ev q h =
    let r : after_history (dual t) before ≡ Some (dual s) = after_history-dual t before ∙ ap (option_map dual) q in
    ap (λ o. sends o ev) q ∙ either_sends s ev h ∙ ap (λ o. not (is_some o)) (sym (dual_sends s ev)) ∙ ap
    (λ o. not (sends o ev)) (sym r)

-- ---- records

module _ (m : Program) (types : List Tree) (main : Birth) (xs : List Course) (ks : List ChannelHistory)
    (fits : FitsRecord m types main xs ks) where
  stands_at : (g : Exchange) (k : ChannelHistory) → Contains ks k →
      (s : Side) → Contains (shown_of k.name s k.declared k.entries.items) g → StandsIn ks g
  stands_at g k c s h =
      let n : EndName = record { channel = k.name; side = s } in
      let p = is_part n (Some (side_type s k.declared)) k.entries.items g h in
      record {
        channel = k;
        there = c;
        side = s;
        before = p.before;
        entry = p.entry;
        behind = p.behind;
        is = p.is;
        part = p.part ∙ ap (λ t. part_in n (sends t p.entry.event) p.entry) (sym (residual_is s k.declared p.before));
      }

  stands_in : (g : Exchange) (k : ChannelHistory) → Contains ks k → 0 < shows (just exchange_code g) k → StandsIn ks g
  stands_in g k c h = by (sum_by (just exchange_code g) (shown_of k.name Left k.declared k.entries.items)) refl
    where
      by : (n : ℕ) → sum_by (just exchange_code g) (shown_of k.name Left k.declared k.entries.items) ≡ n → StandsIn ks g
      by zero q = stands_at g k c Right (one_of g (shown_of k.name Right k.declared k.entries.items) (omega (arith, h, q)))
      by (suc n) q = stands_at g k c Left (one_of g (shown_of k.name Left k.declared k.entries.items) (omega (arith, q)))

  -- what counts as exchanged by the logs stands in a history
  pub stands : (g : Exchange) → 0 < sum_by (trades (just exchange_code g)) xs → StandsIn ks g
  stands g h =
      let e = fits.exchanged (just exchange_code g) in
      let r = some_in (shows (just exchange_code g)) ks (omega (arith, e, h)) in
      stands_in g r.0 r.1 r.2

  logged : (x : Course) → Contains xs x → (g : Exchange) → Contains (exchanges x.first.clock x.log) g → StandsIn ks g
  logged x c g h =
      let a = counts_in g (exchanges x.first.clock x.log) h in
      let b = there_sums (trades (just exchange_code g)) xs x c in
      stands g (omega (arith, a, b))

  part_shows : (w : Exchange → ℕ) (s : Side) (k : ChannelHistory) →
      sum_by w (shown_of k.name s k.declared k.entries.items) ≤ shows w k
  part_shows w Left k = omega arith
  part_shows w Right k = omega arith

  exchanged : (k : ChannelHistory) (s : Side) (before : List Entry) (e : Entry) (behind : List Entry) → Contains ks k →
      k.entries.items ≡ before ++ e ∷ behind → IsExchanged xs (part_at k s before e)
  exchanged k s before e behind c is =
      let n : EndName = record { channel = k.name; side = s } in
      let g = part_at k s before e in
      let p : Contains (shown_of k.name s k.declared k.entries.items) g =
      subst (λ l. Contains (shown_of k.name s k.declared l) g) (sym is)
      (subst (λ t. Contains (shown_of k.name s k.declared (before ++ e ∷ behind)) (part_in n (sends t e.event) e))
      (sym (residual_is s k.declared before))
      (part_there n (Some (side_type s k.declared)) before e behind)) in
      let a = counts_in g (shown_of k.name s k.declared k.entries.items) p in
      let b = part_shows (just exchange_code g) s k in
      let d = there_sums (shows (just exchange_code g)) ks k c in
      let f = fits.exchanged (just exchange_code g) in
      let r = some_in (trades (just exchange_code g)) xs (omega (arith, a, b, d, f)) in
      record { task = r.0; there = r.1; logged = one_of g (exchanges r.0.first.clock r.0.log) r.2 }

  one_sends : (k : ChannelHistory) (before : List Entry) (e : Entry) (behind : List Entry) → Contains ks k →
      k.entries.items ≡ before ++ e ∷ behind →
      sends (residual Left k.declared before) e.event ≡ not (sends (residual Right k.declared before) e.event)
  one_sends k before e behind c is =
      let h = (All-contains IsRecorded ks k fits.histories c).trace in
      let r = trace_at k.declared before e behind (subst (λ l. IsSome (after_history k.declared l)) is h) in
      sides_send k.declared before r.0 e.event r.1 r.2

  -- logs and histories say the same
  pub corresponds : Correspond xs ks
  corresponds = record {
    paths = paths_once (λ (y : Course). y) m main xs fits.root fits.births;
    names = λ h.
        let a = fits.channels (λ n t. once (same_channel h n)) in
        let b = names_once (λ (y : Course). y) m main xs fits.root fits.births types
        (All-weaker (IsLogged m types) (IsLed m) (λ x l. l.follows) xs fits.logs) h in
        omega (arith, a, b);
    logged = All-weaker (Contains xs) (λ (x : Course). All (StandsIn ks) (exchanges x.first.clock x.log))
        (λ x c. All-weaker (Contains (exchanges x.first.clock x.log)) (StandsIn ks)
        (λ g h. logged x c g h) (exchanges x.first.clock x.log)
        (All-contains_itself (exchanges x.first.clock x.log))) xs (All-contains_itself xs);
    exchanged = exchanged;
    one_sends = one_sends;
  }

-- of each record
pub entries : EntryLaw
entries = corresponds
