-- What tasks get by their logs, and by the histories: each entry is got once.
use Rattle.std.proofs.Common.{◌≡◌, ◌⊎◌, inl, inr, ℕ, zero, suc, ◌+◌, List, [], ◌∷◌, ◌++◌, length, Bool, true, false, not, ◌&&◌, Some, IsSome, refl, sym, ap, subst, arith}
use Rattle.std.specs.Prelude.{sum_by, All}
use Rattle.std.proofs.lemmas.List.Elements.{All-head, All-tail}
use Rattle.std.proofs.lemmas.List.Sums.{sum_by-append, sum_by-cons, sum_by_push}
use Rattle.fst_base.proofs.Lists.{snoc_view, length-push}
use Rattle.fst_types.specs.Tree.{Tree}
use Rattle.fst_types.specs.declared.side.Side.TheVariants.{Left, Right}
use Rattle.fst_types.specs.declared.ends.ChannelName.{ChannelName}
use Rattle.fst_types.specs.declared.ends.EndName.{EndName}
use Rattle.fst_types.specs.declared.event.ChannelHistory.{ChannelHistory}
use Rattle.fst_types.specs.declared.event.Entry.{Entry}
use Rattle.fst_lts.specs.Histories.{after_history, side_type}
use Rattle.fst_lts.specs.Residuals.{residual, sends}
use Rattle.fst_machine.specs.declared.request.Request.{Request}
use Rattle.fst_machine.specs.declared.request.Answer.{Answer}
use Rattle.fst_machine.specs.Machine.{Program}
use Rattle.fst_runs.specs.declared.log.LogEntry.{LogEntry}
use Rattle.fst_runs.specs.Configs.{Path, Task}
use Rattle.fst_runs.specs.Logs.{Exchange, Follows, IsAnswered, after_entry, exchanged_by, exchanges, part_in}
use Rattle.fst_runs.specs.Wrong.{once}
use Rattle.fst_records.specs.Records.{Course, trades, IsLogged, IsRecorded, shows, shown_of}
use Rattle.fst_records.specs.Parts.{Part, part_by, parts_by}
use Rattle.fst_records.proofs.Entries.{trace_at, sides_send}
use Rattle.fst_records.proofs.Shown.{parts_push}

-- ---- logs

-- where the part of an entry counts what its answer does and what is exchanged there
module _ (w : Part → ℕ) (v : Answer → ℕ) (x : Exchange → ℕ)
    (entry : (path : Path) (t : Task) (clock stamp : ℕ) (q : Request) (a : Answer) → IsAnswered path t stamp q a →
    part_by w path (record { asked = q; answer = a; stamp = stamp }) ≡ v a + sum_by x (exchanged_by clock stamp q a)) where
  -- what the answers of a log count
  abbrev pub answers_by : List LogEntry → ℕ
  answers_by es = sum_by (λ (e : LogEntry). v e.answer) es

  log_counts : (m : Program) (path : Path) (t : Task) (es : List LogEntry) (u : Task) → Follows m path t es u →
      sum_by (part_by w path) es ≡ answers_by es + sum_by x (exchanges t.clock es)
  log_counts m path t [] u f = refl
  log_counts m path t (e ∷ es) u f =
      let a = sum_by-cons (part_by w path) e es in
      let b = sum_by-cons (λ (e : LogEntry). v e.answer) e es in
      let c = sum_by-append x (exchanged_by t.clock e.stamp e.asked e.answer) (exchanges e.stamp es) in
      let d = entry path t t.clock e.stamp e.asked e.answer f.0.is_answered in
      let ih = log_counts m path (after_entry m t e) es u f.1 in
      omega (arith, a, b, c, d, ih)

  -- so the parts of all logs count what their answers do and what they exchange
  pub parts_count : (m : Program) (types : List Tree) (ys : List Course) → All (IsLogged m types) ys →
      sum_by (parts_by w) ys ≡ sum_by (λ (y : Course). answers_by y.log) ys + sum_by (trades x) ys
  parts_count m types [] logs = refl
  parts_count m types (y ∷ ys) logs =
      let a = sum_by-cons (parts_by w) y ys in
      let b = sum_by-cons (λ (y : Course). answers_by y.log) y ys in
      let c = sum_by-cons (trades x) y ys in
      let d = log_counts m y.path y.first y.log y.now (All-head (IsLogged m types) y ys logs).follows in
      let ih = parts_count m types ys (All-tail (IsLogged m types) y ys logs) in
      omega (arith, a, b, c, d, ih)

-- ---- histories

module _ (c : ChannelName → ℕ → Bool) where
  -- 1 for what is got over a channel at a stamp that pass the test
  abbrev pub received : Exchange → ℕ
  received g = once (not g.sends && c g.end.channel g.stamp)

  -- 1 for an entry whose channel and stamp pass it
  abbrev pub passing : ChannelName → Entry → ℕ
  passing h d = once (c h d.stamp)

  part_counts : (x : EndName) (b : Bool) (d : Entry) → received (part_in x b d) ≡ once (not b && c x.channel d.stamp)
  part_counts x true d = refl
  part_counts x false d = refl

  one_gets : (a b d : Bool) → a ≡ not b → once (not a && d) + once (not b && d) ≡ once d
  one_gets a true d q = let e = ap (λ a. once (not a && d)) q in omega (arith, e)
  one_gets a false d q = let e = ap (λ a. once (not a && d)) q in omega (arith, e)

  module _ (h : ChannelName) (t : Tree) where
    -- both sides together get each of these entries once
    abbrev Receipts : List Entry → Type 0
    Receipts es = IsSome (after_history t es) →
        sum_by received (shown_of h Left t es) + sum_by received (shown_of h Right t es) ≡ sum_by (passing h) es

    one_more : (before : List Entry) (d : Entry) → Receipts before → Receipts (before ++ d ∷ [])
    unfolding residual
    one_more before d more some =
        let r = trace_at t before d [] some in
        let a = more (subst IsSome (sym r.1) refl) in
        let l : EndName = record { channel = h; side = Left } in
        let o : EndName = record { channel = h; side = Right } in
        let left = sends (residual Left t before) d.event in
        let right = sends (residual Right t before) d.event in
        let b = parts_push received l (Some (side_type Left t)) before d in
        let c1 = parts_push received o (Some (side_type Right t)) before d in
        let e = part_counts l left d in
        let f = part_counts o right d in
        let i = one_gets left right (c h d.stamp) (sides_send t before r.0 d.event r.1 r.2) in
        let j = sum_by_push (passing h) before d in
        omega (arith, a, b, c1, e, f, i, j)

    receipts_by : (n : ℕ) (es : List Entry) → length es ≡ n →
        (es ≡ []) ⊎ ((fs : List Entry) × (d : Entry) × (es ≡ fs ++ d ∷ [])) →
        Receipts es
    receipts_by n es l (inl q) = subst Receipts (sym q) (λ s. refl)
    receipts_by zero es l (inr (fs, d, q)) = let b = ap length q in let c1 = length-push fs d in absurd (omega (arith, b, c1, l))
    receipts_by (suc n) es l (inr (fs, d, q)) =
        subst Receipts (sym q)
        (one_more fs d (receipts_by n fs (let b = ap length q in let c1 = length-push fs d in omega (arith, b, c1, l))
        (snoc_view fs)))

  -- so it is with a history
  pub receipts : (k : ChannelHistory) → IsRecorded k → shows received k ≡ sum_by (passing k.name) k.entries.items
  receipts k r = receipts_by k.name k.declared (length k.entries.items) k.entries.items refl (snoc_view k.entries.items) r.trace
