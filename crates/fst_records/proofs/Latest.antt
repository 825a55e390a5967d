-- The latest parts of a record: no stamp is over theirs, and those who exchange something have each other.
use Rattle.std.proofs.Common.{◌≡◌, ◌∙◌, ◌<◌, ◌≤◌, ℕ, zero, suc, ◌+◌, List, [], ◌∷◌, Bool, true, false, not, refl, sym, ap, subst, arith}
use Rattle.std.specs.Prelude.{sum_by, nat_eq, nat_lt}
use Rattle.std.proofs.lemmas.Bool.Decides.{nat_tests}
use Rattle.std.proofs.lemmas.List.Sums.{sum_by-append, sum_by-cons}
use Rattle.fst_types.specs.Tree.{Tree}
use Rattle.fst_types.specs.declared.side.Side.{Side}
use Rattle.fst_types.specs.declared.side.Side.TheVariants.{Left, Right}
use Rattle.fst_types.specs.declared.ends.ChannelName.{ChannelName}
use Rattle.fst_types.specs.declared.ends.EndName.{EndName}
use Rattle.fst_types.specs.declared.event.ChannelHistory.{ChannelHistory}
use Rattle.fst_lts.specs.Histories.{opposite}
use Rattle.fst_lts.specs.Residuals.{residual, sends}
use Rattle.fst_machine.specs.Machine.{Program}
use Rattle.fst_runs.specs.declared.event.CoreEvent.{CoreEvent}
use Rattle.fst_runs.specs.declared.event.CoreEvent.TheVariants.{Local, New, Fork, Meet}
use Rattle.fst_runs.specs.declared.log.LogEntry.{LogEntry}
use Rattle.fst_runs.specs.Configs.{Path}
use Rattle.fst_runs.specs.Logs.{Birth, Exchange, exchanged_by, exchanges}
use Rattle.fst_runs.specs.Wrong.{once}
use Rattle.fst_records.specs.Records.{Course, trades, FitsRecord}
use Rattle.fst_records.specs.Entries.{part_at}
use Rattle.fst_records.specs.Parts.{Deed, stepped, made, forked, sent, got, Part, deeds, part_by, parts_by, parts_of}
use Rattle.fst_records.proofs.Codes.{just, just_itself, part_code, exchange_code}
use Rattle.fst_records.proofs.Deeds.{has_done}
use Rattle.fst_records.proofs.Entries.{corresponds, stands}
use Rattle.fst_records.proofs.Exchanges.{exchange_deed, part_at_says}
use Rattle.fst_records.proofs.Histories.{exchanges_part}
use Rattle.fst_records.proofs.Lists.{IsAmong, sum_around}
use Rattle.fst_records.proofs.LogEntries.{IsIn, part_of, HasEntry, has_entry, in_sum, AreBy}
use Rattle.fst_records.proofs.Stamps.{after, same_nat, nat_itself}
use Rattle.fst_records.proofs.Sums.{exchanges_more}
use Rattle.fst_records.proofs.Undoing.{HasPart, HaveParts}

-- ---- sums

sum_three : {X : Type 0} (f g h : X → ℕ) → ((x : X) → f x ≤ g x + h x) → (xs : List X) → sum_by f xs ≤ sum_by g xs + sum_by h xs
sum_three f g h e [] = omega arith
sum_three f g h e (x ∷ xs) =
    let a = sum_by-cons f x xs in
    let b = sum_by-cons g x xs in
    let c = sum_by-cons h x xs in
    let d = e x in
    let ih = sum_three f g h e xs in
    omega (arith, a, b, c, d, ih)

-- a deed of an entry, as a part
abbrev weigh : (Part → ℕ) → Course → LogEntry → Deed → ℕ
weigh w y e d = w (part_of y e d)

parts_three : (f g h : Part → ℕ) → ((r : Part) → f r ≤ g r + h r) → (ys : List Course) →
    sum_by (parts_by f) ys ≤ sum_by (parts_by g) ys + sum_by (parts_by h) ys
parts_three f g h le ys = sum_three (parts_by f) (parts_by g) (parts_by h)
    (λ y. sum_three (part_by f y.path) (part_by g y.path) (part_by h y.path)
    (λ e. sum_three (weigh f y e) (weigh g y e) (weigh h y e) (λ d. le (part_of y e d)) (deeds e.asked e.answer)) y.log) ys

-- 1 for the stamp n
abbrev at : ℕ → Part → ℕ
at n r = once (nat_eq n r.stamp)

-- 1 for each part
abbrev pub each : Part → ℕ
each r = 1

-- ---- the latest stamp

-- a stamp that is over n is over the next number, or is it
either_later : (n k : ℕ) → once (nat_lt n k) ≤ once (nat_lt (suc n) k) + once (nat_eq (suc n) k)
either_later n k = by (nat_lt n k) refl (nat_lt (suc n) k) refl (nat_eq (suc n) k) refl
  where
    by : (b : Bool) → nat_lt n k ≡ b → (c : Bool) → nat_lt (suc n) k ≡ c → (d : Bool) → nat_eq (suc n) k ≡ d →
        once b ≤ once c + once d
    by false e c f d g = omega arith
    by true e true f d g = omega arith
    by true e false f true g = omega arith
    by true e false f false g =
        let x : n < k = grind (arith, nat_tests) in
        let y : k ≤ suc n = grind (arith, nat_tests) in
        let z : suc n ≡ k → ⊥ = λ q. differ (suc n) k q g in
        absurd (z (omega (arith, x, y)))
      where
        differ : (i j : ℕ) → i ≡ j → nat_eq i j ≡ false → ⊥
        differ i j q g = grind (arith, nat_tests)

at_first : (k : ℕ) → 1 ≤ once (nat_lt 0 k) + once (nat_eq 0 k)
at_first zero = let a = ap once (nat_itself 0) in omega (arith, a)
at_first (suc k) =
    let a : nat_lt 0 (suc k) ≡ true = grind (arith, nat_tests) in
    let b = ap once a in
    omega (arith, b)

over : (k j : ℕ) → 0 < once (nat_lt k j) → k < j
over k j h = by (nat_lt k j) refl h
  where
    by : (b : Bool) → nat_lt k j ≡ b → 0 < once b → k < j
    by true e h = grind (arith, nat_tests)
    by false e h = absurd (omega (arith, h))

equal : (i j : ℕ) → 0 < once (nat_eq i j) → j ≡ i
equal i j h = by (nat_eq i j) refl h
  where
    by : (b : Bool) → nat_eq i j ≡ b → 0 < once b → j ≡ i
    by true e h = sym (same_nat i j e)
    by false e h = absurd (omega (arith, h))

-- one of the parts has the stamp, and none a later one
record HasLatest (ys : List Course) : Type 0 where
  stamp : ℕ
  by : AreBy stamp ys
  counts : 0 < sum_by (parts_by (at stamp)) ys

latest_by : (n : ℕ) (ys : List Course) → AreBy n ys → 0 < sum_by (parts_by each) ys → HasLatest ys
latest_by n ys b h = go n b (sum_by (parts_by (at n)) ys) refl
  where
    go : (n : ℕ) → AreBy n ys → (k : ℕ) → sum_by (parts_by (at n)) ys ≡ k → HasLatest ys
    go n b (suc k) q = record { stamp = n; by = b; counts = omega (arith, q) }
    go zero b zero q = let a = parts_three each (after 0) (at 0) (λ r. at_first r.stamp) ys in absurd (omega (arith, a, b, q, h))
    go (suc n) b zero q =
        let a = parts_three (after n) (after (suc n)) (at (suc n)) (λ r. either_later n r.stamp) ys in
        go n (omega (arith, a, b, q)) (sum_by (parts_by (at n)) ys) refl

module _ (m : Program) (types : List Tree) (main : Birth) (ys : List Course) (ks : List ChannelHistory)
    (fits : FitsRecord m types main ys ks) where
  -- the sum of all stamps
  abbrev total : ℕ
  total = sum_by (parts_by (λ r. r.stamp)) ys

  -- no stamp is over the sum of all
  highest : AreBy total ys
  highest = go (sum_by (parts_by (after total)) ys) refl
    where
      go : (k : ℕ) → sum_by (parts_by (after total)) ys ≡ k → k ≡ 0
      go zero q = refl
      go (suc k) q =
          let r = has_entry m types ys fits.logs (after total) (omega (arith, q)) in
          let a = over total r.entry.stamp r.counts in
          let b = in_sum (λ r. r.stamp) r.place r.at.place r.deed r.one in
          absurd (omega (arith, a, b))

  -- ---- both sides of an exchange

  -- the part of an entry is one of the logs
  has_part : {y : Course} → IsAmong ys y → {e : LogEntry} → IsIn m y e → (d : Deed) → deeds e.asked e.answer ≡ d ∷ [] →
      HasPart ys (part_of y e d)
  has_part {y} place {e} at d q =
      let a = in_sum (just part_code (part_of y e d)) place at.place d q in
      let b = just_itself part_code (part_of y e d) in
      omega (arith, a, b)

  flipped : (f : Side → Bool) (s : Side) → f Left ≡ not (f Right) → f (opposite s) ≡ not (f s)
  flipped f Left e = turn (f Right) (f Left) e
    where
      turn : (b c : Bool) → c ≡ not b → b ≡ not c
      turn true c e = sym (ap not e)
      turn false c e = sym (ap not e)
  flipped f Right e = e

  -- a part of the other side, where one side sends over this channel at this stamp or gets
  abbrev Partner : Bool → ChannelName → ℕ → Type 0
  Partner b h n = (q : Path) × HasPart ys (record { path = q; deed = exchange_deed (not b) h; stamp = n })

  -- whatever a log says that was exchanged has its other side in some log
  partner : (g : Exchange) → 0 < sum_by (trades (just exchange_code g)) ys → Partner g.sends g.end.channel g.stamp
  partner g h =
      let s = stands m types main ys ks fits g h in
      let k = s.channel in
      let d = s.entry in
      let o = opposite s.side in
      let f = part_at k o s.before d in
      let x = exchanges_part m types main ys ks fits k s.there o s.before d s.behind s.is in
      let r = x.exchanged in
      let own = part_at_says k s.side s.before d g s.part in
      let its = part_at_says k o s.before d f refl in
      let flip = flipped (λ i. sends (residual i k.declared s.before) d.event) s.side
      ((corresponds m types main ys ks fits).one_sends k s.before d s.behind s.there s.is) in
      let n : f.sends ≡ not g.sends = its.sends_is ∙ flip ∙ ap not (sym own.sends_is) in
      let i : f.end.channel ≡ g.end.channel =
      ap (λ (x : EndName). x.channel) its.end ∙ ap (λ (x : EndName). x.channel) (sym own.end) in
      let t : f.stamp ≡ g.stamp = its.stamp ∙ sym own.stamp in
      let p = has_part x.place r.at (exchange_deed f.sends f.end.channel) r.trade.deed in (
        x.course.path,
        subst (λ (r : Part). HasPart ys r)
            (λ j. record { path = x.course.path; deed = exchange_deed (n j) (i j); stamp = (r.trade.stamp_is ∙ t) j }) p,
      )

  -- what is exchanged at an entry is exchanged by the logs
  trade_there : {y : Course} → IsAmong ys y → {e : LogEntry} (at : IsIn m y e) (g : Exchange) →
      exchanged_by at.task.clock e.stamp e.asked e.answer ≡ g ∷ [] → 0 < sum_by (trades (just exchange_code g)) ys
  trade_there {y} place {e} at g q =
      let w = just exchange_code g in
      let a = sum_around (trades w) place in
      let b = ap (λ (l : List LogEntry). sum_by w (exchanges y.first.clock l)) at.place.is in
      let c = exchanges_more w m y.path y.first at.place.before (e ∷ at.place.behind) at.task at.follows in
      let d = sum_by-append w (exchanged_by at.task.clock e.stamp e.asked e.answer) (exchanges e.stamp at.place.behind) in
      let i = ap (sum_by w) q in
      let j = just_itself exchange_code g in
      omega (arith, a, b, c, d, i, j)

  -- ---- the event of the latest parts

  -- an event whose parts are all there, and behind which no stamp is
  pub record HasEvent : Type 0 where
    pub event : CoreEvent
    pub stamp : ℕ
    pub by : AreBy stamp ys
    pub there : HaveParts ys (parts_of event stamp)

  event_of : (n : ℕ) → AreBy n ys → (r : HasEntry m ys (at n)) → r.entry.stamp ≡ n → HasEvent
  event_of n by r s = go r.deed refl
    where
      part : (d : Deed) → r.deed ≡ d → HasPart ys (record { path = r.course.path; deed = d; stamp = n })
      part d q = subst (λ (p : Part). HasPart ys p) (λ i. record { path = r.course.path; deed = q i; stamp = s i })
          (has_part r.place r.at r.deed r.one)

      with_sent : (h : ChannelName) → r.deed ≡ sent h → (c : ChannelName) → c ≡ h → Partner true c r.entry.stamp → HasEvent
      with_sent h q c e p = record {
        event = Meet r.course.path p.0 h;
        stamp = n;
        by = by;
        there = (
          part (sent h) q,
          (
            subst (λ (r : Part). HasPart ys r)
                (λ i. record { path = p.0; deed = got (e i); stamp = s i }) p.1,
            tt,
          ),
        );
      }

      with_got : (h : ChannelName) → r.deed ≡ got h → (c : ChannelName) → c ≡ h → Partner false c r.entry.stamp → HasEvent
      with_got h q c e p = record {
        event = Meet p.0 r.course.path h;
        stamp = n;
        by = by;
        there = (
          subst (λ (r : Part). HasPart ys r)
              (λ i. record { path = p.0; deed = sent (e i); stamp = s i }) p.1,
          (part (got h) q, tt),
        );
      }

      go : (d : Deed) → r.deed ≡ d → HasEvent
      go stepped q = record { event = Local r.course.path; stamp = n; by = by; there = (part stepped q, tt) }
      go made q = record { event = New r.course.path; stamp = n; by = by; there = (part made q, tt) }
      go forked q = record { event = Fork r.course.path; stamp = n; by = by; there = (part forked q, tt) }
      go (sent h) q =
          let t = r.at.task in
          let k = has_done r.course.path t r.entry.stamp r.entry.asked r.entry.answer (sent h) r.at.enters.is_answered
          (r.one ∙ ap (λ (d : Deed). d ∷ []) q) in
          let g : Exchange = record { end = k.end; sends = true; event = k.event; stamp = r.entry.stamp; clock = t.clock } in
          with_sent h q k.end.channel k.channel
          (partner g (trade_there r.place r.at g (λ i. exchanged_by t.clock r.entry.stamp (k.asked i) (k.answer i))))
      go (got h) q =
          let t = r.at.task in
          let k = has_done r.course.path t r.entry.stamp r.entry.asked r.entry.answer (got h) r.at.enters.is_answered
          (r.one ∙ ap (λ (d : Deed). d ∷ []) q) in
          let g : Exchange = record { end = k.end; sends = false; event = k.event; stamp = r.entry.stamp; clock = t.clock } in
          with_got h q k.end.channel k.channel
          (partner g (trade_there r.place r.at g (λ i. exchanged_by t.clock r.entry.stamp (k.asked i) (k.answer i))))

  -- a record whose logs have an entry has an event that is the latest
  pub has_event : 0 < sum_by (parts_by each) ys → HasEvent
  has_event h =
      let l = latest_by total ys highest h in
      let r = has_entry m types ys fits.logs (at l.stamp) l.counts in
      event_of l.stamp l.by r (equal l.stamp r.entry.stamp r.counts)
