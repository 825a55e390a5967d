-- The last entries of histories, and what a record's exchanges are there.
use Rattle.std.proofs.Common.{◌≡◌, ◌∙◌, ◌<◌, ◌≤◌, ℕ, ◌+◌, List, [], ◌∷◌, ◌++◌, length, Bool, true, false, Some, IsSome, refl, sym, ap, subst, arith}
use Rattle.std.specs.Prelude.{sum_by, Contains}
use Rattle.std.specs.Global.{Vec}
use Rattle.std.proofs.lemmas.List.{append_assoc}
use Rattle.std.proofs.lemmas.List.Elements.{All-contains}
use Rattle.fst_base.proofs.Lists.{length-push}
use Rattle.fst_types.specs.Tree.{Tree}
use Rattle.fst_types.specs.declared.side.Side.{Side}
use Rattle.fst_types.specs.declared.side.Side.TheVariants.{Left, Right}
use Rattle.fst_types.specs.declared.event.ChannelHistory.{ChannelHistory}
use Rattle.fst_types.specs.declared.event.Entry.{Entry}
use Rattle.fst_lts.specs.Histories.{after_history, opposite, side_type}
use Rattle.fst_lts.specs.Residuals.{residual}
use Rattle.fst_lts.specs.Stamps.{AreStamped}
use Rattle.fst_machine.specs.Machine.{Program}
use Rattle.fst_runs.specs.Logs.{Birth, Exchange}
use Rattle.fst_records.specs.Records.{Course, FitsRecord, IsLogged, IsRecorded, shows, shown_of}
use Rattle.fst_records.specs.Entries.{part_at}
use Rattle.fst_records.proofs.Entries.{corresponds, trace_at}
use Rattle.fst_records.proofs.Exchanges.{ExchangedAt, exchange_at, part_at_says}
use Rattle.fst_records.proofs.Lists.{IsAmong, among, all_one}
use Rattle.fst_records.proofs.LogEntries.{AreBy, entry_by}
use Rattle.fst_records.proofs.Shown.{parts_push}

-- ---- stamps

-- an entry's stamp is above that of the one before it
stamped_next : (b : ℕ) (before : List Entry) (d e : Entry) (behind : List Entry) → AreStamped b (before ++ d ∷ e ∷ behind) →
    d.stamp < e.stamp
stamped_next b [] d e behind s = let a = s.3.0 in omega (arith, a)
stamped_next b (c ∷ before) d e behind s = stamped_next c.stamp before d e behind s.3

-- the entries in front are stamped
stamped_front : (b : ℕ) (before : List Entry) (behind : List Entry) → AreStamped b (before ++ behind) → AreStamped b before
stamped_front b [] behind s = tt
stamped_front b (c ∷ before) behind s = (s.0, s.1, s.2, stamped_front c.stamp before behind s.3)

-- one of the courses exchanged this at an entry of its log
pub record Exchanges (m : Program) (ys : List Course) (g : Exchange) : Type 0 where
  pub course : Course
  pub place : IsAmong ys course
  pub exchanged : ExchangedAt m course.path course.first course.log course.now g

module _ (m : Program) (types : List Tree) (main : Birth) (ys : List Course) (ks : List ChannelHistory)
    (fits : FitsRecord m types main ys ks) where
  -- each side's part in an entry of a history was exchanged
  pub exchanges_part : (k : ChannelHistory) → Contains ks k → (s : Side) (before : List Entry) (d : Entry) (behind : List Entry) →
      k.entries.items ≡ before ++ d ∷ behind → Exchanges m ys (part_at k s before d)
  exchanges_part k there s before d behind is =
      let x = (corresponds m types main ys ks fits).exchanged k s before d behind there is in
      let y = x.task in
      let place = among ys y x.there in
      record {
        course = y;
        place = place;
        exchanged = exchange_at m y.path y.first y.log y.now (part_at k s before d)
            (all_one (IsLogged m types) place fits.logs).follows x.logged;
      }

  module _ (n : ℕ) (by : AreBy n ys) (k : ChannelHistory) (there : Contains ks k) where
    -- no entry's stamp is over n where no stamp of the logs is
    history_by : (before : List Entry) (d : Entry) (behind : List Entry) → k.entries.items ≡ before ++ d ∷ behind → d.stamp ≤ n
    history_by before d behind is =
        let x = exchanges_part k there Left before d behind is in
        let a = entry_by by x.place x.exchanged.at.place x.exchanged.at.enters in
        let b = x.exchanged.trade.stamp_is in
        let c = (part_at_says k Left before d (part_at k Left before d) refl).stamp in
        omega (arith, a, b, c)

    -- so one with the stamp n is the last one
    pub history_last : (before : List Entry) (d : Entry) (behind : List Entry) → k.entries.items ≡ before ++ d ∷ behind →
        n ≤ d.stamp →
        behind ≡ []
    history_last before d [] is l = refl
    history_last before d (e ∷ behind) is l =
        let r = All-contains IsRecorded ks k fits.histories there in
        let a = stamped_next 0 before d e behind (subst (AreStamped 0) is r.stamped) in
        let b = history_by (before ++ d ∷ []) e behind (is ∙ sym (append_assoc before (d ∷ []) (e ∷ behind))) in
        absurd (omega (arith, a, b, l))

-- ---- a history without its last entry

-- a list of entries without the last one
abbrev popped : (v : Vec Entry) (before : List Entry) (d : Entry) → v.items ≡ before ++ d ∷ [] → Vec Entry
popped v before d is = record {
  ptr = v.ptr;
  len = length before;
  cap = length before;
  alloc = v.alloc;
  items = before;
  ok = (refl, omega arith);
  small =
      let a = v.small in
      let b = v.ok.0 in
      let c = v.ok.1 in
      let e = ap length is in
      let f = length-push before d in
      omega (arith, a, b, c, e, f);
}

-- the history without it
abbrev pub shorter_history : (k : ChannelHistory) (before : List Entry) (d : Entry) → k.entries.items ≡ before ++ d ∷ [] →
    ChannelHistory
shorter_history k before d is = record { name = k.name; declared = k.declared; entries = popped k.entries before d is }

-- it is a trace with its stamps
pub recorded_shorter : (k : ChannelHistory) (before : List Entry) (d : Entry) (is : k.entries.items ≡ before ++ d ∷ []) →
    IsRecorded k →
    IsRecorded (shorter_history k before d is)
recorded_shorter k before d is r =
    let t = trace_at k.declared before d [] (subst (λ l. IsSome (after_history k.declared l)) is r.trace) in
    record {
      formed = r.formed;
      trace = subst IsSome (sym t.1) refl;
      stamped = stamped_front 0 before (d ∷ []) (subst (AreStamped 0) is r.stamped);
    }

-- what passed is what passed before the last entry, and the parts of both sides in it
pub shows_shorter : (w : Exchange → ℕ) (k : ChannelHistory) (before : List Entry) (d : Entry)
    (is : k.entries.items ≡ before ++ d ∷ []) →
    shows w k ≡ shows w (shorter_history k before d is) + (w (part_at k Left before d) + w (part_at k Right before d))
unfolding residual
shows_shorter w k before d is =
    let a = ap (λ (h : List Entry). sum_by w (shown_of k.name Left k.declared h)) is in
    let b = ap (λ (h : List Entry). sum_by w (shown_of k.name Right k.declared h)) is in
    let c = parts_push w (record { channel = k.name; side = Left }) (Some (side_type Left k.declared)) before d in
    let e = parts_push w (record { channel = k.name; side = Right }) (Some (side_type Right k.declared)) before d in
    omega (arith, a, b, c, e)

-- both sides, whichever is named first
pub either_side : (f : Side → ℕ) (s : Side) → f Left + f Right ≡ f s + f (opposite s)
either_side f Left = refl
either_side f Right = omega arith

-- where one side does and the other doesn't, it is the opposite one
pub other_side : (f : Side → Bool) (s u : Side) → f s ≡ true → f u ≡ false → u ≡ opposite s
other_side f Left Left a b = absurd (cc (sym a ∙ b))
other_side f Left Right a b = refl
other_side f Right Left a b = refl
other_side f Right Right a b = absurd (cc (sym a ∙ b))
