-- Where two tasks meet, a record that fits becomes one with one more event.
use Rattle.std.proofs.Common.{◌≡◌, ◌∙◌, ℕ, suc, ◌+◌, ◌^◌, ◌<◌, Bool, true, false, not, List, [], ◌∷◌, ◌++◌, length, Some, IsSome, refl, sym, ap, arith}
use Rattle.std.specs.Prelude.{All}
use Rattle.std.specs.Global.{Vec}
use Rattle.std.proofs.lemmas.List.{append_assoc}
use Rattle.fst_base.proofs.Bools.{not_true}
use Rattle.fst_base.proofs.Lists.{length-push}
use Rattle.fst_types.specs.Tree.{Tree}
use Rattle.fst_types.specs.declared.side.Side.{Side}
use Rattle.fst_types.specs.declared.side.Side.TheVariants.{Left, Right}
use Rattle.fst_lts.specs.Histories.{after_history, opposite, side_type}
use Rattle.fst_types.specs.declared.ends.ChannelName.{ChannelName}
use Rattle.fst_types.specs.declared.ends.EndName.{EndName}
use Rattle.fst_types.specs.declared.event.ChannelHistory.{ChannelHistory}
use Rattle.fst_types.specs.declared.event.Entry.{Entry}
use Rattle.fst_types.specs.declared.event.Event.{Event}
use Rattle.fst_machine.specs.declared.request.Request.TheVariants.{Put, Get}
use Rattle.fst_machine.specs.declared.request.Answer.TheVariants.{Sent, Got}
use Rattle.fst_machine.specs.Machine.{Program, State, request, answered, or_lost}
use Rattle.fst_runs.specs.Configs.{Path, Task, Channel, same_path, other, channel_residual}
use Rattle.fst_runs.specs.Events.{meeting_stamp, extended, has_met, passed}
use Rattle.fst_runs.specs.Notes.{Note, entries_at}
use Rattle.fst_runs.specs.declared.log.LogEntry.{LogEntry}
use Rattle.fst_runs.proofs.Laws.{put, with_task, with_channel, entries_at-append}
use Rattle.fst_lts.specs.Residuals.{residual, sends}
use Rattle.fst_lts.proofs.Laws.{stamped_push}
use Rattle.fst_runs.specs.Logs.{Birth, Exchange, part_in}
use Rattle.fst_records.specs.Records.{Course, log_of, config_of, FitsRecord, IsLogged, IsRecorded, shows}
use Rattle.fst_records.specs.Growing.{events_of, IsRecordOf}
use Rattle.fst_records.proofs.Entries.{sides_send, trace_at}
use Rattle.fst_records.proofs.Extending.{Grows, grown, entries_of, entry, noted, one, ones, ones_logged, ones_are, ones_bear, ones_open, ones_trade, ones_happen, ones_tasks, ones_logs}
use Rattle.fst_records.proofs.Found.{channel_of}
use Rattle.fst_records.proofs.Placing.{IsAt, IsChannelAt, sum_swapped, one_swapped, all_swapped}
use Rattle.fst_records.proofs.Shown.{parts_push}

-- ---- one more entry

-- a list of entries with one more
abbrev pub pushed : (v : Vec Entry) (d : Entry) → length v.items + 1 < 2 ^ 63 → Vec Entry
pushed v d few = record {
  ptr = v.ptr;
  len = length (v.items ++ d ∷ []);
  cap = length (v.items ++ d ∷ []);
  alloc = v.alloc;
  items = v.items ++ d ∷ [];
  ok = (refl, omega arith);
  small = let a = length-push v.items d in omega (arith, a, few);
}

-- a history with one more entry
abbrev pub pushed_on : (k : ChannelHistory) (d : Entry) → length k.entries.items + 1 < 2 ^ 63 → ChannelHistory
pushed_on k d few = record { name = k.name; declared = k.declared; entries = pushed k.entries d few }

-- whether a side sends the event behind a history
abbrev pub side_sends : Channel → Event → Side → Bool
side_sends k ev s = sends (channel_residual s k) ev

shows_push : (w : Exchange → ℕ) (k : ChannelHistory) (d : Entry) (few : length k.entries.items + 1 < 2 ^ 63) →
    shows w (pushed_on k d few) ≡ shows w k +
    (w (part_in (record { channel = k.name; side = Left }) (side_sends (channel_of k) d.event Left) d)
    + w (part_in (record { channel = k.name; side = Right }) (side_sends (channel_of k) d.event Right) d))
shows_push w k d few =
    let a = parts_push w (record { channel = k.name; side = Left }) (Some (side_type Left k.declared)) k.entries.items d in
    let b = parts_push w (record { channel = k.name; side = Right }) (Some (side_type Right k.declared)) k.entries.items d in
    omega (arith, a, b)

-- the parts of who sends and of who gets
abbrev put_part : ChannelName → Side → Entry → Exchange
put_part h s d = record { end = record { channel = h; side = s }; sends = true; event = d.event; stamp = d.stamp; clock = d.sent }

abbrev get_part : ChannelName → Side → Entry → Exchange
get_part h s d = record {
  end = record { channel = h; side = opposite s };
  sends = false;
  event = d.event;
  stamp = d.stamp;
  clock = d.got;
}

both_parts : (w : Exchange → ℕ) (h : ChannelName) (s : Side) (f : Side → Bool) (d : Entry) → f s ≡ true → f (opposite s) ≡ false →
    w (part_in (record { channel = h; side = Left }) (f Left) d) + w
    (part_in (record { channel = h; side = Right }) (f Right) d) ≡ w (put_part h s d) + w (get_part h s d)
both_parts w h Left f d y n =
    let a = ap (λ b. w (part_in (record { channel = h; side = Left }) b d)) y in
    let c = ap (λ b. w (part_in (record { channel = h; side = Right }) b d)) n in
    omega (arith, a, c)
both_parts w h Right f d y n =
    let a = ap (λ b. w (part_in (record { channel = h; side = Right }) b d)) y in
    let c = ap (λ b. w (part_in (record { channel = h; side = Left }) b d)) n in
    omega (arith, a, c)

other_side : (f : Side → Bool) → f Left ≡ not (f Right) → (s : Side) → f s ≡ true → f (opposite s) ≡ false
other_side f e Left y = not_true (f Right) (sym y ∙ e)
other_side f e Right y = e ∙ ap not y

-- the other side doesn't send what the one sends, where the history goes on with that
one_side : (k : Channel) (d : Entry) → IsSome (after_history k.declared (k.history ++ d ∷ [])) →
    (s : Side) → side_sends k d.event s ≡ true →
    side_sends k d.event (opposite s) ≡ false
unfolding residual
one_side k d h s y =
    let r = trace_at k.declared k.history d [] h in
    other_side (side_sends k d.event) (sides_send k.declared k.history r.0 d.event r.1 r.2) s y

-- ---- a record

module _ (m : Program) (types : List Tree) (main : Birth) (ys : List Course) (ks : List ChannelHistory)
    (fits : FitsRecord m types main ys ks) (p q : Path) (t u : Task) (x : EndName) (ev : Event) (s v : State) (k : Channel)
    (c : IsChannelAt x.channel ks k) where
  -- the stamp of what passes, and its entry
  abbrev pub meet_stamp : ℕ
  meet_stamp = meeting_stamp t u (channel_of c.channel)

  abbrev pub meet_entry : Entry
  meet_entry = passed ev t u (channel_of c.channel)

  module _ (a : IsAt p ys t) (puts_it : request m.families t.state ≡ Some (Put x ev))
      (sent : answered m t.state Sent ≡ Some s) where
    -- the courses once the one task was told that it was sent
    abbrev pub put_ones : List Course
    put_ones = ones m types ys fits.logs p t a (Put x ev) Sent meet_stamp

    pub put_now : (one m types ys fits.logs p t a (Put x ev) Sent meet_stamp).now ≡ has_met t s meet_stamp
    put_now = λ i. record {
      state = or_lost ((ap (λ (o : Task). answered m o.state Sent) a.now ∙ sent) i);
      made = (a.now i).made;
      forked = (a.now i).forked;
      clock = meet_stamp;
    }

    pub put_logged : All (IsLogged m types) put_ones
    put_logged = ones_logged m types ys fits.logs p t a (Put x ev) Sent meet_stamp (record {
      asked = ap (λ (o : Task). request m.families o.state) a.now ∙ puts_it;
      is_answered = let e = ap (λ (o : Task). o.clock) a.now in omega (arith, e);
      state = s;
      leads = ap (λ (o : Task). answered m o.state Sent) a.now ∙ sent;
    }) (omega arith)

    module _ (b : IsAt q put_ones u) (gets_it : request m.families u.state ≡ Some (Get (other x)))
        (got : answered m u.state (Got ev) ≡ Some v)
        (sends_it : side_sends (channel_of c.channel) ev x.side ≡ true)
        (trace : IsSome (after_history c.channel.declared (c.channel.entries.items ++ meet_entry ∷ [])))
        (early : t.clock < 2 ^ 63) (soon : u.clock < 2 ^ 63) (few : length c.channel.entries.items + 1 < 2 ^ 63) where
      -- and once the other task got it
      abbrev get_ones : List Course
      get_ones = ones m types put_ones put_logged q u b (Get (other x)) (Got ev) meet_stamp

      get_now : (one m types put_ones put_logged q u b (Get (other x)) (Got ev) meet_stamp).now ≡ has_met u v meet_stamp
      get_now = λ i. record {
        state = or_lost ((ap (λ (o : Task). answered m o.state (Got ev)) b.now ∙ got) i);
        made = (b.now i).made;
        forked = (b.now i).forked;
        clock = meet_stamp;
      }

      -- the channel
      abbrev met_channel : ChannelHistory
      met_channel = pushed_on c.channel meet_entry few

      abbrev met_channels : List ChannelHistory
      met_channels = c.with met_channel

      abbrev was_recorded : IsRecorded c.channel
      was_recorded = one_swapped IsRecorded ks met_channels c.channel met_channel (c.swaps met_channel) fits.histories

      met_recorded : IsRecorded met_channel
      met_recorded = record {
        formed = was_recorded.formed;
        trace = trace;
        stamped = stamped_push c.channel.entries.items meet_entry was_recorded.stamped (omega arith) early soon;
      }

      met_shows : (w : Exchange → ℕ) → shows w met_channel ≡ shows w c.channel
          + (w (put_part x.channel x.side meet_entry) + w (get_part x.channel x.side meet_entry))
      met_shows w =
          let d = shows_push w c.channel meet_entry few in
          let e = both_parts w c.channel.name x.side (side_sends (channel_of c.channel) ev) meet_entry sends_it
          (one_side (channel_of c.channel) meet_entry trace x.side sends_it) in
          let f = ap (λ (h : ChannelName). w (put_part h x.side meet_entry) + w (get_part h x.side meet_entry)) c.name in
          omega (arith, d, e, f)

      meet_grows : Grows m types ys ks get_ones met_channels
      meet_grows = record {
        born = λ w. 0;
        opened = λ w. 0;
        passed = λ w. w (put_part x.channel x.side meet_entry) + w (get_part x.channel x.side meet_entry);
        births = λ w.
            let d = ones_are m types ys fits.logs p t a (Put x ev) Sent meet_stamp w in
            let e = ones_are m types put_ones put_logged q u b (Get (other x)) (Got ev) meet_stamp w in
            omega (arith, d, e);
        bears = λ w.
            let d = ones_bear m types ys fits.logs p t a (Put x ev) Sent meet_stamp w in
            let e = ones_bear m types put_ones put_logged q u b (Get (other x)) (Got ev) meet_stamp w in
            omega (arith, d, e);
        logs = ones_logged m types put_ones put_logged q u b (Get (other x)) (Got ev) meet_stamp (record {
          asked = ap (λ (o : Task). request m.families o.state) b.now ∙ gets_it;
          is_answered = let e = ap (λ (o : Task). o.clock) b.now in omega (arith, e);
          state = v;
          leads = ap (λ (o : Task). answered m o.state (Got ev)) b.now ∙ got;
        }) (omega arith);
        channels = λ w.
            let d = sum_swapped (λ (k : ChannelHistory). w k.name k.declared) ks met_channels c.channel met_channel
            (c.swaps met_channel) in
            omega (arith, d);
        opens = λ w.
            let d = ones_open m types ys fits.logs p t a (Put x ev) Sent meet_stamp w in
            let e = ones_open m types put_ones put_logged q u b (Get (other x)) (Got ev) meet_stamp w in
            omega (arith, d, e);
        shows = λ w.
            let d = sum_swapped (shows w) ks met_channels c.channel met_channel (c.swaps met_channel) in
            let e = met_shows w in
            omega (arith, d, e);
        trades = λ w.
            let d = ones_trade m types ys fits.logs p t a (Put x ev) Sent meet_stamp w in
            let e = ones_trade m types put_ones put_logged q u b (Get (other x)) (Got ev) meet_stamp w in
            let f = ap (λ (o : Task). w (record { end = x; sends = true; event = ev; stamp = meet_stamp; clock = o.clock }))
            a.now in
            let g = ap (λ (o : Task). w (record {
              end = other x;
              sends = false;
              event = ev;
              stamp = meet_stamp;
              clock =
                  o.clock;
            })) b.now in
            omega (arith, d, e, f, g);
        histories = all_swapped IsRecorded ks met_channels c.channel met_channel
            (c.swaps met_channel) fits.histories met_recorded;
      }

      -- what the logs gain
      abbrev meet_notes : List Note
      meet_notes = noted p (entry (Put x ev) Sent meet_stamp) ++ noted q (entry (Get (other x)) (Got ev) meet_stamp)

      meet_logs : (o : Path) → log_of get_ones o ≡ log_of ys o ++ entries_at o meet_notes
      meet_logs o =
          ones_logs m types put_ones put_logged q u b (Get (other x)) (Got ev) meet_stamp o
          ∙ ap (λ (l : List LogEntry). l ++ entries_at o (noted q (entry (Get (other x)) (Got ev) meet_stamp)))
          (ones_logs m types ys fits.logs p t a (Put x ev) Sent meet_stamp o)
          ∙ append_assoc (log_of ys o) (entries_at o (noted p (entry (Put x ev) Sent meet_stamp)))
          (entries_at o (noted q (entry (Get (other x)) (Got ev) meet_stamp)))
          ∙ ap (λ (l : List LogEntry). log_of ys o ++ l)
          (sym (entries_at-append o (noted p (entry (Put x ev) Sent meet_stamp))
          (noted q (entry (Get (other x)) (Got ev) meet_stamp))))

      -- the record with one more event
      pub meet_extends : IsRecordOf m types main
          (with_task (with_task (with_channel (config_of ys ks) x.channel (extended (channel_of c.channel) meet_entry)) p
          (has_met t s meet_stamp)) q (has_met u v meet_stamp))
          (suc (events_of ys ks)) (λ o. log_of ys o ++ entries_at o meet_notes)
      meet_extends = record {
        tasks = get_ones;
        channels = met_channels;
        fits = grown m types main ys ks get_ones met_channels fits meet_grows;
        config = λ i. record {
          tasks = λ o.
              (ones_tasks m types put_ones put_logged q u b (Get (other x)) (Got ev) meet_stamp (has_met u v meet_stamp) get_now o
              ∙ ap (λ z. put (same_path q o) (has_met u v meet_stamp) z)
              (ones_tasks m types ys fits.logs p t a (Put x ev) Sent meet_stamp (has_met t s meet_stamp) put_now o)) i;
          channels = λ g. c.puts met_channel c.name g i;
        };
        events =
            let d = ones_happen m types ys fits.logs p t a (Put x ev) Sent meet_stamp in
            let e = ones_happen m types put_ones put_logged q u b (Get (other x)) (Got ev) meet_stamp in
            let f = sum_swapped entries_of ks met_channels c.channel met_channel (c.swaps met_channel) in
            let g = length-push c.channel.entries.items meet_entry in
            omega (arith, d, e, f, g);
        logged = meet_logs;
      }
