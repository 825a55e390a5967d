-- Two tasks that meet in a record's last event.
use Rattle.std.proofs.Common.{◌≡◌, ◌∙◌, ℕ, zero, suc, List, [], ◌∷◌, ◌++◌, refl, ap, arith}
use Rattle.std.specs.Prelude.{All}
use Rattle.std.proofs.lemmas.List.{append_assoc}
use Rattle.fst_types.specs.Tree.{Tree}
use Rattle.fst_types.specs.declared.ends.ChannelName.{ChannelName}
use Rattle.fst_machine.specs.Machine.{Program}
use Rattle.fst_runs.specs.declared.log.LogEntry.{LogEntry}
use Rattle.fst_runs.specs.Configs.{Path}
use Rattle.fst_records.specs.Records.{Course, IsLogged}
use Rattle.fst_records.specs.Parts.{Part, sent, got}
use Rattle.fst_records.proofs.Codes.{just, just_same, part_code}
use Rattle.fst_records.proofs.Deeds.{HasSent, HasGot, has_done}
use Rattle.fst_records.proofs.LogEntries.{AreBy, is_entry, last_by}
use Rattle.fst_records.proofs.Lasts.{Last, HasLast, has_last, AreApart, one_by_path, cut, Shortened, shortened}
use Rattle.fst_records.proofs.Lists.{all_one}
use Rattle.fst_records.proofs.Stamps.{after}
use Rattle.fst_records.proofs.Undoing.{HasPart, last_part}

-- the part of the task that sends
abbrev pub sent_part : Path → ChannelName → ℕ → Part
sent_part p h n = record { path = p; deed = sent h; stamp = n }

-- and of the one that gets
abbrev pub got_part : Path → ChannelName → ℕ → Part
got_part q h n = record { path = q; deed = got h; stamp = n }

-- the one task's last entry sends, and among the logs without it the other one's last entry gets
pub record MetTasks (m : Program) (types : List Tree) (ys : List Course) (p q : Path) (h : ChannelName) (n : ℕ) : Type 0 where
  pub sender : HasLast m ys (sent_part p h n)
  pub sends : HasSent h sender.entry.asked sender.entry.answer
  pub others : Shortened m types ys sender.course sender.entry sender.last
  pub receiver : HasLast m others.courses (got_part q h n)
  pub gets : HasGot h receiver.entry.asked receiver.entry.answer
  pub rest : Shortened m types others.courses receiver.course receiver.entry receiver.last
  -- they are two
  pub apart : receiver.course.path ≡ sender.course.path → ⊥

-- what is sent isn't got
apart_parts : (p q : Path) (h : ChannelName) (n k : ℕ) → just part_code (got_part q h n) (sent_part p h n) ≡ k → k ≡ 0
apart_parts p q h n zero e = refl
apart_parts p q h n (suc k) e =
    let f : got h ≡ sent h =
    ap (λ (r : Part). r.deed) (just_same part_code (got_part q h n) (sent_part p h n) (omega (arith, e))) in
    absurd (cc f)

module _ (m : Program) (types : List Tree) (ys : List Course) (logs : All (IsLogged m types) ys) (one : AreApart ys)
    (p q : Path) (h : ChannelName) (n : ℕ) (has_sent : HasPart ys (sent_part p h n)) (has_got : HasPart ys (got_part q h n))
    (by : AreBy n ys) where
  -- the course that sends, its last entry, and the courses without it
  there : HasLast m ys (sent_part p h n)
  there = has_last m types ys (sent_part p h n) logs by has_sent

  abbrev y : Course
  y = there.course

  abbrev e : LogEntry
  e = there.entry

  abbrev l : Last m y e
  l = there.last

  back : Shortened m types ys y e l
  back = shortened m types ys logs one there.place l

  abbrev xs : List Course
  xs = back.courses

  xs_by : AreBy n xs
  xs_by = let a = back.parts (after n) in omega (arith, a, by)

  -- the course that gets, and its last entry
  also : HasLast m xs (got_part q h n)
  also = has_last m types xs (got_part q h n) back.logs xs_by
      (let a = back.parts (just part_code (got_part q h n)) in
      let b = last_part (just part_code (got_part q h n)) there in
      let c = apart_parts p q h n _ refl in
      omega (arith, has_got, a, b, c))

  abbrev z : Course
  z = also.course

  abbrev g : LogEntry
  g = also.entry

  abbrev k : Last m z g
  k = also.last

  -- two entries of one log don't have one stamp that no other is over
  apart : z.path ≡ y.path → ⊥
  apart same =
      let e1 : cut l ≡ z = one_by_path back.apart back.place also.place same in
      let f : l.log ≡ k.log ++ g ∷ [] = ap (λ (y : Course). y.log) e1 ∙ k.is in
      let a : y.log ≡ k.log ++ g ∷ e ∷ [] =
      l.is ∙ ap (λ (l : List LogEntry). l ++ e ∷ []) f ∙ append_assoc k.log (g ∷ []) (e ∷ []) in
      let at = is_entry m y.path y.first y.log y.now (all_one (IsLogged m types) there.place logs).follows
      {e = g} (record { before = k.log; behind = e ∷ []; is = a }) in
      let c = also.stamp in
      let none : e ∷ [] ≡ [] = last_by by there.place at (omega (arith, c)) in
      absurd (cc none)

  -- the two tasks whose parts these are
  pub met_tasks : MetTasks m types ys p q h n
  met_tasks = record {
    sender = there;
    sends = has_done y.path l.before e.stamp e.asked e.answer (sent h) l.enters.is_answered there.deed;
    others = back;
    receiver = also;
    gets = has_done z.path k.before g.stamp g.asked g.answer (got h) k.enters.is_answered also.deed;
    rest = shortened m types xs back.logs back.apart also.place k;
    apart = apart;
  }
