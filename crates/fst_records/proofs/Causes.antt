-- The channel of an end that a task holds was made before: the stamp at which it was isn't later than the task's clock.
use Rattle.std.proofs.Common.{◌≡◌, ◌∙◌, ◌⊎◌, inl, inr, ◌<◌, ◌≤◌, ℕ, zero, suc, List, [], ◌∷◌, ◌++◌, Bool, true, false, refl, sym, ap, subst, arith}
use Rattle.std.proofs.lemmas.List.{append_assoc}
use Rattle.fst_types.specs.Tree.{Tree}
use Rattle.fst_types.specs.declared.ends.ChannelName.{ChannelName}
use Rattle.fst_types.specs.declared.ends.EndName.{EndName}
use Rattle.fst_types.specs.declared.event.ChannelHistory.{ChannelHistory}
use Rattle.fst_terms.specs.CoreTree.{CoreTree}
use Rattle.fst_machine.specs.declared.request.Answer.{Answer}
use Rattle.fst_machine.specs.declared.request.Answer.TheVariants.{Go, Made, Forked, Sent, Got}
use Rattle.fst_machine.specs.Machine.{Program, State, pause, or_lost, answered}
use Rattle.fst_runs.specs.declared.log.LogEntry.{LogEntry}
use Rattle.fst_runs.specs.Configs.{Task, same_channel}
use Rattle.fst_runs.specs.Logs.{Birth, Follows, after_entry}
use Rattle.fst_runs.specs.Wrong.{held_state}
use Rattle.fst_runs.proofs.Laws.{later, pause_none, after_none, child_none, same_channel-same, same_channel-itself}
use Rattle.fst_records.specs.Records.{Course, began, bears, main_birth, FitsRecord, IsLogged}
use Rattle.fst_records.proofs.Births.{Born, born_in, fork_stamp}
use Rattle.fst_records.proofs.Codes.{just, just_itself, just_same, birth_code}
use Rattle.fst_records.proofs.Dated.{clock_grows}
use Rattle.fst_records.proofs.Lists.{IsAmong, found, sum_around, all_one}
use Rattle.fst_records.proofs.LogEntries.{IsEntry}

-- one of the tasks has made the channel, at a stamp that isn't over n
pub record IsMade (ys : List Course) (h : ChannelName) (n : ℕ) : Type 0 where
  pub course : Course
  pub place : IsAmong ys course
  pub entry : LogEntry
  pub at : IsAmong course.log entry
  pub answer : entry.answer ≡ Made h
  pub stamp : entry.stamp ≤ n

-- so it is at a later clock
pub made_later : {ys : List Course} {h : ChannelName} (n k : ℕ) → n ≤ k → IsMade ys h n → IsMade ys h k
made_later n k l d = record {
  course = d.course;
  place = d.place;
  entry = d.entry;
  at = d.at;
  answer = d.answer;
  stamp = let a = d.stamp in omega (arith, a, l);
}

-- an end doesn't stand in the state, or its channel was made
abbrev pub IsCaused : List Course → EndName → State → ℕ → Type 0
IsCaused ys x s n = (held_state x s ≡ 0) ⊎ IsMade ys x.channel n

module _ (m : Program) (ys : List Course) (x : EndName) where
  -- an answer is the channel, or it isn't
  answer_or : (a : Answer) → (a ≡ Made x.channel) ⊎ (a ≡ Made x.channel → ⊥)
  answer_or Go = inr (λ e. absurd (cc e))
  answer_or (Made h) = by (same_channel h x.channel) refl
    where
      by : (b : Bool) → same_channel h x.channel ≡ b → (Made h ≡ Made x.channel) ⊎ (Made h ≡ Made x.channel → ⊥)
      by true e = inl (ap Made (same_channel-same h x.channel e))
      by false e = inr (λ q.
          let f : h ≡ x.channel = cc q in
          let g : true ≡ false = sym (same_channel-itself x.channel) ∙ ap (λ g. same_channel g x.channel) (sym f) ∙ e in
          absurd (cc g))
  answer_or Forked = inr (λ e. absurd (cc e))
  answer_or Sent = inr (λ e. absurd (cc e))
  answer_or (Got ev) = inr (λ e. absurd (cc e))

  module _ (y : Course) (place : IsAmong ys y) where
    -- along a log: what stands behind an entry is caused where it was before
    along : (done : List LogEntry) (t : Task) (es : List LogEntry) (u : Task) (rest : List LogEntry) →
        y.log ≡ done ++ (es ++ rest) →
        Follows m y.path t es u → IsCaused ys x t.state t.clock → IsCaused ys x u.state u.clock
    along done t [] u rest at f c = subst (λ (u : Task). IsCaused ys x u.state u.clock) (sym f) c
    along done t (e ∷ es) u rest at f c =
        along (done ++ e ∷ []) (after_entry m t e) es u rest (at ∙ sym (append_assoc done (e ∷ []) (es ++ rest))) f.1 (next c)
      where
        next : IsCaused ys x t.state t.clock → IsCaused ys x (or_lost (answered m t.state e.answer)) e.stamp
        next (inr d) =
            let a = later y.path t e.stamp e.asked e.answer f.0.is_answered in
            inr (made_later t.clock e.stamp (omega (arith, a)) d)
        next (inl z) = by (answer_or e.answer)
          where
            by : (e.answer ≡ Made x.channel) ⊎ (e.answer ≡ Made x.channel → ⊥) →
                IsCaused ys x (or_lost (answered m t.state e.answer)) e.stamp
            by (inl q) = inr (record {
              course = y;
              place = place;
              entry = e;
              at = record { before = done; behind = es ++ rest; is = at };
              answer = q;
              stamp = omega arith;
            })
            by (inr n) = inl (ap (λ o. held_state x (or_lost o)) f.0.leads
                ∙ after_none m x (pause m.families t.state) e.answer f.0.state f.0.leads (pause_none m.families x t.state z) n)

    -- up to an entry
    up_to : {e : LogEntry} (at : IsEntry m y.path y.first y.log y.now e) → IsCaused ys x y.first.state y.first.clock →
        IsCaused ys x at.task.state at.task.clock
    up_to {e} at = along [] y.first at.place.before at.task (e ∷ at.place.behind) at.place.is at.follows

module _ (m : Program) (types : List Tree) (main : CoreTree) (ys : List Course) (ks : List ChannelHistory)
    (fits : FitsRecord m types (main_birth main) ys ks) (x : EndName) where
  -- where a task begins before n, an end that stands there is one of a channel that was made
  abbrev FirstBy : ℕ → Type 0
  FirstBy n = (y : Course) → IsAmong ys y → y.first.clock < n → IsCaused ys x y.first.state y.first.clock

  first_born : (n : ℕ) → FirstBy n → (y z : Course) → IsAmong ys z → y.first.clock ≤ n →
      Born m z.path z.first z.log z.now (began y) →
      IsCaused ys x y.first.state y.first.clock
  first_born n more y z place le r =
      let t = r.at.task in
      let a = fork_stamp z.path t r.entry.stamp r.entry.asked r.entry.answer r.at.enters.is_answered r.answer in
      let b = clock_grows m z.path z.first r.at.place.before t r.at.follows in
      let d = ap (λ (b : Birth). b.first.clock) r.is in
      turn (omega (arith, a, d)) (up_to m ys x z place r.at (more z place (omega (arith, a, b, d, le))))
    where
      turn : r.at.task.clock ≤ y.first.clock → IsCaused ys x r.at.task.state r.at.task.clock →
          IsCaused ys x y.first.state y.first.clock
      turn l (inl z) = inl (ap (λ (b : Birth). held_state x b.first.state) r.is
          ∙ child_none x (pause m.families r.at.task.state) r.state r.forks (pause_none m.families x r.at.task.state z))
      turn l (inr d) = inr (made_later r.at.task.clock y.first.clock l d)

  first_by : (n : ℕ) → FirstBy n
  first_by zero y place l = absurd (omega (arith, l))
  first_by (suc n) y place l = by (just birth_code (began y) (main_birth main)) refl (first_by n)
    where
      by : (k : ℕ) → just birth_code (began y) (main_birth main) ≡ k → FirstBy n → IsCaused ys x y.first.state y.first.clock
      by (suc k) q more =
          let e : began y ≡ main_birth main = just_same birth_code (began y) (main_birth main) (omega (arith, q)) in
          inl (ap (λ (b : Birth). held_state x b.first.state) e)
      by zero q more =
          let b = sum_around (λ (z : Course). just birth_code (began y) (began z)) place in
          let c = just_itself birth_code (began y) in
          let d = fits.births (just birth_code (began y)) in
          let f = found (bears m (just birth_code (began y))) ys (omega (arith, b, c, d, q)) in
          let z = f.item in
          let g = all_one (IsLogged m types) f.place fits.logs in
          first_born n more y z f.place (omega (arith, l)) (born_in m z.path z.first z.log z.now (began y) g.follows f.counts)

  -- an end that stands where a task is before an entry is one of a channel that was made not later than its clock
  pub held_made : (y : Course) → IsAmong ys y → {e : LogEntry} (at : IsEntry m y.path y.first y.log y.now e) →
      IsCaused ys x at.task.state at.task.clock
  held_made y place at = up_to m ys x y place at (first_by (suc y.first.clock) y place (omega arith))
