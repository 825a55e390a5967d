-- Where logs fork tasks.
use Rattle.std.proofs.Common.{◌≡◌, ◌<◌, ℕ, zero, suc, List, [], ◌∷◌, Option, Some, None, refl, arith}
use Rattle.std.specs.Prelude.{sum_by}
use Rattle.std.proofs.lemmas.List.Sums.{sum_by-append}
use Rattle.fst_machine.specs.declared.request.Request.{Request}
use Rattle.fst_machine.specs.declared.request.Request.TheVariants as request
use Rattle.fst_machine.specs.declared.request.Answer.{Answer}
use Rattle.fst_machine.specs.declared.request.Answer.TheVariants.{Go, Made, Forked, Sent, Got}
use Rattle.fst_machine.specs.Machine.{Program, State, pause, child}
use Rattle.fst_runs.specs.declared.log.LogEntry.{LogEntry}
use Rattle.fst_runs.specs.Configs.{Path, Task, child_path, new_task}
use Rattle.fst_runs.specs.Logs.{Birth, Enters, Follows, IsAnswered, after_entry, birth_of, born_by, births}
use Rattle.fst_records.proofs.Codes.{just, just_same, birth_code}
use Rattle.fst_records.proofs.LogEntries.{IsEntry, first_entry, next_entry}

-- an entry of a log where this task is forked
pub record Born (p : Program) (path : Path) (t : Task) (log : List LogEntry) (u : Task) (b : Birth) : Type 0 where
  pub entry : LogEntry
  pub at : IsEntry p path t log u entry
  pub answer : entry.answer ≡ Forked
  pub state : State
  pub forks : child (pause p.families at.task.state) ≡ Some state
  pub is : b ≡ record { path = child_path path at.task.forked; first = new_task state entry.stamp }

one_born : (b : Birth) (path : Path) (n : ℕ) (o : Option State) → 0 < sum_by (just birth_code b) (birth_of path n o) →
    (s : State) × (o ≡ Some s) × (b ≡ record { path = path; first = new_task s n })
one_born b path n None h = absurd (omega (arith, h))
one_born b path n (Some s) h = (s, refl, just_same birth_code b (record { path = path; first = new_task s n }) (omega (arith, h)))

entry_born : (p : Program) (path : Path) (t : Task) (e : LogEntry) (es : List LogEntry) (u : Task) (a : Answer) (b : Birth) →
    Enters p path t e → Follows p path (after_entry p t e) es u → e.answer ≡ a →
    0 < sum_by (just birth_code b) (born_by p path t e.stamp a) → Born p path t (e ∷ es) u b
entry_born p path t e es u Go b f g q h = absurd (omega (arith, h))
entry_born p path t e es u (Made c) b f g q h = absurd (omega (arith, h))
entry_born p path t e es u Sent b f g q h = absurd (omega (arith, h))
entry_born p path t e es u (Got ev) b f g q h = absurd (omega (arith, h))
entry_born p path t e es u Forked b f g q h =
    let r = one_born b (child_path path t.forked) e.stamp (child (pause p.families t.state)) h in
    record { entry = e; at = first_entry e es u f g; answer = q; state = r.0; forks = r.1; is = r.2 }

-- a task that a log forks is forked at an entry of it
pub born_in : (p : Program) (path : Path) (t : Task) (log : List LogEntry) (u : Task) (b : Birth) → Follows p path t log u →
    0 < sum_by (just birth_code b) (births p path t log) → Born p path t log u b
born_in p path t [] u b f h = absurd (omega (arith, h))
born_in p path t (e ∷ es) u b f h =
    by (born_in p path (after_entry p t e) es u b f.1) (sum_by (just birth_code b) (born_by p path t e.stamp e.answer)) refl
  where
    by : (0 < sum_by (just birth_code b) (births p path (after_entry p t e) es) → Born p path (after_entry p t e) es u b) →
        (n : ℕ) →
        sum_by (just birth_code b) (born_by p path t e.stamp e.answer) ≡ n → Born p path t (e ∷ es) u b
    by more zero q =
        let a = sum_by-append (just birth_code b) (born_by p path t e.stamp e.answer) (births p path (after_entry p t e) es) in
        let r = more (omega (arith, a, h, q)) in
        record {
          entry = r.entry;
          at = next_entry e es u f.0 r.at;
          answer = r.answer;
          state = r.state;
          forks = r.forks;
          is = r.is;
        }
    by more (suc n) q = entry_born p path t e es u e.answer b f.0 f.1 refl (omega (arith, q))

-- the stamp of a fork is the one after the clock
pub fork_stamp : (path : Path) (t : Task) (stamp : ℕ) (q : Request) (a : Answer) → IsAnswered path t stamp q a → a ≡ Forked →
    stamp ≡ suc t.clock
fork_stamp path t stamp request.Step Go i e = absurd (cc e)
fork_stamp path t stamp (request.New n) (Made h) i e = absurd (cc e)
fork_stamp path t stamp request.Fork Forked i e = i
fork_stamp path t stamp (request.Put x ev) Sent i e = absurd (cc e)
fork_stamp path t stamp (request.Get x) (Got ev) i e = absurd (cc e)
fork_stamp path t stamp q a i e = absurd i
