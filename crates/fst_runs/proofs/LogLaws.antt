-- Logs with more entries.
use Rattle.std.proofs.Common.{◌≡◌, ◌∙◌, ◌<◌, ◌≤◌, ℕ, ◌+◌, suc, List, [], ◌∷◌, ◌++◌, length, Bool, true, false, refl, sym, ap, subst, arith}
use Rattle.std.specs.Prelude.{if◌then◌else◌}
use Rattle.std.proofs.lemmas.List.{append-nil, append_assoc, length-append}
use Rattle.fst_types.specs.Tree.{Tree}
use Rattle.fst_machine.specs.declared.request.Request.{Request}
use Rattle.fst_machine.specs.declared.request.Request.TheVariants as request
use Rattle.fst_machine.specs.declared.request.Answer.{Answer}
use Rattle.fst_machine.specs.declared.request.Answer.TheVariants.{Go, Made, Forked, Sent, Got}
use Rattle.fst_machine.specs.Machine.{Program}
use Rattle.fst_runs.specs.declared.event.CoreEvent.{CoreEvent}
use Rattle.fst_runs.specs.declared.log.LogEntry.{LogEntry}
use Rattle.fst_runs.specs.Configs.{Path, Task, Config, same_path}
use Rattle.fst_runs.specs.Events.{Runs, written}
use Rattle.fst_runs.specs.Notes.{Note, RunsNoting, entries_at, notes}
use Rattle.fst_runs.specs.Logs.{Enters, Follows, IsAnswered, Opening, after_entry, made_after, forks_after, opened_by, openings}

-- a log that leads to a task leads with an entry of this task more to the task after the entry
pub follows_more : (p : Program) (path : Path) (t : Task) (es : List LogEntry) (u : Task) (g : LogEntry) → Follows p path t es u →
    Enters p path u g →
    Follows p path t (es ++ g ∷ []) (after_entry p u g)
follows_more p path t [] u g f h = (subst (λ v. Enters p path v g) f h, ap (λ v. after_entry p v g) f)
follows_more p path t (e ∷ es) u g f h = (f.0, follows_more p path (after_entry p t e) es u g f.1 h)

-- the channels that a log with one entry more opens
openings_more : (types : List Tree) (es : List LogEntry) (g : LogEntry) →
    openings types (es ++ g ∷ []) ≡ openings types es ++ opened_by types g.asked g.answer
openings_more types [] g = append-nil (opened_by types g.asked g.answer)
openings_more types (e ∷ es) g =
    ap (λ (l : List Opening). opened_by types e.asked e.answer ++ l) (openings_more types es g)
    ∙ sym (append_assoc (opened_by types e.asked e.answer) (openings types es) (opened_by types g.asked g.answer))

-- each channel has a type still where the next one has
pub opened_more : (types : List Tree) (es : List LogEntry) (g : LogEntry) (n k : ℕ) → length (openings types es) ≡ n →
    n + length (opened_by types g.asked g.answer) ≡ k →
    length (openings types (es ++ g ∷ [])) ≡ k
opened_more types es g n k h more =
    let a = ap length (openings_more types es g) in
    let b = length-append (openings types es) (opened_by types g.asked g.answer) in
    omega (arith, a, b, h, more)

-- no channel is opened where none is made
pub none_opened : (types : List Tree) (q : Request) (a : Answer) (n : ℕ) → made_after a n ≡ n → length (opened_by types q a) ≡ 0
none_opened types request.Step a n h = refl
none_opened types (request.New k) Go n h = refl
none_opened types (request.New k) (Made c) n h = absurd (omega (arith, h))
none_opened types (request.New k) Forked n h = refl
none_opened types (request.New k) Sent n h = refl
none_opened types (request.New k) (Got ev) n h = refl
none_opened types request.Fork a n h = refl
none_opened types (request.Put x ev) a n h = refl
none_opened types (request.Get x) a n h = refl
none_opened types request.Ended a n h = refl

-- each event of a task is later than its clock
pub later : (path : Path) (t : Task) (stamp : ℕ) (q : Request) (a : Answer) → IsAnswered path t stamp q a → t.clock < stamp
later path t stamp request.Step Go h = omega (arith, h)
later path t stamp request.Step (Made n) h = absurd h
later path t stamp request.Step Forked h = absurd h
later path t stamp request.Step Sent h = absurd h
later path t stamp request.Step (Got ev) h = absurd h
later path t stamp (request.New k) Go h = absurd h
later path t stamp (request.New k) (Made n) h = let e = h.0 in omega (arith, e)
later path t stamp (request.New k) Forked h = absurd h
later path t stamp (request.New k) Sent h = absurd h
later path t stamp (request.New k) (Got ev) h = absurd h
later path t stamp request.Fork Go h = absurd h
later path t stamp request.Fork (Made n) h = absurd h
later path t stamp request.Fork Forked h = omega (arith, h)
later path t stamp request.Fork Sent h = absurd h
later path t stamp request.Fork (Got ev) h = absurd h
later path t stamp (request.Put x ev) Go h = absurd h
later path t stamp (request.Put x ev) (Made n) h = absurd h
later path t stamp (request.Put x ev) Forked h = absurd h
later path t stamp (request.Put x ev) Sent h = h
later path t stamp (request.Put x ev) (Got ev') h = absurd h
later path t stamp (request.Get x) Go h = absurd h
later path t stamp (request.Get x) (Made n) h = absurd h
later path t stamp (request.Get x) Forked h = absurd h
later path t stamp (request.Get x) Sent h = absurd h
later path t stamp (request.Get x) (Got ev) h = h
later path t stamp request.Ended Go h = absurd h
later path t stamp request.Ended (Made n) h = absurd h
later path t stamp request.Ended Forked h = absurd h
later path t stamp request.Ended Sent h = absurd h
later path t stamp request.Ended (Got ev) h = absurd h

-- with an answer a task has made one channel more at most
pub few_made : (a : Answer) (n : ℕ) → made_after a n ≤ suc n
few_made Go n = omega arith
few_made (Made h) n = omega arith
few_made Forked n = omega arith
few_made Sent n = omega arith
few_made (Got ev) n = omega arith

-- and forked one task more at most
pub few_forks : (a : Answer) (n : ℕ) → forks_after a n ≤ suc n
few_forks Go n = omega arith
few_forks (Made h) n = omega arith
few_forks Forked n = omega arith
few_forks Sent n = omega arith
few_forks (Got ev) n = omega arith

-- the entries of one task among more
pub entries_at-append : (p : Path) (ms ns : List Note) → entries_at p (ms ++ ns) ≡ entries_at p ms ++ entries_at p ns
entries_at-append p [] ns = refl
entries_at-append p (n ∷ ms) ns =
    ap (λ (l : List LogEntry). if same_path p n.path then n.entry ∷ l else l) (entries_at-append p ms ns)
    ∙ by (same_path p n.path)
  where
    by : (b : Bool) → (if b then n.entry ∷ (entries_at p ms ++ entries_at p ns) else entries_at p ms ++ entries_at p ns) ≡
        (if b then n.entry ∷ entries_at p ms else entries_at p ms) ++ entries_at p ns
    by true = refl
    by false = refl

-- in each run the logs gain something
pub run_notes : (m : Program) (types : List Tree) (c : Config) (es : List CoreEvent) (d : Config) → Runs m types c es d →
    (ns : List Note) × RunsNoting m types c es d ns
run_notes m types c [] d r = ([], (r, refl))
run_notes m types c (e ∷ es) d r =
    let k = run_notes m types (written c r.0) es d r.2 in
    (notes m types c e r.0 r.1 ++ k.0, (r.0, r.1, k.0, refl, k.1))
