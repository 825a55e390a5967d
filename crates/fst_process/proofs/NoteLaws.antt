-- What logs gain along a run, and how many tasks each task has forked then.
use Rattle.std.proofs.Common.{◌≡◌, ◌∙◌, ℕ, suc, Bool, true, false, Option, Some, None, List, [], ◌∷◌, ◌++◌, refl, sym, ap, subst}
use Rattle.std.specs.Prelude.{if◌then◌else◌}
use Rattle.std.proofs.lemmas.Cmp.{nat_list_eq_equiv}
use Rattle.std.proofs.lemmas.List.{append_assoc}
use Rattle.fst_base.proofs.Options.{none_some}
use Rattle.fst_types.specs.Tree.{Tree}
use Rattle.fst_machine.specs.Machine.{Program}
use Rattle.fst_machine.specs.declared.request.Request.TheVariants as request
use Rattle.fst_machine.specs.declared.request.Answer.TheVariants.{Go, Made, Forked, Sent, Got}
use Rattle.fst_runs.specs.declared.event.CoreEvent.{CoreEvent}
use Rattle.fst_runs.specs.declared.event.CoreEvent.TheVariants.{Local, New, Fork, Meet}
use Rattle.fst_runs.specs.declared.log.LogEntry.{LogEntry}
use Rattle.fst_runs.specs.Configs.{Path, Task, Config, same_path, other, child_path, channel_name, new_task}
use Rattle.fst_runs.specs.Events.{Write, Does, written, moved, meeting_stamp, has_made, has_forked, has_met}
use Rattle.fst_runs.specs.Logs.{forks_after}
use Rattle.fst_runs.specs.Names.{HasMakers, HasParents}
use Rattle.fst_runs.specs.Notes.{Note, RunsNoting, entries_at, notes}
use Rattle.fst_runs.proofs.Laws.{put, local_puts, new_puts, fork_puts, meet_puts, same_path-same, same_path-apart, fork_free, asks_apart, named_after, entries_at-append}
use Rattle.fst_process.specs.Marks.{forks_behind, forked_by}

-- two paths are the same in either order
pub same_path-swapped : (p q : Path) → same_path p q ≡ same_path q p
same_path-swapped p q = nat_list_eq_equiv.symm p q

-- what logs gain in a run, and in one that goes on from where it has come to
pub noting_then : (m : Program) (types : List Tree) (c : Config) (es fs : List CoreEvent) (d e : Config) (ns os : List Note) →
    RunsNoting m types c es d ns → RunsNoting m types d fs e os → RunsNoting m types c (es ++ fs) e (ns ++ os)
noting_then m types c [] fs d e ns os r s =
    subst (λ (l : List Note). RunsNoting m types c fs e (l ++ os)) (sym r.1) (subst (λ z. RunsNoting m types z fs e os) r.0 s)
noting_then m types c (g ∷ es) fs d e ns os r s = (
  r.0,
  r.1,
  r.2 ++ os,
  ap (λ (l : List Note). l ++ os) r.3 ∙ append_assoc (notes m types c g r.0 r.1) r.2 os,
  noting_then m types (written c r.0) es fs d e r.2 os r.4 s,
)

-- how many tasks a task has forked behind some entries and then others
pub forks_behind-append : (n : ℕ) (es gs : List LogEntry) → forks_behind n (es ++ gs) ≡ forks_behind (forks_behind n es) gs
forks_behind-append n [] gs = refl
forks_behind-append n (e ∷ es) gs = forks_behind-append (forks_after e.answer n) es gs

-- where a task is put in the place of one, it has forked as many as that and what its entry says
one_forks : (p q : Path) (t u : Task) (o : Option Task) (e : LogEntry) → (p ≡ q → o ≡ Some t) →
    u.forked ≡ forks_after e.answer t.forked →
    forked_by (put (same_path p q) u o) ≡ forks_behind (forked_by o) (entries_at q (record { path = p; entry = e } ∷ []))
one_forks p q t u o e there grown =
    ap (λ b. forked_by (put b u o)) (same_path-swapped p q) ∙ by (same_path q p) refl
  where
    by : (b : Bool) → same_path q p ≡ b →
        forked_by (put b u o) ≡ forks_behind (forked_by o) (if b then e ∷ [] else [])
    by true s = grown ∙ ap (λ z. forks_after e.answer (forked_by z)) (sym (there (sym (same_path-same q p s))))
    by false s = refl

-- a task at a path that was free has forked none
new_forks : (p q : Path) (u v : Task) (o : Option Task) (e : LogEntry) (path : Path) → (path ≡ q → o ≡ None) →
    (p ≡ q → (t : Task) × (o ≡ Some t)) → v.forked ≡ 0 →
    forked_by (put (same_path p q) u o) ≡ forks_behind (forked_by o) (entries_at q (record { path = p; entry = e } ∷ [])) →
    forked_by (put (same_path path q) v (put (same_path p q) u o))
    ≡ forks_behind (forked_by o) (entries_at q (record { path = p; entry = e } ∷ []))
new_forks p q u v o e path free there none old = by (same_path path q) refl
  where
    by : (b : Bool) → same_path path q ≡ b →
        forked_by (put b v (put (same_path p q) u o))
        ≡ forks_behind (forked_by o) (entries_at q (record { path = p; entry = e } ∷ []))
    by true s =
        let empty = free (same_path-same path q s) in
        let apart : same_path q p ≡ false = same_path-apart q p
        (λ z. let t = there (sym z) in none_some (sym empty ∙ t.1)) in
        none
        ∙ ap forked_by (sym empty)
        ∙ ap (λ b. forks_behind (forked_by o) (if b then e ∷ [] else [])) (sym apart)
    by false s = old

-- after an event each task has forked as many as before it, and what its entries say
pub forks_then : (m : Program) (types : List Tree) (c : Config) (e : CoreEvent) (w : Write) (does : Does m types c e w) →
    HasParents c → (q : Path) →
    forked_by ((written c w).tasks q) ≡ forks_behind (forked_by (c.tasks q)) (entries_at q (notes m types c e w does))
forks_then m types c (Local p) w d parents q =
    ap (λ z. forked_by (z.tasks q)) (local_puts m types c p w d)
    ∙ one_forks p q d.task (moved d.task d.state) (c.tasks q)
    (record { asked = request.Step; answer = Go; stamp = suc d.task.clock })
    (λ z. ap c.tasks (sym z) ∙ d.asks.0) refl
forks_then m types c (New p) w d parents q =
    ap (λ z. forked_by (z.tasks q)) (new_puts m types c p w d)
    ∙ one_forks p q d.task (has_made d.task d.state (suc d.task.clock)) (c.tasks q)
    (record { asked = request.New d.number; answer = Made (channel_name p d.task.made); stamp = suc d.task.clock })
    (λ z. ap c.tasks (sym z) ∙ d.asks.0) refl
forks_then m types c (Fork p) w d parents q =
    let entry : LogEntry = record { asked = request.Fork; answer = Forked; stamp = suc d.task.clock } in
    let parent = has_forked d.task d.state (suc d.task.clock) in
    ap (λ z. forked_by (z.tasks q)) (fork_puts m types c p w d)
    ∙ new_forks p q parent (new_task d.begun (suc d.task.clock)) (c.tasks q) entry (child_path p d.task.forked)
    (λ z. ap c.tasks (sym z) ∙ fork_free c p d.task parents d.asks.0)
    (λ z. (d.task, ap c.tasks (sym z) ∙ d.asks.0)) refl
    (one_forks p q d.task parent (c.tasks q) entry (λ z. ap c.tasks (sym z) ∙ d.asks.0) refl)
forks_then m types c (Meet p q h) w d parents r =
    let stamp = meeting_stamp d.sender d.receiver d.channel in
    let put_entry : LogEntry = record { asked = request.Put d.end d.event; answer = Sent; stamp = stamp } in
    let get_entry : LogEntry = record { asked = request.Get (other d.end); answer = Got d.event; stamp = stamp } in
    let sender = has_met d.sender d.sent stamp in
    let receiver = has_met d.receiver d.got stamp in
    let apart = asks_apart m c p q d.sender d.receiver d.end (other d.end) d.event d.puts d.gets in
    let half : Option Task = put (same_path p r) sender (c.tasks r) in
    let sent : List Note = record { path = p; entry = put_entry } ∷ [] in
    let got : List Note = record { path = q; entry = get_entry } ∷ [] in
    ap (λ z. forked_by (z.tasks r)) (meet_puts m types c p q h w d)
    ∙ one_forks q r d.receiver receiver half get_entry
    (λ z. ap (λ b. put b sender (c.tasks r)) (same_path-apart p r (λ y. apart (y ∙ sym z)))
    ∙ ap c.tasks (sym z) ∙ d.gets.0) refl
    ∙ ap (λ n. forks_behind n (entries_at r got))
    (one_forks p r d.sender sender (c.tasks r) put_entry (λ z. ap c.tasks (sym z) ∙ d.puts.0) refl)
    ∙ sym (forks_behind-append (forked_by (c.tasks r)) (entries_at r sent) (entries_at r got))
    ∙ ap (forks_behind (forked_by (c.tasks r))) (sym (entries_at-append r sent got))

-- and so it is along a run
pub forks_on : (m : Program) (types : List Tree) (es : List CoreEvent) (c d : Config) (ns : List Note) → HasMakers c →
    HasParents c → RunsNoting m types c es d ns → (q : Path) →
    forked_by (d.tasks q) ≡ forks_behind (forked_by (c.tasks q)) (entries_at q ns)
forks_on m types [] c d ns makers parents r q =
    ap (λ z. forked_by (z.tasks q)) r.0 ∙ ap (λ l. forks_behind (forked_by (c.tasks q)) (entries_at q l)) (sym r.1)
forks_on m types (e ∷ es) c d ns makers parents r q =
    let named = named_after m types c e r.0 r.1 makers parents in
    let own = notes m types c e r.0 r.1 in
    forks_on m types es (written c r.0) d r.2 named.0 named.1 r.4 q
    ∙ ap (λ n. forks_behind n (entries_at q r.2)) (forks_then m types c e r.0 r.1 parents q)
    ∙ sym (forks_behind-append (forked_by (c.tasks q)) (entries_at q own) (entries_at q r.2))
    ∙ ap (forks_behind (forked_by (c.tasks q))) (sym (entries_at-append q own r.2))
    ∙ ap (λ l. forks_behind (forked_by (c.tasks q)) (entries_at q l)) (sym r.3)
