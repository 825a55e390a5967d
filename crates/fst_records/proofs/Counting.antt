-- The channels and the tasks that a log makes have the numbers that its task has given.
use Rattle.std.proofs.Common.{◌≡◌, ◌⊎◌, inl, inr, ◌<◌, ◌≤◌, ℕ, zero, suc, List, [], ◌∷◌, refl, ap, arith}
use Rattle.std.specs.Prelude.{sum_by}
use Rattle.std.proofs.lemmas.List.Sums.{sum_by-append}
use Rattle.fst_types.specs.Tree.{Tree}
use Rattle.fst_types.specs.declared.ends.ChannelName.{ChannelName}
use Rattle.fst_machine.specs.Machine.{Program, pause, child}
use Rattle.fst_runs.specs.Configs.{Path, Task, same_path, same_channel, child_path, channel_name}
use Rattle.fst_runs.specs.Wrong.{once}
use Rattle.fst_runs.specs.declared.log.LogEntry.{LogEntry}
use Rattle.fst_runs.specs.Logs.{Follows, after_entry, made_after, forks_after, opened_by, born_by, births, openings}
use Rattle.fst_records.proofs.Paths.{at_path, IsFork, is_fork, birth_le, of_name, IsNew, is_new, opening_le}
use Rattle.fst_records.proofs.Tests.{path_or, channel_or, snoc_same}

-- ---- tasks

-- no fewer tasks are forked later
pub forked_grows : (p : Program) (path : Path) (t : Task) (log : List LogEntry) (u : Task) → Follows p path t log u →
    t.forked ≤ u.forked
forked_grows p path t [] u f = let e = ap (λ (t : Task). t.forked) f in omega (arith, e)
forked_grows p path t (e ∷ es) u f = by (forked_grows p path (after_entry p t e) es u f.1) (is_fork p path t e.stamp e.answer)
  where
    by : forks_after e.answer t.forked ≤ u.forked → IsFork p path t e.stamp e.answer → t.forked ≤ u.forked
    by g (inl k) = let c = k.1 in omega (arith, g, c)
    by g (inr k) = let c = k.1 in omega (arith, g, c)

forked_here : (p : Program) (q : Path) (j : ℕ) (path : Path) (t : Task) (stamp : ℕ) (n : ℕ) (e : LogEntry) →
    forks_after e.answer t.forked ≤ n →
    IsFork p path t e.stamp e.answer → 0 < sum_by (at_path (child_path q j)) (born_by p path t e.stamp e.answer) → (q ≡ path) ×
    (j < n)
forked_here p q j path t stamp n e le (inr k) h = let z = ap (sum_by (at_path (child_path q j))) k.0 in
    absurd (omega (arith, z, h))
forked_here p q j path t stamp n e le (inl k) h = by (path_or (child_path q j) (child_path path t.forked))
  where
    by : ((child_path q j ≡ child_path path t.forked) × (once (same_path (child_path q j) (child_path path t.forked)) ≡ 1))
        ⊎ (once (same_path (child_path q j) (child_path path t.forked)) ≡ 0) → (q ≡ path) × (j < n)
    by (inl y) = let r = snoc_same q path (suc j) (suc t.forked) y.0 in let c = k.1 in let e = r.1 in
        (r.0, omega (arith, c, e, le))
    by (inr y) =
        let z = ap (sum_by (at_path (child_path q j))) k.0 in
        let b = birth_le (child_path q j) (child_path path t.forked) e.stamp (child (pause p.families t.state)) in
        absurd (omega (arith, z, b, y, h))

-- a task that a log forks is a child of its task, with a number that this has given
pub forked_by : (p : Program) (q : Path) (j : ℕ) (path : Path) (t : Task) (log : List LogEntry) (u : Task) →
    Follows p path t log u →
    0 < sum_by (at_path (child_path q j)) (births p path t log) → (q ≡ path) × (j < u.forked)
forked_by p q j path t [] u f h = absurd (omega (arith, h))
forked_by p q j path t (e ∷ es) u f h =
    by (forked_by p q j path (after_entry p t e) es u f.1)
    (sum_by (at_path (child_path q j)) (born_by p path t e.stamp e.answer)) refl
  where
    by : (0 < sum_by (at_path (child_path q j)) (births p path (after_entry p t e) es) → (q ≡ path) × (j < u.forked)) → (n : ℕ) →
        sum_by (at_path (child_path q j)) (born_by p path t e.stamp e.answer) ≡ n → (q ≡ path) × (j < u.forked)
    by more zero z =
        let a = sum_by-append (at_path (child_path q j)) (born_by p path t e.stamp e.answer)
        (births p path (after_entry p t e) es) in
        more (omega (arith, a, z, h))
    by more (suc n) z =
        forked_here p q j path t e.stamp u.forked e (forked_grows p path (after_entry p t e) es u f.1)
        (is_fork p path t e.stamp e.answer) (omega (arith, z))

-- ---- channels

-- no fewer channels are made later
pub made_grows : (p : Program) (types : List Tree) (path : Path) (t : Task) (log : List LogEntry) (u : Task) →
    Follows p path t log u → t.made ≤ u.made
made_grows p types path t [] u f = let e = ap (λ (t : Task). t.made) f in omega (arith, e)
made_grows p types path t (e ∷ es) u f =
    by (made_grows p types path (after_entry p t e) es u f.1) (is_new types path t e.stamp e.asked e.answer f.0.is_answered)
  where
    by : made_after e.answer t.made ≤ u.made → IsNew types path t e.asked e.answer → t.made ≤ u.made
    by g (inl k) = let c = k.2 in omega (arith, g, c)
    by g (inr k) = let c = k.1 in omega (arith, g, c)

-- the channel is one of those that the task with this path has made, where it has made so many
pub record IsMadeBy (path : Path) (n : ℕ) (h : ChannelName) : Type 0 where
  pub maker : h.maker ≡ path
  pub first : 0 < h.count
  pub last : h.count ≤ n

made_here : (types : List Tree) (h : ChannelName) (path : Path) (t : Task) (n : ℕ) (e : LogEntry) →
    made_after e.answer t.made ≤ n →
    IsNew types path t e.asked e.answer → 0 < sum_by (of_name h) (opened_by types e.asked e.answer) → IsMadeBy path n h
made_here types h path t n e le (inr k) g = let z = ap (sum_by (of_name h)) k.0 in absurd (omega (arith, z, g))
made_here types h path t n e le (inl k) g = by (channel_or h (channel_name path t.made))
  where
    by : ((h ≡ channel_name path t.made) × (once (same_channel h (channel_name path t.made)) ≡ 1)) ⊎
        (once (same_channel h (channel_name path t.made)) ≡ 0) →
        IsMadeBy path n h
    by (inl y) =
        let c = k.2 in
        let d = ap (λ (x : ChannelName). x.count) y.0 in
        record { maker = ap (λ (x : ChannelName). x.maker) y.0; first = omega (arith, d); last = omega (arith, c, d, le) }
    by (inr y) =
        let z = ap (sum_by (of_name h)) k.1 in
        let b = opening_le h (channel_name path t.made) k.0 in
        absurd (omega (arith, z, b, y, g))

-- a channel that a log opens is one that its task has made
pub opened_in : (p : Program) (types : List Tree) (h : ChannelName) (path : Path) (t : Task) (log : List LogEntry) (u : Task) →
    Follows p path t log u →
    0 < sum_by (of_name h) (openings types log) → IsMadeBy path u.made h
opened_in p types h path t [] u f g = absurd (omega (arith, g))
opened_in p types h path t (e ∷ es) u f g =
    by (opened_in p types h path (after_entry p t e) es u f.1) (sum_by (of_name h) (opened_by types e.asked e.answer)) refl
  where
    by : (0 < sum_by (of_name h) (openings types es) → IsMadeBy path u.made h) →
        (n : ℕ) → sum_by (of_name h) (opened_by types e.asked e.answer) ≡ n →
        IsMadeBy path u.made h
    by more zero z =
        let a = sum_by-append (of_name h) (opened_by types e.asked e.answer) (openings types es) in
        more (omega (arith, a, z, g))
    by more (suc n) z =
        made_here types h path t u.made e (made_grows p types path (after_entry p t e) es u f.1)
        (is_new types path t e.stamp e.asked e.answer f.0.is_answered) (omega (arith, z))
