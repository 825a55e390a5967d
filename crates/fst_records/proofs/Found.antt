-- Tasks and channels as they are found by their paths and names.
use Rattle.std.proofs.Common.{◌≡◌, ◌∙◌, ◌⊎◌, inl, inr, ◌≤◌, ℕ, Bool, true, false, Option, Some, None, List, [], ◌∷◌, refl, sym, ap, arith}
use Rattle.std.specs.Prelude.{sum_by, Contains, if◌then◌else◌}
use Rattle.std.proofs.lemmas.List.Sums.{sum_by-cons}
use Rattle.std.proofs.lemmas.Option.{none-some, same_Some}
use Rattle.fst_base.proofs.Lists.{contains_head, contains_tail, from_contains, contains_none}
use Rattle.fst_lts.specs.Histories.{over}
use Rattle.fst_types.specs.declared.ends.ChannelName.{ChannelName}
use Rattle.fst_types.specs.declared.event.ChannelHistory.{ChannelHistory}
use Rattle.fst_runs.specs.Configs.{Path, Task, Channel, same_path, same_channel, channel_in, named_so}
use Rattle.fst_runs.specs.Wrong.{once}
use Rattle.fst_runs.proofs.Laws.{same_path-itself, same_path-same, same_channel-itself, same_channel-same}
use Rattle.fst_records.specs.Records.{Course, task_of, log_of}
use Rattle.fst_records.proofs.Tests.{path_counts, channel_counts, there_sums}

-- ---- courses

-- a course, by its path
abbrev pub on_path : Path → Course → ℕ
on_path p y = once (same_path p y.path)

-- the course whose task this is
pub record HasTask (ys : List Course) (p : Path) (t : Task) : Type 0 where
  pub course : Course
  pub there : Contains ys course
  pub path : course.path ≡ p
  pub now : course.now ≡ t

task_or : (y : Course) (ys : List Course) (p : Path) (t : Task) → (task_of ys p ≡ Some t → HasTask ys p t) →
    (b : Bool) → same_path y.path p ≡ b →
    (if b then Some y.now else task_of ys p) ≡ Some t → HasTask (y ∷ ys) p t
task_or y ys p t more true q e = record {
  course = y;
  there = contains_head ys y y refl;
  path = same_path-same y.path p q;
  now =
      same_Some y.now t e;
}
task_or y ys p t more false q e =
    let r = more e in
    record { course = r.course; there = contains_tail ys r.course y r.there; path = r.path; now = r.now }

-- a task that is found is that of a course
pub has_task : (ys : List Course) (p : Path) (t : Task) → task_of ys p ≡ Some t → HasTask ys p t
has_task [] p t e = absurd (none-some t e)
has_task (y ∷ ys) p t e = task_or y ys p t (has_task ys p t) (same_path y.path p) refl e

there_or : (z y : Course) (ys : List Course) → sum_by (on_path y.path) (z ∷ ys) ≤ 1 → (z ≡ y) ⊎ Contains ys y →
    (Contains ys y → task_of ys y.path ≡ Some y.now) → task_of (z ∷ ys) y.path ≡ Some y.now
there_or z y ys le (inl i) more =
    ap (λ (b : Bool). if b then Some z.now else task_of ys y.path)
    (ap (λ (t : Course). same_path t.path y.path) i ∙ same_path-itself y.path)
    ∙ ap (λ (t : Course). Some t.now) i
there_or z y ys le (inr c) more = ap (λ (b : Bool). if b then Some z.now else task_of ys y.path)
    (apart (same_path z.path y.path) refl) ∙ more c
  where
    apart : (b : Bool) → same_path z.path y.path ≡ b → b ≡ false
    apart false r = refl
    apart true r =
        let a = sum_by-cons (on_path y.path) z ys in
        let b = path_counts y.path z.path (sym (same_path-same z.path y.path r)) in
        let d = there_sums (on_path y.path) ys y c in
        let e = path_counts y.path y.path refl in
        absurd (omega (arith, a, b, d, e, le))

-- the task of a course is found where no other has its path
pub task_there : (ys : List Course) (y : Course) → Contains ys y → sum_by (on_path y.path) ys ≤ 1 → task_of ys y.path ≡ Some y.now
task_there [] y c le = absurd (contains_none y c)
task_there (z ∷ ys) y c le =
    there_or z y ys le (from_contains ys y z c) (λ i. task_there ys y i
    (let a = sum_by-cons (on_path y.path) z ys in omega (arith, a, le)))

-- where no course has a path, no log is found there
pub no_log : (ys : List Course) (p : Path) → sum_by (on_path p) ys ≡ 0 → log_of ys p ≡ []
no_log [] p z = refl
no_log (y ∷ ys) p z =
    let a = sum_by-cons (on_path p) y ys in
    by (same_path y.path p) refl (no_log ys p (omega (arith, a, z)))
  where
    by : (b : Bool) → same_path y.path p ≡ b → log_of ys p ≡ [] → (if b then y.log else log_of ys p) ≡ []
    by false q more = more
    by true q more =
        let a = sum_by-cons (on_path p) y ys in
        let b = path_counts p y.path (sym (same_path-same y.path p q)) in
        absurd (omega (arith, a, b, z))

-- ---- channels

-- a channel, by its name
abbrev pub on_name : ChannelName → ChannelHistory → ℕ
on_name h k = once (same_channel h k.name)

-- the channel that a history is of
abbrev pub channel_of : ChannelHistory → Channel
channel_of k = record { declared = k.declared; history = k.entries.items }

-- the history whose channel this is
pub record HasChannel (ks : List ChannelHistory) (h : ChannelName) (j : Channel) : Type 0 where
  pub history : ChannelHistory
  pub there : Contains ks history
  pub name : history.name ≡ h
  pub is : channel_of history ≡ j

named_is : (k : ChannelHistory) (ks : List ChannelHistory) (h : ChannelName) (j : Channel) (b : Bool) →
    same_channel k.name h ≡ b →
    (if b then Some (channel_of k) else None) ≡ Some j → HasChannel (k ∷ ks) h j
named_is k ks h j true q e = record {
  history = k;
  there = contains_head ks k k refl;
  name = same_channel-same k.name h q;
  is =
      same_Some (channel_of k) j e;
}
named_is k ks h j false q e = absurd (none-some j e)

channel_or : (k : ChannelHistory) (ks : List ChannelHistory) (h : ChannelName) (j : Channel) →
    (channel_in ks h ≡ Some j → HasChannel ks h j) →
    (o : Option Channel) → channel_in ks h ≡ o → over o (named_so k h) ≡ Some j → HasChannel (k ∷ ks) h j
channel_or k ks h j more None q e = named_is k ks h j (same_channel k.name h) refl e
channel_or k ks h j more (Some x) q e =
    let r = more (q ∙ e) in
    record { history = r.history; there = contains_tail ks r.history k r.there; name = r.name; is = r.is }

-- a channel that is found is that of a history
pub has_channel : (ks : List ChannelHistory) (h : ChannelName) (j : Channel) → channel_in ks h ≡ Some j → HasChannel ks h j
has_channel [] h j e = absurd (none-some j e)
has_channel (k ∷ ks) h j e = channel_or k ks h j (has_channel ks h j) (channel_in ks h) refl e

not_named : (k : ChannelHistory) (h : ChannelName) → on_name h k ≡ 0 → named_so k h ≡ None
not_named k h z = by (same_channel k.name h) refl
  where
    by : (b : Bool) → same_channel k.name h ≡ b → named_so k h ≡ None
    by false q = ap (λ (b : Bool). if b then Some (channel_of k) else None) q
    by true q = let a = channel_counts h k.name (sym (same_channel-same k.name h q)) in absurd (omega (arith, a, z))

-- a name that none of these channels has
pub no_channel : (ks : List ChannelHistory) (h : ChannelName) → sum_by (on_name h) ks ≡ 0 → channel_in ks h ≡ None
no_channel [] h z = refl
no_channel (k ∷ ks) h z =
    let a = sum_by-cons (on_name h) k ks in
    ap (λ o. over o (named_so k h)) (no_channel ks h (omega (arith, a, z))) ∙ not_named k h (omega (arith, a, z))

channel_here : (j k : ChannelHistory) (ks : List ChannelHistory) → sum_by (on_name k.name) (j ∷ ks) ≤ 1 →
    (j ≡ k) ⊎ Contains ks k →
    (Contains ks k → channel_in ks k.name ≡ Some (channel_of k)) → channel_in (j ∷ ks) k.name ≡ Some (channel_of k)
channel_here j k ks le (inl i) more =
    let a = sum_by-cons (on_name k.name) j ks in
    let b = channel_counts k.name j.name (ap (λ (l : ChannelHistory). l.name) (sym i)) in
    ap (λ o. over o (named_so j k.name)) (no_channel ks k.name (omega (arith, a, b, le)))
    ∙ ap (λ (b : Bool). if b then Some (channel_of j) else None)
    (ap (λ (l : ChannelHistory). same_channel l.name k.name) i ∙ same_channel-itself k.name)
    ∙ ap (λ (l : ChannelHistory). Some (channel_of l)) i
channel_here j k ks le (inr c) more = ap (λ o. over o (named_so j k.name)) (more c)

-- the channel of a history is found where no other has its name
pub channel_there : (ks : List ChannelHistory) (k : ChannelHistory) → Contains ks k → sum_by (on_name k.name) ks ≤ 1 →
    channel_in ks k.name ≡ Some (channel_of k)
channel_there [] k c le = absurd (contains_none k c)
channel_there (j ∷ ks) k c le =
    channel_here j k ks le (from_contains ks k j c)
    (λ i. channel_there ks k i (let a = sum_by-cons (on_name k.name) j ks in omega (arith, a, le)))
