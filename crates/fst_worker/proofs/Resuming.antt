-- The tasks and the closed channels of a run are what the machine can go on from.
use Rattle.std.proofs.Common.{◌≡◌, ◌∙◌, ◌⊎◌, inl, inr, ◌≤◌, ℕ, suc, ◌+◌, Bool, true, false, Some, None, List, [], ◌∷◌, ◌++◌, refl, sym, ap, subst, arith, append_assoc}
use Rattle.std.specs.Prelude.{sum_by, All, Contains, if◌then◌else◌}
use Rattle.std.proofs.lemmas.List.Elements.{All-nil, All-cons, All-head, All-tail, All-contains, All-contains_itself, All-map, All-weaker}
use Rattle.std.proofs.lemmas.List.Sums.{sum_by-cons}
use Rattle.fst_base.proofs.Lists.{from_contains, contains_none}
use Rattle.fst_types.specs.Tree.{Tree}
use Rattle.fst_types.specs.declared.side.Side.TheVariants.{Left}
use Rattle.fst_terms.specs.declared.core_module.Module.{Module}
use Rattle.fst_derivations.specs.Modules.{surroundings}
use Rattle.fst_types.specs.declared.ends.ChannelName.{ChannelName}
use Rattle.fst_types.specs.declared.ends.EndName.{EndName}
use Rattle.fst_types.specs.declared.event.ChannelHistory.{ChannelHistory}
use Rattle.fst_types.specs.declared.event.Entry.{Entry}
use Rattle.fst_machine.specs.declared.code.Code.{Code}
use Rattle.fst_machine.specs.Machine.{Program}
use Rattle.fst_runs.specs.Configs.{Path, Task, same_path, program, ChannelsWithin}
use Rattle.fst_runs.specs.Names.{HasMakers}
use Rattle.fst_runs.specs.Wrong.{once, IsRight}
use Rattle.fst_runs.proofs.Laws.{same_path-same}
use Rattle.fst_lts.specs.Stamps.{StampedTo}
use Rattle.fst_process.specs.Resuming.{Tasks, task_in, AreApart, made_by, AreThere, AreAll, TasksWithin}
use Rattle.fst_lts.specs.Residuals.{residual, sends}
use Rattle.fst_runs.specs.Logs.{Birth, exchanges, openings, part_in}
use Rattle.fst_safety.specs.Threads.{Thread, FitsIn}
use Rattle.fst_safety.proofs.Laws.{checked, sound_right}
use Rattle.fst_records.specs.Entries.{part_at}
use Rattle.fst_records.specs.Records.{Course, FitsRecord, IsLogged, opens, task_of, config_of}
use Rattle.fst_worker.specs.Works.{course_of}
use Rattle.fst_worker.specs.Resumes.{GoesRight, AreTasksOf, ClocksWithin, ResumeLaw}
use Rattle.fst_records.proofs.Laws.{StampedBy, stamped_by, of_maker, others_made, own_made, corresponds, on_path, has_task, task_there, on_name, channel_of, channel_there, none_sum, path_or, path_counts, there_sums}
use Rattle.fst_worker.proofs.Rights.{goes_right}
use Rattle.fst_worker.proofs.Telling.{record_moved, joins}

-- ---- counts

-- paths are the same either way
same_both : (p q : Path) → once (same_path p q) ≡ once (same_path q p)
same_both p q = by (path_or p q) (path_or q p)
  where
    by : ((p ≡ q) × (once (same_path p q) ≡ 1)) ⊎ (once (same_path p q) ≡ 0) → ((q ≡ p) × (once (same_path q p) ≡ 1)) ⊎
        (once (same_path q p) ≡ 0) →
        once (same_path p q) ≡ once (same_path q p)
    by (inl x) y = let b = x.1 in let c = path_counts q p (sym x.0) in omega (arith, b, c)
    by (inr x) (inl y) = let b = y.1 in let c = path_counts p q (sym y.0) in omega (arith, b, c, x)
    by (inr x) (inr y) = omega (arith, x, y)

-- a channel, by its maker
abbrev by_maker : Path → ChannelHistory → ℕ
by_maker p k = once (same_path p k.name.maker)

one_more : (b : Bool) (n : ℕ) → (if b then suc n else n) ≡ once b + n
one_more true n = omega arith
one_more false n = omega arith

-- how many channels a task has made
made_sum : (p : Path) (hs : List ChannelHistory) → made_by p hs ≡ sum_by (by_maker p) hs
made_sum p [] = refl
made_sum p (h ∷ hs) =
    let a = one_more (same_path h.name.maker p) (made_by p hs) in
    let b = same_both p h.name.maker in
    let c = sum_by-cons (by_maker p) h hs in
    let d = made_sum p hs in
    a ∙ omega (arith, b, c, d)

-- the one course of a path in a sum where others count nothing
only_path : (f : Course → ℕ) (ys : List Course) (y : Course) → Contains ys y → sum_by (on_path y.path) ys ≤ 1 →
    All (λ (z : Course). on_path y.path z ≡ 0 → f z ≡ 0) ys → sum_by f ys ≡ f y
only_path f [] y c le none = absurd (contains_none y c)
only_path f (x ∷ ys) y c le none =
    by (λ c le. only_path f ys y c le (All-tail (λ (z : Course). on_path y.path z ≡ 0 → f z ≡ 0) x ys none))
    (from_contains ys y x c)
  where
    by : (Contains ys y → sum_by (on_path y.path) ys ≤ 1 → sum_by f ys ≡ f y) → (x ≡ y) ⊎ Contains ys y → sum_by f (x ∷ ys) ≡ f y
    by more (inl i) =
        let a = sum_by-cons f x ys in
        let b = sum_by-cons (on_path y.path) x ys in
        let d = path_counts y.path x.path (ap (λ (t : Course). t.path) (sym i)) in
        let e = none_sum f (on_path y.path) ys (omega (arith, b, d, le))
        (All-tail (λ (z : Course). on_path y.path z ≡ 0 → f z ≡ 0) x ys none) in
        let g = ap f i in
        omega (arith, a, e, g)
    by more (inr i) =
        let a = sum_by-cons f x ys in
        let b = sum_by-cons (on_path y.path) x ys in
        let d = there_sums (on_path y.path) ys y i in
        let g = path_counts y.path y.path refl in
        let e = All-head (λ (z : Course). on_path y.path z ≡ 0 → f z ≡ 0) x ys none (omega (arith, b, d, g, le)) in
        let r = more i (omega (arith, b, le)) in
        omega (arith, a, e, r)

-- ---- tasks

module _ (m : Module) (k : Code) where
  -- a task is found where a course is
  no_task : (ts : Tasks) (ys : List Course) (p : Path) → AreTasksOf m k ts ys → task_in ts p ≡ None → task_of ys p ≡ None
  no_task [] [] p a e = refl
  no_task [] (y ∷ ys) p a e = absurd a
  no_task (t ∷ ts) [] p a e = absurd a
  no_task (t ∷ ts) (y ∷ ys) p a e = by (no_task ts ys p a.1) (same_path t.0.path p) (ap (λ q. same_path q p) a.0.path) e
    where
      by : (task_in ts p ≡ None → task_of ys p ≡ None) → (b : Bool) → b ≡ same_path y.path p →
          (if b then Some t else task_in ts p) ≡ None →
          (if same_path y.path p then Some y.now else task_of ys p) ≡ None
      by more true q e = absurd (cc e)
      by more false q e = ap (λ (b : Bool). if b then Some y.now else task_of ys p) (sym q) ∙ more e

  -- and none where no course has the path
  none_there : (ts : Tasks) (ys : List Course) (p : Path) → AreTasksOf m k ts ys → sum_by (on_path p) ys ≡ 0 → task_in ts p ≡ None
  none_there [] [] p a z = refl
  none_there [] (y ∷ ys) p a z = absurd a
  none_there (t ∷ ts) [] p a z = absurd a
  none_there (t ∷ ts) (y ∷ ys) p a z =
      let c = sum_by-cons (on_path p) y ys in
      ap (λ (b : Bool). if b then Some t else task_in ts p) (by (same_path t.0.path p) refl)
      ∙ none_there ts ys p a.1 (omega (arith, c, z))
    where
      by : (b : Bool) → same_path t.0.path p ≡ b → b ≡ false
      by false q = refl
      by true q =
          let c = sum_by-cons (on_path p) y ys in
          let d = path_counts p y.path (sym (same_path-same t.0.path p q) ∙ a.0.path) in
          absurd (omega (arith, c, d, z))

  -- no two tasks have one path
  apart : (ts : Tasks) (ys : List Course) → AreTasksOf m k ts ys → ((p : Path) → sum_by (on_path p) ys ≤ 1) → AreApart ts
  apart [] ys a le = tt
  apart (t ∷ ts) [] a le = absurd a
  apart (t ∷ ts) (y ∷ ys) a le = (
    none_there ts ys t.0.path a.1
        (let c = sum_by-cons (on_path t.0.path) y ys in
        let d = path_counts t.0.path y.path a.0.path in
        let l = le t.0.path in
        omega (arith, c, d, l)),
    apart ts ys a.1 (λ p. let c = sum_by-cons (on_path p) y ys in let l = le p in omega (arith, c, l)),
  )

  -- the clocks of the courses
  clocks_of : (n : ℕ) (ts : Tasks) (ys : List Course) → AreTasksOf m k ts ys → ClocksWithin n ts → All
      (λ (y : Course). y.now.clock ≤ n) ys
  clocks_of n [] [] a c = All-nil (λ (y : Course). y.now.clock ≤ n)
  clocks_of n [] (y ∷ ys) a c = absurd a
  clocks_of n (t ∷ ts) [] a c = absurd a
  clocks_of n (t ∷ ts) (y ∷ ys) a c =
      All-cons (λ (y : Course). y.now.clock ≤ n) y ys (let l = c.0 in let e = a.0.time in omega (arith, l, e))
      (clocks_of n ts ys a.1 c.1)

  -- no task has forked more than its clock says
  tasks_within : (n : ℕ) (ts : Tasks) (ys : List Course) → AreTasksOf m k ts ys → ClocksWithin n ts → All
      (λ (y : Course). y.now.forked ≤ y.now.clock) ys →
      TasksWithin n ts
  tasks_within n [] ys a c f = tt
  tasks_within n (t ∷ ts) [] a c f = absurd a
  tasks_within n (t ∷ ts) (y ∷ ys) a c f =
      let l = c.0 in
      let e = a.0.time in
      let g = a.0.forked in
      let h = All-head (λ (y : Course). y.now.forked ≤ y.now.clock) y ys f in
      (l, omega (arith, l, e, g, h), tasks_within n ts ys a.1 c.1 (All-tail (λ (y : Course). y.now.forked ≤ y.now.clock) y ys f))

stamp_of : (x : EndName) (b : Bool) (e : Entry) → (part_in x b e).stamp ≡ e.stamp
stamp_of x true e = refl
stamp_of x false e = refl

-- ---- channels

module _ (m : Program) (types : List Tree) (ys : List Course) (hs : List ChannelHistory)
    (once_path : (p : Path) → sum_by (on_path p) ys ≤ 1)
    (channels : (w : ChannelName → Tree → ℕ) →
    sum_by (λ (k : ChannelHistory). w k.name k.declared) hs ≡ sum_by (opens types w) ys)
    (logs : All (IsLogged m types) ys) where
  -- the channels of a task are as many as it has made
  pub made_is : (y : Course) → Contains ys y → made_by y.path hs ≡ y.now.made
  made_is y c =
      let w = λ (h : ChannelName) (t : Tree). once (same_path y.path h.maker) in
      let f = channels w in
      let o = only_path (opens types w) ys y c (once_path y.path)
      (All-weaker (IsLogged m types) (λ (z : Course). on_path y.path z ≡ 0 → opens types w z ≡ 0)
      (λ z l q. others_made y.path z.path (openings types z.log) q
      (of_maker m types z.path z.first z.log z.now l.follows)) ys logs) in
      let l = All-contains (IsLogged m types) ys y logs c in
      let g = own_made y.path (openings types y.log) (of_maker m types y.path y.first y.log y.now l.follows) in
      made_sum y.path hs ∙ f ∙ o ∙ g ∙ l.opened

-- ---- a record

module _ (m : Program) (types : List Tree) (main : Birth) (ys : List Course) (hs : List ChannelHistory)
    (fits : FitsRecord m types main ys hs) where
  once_path : (p : Path) → sum_by (on_path p) ys ≤ 1
  once_path = (corresponds m types main ys hs fits).paths

  once_name : (h : ChannelName) → sum_by (on_name h) hs ≤ 1
  once_name = (corresponds m types main ys hs fits).names

  task_is : (y : Course) → Contains ys y → task_of ys y.path ≡ Some y.now
  task_is y c = task_there ys y c (once_path y.path)

  -- no stamp is later than all clocks
  module _ (n : ℕ) (clocks : All (λ (y : Course). y.now.clock ≤ n) ys) where
    entry_within : (k : ChannelHistory) (before : List Entry) (e : Entry) (behind : List Entry) → Contains hs k →
        k.entries.items ≡ before ++ e ∷ behind → e.stamp ≤ n
    entry_within k before e behind c is =
        let x = (corresponds m types main ys hs fits).exchanged k Left before e behind c is in
        let l = All-contains (IsLogged m types) ys x.task fits.logs x.there in
        let s = All-contains (StampedBy x.task.now.clock) (exchanges x.task.first.clock x.task.log) (part_at k Left before e)
        (stamped_by m x.task.path x.task.first x.task.log x.task.now l.follows) x.logged in
        let t = All-contains (λ (y : Course). y.now.clock ≤ n) ys x.task clocks x.there in
        let u = stamp_of (record { channel = k.name; side = Left }) (sends (residual Left k.declared before) e.event) e in
        omega (arith, s, t, u)

    stamps_within : (k : ChannelHistory) → Contains hs k →
        (before behind : List Entry) → k.entries.items ≡ before ++ behind → StampedTo n behind
    stamps_within k c before [] is = tt
    stamps_within k c before (e ∷ behind) is = (
      entry_within k before e behind c is,
      stamps_within k c (before ++ e ∷ []) behind
          (is ∙ sym (append_assoc before (e ∷ []) behind)),
    )

    channels_within : HasMakers (config_of ys hs) → All (λ (y : Course). y.now.made ≤ y.now.clock) ys →
        (ks : List ChannelHistory) → All (Contains hs) ks →
        ChannelsWithin n ks
    channels_within makers made [] c = tt
    channels_within makers made (h ∷ ks) c =
        let i = All-head (Contains hs) h ks c in
        let g = makers h.name (channel_of h) (channel_there hs h i (once_name h.name)) in
        let y = has_task ys h.name.maker g.0 g.1 in
        let l = All-contains (λ (y : Course). y.now.made ≤ y.now.clock) ys y.course made y.there in
        let t = All-contains (λ (y : Course). y.now.clock ≤ n) ys y.course clocks y.there in
        let e = ap (λ (t : Task). t.made) y.now in
        let b = g.3 in (
          omega (arith, l, t, e, b),
          stamps_within h i [] h.entries.items refl,
          channels_within makers made ks (All-tail (Contains hs) h ks c),
        )

  -- the tasks are those of the configuration
  are_there : (n : Module) (k : Code) (ts : Tasks) (us : List Course) → AreTasksOf n k ts us → All (Contains ys) us →
      AreThere n k hs (config_of ys hs) ts
  are_there n k [] us a c = tt
  are_there n k (t ∷ ts) [] a c = absurd a
  are_there n k (t ∷ ts) (y ∷ us) a c =
      let i = All-head (Contains ys) y us c in (
        record {
          task = y.now;
          there = ap (task_of ys) a.0.path ∙ task_is y i;
          is_in = a.0.is_in;
          made = ap (λ p. made_by p hs) a.0.path ∙ made_is m types ys hs once_path fits.channels fits.logs y i;
          forked = a.0.forked;
          clock = a.0.time;
        },
        are_there n k ts us a.1 (All-tail (Contains ys) y us c),
      )

-- the machine can go on at the end of each run
pub resumes : ResumeLaw
resumes n ds d a main xs ps over ys told k ts hs from are moved numbered =
    let m = surroundings n [] in
    let j = joins n ds d a main xs ps over ys told in
    let fits = record_moved m a main xs ps over hs moved ys j.record_fits in
    let zs = j.fit.0 in
    let few = λ (P : Course → Type 0) (h : (z : Thread) (f : FitsIn m a z) → P (course_of z)).
    subst (All P) j.fit.1 (All-map P course_of zs (All-weaker (FitsIn m a) (λ (z : Thread). P (course_of z)) h zs j.fit.2.fit)) in
    let c = config_of ys hs in
    let sound = j.sound hs moved in
    let goes : GoesRight n c = goes_right n ds d a c sound in
    let all : AreAll n k ts hs c = record {
      from = from;
      tasks = are_there (program n) m.types main ys hs fits n k ts ys are (All-contains_itself ys);
      apart = apart n k ts ys are (once_path (program n) m.types main ys hs fits);
      no_others = λ p e. no_task n k ts ys p are e;
      channels = λ h. refl;
      numbered = numbered;
    } in
    let right : IsRight (program n) c = sound_right m (checked n ds d) a c sound in
    let within : (n : ℕ) → ClocksWithin n ts → TasksWithin n ts × ChannelsWithin n hs = λ b q. (
      tasks_within n k b ts ys are q (few (λ y. y.now.forked ≤ y.now.clock) (λ z f. f.forked)),
      channels_within (program n) m.types main ys hs fits b (clocks_of n k b ts ys are q) goes.makers
          (few (λ y. y.now.made ≤ y.now.clock) (λ z f. f.made)) hs (All-contains_itself hs),
    ) in
    record {
      all = all;
      goes = goes;
      can_resume = record { source = n; config = c; all = all; right = right };
      within = within;
      can_run = λ b q x r. record {
        source = n;
        config = c;
        reflects = r n b c all right (within b q).0 (within b q).1;
        makers = goes.makers;
        parents = goes.parents;
        right = goes.right;
      };
    }
