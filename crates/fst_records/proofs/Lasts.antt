-- The last entries of logs, and tasks without them.
use Rattle.std.proofs.Common.{◌≡◌, ◌∙◌, ◌⊎◌, inl, inr, ◌<◌, ◌≤◌, ℕ, ◌+◌, List, [], ◌∷◌, ◌++◌, length, Bool, true, false, Option, Some, None, refl, sym, ap, arith}
use Rattle.std.specs.Prelude.{sum_by, All, slice_get}
use Rattle.std.proofs.lemmas.List.{length-append}
use Rattle.std.proofs.lemmas.List.Sums.{sum_by-append, sum_by-cons, sum_by_push}
use Rattle.fst_types.specs.Tree.{Tree}
use Rattle.fst_types.specs.declared.ends.ChannelName.{ChannelName}
use Rattle.fst_machine.specs.declared.request.Request.{Request}
use Rattle.fst_machine.specs.declared.request.Request.TheVariants as request
use Rattle.fst_machine.specs.declared.request.Answer.{Answer}
use Rattle.fst_machine.specs.declared.request.Answer.TheVariants.{Go, Made, Forked, Sent, Got}
use Rattle.fst_machine.specs.Machine.{Program, answered, or_lost}
use Rattle.fst_runs.specs.declared.log.LogEntry.{LogEntry}
use Rattle.fst_runs.specs.Configs.{Path, Task, same_path}
use Rattle.fst_runs.specs.Logs.{Birth, Exchange, Opening, Enters, Follows, after_entry, made_after, forks_after, exchanged_by, opened_by, opening_of, born_by, exchanges, openings, births}
use Rattle.fst_runs.specs.Wrong.{once}
use Rattle.fst_runs.proofs.Laws.{same_path-itself, same_path-same, same_path-apart, put, none_opened, opened_more}
use Rattle.fst_records.specs.Records.{Course, began, bears, opens, trades, IsLogged, task_of}
use Rattle.fst_records.specs.Parts.{Part, deeds, part_by, parts_by}
use Rattle.fst_records.proofs.Codes.{just, just_same, part_code}
use Rattle.fst_records.proofs.Found.{on_path}
use Rattle.fst_records.proofs.Lists.{IsAmong, in_place, swapped, without, one_or_among, sum_around, sum_with, sum_without, all_one, all_with}
use Rattle.fst_records.proofs.LogEntries.{IsIn, has_entry, AreBy, last_by}
use Rattle.fst_records.proofs.Placing.{put_first}
use Rattle.fst_records.proofs.Sums.{exchanges_more, births_more, openings_more}
use Rattle.fst_records.proofs.Tests.{path_counts}

-- ---- the last entry

-- the entry is the last one of the course's log
pub record Last (m : Program) (y : Course) (e : LogEntry) : Type 0 where
  pub log : List LogEntry
  pub is : y.log ≡ log ++ e ∷ []
  pub before : Task
  pub follows : Follows m y.path y.first log before
  pub enters : Enters m y.path before e
  pub now : y.now ≡ after_entry m before e

-- an entry behind which nothing stands is
pub is_last : {m : Program} {y : Course} {e : LogEntry} (at : IsIn m y e) → at.place.behind ≡ [] → Last m y e
is_last {m} {y} {e} at none = record {
  log = at.place.before;
  is = at.place.is ∙ ap (λ (l : List LogEntry). at.place.before ++ e ∷ l) none;
  before = at.task;
  follows = at.follows;
  enters = at.enters;
  now = leads at.place.behind none at.leads;
}
  where
    leads : (fs : List LogEntry) → fs ≡ [] → Follows m y.path (after_entry m at.task e) fs y.now → y.now ≡ after_entry m at.task e
    leads [] q f = f
    leads (g ∷ fs) q f = absurd (cc q)

module _ {m : Program} {y : Course} {e : LogEntry} (l : Last m y e) where
  -- the task that is there after it, by what it was told and when
  pub now_after : (a : Answer) (n : ℕ) → e.answer ≡ a → e.stamp ≡ n →
      y.now ≡ record {
        state = l.enters.state;
        made = made_after a l.before.made;
        forked = forks_after a l.before.forked;
        clock = n;
      }
  now_after a n q s = l.now ∙ (λ i. record {
    state = or_lost (l.enters.leads i);
    made = made_after (q i) l.before.made;
    forked = forks_after (q i) l.before.forked;
    clock = s i;
  })

  -- where this answer leads
  pub answer_leads : (a : Answer) → e.answer ≡ a → answered m l.before.state a ≡ Some l.enters.state
  answer_leads a q = ap (answered m l.before.state) (sym q) ∙ l.enters.leads

-- one of the courses has this part as its last entry
pub record HasLast (m : Program) (ys : List Course) (r : Part) : Type 0 where
  pub course : Course
  pub place : IsAmong ys course
  pub entry : LogEntry
  pub last : Last m course entry
  pub path : course.path ≡ r.path
  pub deed : deeds entry.asked entry.answer ≡ r.deed ∷ []
  pub stamp : entry.stamp ≡ r.stamp

-- where the part is there, and no stamp is over its
pub has_last : (m : Program) (types : List Tree) (ys : List Course) (r : Part) → All (IsLogged m types) ys → AreBy r.stamp ys →
    0 < sum_by (parts_by (just part_code r)) ys → HasLast m ys r
has_last m types ys r logs by h =
    let a = has_entry m types ys logs (just part_code r) h in
    let s : Part = record { path = a.course.path; deed = a.deed; stamp = a.entry.stamp } in
    let q : r ≡ s = just_same part_code r s a.counts in
    let n = ap (λ (r : Part). r.stamp) q in
    record {
      course = a.course;
      place = a.place;
      entry = a.entry;
      last = is_last a.at (last_by by a.place a.at (omega (arith, n)));
      path = sym (ap (λ (r : Part). r.path) q);
      deed = a.one ∙ ap (λ (r : Part). r.deed ∷ []) (sym q);
      stamp = sym n;
    }

-- ---- types of channels

-- at most one channel is opened at an entry
one_opened : (types : List Tree) (q : Request) (h : ChannelName) → length (opened_by types q (Made h)) ≤ 1
one_opened types (request.New k) h = by (slice_get types k)
  where
    by : (o : Option Tree) → length (opening_of h o) ≤ 1
    by None = omega arith
    by (Some d) = omega arith
one_opened types q h = omega arith

-- no more channels are opened than are made
opened_few : (types : List Tree) (q : Request) (a : Answer) (n : ℕ) → length (opened_by types q a) + n ≤ made_after a n
opened_few types q Go n = let z = none_opened types q Go n refl in omega (arith, z)
opened_few types q (Made h) n = let z = one_opened types q h in omega (arith, z)
opened_few types q Forked n = let z = none_opened types q Forked n refl in omega (arith, z)
opened_few types q Sent n = let z = none_opened types q Sent n refl in omega (arith, z)
opened_few types q (Got ev) n = let z = none_opened types q (Got ev) n refl in omega (arith, z)

-- so it is along a log
all_few : (m : Program) (types : List Tree) (path : Path) (t : Task) (es : List LogEntry) (u : Task) → Follows m path t es u →
    length (openings types es) + t.made ≤ u.made
all_few m types path t [] u f = let a = ap (λ (t : Task). t.made) f in omega (arith, a)
all_few m types path t (e ∷ es) u f =
    let a = length-append (opened_by types e.asked e.answer) (openings types es) in
    let b = opened_few types e.asked e.answer t.made in
    let c = all_few m types path (after_entry m t e) es u f.1 in
    omega (arith, a, b, c)

-- what a log opens with one entry more
openings_push : (types : List Tree) (es : List LogEntry) (e : LogEntry) →
    length (openings types (es ++ e ∷ [])) ≡ length (openings types es) + length (opened_by types e.asked e.answer)
openings_push types es e = opened_more types es e (length (openings types es)) _ refl refl

module _ {m : Program} (types : List Tree) {y : Course} {e : LogEntry} (logged : IsLogged m types y) (l : Last m y e) where
  opened : (length (openings types l.log) ≡ l.before.made)
      × (length (opened_by types e.asked e.answer) + l.before.made ≡ made_after e.answer l.before.made)
  opened =
      let a = logged.opened in
      let b = ap (λ (es : List LogEntry). length (openings types es)) l.is in
      let c = openings_push types l.log e in
      let d = all_few m types y.path y.first l.log l.before l.follows in
      let f = opened_few types e.asked e.answer l.before.made in
      let g = ap (λ (t : Task). t.made) l.now in
      (omega (arith, a, b, c, d, f, g), omega (arith, a, b, c, d, f, g))

  -- each channel that was made before the last entry has a type
  pub opened_before : length (openings types l.log) ≡ l.before.made
  opened_before = opened.0

  -- and so has one that is made at it
  pub opened_last : length (opened_by types e.asked e.answer) + l.before.made ≡ made_after e.answer l.before.made
  opened_last = opened.1

-- ---- tasks by their paths

-- what is put twice by one test
pub put_twice : {X : Type 0} (b : Bool) (x y : X) (o : Option X) → put b x (put b y o) ≡ put b x o
put_twice true x y o = refl
put_twice false x y o = refl

-- what is put by two tests of which one holds at most
pub put_behind : {X : Type 0} (b c : Bool) (x y : X) (o : Option X) → (b ≡ true → c ≡ false) →
    put c y (put b x o) ≡ put b x (put c y o)
put_behind false c x y o h = refl
put_behind true c x y o h = ap (λ a. put a y (Some x)) (h refl)

-- the task of a course with whose path there is no other before it
pub task_first : (before : List Course) (z : Course) (behind : List Course) → sum_by (on_path z.path) before ≡ 0 → (q : Path) →
    task_of (before ++ z ∷ behind) q ≡ put (same_path z.path q) z.now (task_of (before ++ behind) q)
task_first [] z behind h q = put_first (same_path z.path q) z.now (task_of behind q)
task_first (b ∷ before) z behind h q =
    let a = sum_by-cons (on_path z.path) b before in
    let none : once (same_path z.path b.path) ≡ 0 = omega (arith, a, h) in
    let rest = task_first before z behind (omega (arith, a, h)) q in
    put_first (same_path b.path q) b.now (task_of (before ++ z ∷ behind) q) ∙ ap (λ o. put (same_path b.path q) b.now o) rest
    ∙ put_behind (same_path z.path q) (same_path b.path q) z.now b.now (task_of (before ++ behind) q)
    (λ e. same_path-apart b.path q (λ f.
    let c = path_counts z.path b.path (same_path-same z.path q e ∙ sym f) in
    absurd (omega (arith, c, none))))
    ∙ ap (λ o. put (same_path z.path q) z.now o) (sym (put_first (same_path b.path q) b.now (task_of (before ++ behind) q)))

-- no two of these courses have one path
abbrev pub AreApart : List Course → Type 0
AreApart ys = (p : Path) → sum_by (on_path p) ys ≤ 1

module _ {ys : List Course} (one : AreApart ys) {y : Course} (place : IsAmong ys y) where
  -- no course before it has its path
  pub none_before : sum_by (on_path y.path) place.before ≡ 0
  none_before =
      let a = sum_around (on_path y.path) place in
      let b = path_counts y.path y.path refl in
      let c = one y.path in
      omega (arith, a, b, c)

  -- a course with its path is the same
  pub one_by_path : {z : Course} → IsAmong ys z → z.path ≡ y.path → y ≡ z
  one_by_path {z} at e = by (one_or_among place at)
    where
      by : (y ≡ z) ⊎ IsAmong (without place) z → y ≡ z
      by (inl q) = q
      by (inr a) =
          let b = sum_without (on_path y.path) place in
          let c = sum_around (on_path y.path) a in
          let d = path_counts y.path z.path (sym e) in
          let f = path_counts y.path y.path refl in
          let g = one y.path in
          absurd (omega (arith, b, c, d, f, g))

-- ---- without the last entry

-- the course without it
abbrev pub cut : {m : Program} {y : Course} {e : LogEntry} → Last m y e → Course
cut {y = y} l = record { path = y.path; first = y.first; log = l.log; now = l.before }

-- these courses, where this one has no last entry
pub record Shortened (m : Program) (types : List Tree) (ys : List Course) (y : Course) (e : LogEntry)
    (l : Last m y e) : Type 0 where
  pub courses : List Course
  pub place : IsAmong courses (cut l)
  pub apart : AreApart courses
  pub logs : All (IsLogged m types) courses
  -- how they begin, which tasks their logs fork, which channels they open, what they exchange, and what their parts are
  pub births : (w : Birth → ℕ) → sum_by (λ (x : Course). w (began x)) ys ≡ sum_by (λ (x : Course). w (began x)) courses
  pub bears : (w : Birth → ℕ) →
      sum_by (bears m w) ys ≡ sum_by (bears m w) courses + sum_by w (born_by m y.path l.before e.stamp e.answer)
  pub opens : (w : ChannelName → Tree → ℕ) → sum_by (opens types w) ys ≡ sum_by (opens types w) courses +
      sum_by (λ (o : Opening). w o.name o.declared) (opened_by types e.asked e.answer)
  pub trades : (w : Exchange → ℕ) → sum_by (trades w) ys ≡ sum_by (trades w) courses +
      sum_by w (exchanged_by l.before.clock e.stamp e.asked e.answer)
  pub parts : (w : Part → ℕ) → sum_by (parts_by w) ys ≡ sum_by (parts_by w) courses + part_by w y.path e
  -- the task is then the one before the entry, and the tasks are those then with the task now
  pub there : task_of courses y.path ≡ Some l.before
  pub tasks : (q : Path) → task_of ys q ≡ put (same_path y.path q) y.now (task_of courses q)

-- so they are where all are logged and no two have one path
pub shortened : (m : Program) (types : List Tree) (ys : List Course) → All (IsLogged m types) ys → AreApart ys →
    {y : Course} (place : IsAmong ys y)
    {e : LogEntry} (l : Last m y e) → Shortened m types ys y e l
shortened m types ys logs one {y} place {e} l = record {
  courses = swapped place (cut l);
  place = in_place place (cut l);
  apart = λ p.
      let a = sum_around (on_path p) place in
      let b = sum_around (on_path p) (in_place place (cut l)) in
      let c = one p in
      omega (arith, a, b, c);
  logs = all_with (IsLogged m types) place (cut l) logs (record {
    none_made = logged.none_made;
    none_forked = logged.none_forked;
    follows = l.follows;
    opened = opened_before types logged l;
  });
  births = λ w. let a = sum_with (λ (x : Course). w (began x)) place (cut l) in omega (arith, a);
  bears = λ w.
      let a = ap (λ (k : List LogEntry). sum_by w (births m y.path y.first k)) l.is in
      let b = births_more w m y.path y.first l.log (e ∷ []) l.before l.follows in
      let c = sum_by-append w (born_by m y.path l.before e.stamp e.answer) [] in
      let d = sum_with (bears m w) place (cut l) in
      omega (arith, a, b, c, d);
  opens = λ w.
      let f = λ (o : Opening). w o.name o.declared in
      let a = ap (λ (k : List LogEntry). sum_by f (openings types k)) l.is in
      let b = openings_more f types l.log (e ∷ []) in
      let c = sum_by-append f (opened_by types e.asked e.answer) [] in
      let d = sum_with (opens types w) place (cut l) in
      omega (arith, a, b, c, d);
  trades = λ w.
      let a = ap (λ (k : List LogEntry). sum_by w (exchanges y.first.clock k)) l.is in
      let b = exchanges_more w m y.path y.first l.log (e ∷ []) l.before l.follows in
      let c = sum_by-append w (exchanged_by l.before.clock e.stamp e.asked e.answer) [] in
      let d = sum_with (trades w) place (cut l) in
      omega (arith, a, b, c, d);
  parts = λ w.
      let a = ap (λ (k : List LogEntry). sum_by (part_by w y.path) k) l.is in
      let b = sum_by_push (part_by w y.path) l.log e in
      let d = sum_with (parts_by w) place (cut l) in
      omega (arith, a, b, d);
  there = task_first place.before (cut l) place.behind (none_before one place) y.path
      ∙ ap (λ b. put b l.before (task_of (without place) y.path)) (same_path-itself y.path);
  tasks = λ q.
      ap (λ (k : List Course). task_of k q) place.is ∙ task_first place.before y place.behind (none_before one place) q
      ∙ sym (put_twice (same_path y.path q) y.now l.before (task_of (without place) q))
      ∙ ap (λ o. put (same_path y.path q) y.now o)
      (sym (task_first place.before (cut l) place.behind (none_before one place) q));
}
  where
    logged : IsLogged m types y
    logged = all_one (IsLogged m types) place logs
