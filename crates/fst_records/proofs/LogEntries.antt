-- Entries of logs, each with the task just before it.
use Rattle.std.proofs.Common.{◌≡◌, ◌∙◌, ◌<◌, ◌≤◌, ℕ, List, [], ◌∷◌, ◌++◌, refl, sym, ap, subst, arith}
use Rattle.std.specs.Prelude.{sum_by, All}
use Rattle.std.proofs.lemmas.List.{append_assoc}
use Rattle.fst_types.specs.Tree.{Tree}
use Rattle.fst_machine.specs.Machine.{Program}
use Rattle.fst_runs.specs.declared.log.LogEntry.{LogEntry}
use Rattle.fst_runs.specs.Configs.{Path, Task}
use Rattle.fst_runs.specs.Logs.{Enters, Follows, after_entry}
use Rattle.fst_runs.proofs.Laws.{later}
use Rattle.fst_records.specs.Records.{Course, IsLogged}
use Rattle.fst_records.specs.Parts.{Deed, Part, deeds, part_by, parts_by}
use Rattle.fst_records.proofs.Deeds.{one_deed}
use Rattle.fst_records.proofs.Lists.{IsAmong, among_more, found, sum_around, all_one}
use Rattle.fst_records.proofs.Stamps.{after, at_most}

-- ---- one log

-- a log leads to a task from which what is behind leads on
pub follows_split : (p : Program) (path : Path) (t : Task) (es fs : List LogEntry) (u : Task) → Follows p path t (es ++ fs) u →
    (s : Task) × Follows p path t es s × Follows p path s fs u
follows_split p path t [] fs u f = (t, refl, f)
follows_split p path t (e ∷ es) fs u f =
    let r = follows_split p path (after_entry p t e) es fs u f.1 in
    (r.0, (f.0, r.1), r.2)

-- the entry stands in a log that leads from one task to another
pub record IsEntry (p : Program) (path : Path) (t : Task) (log : List LogEntry) (u : Task) (e : LogEntry) : Type 0 where
  pub place : IsAmong log e
  pub task : Task
  pub follows : Follows p path t place.before task
  pub enters : Enters p path task e
  pub leads : Follows p path (after_entry p task e) place.behind u

-- so it is with each entry of it
abbrev pub is_entry : (p : Program) (path : Path) (t : Task) (log : List LogEntry) (u : Task) → Follows p path t log u →
    {e : LogEntry} → IsAmong log e → IsEntry p path t log u e
is_entry p path t log u f {e} a =
    let s = follows_split p path t a.before (e ∷ a.behind) u (subst (λ l. Follows p path t l u) a.is f) in
    record { place = a; task = s.0; follows = s.1; enters = s.2.0; leads = s.2.1 }

-- the first entry
abbrev pub first_entry : {p : Program} {path : Path} {t : Task} (e : LogEntry) (es : List LogEntry) (u : Task) →
    Enters p path t e →
    Follows p path (after_entry p t e) es u → IsEntry p path t (e ∷ es) u e
first_entry {t = t} e es u f g =
    record { place = record { before = []; behind = es; is = refl }; task = t; follows = refl; enters = f; leads = g }

-- an entry behind the first one
abbrev pub next_entry : {p : Program} {path : Path} {t : Task} (d : LogEntry) (es : List LogEntry) (u : Task) {e : LogEntry} →
    Enters p path t d →
    IsEntry p path (after_entry p t d) es u e → IsEntry p path t (d ∷ es) u e
next_entry d es u f r =
    record { place = among_more d r.place; task = r.task; follows = (f, r.follows); enters = r.enters; leads = r.leads }

-- an entry is one part
pub part_is : (w : Part → ℕ) (p : Path) (e : LogEntry) (d : Deed) → deeds e.asked e.answer ≡ d ∷ [] →
    part_by w p e ≡ w (record { path = p; deed = d; stamp = e.stamp })
part_is w p e d q =
    let a = ap (sum_by (λ (d : Deed). w (record { path = p; deed = d; stamp = e.stamp }))) q in
    omega (arith, a)

-- ---- the logs of all tasks

-- the entry is one of the course's log
abbrev pub IsIn : Program → Course → LogEntry → Type 0
IsIn m y e = IsEntry m y.path y.first y.log y.now e

-- the part that an entry of a course is where the task did this
abbrev pub part_of : Course → LogEntry → Deed → Part
part_of y e d = record { path = y.path; deed = d; stamp = e.stamp }

-- an entry of one of these logs that counts as a part
pub record HasEntry (m : Program) (ys : List Course) (f : Part → ℕ) : Type 0 where
  pub course : Course
  pub place : IsAmong ys course
  pub entry : LogEntry
  pub at : IsIn m course entry
  pub deed : Deed
  pub one : deeds entry.asked entry.answer ≡ deed ∷ []
  pub counts : 0 < f (part_of course entry deed)

-- where parts of logs count, one of the entries does
pub has_entry : (m : Program) (types : List Tree) (ys : List Course) → All (IsLogged m types) ys → (f : Part → ℕ) →
    0 < sum_by (parts_by f) ys → HasEntry m ys f
has_entry m types ys logs f h =
    let a = found (parts_by f) ys h in
    let y = a.item in
    let b = found (part_by f y.path) y.log a.counts in
    let at = is_entry m y.path y.first y.log y.now (all_one (IsLogged m types) a.place logs).follows b.place in
    let d = one_deed y.path at.task b.item.stamp b.item.asked b.item.answer at.enters.is_answered in
    let c = part_is f y.path b.item d.0 d.1 in
    let n = b.counts in
    record {
      course = y;
      place = a.place;
      entry = b.item;
      at = at;
      deed = d.0;
      one = d.1;
      counts = omega (arith, c, n);
    }

-- the part of an entry is in the sum
pub in_sum : (w : Part → ℕ) {ys : List Course} {y : Course} {e : LogEntry} → IsAmong ys y → IsAmong y.log e → (d : Deed) →
    deeds e.asked e.answer ≡ d ∷ [] → w (part_of y e d) ≤ sum_by (parts_by w) ys
in_sum w {y = y} {e = e} place at d q =
    let a = sum_around (parts_by w) place in
    let b = sum_around (part_by w y.path) at in
    let c = part_is w y.path e d q in
    omega (arith, a, b, c)

-- no entry's stamp is over n
abbrev pub AreBy : ℕ → List Course → Type 0
AreBy n ys = sum_by (parts_by (after n)) ys ≡ 0

module _ {n : ℕ} {ys : List Course} (by : AreBy n ys) {y : Course} (place : IsAmong ys y) where
  -- so it is with an entry
  pub entry_by : {p : Program} {t : Task} {e : LogEntry} → IsAmong y.log e → Enters p y.path t e → e.stamp ≤ n
  entry_by {t = t} {e = e} at f =
      let d = one_deed y.path t e.stamp e.asked e.answer f.is_answered in
      let a = in_sum (after n) place at d.0 d.1 in
      at_most n e.stamp (omega (arith, a, by))

  -- an entry with this stamp is the last one
  pub last_by : {m : Program} {e : LogEntry} (at : IsIn m y e) → n ≤ e.stamp → at.place.behind ≡ []
  last_by {m} {e} at l = go at.place.behind refl at.leads
    where
      go : (fs : List LogEntry) → at.place.behind ≡ fs → Follows m y.path (after_entry m at.task e) fs y.now → fs ≡ []
      go [] q f = refl
      go (g ∷ fs) q f =
          let a = later y.path (after_entry m at.task e) g.stamp g.asked g.answer f.0.is_answered in
          let next : IsAmong y.log g =
          record {
            before = at.place.before ++ e ∷ [];
            behind = fs;
            is = at.place.is ∙ ap (λ (l : List LogEntry). at.place.before ++ e ∷ l) q
                ∙ sym (append_assoc at.place.before (e ∷ []) (g ∷ fs));
          } in
          let b = entry_by next f.0 in
          absurd (omega (arith, a, b, l))
