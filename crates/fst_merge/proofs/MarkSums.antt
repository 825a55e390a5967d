-- The parts that the marks of tasks are, and those of a record's logs.
use Rattle.std.proofs.Common.{◌≡◌, ◌∙◌, ℕ, zero, ◌+◌, ◌≤◌, List, [], ◌∷◌, Bool, true, false, refl, sym, ap, arith, get_or}
use Rattle.std.specs.Prelude.{sum_by, map, All, if◌then◌else◌}
use Rattle.std.proofs.lemmas.List.Concat.{flat_map-cons}
use Rattle.std.proofs.lemmas.List.Sums.{sum_by-append, sum_by-cons}
use Rattle.fst_machine.specs.Machine.{Program}
use Rattle.fst_machine.specs.declared.request.Request.{Request}
use Rattle.fst_machine.specs.declared.request.Request.TheVariants as request
use Rattle.fst_machine.specs.declared.request.Answer.{Answer}
use Rattle.fst_machine.specs.declared.request.Answer.TheVariants as answer
use Rattle.fst_runs.specs.declared.log.LogEntry.{LogEntry}
use Rattle.fst_runs.specs.Configs.{Path, Task, same_path}
use Rattle.fst_runs.specs.Logs.{Follows, IsAnswered, after_entry, forks_after}
use Rattle.fst_runs.specs.Wrong.{once}
use Rattle.fst_records.specs.Records.{Course, log_of}
use Rattle.fst_records.specs.Parts.{Part, part_by, parts_by}
use Rattle.fst_records.proofs.Laws.{entries, sum_none}
use Rattle.fst_runs.proofs.Laws.{same_path-same}
use Rattle.fst_process.specs.declared.marks.Mark.{Mark}
use Rattle.fst_process.specs.declared.marks.TaskMarks.{TaskMarks}
use Rattle.fst_process.specs.Marks.{AreOnce, mark_of, marks_at, marks_from}
use Rattle.fst_merge.specs.Merging.{AreOfRecord}
use Rattle.fst_merge.specs.Receipts.{part_of, parts_in, parts_of_task}
use Rattle.fst_merge.proofs.PathSums.{counts, first_at, same_sums, weighs_at, weighs_first}

module _ (w : Part → ℕ) where
  -- what the marks of the task with this path weigh
  abbrev marks_by : Path → List Mark → ℕ
  marks_by p ks = sum_by (λ k. w (part_of p k)) ks

  -- ---- logs

  -- an entry is the part that its mark is
  entry_part : (p : Path) (t : Task) (forked stamp : ℕ) (q : Request) (a : Answer) → IsAnswered p t stamp q a →
      part_by w p (record { asked = q; answer = a; stamp = stamp })
      ≡ w (part_of p (mark_of p forked (record { asked = q; answer = a; stamp = stamp })))
  entry_part p t forked stamp request.Step answer.Go i = omega arith
  entry_part p t forked stamp (request.New n) (answer.Made h) i = omega arith
  entry_part p t forked stamp request.Fork answer.Forked i = omega arith
  entry_part p t forked stamp (request.Put x ev) answer.Sent i = omega arith
  entry_part p t forked stamp (request.Get x) (answer.Got ev) i = omega arith
  entry_part p t forked stamp q a i = absurd i

  -- and a log's entries are those that its marks are
  log_parts : (m : Program) (p : Path) (t : Task) (es : List LogEntry) (u : Task) (forked : ℕ) → Follows m p t es u →
      sum_by (part_by w p) es ≡ marks_by p (marks_from p forked es)
  log_parts m p t [] u forked f = refl
  log_parts m p t (e ∷ es) u forked f =
      let a = sum_by-cons (part_by w p) e es in
      let b = sum_by-cons (λ k. w (part_of p k)) (mark_of p forked e) (marks_from p (forks_after e.answer forked) es) in
      let c = entry_part p t forked e.stamp e.asked e.answer f.0.is_answered in
      let ih = log_parts m p (after_entry m t e) es u (forks_after e.answer forked) f.1 in
      omega (arith, a, b, c, ih)

  -- ---- marks

  mapped : (p : Path) (ks : List Mark) → sum_by w (map (part_of p) ks) ≡ marks_by p ks
  mapped p [] = refl
  mapped p (k ∷ ks) =
      let a = sum_by-cons w (part_of p k) (map (part_of p) ks) in
      let b = sum_by-cons (λ k. w (part_of p k)) k ks in
      let ih = mapped p ks in
      omega (arith, a, b, ih)

  in_tasks : (ts : List TaskMarks) → sum_by w (parts_in ts) ≡ sum_by (λ (t : TaskMarks). marks_by t.path t.marks.items) ts
  in_tasks [] = refl
  in_tasks (t ∷ ts) =
      let a = ap (sum_by w) (flat_map-cons parts_of_task t ts) in
      let b = sum_by-append w (parts_of_task t) (parts_in ts) in
      let c = mapped t.path t.marks.items in
      let d = sum_by-cons (λ (t : TaskMarks). marks_by t.path t.marks.items) t ts in
      let ih = in_tasks ts in
      omega (arith, a, b, c, d, ih)

-- no two tasks with marks have one path
once_count : (ts : List TaskMarks) → AreOnce ts → (p : Path) → sum_by (counts (λ (t : TaskMarks). t.path) p) ts ≤ 1
once_count [] o p = omega arith
once_count (t ∷ ts) o p =
    let a = sum_by-cons (counts (λ (t : TaskMarks). t.path) p) t ts in
    let ih = once_count ts o.1 p in
    by (same_path p t.path) refl a ih
  where
    apart : same_path p t.path ≡ true → (u : TaskMarks) → same_path t.path u.path ≡ false →
        counts (λ (t : TaskMarks). t.path) p u ≡ 0
    apart e u f = ap once (ap (λ q. same_path q u.path) (same_path-same p t.path e) ∙ f)

    by : (b : Bool) → same_path p t.path ≡ b → sum_by (counts (λ (t : TaskMarks). t.path) p) (t ∷ ts)
        ≡ once b + sum_by (counts (λ (t : TaskMarks). t.path) p) ts → sum_by (counts (λ (t : TaskMarks). t.path) p) ts ≤ 1 →
        sum_by (counts (λ (t : TaskMarks). t.path) p) (t ∷ ts) ≤ 1
    by false e a ih = omega (arith, a, ih)
    by true e a ih =
        let none = sum_none (counts (λ (t : TaskMarks). t.path) p) (λ (u : TaskMarks). same_path t.path u.path ≡ false)
        (apart e) ts o.0 in
        omega (arith, a, none)

-- the marks of the first task with a path are those at it
marks_first : (ts : List TaskMarks) (p : Path) → first_at (λ (t : TaskMarks). t.path) (λ t. t.marks.items) ts p ≡ marks_at ts p
marks_first [] p = refl
marks_first (t ∷ ts) p = ap (λ l. if same_path t.path p then t.marks.items else l) (marks_first ts p)

-- and so it is with logs
log_first : (ys : List Course) (p : Path) → first_at (λ (y : Course). y.path) (λ y. y.log) ys p ≡ log_of ys p
log_first [] p = refl
log_first (y ∷ ys) p = ap (λ l. if same_path y.path p then y.log else l) (log_first ys p)

-- the parts of all marks are those of the record's logs, however they are weighed
pub marks_sum : (ts : List TaskMarks) (d : AreOfRecord ts) (w : Part → ℕ) → sum_by w (parts_in ts) ≡ sum_by (parts_by w) d.tasks
marks_sum ts d w = in_tasks w ts ∙ same_sums (λ (t : TaskMarks). t.path) (λ (y : Course). y.path) ts d.tasks
    (λ t. marks_by w t.path t.marks.items) (parts_by w) (once_count ts d.marks.once) at
  where
    logged : All (λ (y : Course). parts_by w y ≡ marks_by w y.path (marks_from y.path zero y.log)) d.tasks
    logged k e l = let y = get_or d.tasks k e in log_parts w d.program y.path y.first y.log y.now zero (d.fits.logs k e l).follows

    at : (p : Path) → sum_by (weighs_at (λ (t : TaskMarks). t.path) (λ t. marks_by w t.path t.marks.items) p) ts
        ≡ sum_by (weighs_at (λ (y : Course). y.path) (parts_by w) p) d.tasks
    at p =
        weighs_first (λ (t : TaskMarks). t.path) (λ t. t.marks.items) (λ t. marks_by w t.path t.marks.items) (marks_by w)
        (λ p. refl) ts (λ k e l. refl) (once_count ts d.marks.once) p
        ∙ ap (marks_by w p) (marks_first ts p ∙ d.marks.are p
        ∙ ap (marks_from p zero) (sym (log_first d.tasks p)))
        ∙ sym (weighs_first (λ (y : Course). y.path) (λ y. y.log) (parts_by w) (λ p es. marks_by w p (marks_from p zero es))
        (λ p. refl) d.tasks logged (entries d.program d.types _ d.tasks d.channels d.fits).paths p)
