-- Marks are put behind those that a map has.
use Rattle.std.proofs.Common.{◌≡◌, ◌∙◌, Bool, true, false, List, [], ◌∷◌, ◌++◌, Some, refl, sym, ap, append_assoc, append-nil}
use Rattle.std.specs.Prelude.{All, if◌then◌else◌}
use Rattle.std.specs.BTreeMap.{BTreeMap, Updates}
use Rattle.std.specs.Cmp.Lexicographic.{slice_cmp}
use Rattle.std.specs.Map.{lookup}
use Rattle.std.specs.Ordering.{nat_cmp}
use Rattle.std.specs.declared.alloc.Global.{Global}
use Rattle.std.specs.declared.vec.Vec.{Vec}
use Rattle.std.proofs.lemmas.List.Elements.{All-head, All-tail}
use Rattle.fst_paths.specs.Paths.{at_path, AreInOrder, Key}
use Rattle.fst_paths.specs.ChannelLists.{listed}
use Rattle.fst_paths.proofs.Laws.{found_after, put_mapped}
use Rattle.fst_runs.specs.Configs.{Path, same_path}
use Rattle.fst_runs.proofs.Laws.{same_path-same}
use Rattle.fst_process.specs.declared.marks.Mark.{Mark}
use Rattle.fst_process.specs.declared.marks.TaskMarks.{TaskMarks}
use Rattle.fst_process.specs.Marks.{marks_at, AreOnce, AreMarks}
use Rattle.fst_process.specs.Marking.{MarkLists, marks_in, tasks_of}
use Rattle.fst_process.proofs.Laws.{are_marks, same_path-swapped}
use Rattle.fst_worker.specs.Marking.{one_at, all_at}

-- a map that has these marks behind its own at the path of a task
pub added : (old mid new : BTreeMap Key (Vec Mark Global)) (t : TaskMarks) (k : Key) (v : Vec Mark Global) → k.items ≡ t.path →
    new ≡ mid → Updates (λ a b. slice_cmp nat_cmp a.items b.items) old mid k (Some v) →
    v.items ≡ marks_in old.entries k.items ++ t.marks.items →
    (p : Path) → marks_in new.entries p ≡ marks_in old.entries p ++ one_at t p
added old mid new t k v at same u is p =
    ap (λ (m : BTreeMap Key (Vec Mark Global)). marks_in m.entries p) same
    ∙ ap listed (found_after k.items old.entries mid.entries (Some v) u.1 u.3 p)
    ∙ put_mapped listed k.items (Some v) (λ o. lookup (at_path o) old.entries) p
    ∙ by (same_path k.items p) refl
    ∙ ap (λ o. marks_in old.entries p ++ (if same_path o p then t.marks.items else [])) at
  where
    by : (b : Bool) → same_path k.items p ≡ b →
        (if b then v.items else marks_in old.entries p) ≡ marks_in old.entries p ++ (if b then t.marks.items else [])
    by true e = is ∙ ap (λ o. marks_in old.entries o ++ t.marks.items) (same_path-same k.items p e)
    by false e = sym (append-nil (marks_in old.entries p))

-- one task more
pub added_more : (old mid goal : List Mark) (t : TaskMarks) (ts : List TaskMarks) (p : Path) → mid ≡ old ++ one_at t p →
    old ++ all_at (t ∷ ts) p ≡ goal → mid ++ all_at ts p ≡ goal
added_more old mid goal t ts p e f = ap (λ l. l ++ all_at ts p) e ∙ append_assoc old (one_at t p) (all_at ts p) ∙ f

-- none of these tasks has this path
none_at : (p : Path) (ts : List TaskMarks) → All (λ (t : TaskMarks). same_path p t.path ≡ false) ts → all_at ts p ≡ []
none_at p [] a = refl
none_at p (t ∷ ts) a =
    let apart = All-head (λ (t : TaskMarks). same_path p t.path ≡ false) t ts a in
    ap (λ b. (if b then t.marks.items else []) ++ all_at ts p) (same_path-swapped t.path p ∙ apart)
    ∙ none_at p ts (All-tail (λ (t : TaskMarks). same_path p t.path ≡ false) t ts a)

-- where no two tasks have one path, the marks of all tasks with a path are those of the first one
once_at : (ts : List TaskMarks) (p : Path) → AreOnce ts → all_at ts p ≡ marks_at ts p
once_at [] p o = refl
once_at (t ∷ ts) p o = by (same_path t.path p) refl (once_at ts p o.1)
  where
    by : (b : Bool) → same_path t.path p ≡ b → all_at ts p ≡ marks_at ts p →
        (if b then t.marks.items else []) ++ all_at ts p ≡ (if b then t.marks.items else marks_at ts p)
    by true e f =
        ap (λ l. t.marks.items ++ l) (ap (all_at ts) (sym (same_path-same t.path p e)) ∙ none_at t.path ts o.0)
        ∙ append-nil t.marks.items
    by false e f = f

-- the tasks of a map with the marks of two lists have them one behind the other
pub joined_marks : (none half all : MarkLists) (ts us vs : List TaskMarks) → none ≡ [] →
    ((p : Path) → marks_in half p ≡ marks_in none p ++ all_at ts p) →
    ((p : Path) → marks_in all p ≡ marks_in half p ++ all_at us p) →
    AreInOrder all → vs ≡ tasks_of all →
    (f g : Path → List Mark) → AreMarks ts f → AreMarks us g → AreMarks vs (λ p. f p ++ g p)
joined_marks none half all ts us vs empty first more o is f g a b =
    are_marks all vs (λ p. f p ++ g p) o is λ p.
    more p
    ∙ ap (λ l. l ++ all_at us p) (first p ∙ ap (λ e. marks_in e p ++ all_at ts p) empty ∙ once_at ts p a.once ∙ a.are p)
    ∙ ap (λ l. f p ++ l) (once_at us p b.once ∙ b.are p)
