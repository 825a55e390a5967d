-- What lists of marks have is what the map of them has.
use Rattle.std.proofs.Common.{◌≡◌, ◌∙◌, Bool, true, false, cond, List, [], ◌∷◌, ◌++◌, Some, refl, sym, ap, subst}
use Rattle.std.specs.Prelude.{if◌then◌else◌}
use Rattle.std.specs.List.{AllByRecursion}
use Rattle.std.specs.Map.{lookup, KeepsOthers}
use Rattle.std.specs.Ordering.{is_eq}
use Rattle.std.specs.declared.alloc.Global.{Global}
use Rattle.std.specs.declared.vec.Vec.{Vec}
use Rattle.std.proofs.lemmas.List.Elements.{All-from_recursion}
use Rattle.fst_runs.specs.Configs.{Path, same_path}
use Rattle.fst_process.specs.declared.marks.Mark.{Mark}
use Rattle.fst_process.specs.declared.marks.TaskMarks.{TaskMarks}
use Rattle.fst_paths.specs.Paths.{put_at, at_path, AreInOrder, same_key}
use Rattle.fst_paths.specs.ChannelLists.{listed}
use Rattle.fst_process.specs.Marks.{marks_at, AreOnce, AreMarks}
use Rattle.fst_process.specs.Marking.{MarkLists, marks_in, tasks_of, with_marks}
use Rattle.fst_paths.proofs.Laws.{at_same, found_after, put_mapped, AreBehind, in_order}
use Rattle.fst_process.proofs.NoteLaws.{same_path-swapped}

-- no task has the path of one before it
apart_each : (p : Path) (es : MarkLists) → AreBehind p es →
    AllByRecursion (λ (t : TaskMarks). same_path p t.path ≡ false) (tasks_of es)
apart_each p [] a = tt
apart_each p (e ∷ es) a = (sym (at_same p e.0.items) ∙ ap is_eq a.0, apart_each p es a.1)

once : (es : MarkLists) → AreInOrder es → AreOnce (tasks_of es)
once [] o = tt
once (e ∷ es) o =
    let both = in_order e es o in (
      All-from_recursion (λ (t : TaskMarks). same_path e.0.items t.path ≡ false) (tasks_of es)
          (apart_each e.0.items es both.0),
      once es both.1,
    )

found : (es : MarkLists) (p : Path) → marks_at (tasks_of es) p ≡ marks_in es p
found [] p = refl
found (e ∷ es) p =
    by (same_path e.0.items p) (found es p)
    ∙ ap (λ b. listed (cond b (Some e.1) (lookup (at_path p) es)))
    (same_path-swapped e.0.items p ∙ sym (at_same p e.0.items))
  where
    by : (b : Bool) → marks_at (tasks_of es) p ≡ marks_in es p →
        (if b then e.1.items else marks_at (tasks_of es) p) ≡ listed (cond b (Some e.1) (lookup (at_path p) es))
    by true f = refl
    by false f = f

-- the tasks of a map in order have the marks that it has
pub are_marks : (es : MarkLists) (ts : List TaskMarks) (f : Path → List Mark) → AreInOrder es → ts ≡ tasks_of es →
    ((p : Path) → marks_in es p ≡ f p) → AreMarks ts f
are_marks es ts f o is e =
    subst (λ us. AreMarks us f) (sym is) (record { once = once es o; are = λ p. found es p ∙ e p })

-- a map in which a path has more marks
pub marks_after : (p q : Path) (xs : List Mark) (old new : MarkLists) (w : Vec Mark Global) → q ≡ p →
    w.items ≡ marks_in old p ++ xs → lookup (at_path q) new ≡ Some w → KeepsOthers same_key (at_path q) old new →
    marks_in new ≡ with_marks p xs (marks_in old)
marks_after p q xs old new w is more here others = λ i o.
    (ap listed (found_after q old new (Some w) here others o)
    ∙ put_mapped listed q (Some w) (λ r. lookup (at_path r) old) o
    ∙ (λ j. put_at (is j) (more j) (marks_in old) o)) i
