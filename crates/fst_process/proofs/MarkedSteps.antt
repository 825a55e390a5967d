-- The marks of a task that steps again and again.
use Rattle.std.proofs.Common.{◌≡◌, ◌∙◌, ◌+◌, ℕ, zero, suc, Bool, true, false, Some, List, [], ◌∷◌, ◌++◌, refl, sym, ap, subst, arith}
use Rattle.std.specs.Prelude.{if◌then◌else◌}
use Rattle.std.proofs.lemmas.List.{append-nil, append_assoc}
use Rattle.fst_base.proofs.Options.{some_same}
use Rattle.fst_machine.specs.declared.code.Code.{Code}
use Rattle.fst_runs.specs.declared.event.CoreEvent.TheVariants.{Local}
use Rattle.fst_runs.specs.Configs.{Path, same_path}
use Rattle.fst_runs.proofs.Laws.{same_path-same}
use Rattle.fst_process.specs.declared.marks.Done.TheVariants as done
use Rattle.fst_process.specs.declared.marks.Mark.{Mark}
use Rattle.fst_vm.specs.Slot.{Slot}
use Rattle.fst_paths.specs.Paths.{put_at}
use Rattle.fst_process.specs.Kept.{Kept}
use Rattle.fst_vm.specs.Going.{StepsOn}
use Rattle.fst_process.specs.Firing.{HasStepped}
use Rattle.fst_process.specs.Marking.{step_marks, with_mark, with_marks}
use Rattle.fst_paths.proofs.Laws.{put_here, put_twice}
use Rattle.fst_process.proofs.Alone.{StepsFirst, at_slot, next_again, stands_first, step_happens, steps_clock, there_again}
use Rattle.fst_process.proofs.MarkLaws.{local_marks}
use Rattle.fst_process.proofs.MarkedRuns.{MarksTo, marked_next}

-- no marks more
with_none : (p : Path) (f : Path → List Mark) → with_marks p [] f ≡ f
with_none p f = λ i q. by q (same_path p q) refl i
  where
    by : (q : Path) (b : Bool) → same_path p q ≡ b → (if b then f p ++ [] else f q) ≡ f q
    by q true e = append-nil (f p) ∙ ap f (same_path-same p q e)
    by q false e = refl

-- one mark more behind others
with_one : (p : Path) (xs : List Mark) (x : Mark) (f : Path → List Mark) →
    with_marks p (xs ++ x ∷ []) f ≡ with_mark p x (with_marks p xs f)
with_one p xs x f =
    ap (λ (l : List Mark). put_at p l f) (sym (append_assoc (f p) xs (x ∷ [])))
    ∙ put_twice p ((f p ++ xs) ++ x ∷ []) (f p ++ xs) f
    ∙ ap (λ (l : List Mark). put_at p (l ++ x ∷ []) (put_at p (f p ++ xs) f)) (sym (put_here p (f p ++ xs) f))

module _ (k : Code) (before : ℕ) (o : Kept) (n : ℕ) (d : Kept) (f : Path → List Mark)
    (kept : MarksTo k before o n d f) (p : Path) (x : StepsFirst d p) where
  marks_to : (i : ℕ) (t : Slot) → StepsOn k i x.slot t →
      MarksTo k before o (n + i) (at_slot k d p t) (with_marks p (step_marks x.slot.clock i) f)
  marks_to zero t same =
      let none : n ≡ n + zero = omega arith in
      subst (λ l. MarksTo k before o l (at_slot k d p t) (with_marks p [] f)) none
      (subst (λ e. MarksTo k before o n e (with_marks p [] f)) (stands_first k d p x ∙ ap (at_slot k d p) (sym same))
      (subst (MarksTo k before o n d) (sym (with_none p f)) kept))
  marks_to (suc i) t (r, steps, asked, moves) =
      let more : suc (n + i) ≡ n + suc i = omega arith in
      let old = with_marks p (step_marks x.slot.clock i) f in
      let new = with_marks p (step_marks x.slot.clock (suc i)) f in
      let step : Mark = record { done = done.Local; stamp = suc (x.slot.clock + i) } in
      marked_next k before o (n + i) (n + suc i) (at_slot k d p r) (at_slot k d p t) old new (Local p) (marks_to i r steps)
      (next_again k d p x.first r asked)
      (local_marks (at_slot k d p r) p old new (λ s there.
      let same : r ≡ s = some_same (sym (there_again k d p r asked) ∙ there) in
      let clock : x.slot.clock + i ≡ s.clock = sym (steps_clock k i x.slot r steps) ∙ ap (λ (z : Slot). z.clock) same in
      with_one p (step_marks x.slot.clock i) step f
      ∙ ap (λ l. with_mark p (record { done = done.Local; stamp = suc l }) old) clock))
      (step_happens k d p r t asked moves) more

  -- what is kept after it has stepped so many times, and its marks, are what the run has come to
  pub marked_steps : (i : ℕ) (e : Kept) (clock : ℕ) → ((s : Slot) → d.tasks p ≡ Some s → s.clock ≡ clock) →
      HasStepped k p i d e → MarksTo k before o (n + i) e (with_marks p (step_marks clock i) f)
  marked_steps i e clock is s =
      subst (λ l. MarksTo k before o (n + i) e (with_marks p (step_marks l i) f)) (is x.slot x.there)
      (subst (λ z. MarksTo k before o (n + i) z (with_marks p (step_marks x.slot.clock i) f)) (sym s.after)
      (marks_to i s.now (subst (λ z. StepsOn k i z s.now) (some_same (sym s.there ∙ x.there)) s.steps)))
