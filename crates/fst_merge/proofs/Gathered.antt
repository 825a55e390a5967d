-- The events that parts begin, one part after the other.
use Rattle.std.proofs.Common.{◌≡◌, ◌∙◌, ℕ, ◌+◌, ◌<◌, List, [], ◌∷◌, ◌++◌, length, take, get_or, refl, sym, ap}
use Rattle.std.specs.Prelude.{map}
use Rattle.std.proofs.lemmas.Grind.{flat_map-append}
use Rattle.std.proofs.lemmas.List.{append_assoc, append-nil, map-append, take_more}
use Rattle.std.proofs.lemmas.List.Concat.{flat_map-cons}
use Rattle.fst_runs.specs.Configs.{Path}
use Rattle.fst_records.specs.Gathering.{event_at, gathered}
use Rattle.fst_records.specs.Parts.{Part}
use Rattle.fst_process.specs.declared.marks.Mark.{Mark}
use Rattle.fst_process.specs.declared.marks.TaskMarks.{TaskMarks}
use Rattle.fst_merge.specs.Receipts.{deed_of, part_of, parts_in, parts_of_task}

module _ (all : List Part) where
  -- of two lists of parts
  gathered-append : (ps qs : List Part) → gathered all (ps ++ qs) ≡ gathered all ps ++ gathered all qs
  gathered-append [] qs = refl
  gathered-append (p ∷ ps) qs =
      ap (λ es. event_at all p.path p.stamp p.deed ++ es) (gathered-append ps qs)
      ∙ sym (append_assoc (event_at all p.path p.stamp p.deed) (gathered all ps) (gathered all qs))

  -- of one mark more
  pub marks_more : (p : Path) (ks : List Mark) (i : ℕ) (k : Mark) → i < length ks → k ≡ get_or ks i k →
      gathered all (map (part_of p) (take (i + 1) ks))
      ≡ gathered all (map (part_of p) (take i ks)) ++ event_at all p k.stamp (deed_of k.done)
  marks_more p ks i k h is =
      ap (λ ms. gathered all (map (part_of p) ms)) (take_more ks i k h ∙ ap (λ m. take i ks ++ m ∷ []) (sym is))
      ∙ ap (gathered all) (map-append (part_of p) (take i ks) (k ∷ []))
      ∙ gathered-append (map (part_of p) (take i ks)) (part_of p k ∷ [])
      ∙ ap (λ es. gathered all (map (part_of p) (take i ks)) ++ es) (append-nil (event_at all p k.stamp (deed_of k.done)))

  -- of one task more
  pub tasks_more : (ts : List TaskMarks) (i : ℕ) (t : TaskMarks) → i < length ts → t ≡ get_or ts i t →
      gathered all (parts_in (take (i + 1) ts)) ≡ gathered all (parts_in (take i ts)) ++ gathered all (parts_of_task t)
  tasks_more ts i t h is =
      ap (λ us. gathered all (parts_in us)) (take_more ts i t h ∙ ap (λ u. take i ts ++ u ∷ []) (sym is))
      ∙ ap (gathered all) (flat_map-append parts_of_task (take i ts) (t ∷ [])
      ∙ ap (λ ps. parts_in (take i ts) ++ ps) (flat_map-cons parts_of_task t [] ∙ append-nil (parts_of_task t)))
      ∙ gathered-append (parts_in (take i ts)) (parts_of_task t)
