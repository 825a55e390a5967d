-- What a history shows of a side, with one entry more.
use Rattle.std.proofs.Common.{◌≡◌, ℕ, ◌+◌, List, [], ◌∷◌, ◌++◌, Option, Some, None, arith}
use Rattle.std.specs.Prelude.{sum_by, option_and_then}
use Rattle.std.proofs.lemmas.List.Sums.{sum_by-cons}
use Rattle.fst_types.specs.Tree.{Tree}
use Rattle.fst_lts.specs.Histories.{after_event, after_history}
use Rattle.fst_types.specs.declared.ends.EndName.{EndName}
use Rattle.fst_types.specs.declared.event.Entry.{Entry}
use Rattle.fst_lts.specs.Residuals.{sends}
use Rattle.fst_runs.specs.Logs.{Exchange, part_in, parts_in}

pub parts_push : (w : Exchange → ℕ) (n : EndName) (o : Option Tree) (h : List Entry) (d : Entry) →
    sum_by w (parts_in n o (h ++ d ∷ [])) ≡ sum_by w (parts_in n o h) + w
    (part_in n (sends (option_and_then (λ t. after_history t h) o) d.event) d)
parts_push w n None [] d = omega arith
parts_push w n (Some t) [] d = omega arith
parts_push w n None (c ∷ h) d =
    let a = sum_by-cons w (part_in n (sends None c.event) c) (parts_in n None (h ++ d ∷ [])) in
    let b = sum_by-cons w (part_in n (sends None c.event) c) (parts_in n None h) in
    let ih = parts_push w n None h d in
    omega (arith, a, b, ih)
parts_push w n (Some t) (c ∷ h) d =
    let a = sum_by-cons w (part_in n (sends (Some t) c.event) c) (parts_in n (after_event t c.event) (h ++ d ∷ [])) in
    let b = sum_by-cons w (part_in n (sends (Some t) c.event) c) (parts_in n (after_event t c.event) h) in
    let ih = parts_push w n (after_event t c.event) h d in
    omega (arith, a, b, ih)
