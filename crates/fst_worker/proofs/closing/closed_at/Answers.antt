use Rattle.std.proofs.Common.{inl, inr, get_or, sym, ap, ◌∙◌, arith, rules}
use Rattle.std.proofs.lemmas.Bool.{cases_lt}
use Rattle.std.proofs.lemmas.Fn.{always_returns_same}
use Rattle.std.proofs.lemmas.List.Sorted.{searchable_from_sorted}
use Rattle.fst_cell.specs.declared.answers.Closed.{Closed}
use Rattle.fst_worker.specs.Closing.{name_cmp}
use Rattle.fst_records.proofs.Laws.{apart_less, apart_greater, name_same, name_total, sorted_by_name}
use Rattle.fst_worker.proofs.closing.closed_at.Goals as goal

pub returns-in-Ok : goal.returns-in-Ok
returns-in-Ok c =
    let item = c.index-closed-index in
    let key = λ (x : Closed). name_cmp x.history.name c.args.name.now in
    let hit = c.in-Ok.ensures.position key (always_returns_same _ _ _ (λ a r q k. search rules)) item.result in
    let found = get_or c.args.closed.now c.in-Ok.index item.result in (
      ap (λ (x : Closed). x.history.name) item.is ∙ name_same found.history.name c.args.name.now hit,
      (c.in-Ok.index, c.in-Ok.ensures.bound, sym item.is),
    )

pub returns-in-Err : goal.returns-in-Err
returns-in-Err c =
    let all = c.args.closed.now in
    let key = λ (x : Closed). name_cmp x.history.name c.args.name.now in
    let sorted = sorted_by_name (λ (x : Closed). x.history.name) all c.requires in
    let sides = c.in-Err.ensures.position key (always_returns_same _ _ _ (λ a r q k. search rules))
    (searchable_from_sorted name_total (λ (x : Closed). x.history.name) all c.args.name.now sorted) in
    λ k d l e.
    elim (cases_lt k c.in-Err.field-0) [
      | inl m ↦ apart_less _ _ e (sides.0 k d (omega arith) m)
      | inr m ↦ apart_greater _ _ e (sides.1 k d m l)
    ]
