use Rattle.std.proofs.Common.{◌≡◌, sym, ap, ◌∙◌, refl, length, List, ℕ, subst, arith, inl, inr, []}
use Rattle.std.specs.Prelude.{slice_get}
use Rattle.std.specs.declared.vec.Vec.{Vec}
use Rattle.std.specs.declared.alloc.Global.{Global}
use Rattle.std.proofs.lemmas.Option.{slice_get_read, get_or_from_slice_get}
use Rattle.fst_base.proofs.Lists.{get-push, length-push}
use Rattle.fst_words.specs.declared.rules.Rule.{Rule}
use Rattle.fst_words.specs.Words.{Productions, row_of}
use Rattle.fst_shared.specs.Numbers.{IsRow}
use Rattle.fst_shared.proofs.NumberLaws.{row_kept}
use Rattle.fst_shared.proofs.numbers.word_numbers.Goals as goal

pub loop-rules-preserved : goal.loop-rules-preserved
loop-rules-preserved c =
    let rows = c.deref-rules-items.result.now in
    let count = c.loop-rules.invariant.count in
    let longer = ap length c.in_ok-push.ensures.items in
    let one = length-push c.loop-rules.numbers.items c.in_ok-row.row in
    let there = slice_get_read rows (length rows) c.loop-rules.rules-index c.rules-item.result refl c.loop-rules-test.true
    c.rules-item.is in
    let row_is : row_of rows c.loop-rules.rules-index ≡ c.as_slice.result.now =
    get_or_from_slice_get rows c.loop-rules.rules-index c.rules-item.result [] there ∙ sym c.as_slice.ensures.rules in
    record {
      row = λ n v at. elim (get-push c.loop-rules.numbers.items c.in_ok-row.row v n
          (ap (λ (z : List (Vec ℕ Global)). slice_get z n) (sym c.in_ok-push.ensures.items) ∙ at)) [
            | inl before ↦ row_kept _ _ _ _ c.in_ok-row.ensures.kept (c.loop-rules.invariant.row n v before)
            | inr last ↦
                let place = ap (λ (z : Productions). row_of z n) (sym c.deref-rules-items.ensures.value)
                ∙ ap (row_of rows) (last.0 ∙ count) ∙ row_is in
                let here : IsRow c.row_numbers.new.words c.as_slice.result.now c.in_ok-row.row.items =
                record { words_are = c.in_ok-row.ensures.numbers; count = c.in_ok-row.ensures.count } in
                subst (λ (z : List Rule). IsRow c.row_numbers.new.words z v.items) (sym place)
                (subst (λ (z : Vec ℕ Global). IsRow c.row_numbers.new.words c.as_slice.result.now z.items) last.1 here)
          ];
      count = omega arith;
    }
