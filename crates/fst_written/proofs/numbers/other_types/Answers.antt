use Rattle.std.proofs.Common.{◌≡◌, ◌∙◌, sym, ap, ◌++◌, ◌∷◌, [], map, false, arith}
use Rattle.std.proofs.lemmas.List.{get_or_default}
use Rattle.std.specs.List.{list_any}
use Rattle.std.specs.Prelude.{nat_eq}
use Rattle.fst_written.proofs.OtherLaws.{any_number, others_same, others_more}
use Rattle.fst_written.proofs.numbers.other_types.Goals as goal
use Rattle.fst_written.proofs.numbers.other_types.Goals.{then-not-index+in_ok-push, else-not-index}

pub loop-k-preserved : goal.loop-k-preserved
loop-k-preserved c =
    let standing = c.args.standing.now in
    let ks = map (λ o. o.number) standing in
    let k = c.loop-k.k in
    let marks = c.in_ok-marks.marks.items in
    let r = c.index.result.now in
    let marked : r ≡ list_any (nat_eq k) ks =
    c.index.ensures ∙ get_or_default marks k r false (omega (arith, c.in_ok-marks.ensures.length))
    ∙ c.in_ok-marks.ensures.marks k c.loop-k-test.true ∙ any_number (λ o. o.number) k standing in
    elim c.if-not-index.branch [
      | then-not-index+in_ok-push w ↦
          ap (λ v. v.items) w.out-is ∙ w.in_ok-push.ensures.items ∙ ap (λ js. js ++ k ∷ []) c.loop-k.invariant
          ∙ sym (others_more ks k (sym marked ∙ w.if-not-index.true))
      | else-not-index w ↦ ap (λ v. v.items) w.out-is ∙ c.loop-k.invariant
          ∙ sym (others_same ks k (sym marked ∙ w.if-not-index.false))
    ]
