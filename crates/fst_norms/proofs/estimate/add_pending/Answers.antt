use Rattle.std.proofs.Common.{◌<◌, length, subst, sym, arith}
use Rattle.std.proofs.lemmas.List.Elements.{All-push}
use Rattle.fst_words.specs.Words.{row_of}
use Rattle.fst_norms.specs.Pending.{IsPending}
use Rattle.fst_norms.proofs.estimate.add_pending.Goals as goal

pub loop-rule-preserved : goal.loop-rule-preserved
loop-rule-preserved c = λ rows within row all.
    let here : c.loop-rule.rule < length (row_of rows c.args.number) = subst
    (λ l. c.loop-rule.rule < length l) (sym row) (omega arith) in
    rw c.in_ok-push.ensures.items (All-push (IsPending rows) _ _ (c.loop-rule.invariant rows within row all)
    (record { number = within; rule = here }))
