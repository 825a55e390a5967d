use Rattle.std.proofs.Common.{◌≡◌, ◌<◌, ◌∙◌, ◌++◌, ◌∷◌, [], ap, append-nil, refl, sym, subst, ◌+◌, arith, List, take, length, append_assoc, Some}
use Rattle.std.specs.Prelude.{slice_get}
use Rattle.std.proofs.lemmas.List.{length-take, take_all, take_more}
use Rattle.std.proofs.lemmas.List.Sums.{sum_by_push}
use Rattle.std.proofs.lemmas.Option.{slice_get_read}
use Rattle.std.proofs.lemmas.Result.{err_from_is_err_and}
use Rattle.fst_words.specs.declared.rules.Rule.{Rule}
use Rattle.fst_basis.specs.declared.proof.Chain.{Chain}
use Rattle.fst_normed.specs.Candidates.{IsThere}
use Rattle.fst_normed.specs.Closing.{AreToldApart, IsExchangedInTurn, LeadInTurn, rewrites_of}
use Rattle.fst_normed.specs.Joining.{AreJoinedByHeads, exchanges}
use Rattle.fst_normed.specs.Needs.{rewrites_in_turn}
use Rattle.fst_normed.proofs.ClosingLaws.{in_turn_on, in_turn_push, turn_least, turn_push}
use Rattle.fst_normed.proofs.NotedLaws.{noted_as, noted_none, noted_on}
use Rattle.fst_normed.proofs.StopLaws.{shows_on}
use Rattle.fst_normed.proofs.closing.join_rules.Goals as goal

pub loop-i-init : goal.loop-i-init
loop-i-init c = record {
  lead = ([], sym (append-nil c.args.chains.now.items), refl);
  noted = noted_none (length c.args.words.now) c.args.norms.now
      (IsExchangedInTurn c.args.norms.now c.args.words.now c.args.rules.now c.args.others.now c.args.tail.now) c.args.needed.now
      c.requires.are;
  made = refl;
  spent = omega arith;
}

pub join-requires-clause-are : goal.join-requires-clause-are
join-requires-clause-are c = c.loop-i.invariant.noted.are

pub loop-i-preserved : goal.loop-i-preserved
loop-i-preserved c =
    let i = c.loop-i.invariant in
    let r = c.index-rules-i.result in
    let q = c.index-others-i.result in
    let rules = c.args.rules.now in
    let others = c.args.others.now in
    let tail = c.args.tail.now in
    let norms = c.args.norms.now in
    let words = c.args.words.now in
    let old = c.loop-i.needed in
    let new = c.join.new.needed in
    let same = c.requires.same in
    let lt = c.loop-i-test.true in
    let chain : Chain = record { steps = c.in_ok-steps.steps } in
    let more : take (c.loop-i.i + 1) rules ≡ take c.loop-i.i rules ++ r ∷ [] =
    take_more rules c.loop-i.i r lt ∙ ap (λ (z : Rule). take c.loop-i.i rules ++ z ∷ []) (sym c.index-rules-i.is) in
    let len = length-take c.loop-i.i rules in
    let short : length (take c.loop-i.i rules) ≡ c.loop-i.i = omega arith in
    let left : slice_get rules c.loop-i.i ≡ Some r =
    slice_get_read rules (length rules) c.loop-i.i r refl lt c.index-rules-i.is in
    let there : slice_get others c.loop-i.i ≡ Some q =
    slice_get_read others (length others) c.loop-i.i q refl (omega arith) c.index-others-i.is in
    let at : slice_get others (length (take c.loop-i.i rules)) ≡ Some q = ap (slice_get others) short ∙ there in
    let e = rw (
      c.as_slice-from.ensures,
      c.as_slice-in-loop-i.ensures,
      c.in_ok-to.ensures,
      c.as_slice.ensures,
      sym c.index-others-i.is,
    ) at c.in_ok-steps.ensures in
    let made = e.spent in
    let count = e.count in
    let old_made = i.made in
    let old_spent = i.spent in
    let turn = turn_push norms words (take c.loop-i.i rules) others tail r q at in
    let all = ap (λ (z : List Rule). rewrites_in_turn norms words z others tail) more in
    let sum = ap rewrites_of c.in_ok-push.ensures.items ∙ sum_by_push
    (λ (z : Chain). length z.steps.items) c.loop-i.chains.items chain in
    let here = noted_as (length words) norms (IsThere (exchanges norms words r.word (q.word ++ tail)))
    (IsExchangedInTurn norms words rules others tail) old new
    (λ d t. record { at = c.loop-i.i; rule = r; other = q; left = left; right = there; there = t }) e.noted in
    record {
      lead = (
        i.lead.0 ++ chain ∷ [],
        c.in_ok-push.ensures.items ∙ ap (λ (z : List Chain). z ++ chain ∷ []) i.lead.1
            ∙ append_assoc c.args.chains.now.items i.lead.0 (chain ∷ []),
        subst (λ (z : List Rule). LeadInTurn norms words new z others tail (i.lead.0 ++ chain ∷ [])) (sym more)
            (in_turn_push norms words new (take c.loop-i.i rules) others tail i.lead.0 r q chain
            (in_turn_on norms words old new e.noted.behind (take c.loop-i.i rules) others tail i.lead.0 i.lead.2) at e.leads),
      );
      noted = noted_on (length words) norms (IsExchangedInTurn norms words rules others tail) c.args.needed.now old new i.noted
          here;
      made = omega arith;
      spent = omega arith;
    }

pub returns-in_err-steps-clause-stopped : goal.returns-in_err-steps-clause-stopped
returns-in_err-steps-clause-stopped c =
    let r = c.index-rules-i.result in
    let q = c.index-others-i.result in
    let rules = c.args.rules.now in
    let others = c.args.others.now in
    let tail = c.args.tail.now in
    let norms = c.args.norms.now in
    let words = c.args.words.now in
    let same = c.requires.same in
    let lt = c.loop-i-test.true in
    let more : take (c.loop-i.i + 1) rules ≡ take c.loop-i.i rules ++ r ∷ [] =
    take_more rules c.loop-i.i r lt ∙ ap (λ (z : Rule). take c.loop-i.i rules ++ z ∷ []) (sym c.index-rules-i.is) in
    let len = length-take c.loop-i.i rules in
    let short : length (take c.loop-i.i rules) ≡ c.loop-i.i = omega arith in
    let left : slice_get rules c.loop-i.i ≡ Some r =
    slice_get_read rules (length rules) c.loop-i.i r refl lt c.index-rules-i.is in
    let there : slice_get others c.loop-i.i ≡ Some q =
    slice_get_read others (length others) c.loop-i.i q refl (omega arith) c.index-others-i.is in
    let at : slice_get others (length (take c.loop-i.i rules)) ≡ Some q = ap (slice_get others) short ∙ there in
    let stop = rw (
      c.as_slice-from.ensures,
      c.as_slice-in-loop-i.ensures,
      c.in_ok-to.ensures,
      c.as_slice.ensures,
      sym c.index-others-i.is,
    ) at c.in_err-steps.ensures.stopped in
    let spent = c.loop-i.invariant.spent in
    let turn = turn_push norms words (take c.loop-i.i rules) others tail r q at in
    let all = ap (λ (z : List Rule). rewrites_in_turn norms words z others tail) more in
    let least = turn_least norms words (c.loop-i.i + 1) rules others tail in
    let s = err_from_is_err_and c.from_residual-in_err-steps.result c.from_residual-in_err-steps.ensures.1 in
    rw s.1 (shows_on s.0 (AreJoinedByHeads norms words r.word (q.word ++ tail) → ⊥)
    (c.loop-i.rewrites < length (exchanges norms words r.word (q.word ++ tail)))
    (AreToldApart norms words rules others tail) (c.args.rewrites.now < rewrites_in_turn norms words rules others tail)
    (λ h. record { at = c.loop-i.i; rule = r; other = q; left = left; right = there; apart = h })
    (λ h. omega arith) (rw s.2 stop))

pub returns-clause-lead : goal.returns-clause-lead
returns-clause-lead c =
    let i = c.loop-i.invariant.lead in
    let whole : take c.loop-i.i c.args.rules.now ≡ c.args.rules.now =
    take_all c.loop-i.i c.args.rules.now c.loop-i-test.false in (
      i.0,
      i.1,
      subst (λ (z : List Rule). LeadInTurn c.args.norms.now c.args.words.now c.loop-i.needed z c.args.others.now
          c.args.tail.now i.0) whole i.2,
    )

pub returns-clause-noted : goal.returns-clause-noted
returns-clause-noted c = c.loop-i.invariant.noted

pub returns-clause-made : goal.returns-clause-made
returns-clause-made c = c.loop-i.invariant.made

pub returns-clause-spent : goal.returns-clause-spent
returns-clause-spent c =
    let spent = c.loop-i.invariant.spent in
    let whole = ap (λ (z : List Rule). rewrites_in_turn c.args.norms.now c.args.words.now z c.args.others.now c.args.tail.now)
    (take_all c.loop-i.i c.args.rules.now c.loop-i-test.false) in
    omega arith
