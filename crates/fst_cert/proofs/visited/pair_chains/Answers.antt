use Rattle.std.proofs.Common.{◌≡◌, ◌∙◌, ◌∷◌, [], All, ap, drop, length, refl, subst, sym, take, List}
use Rattle.std.specs.Prelude.{slice_get}
use Rattle.std.proofs.lemmas.List.Elements.{All-append, All-cons, All-nil}
use Rattle.std.proofs.lemmas.Option.{slice_get_read}
use Rattle.fst_words.specs.Ordered.{AreOrdered}
use Rattle.fst_words.specs.Words.{first_row}
use Rattle.fst_words.specs.declared.rules.Rule.{Rule}
use Rattle.fst_basis.specs.Basis.{IsChainBelow}
use Rattle.fst_cert.proofs.VisitedLaws.{joined_push, rule_linked, taken}
use Rattle.fst_cert.proofs.visited.pair_chains.Goals as goal

pub rule_chain-requires-clause-linked : goal.rule_chain-requires-clause-linked
rule_chain-requires-clause-linked c =
    let rows = c.args.g.now.rules.items in
    let rules = c.first_rules.result.0.now in
    let i = c.loop-rule.rule-index in
    let r = c.rule-item.result in
    let row : rules ≡ first_row rows c.args.pair.now.left = c.first_rules.ensures.row ∙ ap (first_row rows) c.as_slice.ensures in
    let there = ap (λ (z : List Rule). slice_get z i) (sym row)
    ∙ slice_get_read rules (length rules) i r refl c.loop-rule-test.true c.rule-item.is in
    rw (c.loop-rule.invariant.same, c.first_rules.ensures.tail, c.as_slice.ensures)
    (rule_linked rows c.args.marks.now c.args.places.now c.args.pair.now i r (subst AreOrdered row c.first_rules.ensures.ordered)
    there c.requires.pair c.requires.linked)

pub loop-rule-preserved : goal.loop-rule-preserved
loop-rule-preserved c =
    let rows = c.args.g.now.rules.items in
    let rules = c.first_rules.result.0.now in
    let i = c.loop-rule.rule-index in
    let r = c.rule-item.result in
    let chain = c.in_ok-chain.chain in
    let inv = c.loop-rule.invariant in
    let Below = IsChainBelow (length rows) in
    let added = c.in_ok-push.ensures.items in
    let joined = rw (inv.same, c.first_rules.ensures.tail, c.as_slice.ensures) at c.in_ok-chain.ensures.joined in
    record {
      same = c.in_ok-chain.ensures.pairs ∙ inv.same;
      below = subst (All Below) (sym added) (All-append Below c.loop-rule.chains.items (chain ∷ []) inv.below
          (All-cons Below chain [] c.in_ok-chain.ensures.below (All-nil Below)));
      joined = rw (added, taken rules i r c.loop-rule-test.true c.rule-item.is)
          (joined_push rows c.args.marks.now c.args.places.now (drop 1 c.args.pair.now.left) c.args.pair.now.right r chain joined
          (take i rules) c.loop-rule.chains.items inv.joined);
    }
