use Rattle.std.proofs.Common.{◌∙◌, All, length, refl, subst, sym, take, List}
use Rattle.std.proofs.lemmas.List.Elements.{All-append}
use Rattle.std.proofs.lemmas.Option.{slice_get_read}
use Rattle.fst_basis.specs.declared.proof.Pair.{Pair}
use Rattle.fst_basis.specs.Basis.{IsChainBelow}
use Rattle.fst_basis.proofs.Laws.{all_joined_push}
use Rattle.fst_cert.specs.Visited.{HasLinkedFollowers}
use Rattle.fst_cert.proofs.VisitedLaws.{taken}
use Rattle.fst_cert.proofs.visited.basis_chains.Goals as goal

pub pair_chains-requires-clause-linked : goal.pair_chains-requires-clause-linked
pair_chains-requires-clause-linked c =
    let basis = c.args.basis.now in
    let i = c.loop-pair.pair-index in
    let b = c.pair-item.result in
    subst (λ (P : List Pair). HasLinkedFollowers c.args.g.now.rules.items c.args.marks.now P b) (sym c.loop-pair.invariant.same)
    (c.requires.closed.linked i b (slice_get_read basis (length basis) i b refl c.loop-pair-test.true c.pair-item.is))

pub loop-pair-preserved : goal.loop-pair-preserved
loop-pair-preserved c =
    let rows = c.args.g.now.rules.items in
    let basis = c.args.basis.now in
    let i = c.loop-pair.pair-index in
    let b = c.pair-item.result in
    let inv = c.loop-pair.invariant in
    let e = c.in_ok-row.ensures in
    let added = c.in_ok-append.ensures.items in
    let joined = rw inv.same at e.joined in
    record {
      same = e.pairs ∙ inv.same;
      below = subst (All (IsChainBelow (length rows))) (sym added)
          (All-append (IsChainBelow (length rows)) c.loop-pair.chains.items c.in_ok-row.row.items inv.below e.below);
      joined = rw (added, taken basis i b c.loop-pair-test.true c.pair-item.is)
          (all_joined_push rows c.args.marks.now basis b c.in_ok-row.row.items joined (take i basis) c.loop-pair.chains.items
          inv.joined);
    }
