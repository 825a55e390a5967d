use Rattle.std.proofs.Common.{◌≡◌, ◌∙◌, ◌++◌, ◌∷◌, [], ap, length, subst, sym, List}
use Rattle.fst_basis.specs.declared.proof.Chain.{Chain}
use Rattle.fst_basis.specs.Basis.{IsProof}
use Rattle.fst_cert.proofs.VisitedLaws.{chained_proof}
use Rattle.fst_cert.proofs.visited.all_chains.Goals as goal

pub returns : goal.returns
returns c =
    let rows = c.args.g.now.rules.items in
    let count = length c.args.g.now.letters.items in
    let first = c.in_ok-first.first in
    let others = c.in_ok-others.others.items in
    let all : c.append.new.self.items ≡ first ∷ others = c.in_ok-append.ensures.items
    ∙ ap (λ (z : List Chain). z ++ others) (c.in_ok-push.ensures.items ∙ ap (λ (z : List Chain). z ++ first ∷ [])
    c.new-chains.ensures.items) in
    let way = rw (c.in_ok-places.ensures, c.requires.unnormed.count) at c.in_ok-first.ensures.way in
    subst (IsProof count rows c.args.marks.now c.args.x.now c.args.y.now c.args.basis.now) (sym all)
    (chained_proof count rows c.args.marks.now c.args.x.now c.args.y.now c.args.basis.now first others c.requires.letters
    c.requires.grammar c.requires.unnormed c.requires.left c.requires.right c.requires.closed way c.in_ok-others.ensures.joined
    c.in_ok-others.ensures.below)
