use Rattle.std.proofs.Common.{◌+◌, ◌∙◌, ◌++◌, ◌∷◌, [], ap, drop, List, ℕ}
use Rattle.fst_norms.specs.Pruned.{pruned_word}
use Rattle.fst_basis.specs.declared.proof.Rewrite.TheVariants.{Cut}
use Rattle.fst_cert.proofs.WayLaws.{below_on, cuts, drop_below, leads_on}
use Rattle.fst_cert.proofs.ways.push_cut.Goals as goal

pub returns-clause-leads : goal.returns-clause-leads
returns-clause-leads c basis = leads_on c.args.marks.now basis c.args.steps.now.items c.push.new.self.items
    (Cut c.in-Some.at (drop (c.in-Some.at + 1) c.args.word.now)) c.args.word.now (pruned_word c.args.marks.now c.args.word.now)
    (c.in_ok-push.ensures.items ∙ ap (λ (t : List ℕ). c.args.steps.now.items ++ Cut c.in-Some.at t ∷ []) c.in_ok-tail.ensures)
    (cuts c.args.marks.now basis c.args.word.now c.in-Some.at c.in-Some.ensures.some)

pub returns-clause-below : goal.returns-clause-below
returns-clause-below c n below = below_on n c.args.steps.now.items c.push.new.self.items
    (Cut c.in-Some.at (drop (c.in-Some.at + 1) c.args.word.now))
    (c.in_ok-push.ensures.items ∙ ap (λ (t : List ℕ). c.args.steps.now.items ++ Cut c.in-Some.at t ∷ []) c.in_ok-tail.ensures)
    (drop_below n (c.in-Some.at + 1) c.args.word.now below)
