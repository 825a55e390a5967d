use Rattle.std.proofs.Common.{◌∙◌, Some, arith, get_or, nat_eq, sym}
use Rattle.std.specs.Option.{option_eq}
use Rattle.std.proofs.lemmas.Bool.{not-true}
use Rattle.fst_basis.proofs.PartedLaws.{other_item}
use Rattle.fst_basis.proofs.rewriting.take.Goals as goal

pub returns-then-ne-clause-none : goal.returns-then-ne-clause-none
returns-then-ne-clause-none c t =
    other_item c.args.back.now.items c.loop-n.back.items c.pop.new.self.items c.args.word.now c.loop-n.n-index c.pop.result
    c.loop-n.invariant c.pop.ensures.items
    (λ none. (let cases = rw none at c.pop.ensures.cases in omega (arith, cases.0, c.loop-n.back.ok.0))) c.loop-n-test.true
    (not-true (option_eq nat_eq c.pop.result (Some (get_or c.args.word.now c.loop-n.n-index 0)))
    (sym c.ne.ensures ∙ c.if-ne.true))
