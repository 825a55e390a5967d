use Rattle.fst_basis.specs.declared.proof.Rewrite.TheVariants.{Forth}
use Rattle.fst_cert.proofs.WayLaws.{exchanges, leads_on}
use Rattle.fst_cert.proofs.ways.push_exchange.Goals as goal

pub returns-clause-some : goal.returns-clause-some
returns-clause-some c = rw c.in-Some.is (λ marks basis u v e. leads_on marks basis c.args.steps.now.items c.push.new.self.items
    (Forth 0 c.in-Some.pair) u v c.in_ok-push.ensures.items (exchanges marks basis c.in-Some.pair u v e))
