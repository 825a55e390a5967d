use Rattle.std.proofs.Common.{length, subst, sym, All}
use Rattle.std.proofs.lemmas.List.Elements.{All-nil}
use Rattle.fst_basis.specs.Basis.{IsRewriteBelow}
use Rattle.fst_cert.proofs.WayLaws.{exchange_leads, way_leads}
use Rattle.fst_cert.proofs.ways.way.Goals as goal

pub returns-clause-way : goal.returns-clause-way
returns-clause-way c =
    let n = length c.args.marks.now in
    let marks = c.args.marks.now in
    let basis = c.args.places.now in
    let e = c.in_ok-push_exchange.ensures in
    let met = c.in_ok-place.ensures in
    let empty = c.new-steps.ensures.items in
    record {
      leads = way_leads marks basis c.new-steps.result.items c.push_cut.new.steps.items c.push_exchange.new.steps.items
          c.push_growth.new.steps.items c.args.left.now c.args.right.now c.pruned.result.now c.pruned-2.result.now empty
          c.pruned.ensures c.pruned-2.ensures (c.in_ok-push_cut.ensures.leads basis)
          (exchange_leads marks basis c.in_ok-place.place c.push_cut.new.steps.items c.push_exchange.new.steps.items
          c.pruned.result.now c.pruned-2.result.now met.same met.place e.none e.some)
          (c.in_ok-push_growth.ensures.leads basis);
      below = c.in_ok-push_growth.ensures.below n c.requires.right (e.below n (c.in_ok-push_cut.ensures.below n c.requires.left
          (subst (All (IsRewriteBelow n)) (sym empty) (All-nil (IsRewriteBelow n)))));
    }
