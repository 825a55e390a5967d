use Rattle.std.proofs.Common.{◌≡◌, ◌∷◌, ◌∙◌, ◌++◌, [], All, append-nil, ap, arith, length, List, refl, subst, sym, take, ℕ}
use Rattle.std.specs.Prelude.{slice_get}
use Rattle.std.proofs.lemmas.List.{take_all}
use Rattle.std.proofs.lemmas.List.Elements.{All-append, All-cons, All-nil}
use Rattle.fst_base.proofs.Lists.{get_there}
use Rattle.fst_basis.specs.declared.proof.Chain.{Chain}
use Rattle.fst_basis.specs.declared.proof.Pair.{Pair}
use Rattle.fst_basis.specs.Basis.{AreJoined, IsChainBelow}
use Rattle.fst_expand.specs.Bridge.{AreFit, IsWay}
use Rattle.fst_expand.specs.Expansion.{AreFollowedBy, AreSettled}
use Rattle.fst_basis.proofs.Laws.{all_joined_push}
use Rattle.fst_expand.proofs.ChainLaws.{chained_proof}
use Rattle.fst_expand.proofs.FrontLaws.{front_alone}
use Rattle.fst_expand.proofs.PlaceLaws.{taken}
use Rattle.fst_expand.proofs.chaining.chains_of.Goals as goal

pub bridge-requires-clause-left : goal.bridge-requires-clause-left
bridge-requires-clause-left c =
    front_alone (length c.args.m.now.grammar.now.rules.items)
    (length c.args.m.now.lowering.now) c.args.m.now.marks.now c.args.table.now.words c.args.u.now
    c.requires.measured.lowering.count
    c.each_once.ensures.some c.each_once.ensures.empty c.requires.left

pub bridge-requires-clause-right : goal.bridge-requires-clause-right
bridge-requires-clause-right c =
    front_alone (length c.args.m.now.grammar.now.rules.items)
    (length c.args.m.now.lowering.now) c.args.m.now.marks.now c.args.table.now.words c.args.v.now
    c.requires.measured.lowering.count
    c.each_once.ensures.some c.each_once.ensures.empty c.requires.right

pub bridge-requires-clause-room : goal.bridge-requires-clause-room
bridge-requires-clause-room c =
    let room = c.requires.first in
    rw (c.each_once.ensures.empty, append-nil c.args.u.now, append-nil c.args.v.now) room

pub loop-at-init : goal.loop-at-init
loop-at-init c =
    let n = length c.args.m.now.lowering.now in
    let marks = c.args.m.now.marks.now in
    let way : IsWay n marks c.args.table.now.pairs c.args.u.now c.args.v.now c.in_ok-first.first =
    rw (c.each_once.ensures.empty, append-nil c.args.u.now, append-nil c.args.v.now) at c.in_ok-first.ensures.way in
    let one : c.push.new.self.items ≡ c.in_ok-first.first ∷ [] = c.in_ok-push.ensures.items ∙ ap
    (λ (z : List Chain). z ++ c.in_ok-first.first ∷ []) c.new-chains.ensures.items in
    let way2 = subst (λ (P : List Pair). IsWay n marks P c.args.u.now c.args.v.now c.in_ok-first.first)
    (sym c.in_ok-first.ensures.same) way in
    record {
      same = refl;
      below = rw one (All-cons (IsChainBelow n) c.in_ok-first.first [] way.below (All-nil (IsChainBelow n)));
      chains = (c.in_ok-first.first, [], one, way2, refl);
    }

pub chain_pair-requires-clause-at : goal.chain_pair-requires-clause-at
chain_pair-requires-clause-at c =
    let same = ap length c.loop-at.invariant.same in
    let lt = c.loop-at-test.true in
    let count = c.len-at-end.ensures.count in
    omega arith

pub chain_pair-requires-clause-settled : goal.chain_pair-requires-clause-settled
chain_pair-requires-clause-settled c =
    subst (λ (P : List Pair). AreSettled c.args.m.now.grammar.now.rules.items c.args.m.now.marks.now c.args.m.now.norms.now
    c.args.m.now.lowering.now P c.args.room)
    (sym (c.loop-at.invariant.same ∙ c.in_ok-first.ensures.same)) c.requires.settled

pub chain_pair-requires-clause-fit : goal.chain_pair-requires-clause-fit
chain_pair-requires-clause-fit c =
    subst (AreFit c.args.m.now.marks.now (length c.args.m.now.lowering.now))
    (sym (c.loop-at.invariant.same ∙ c.in_ok-first.ensures.same)) c.requires.fit

pub loop-at-preserved : goal.loop-at-preserved
loop-at-preserved c =
    let rows = c.args.m.now.grammar.now.rules.items in
    let marks = c.args.m.now.marks.now in
    let n = length c.args.m.now.lowering.now in
    let P = c.bridge.new.table.pairs in
    let i = c.loop-at.invariant in
    let h = i.chains in
    let e = c.in_ok-row.ensures in
    let lt = c.loop-at-test.true in
    let count = c.len-at-end.ensures.count in
    let b = get_there P c.loop-at.at (omega arith) in
    let there = ap (λ (z : List Pair). slice_get z c.loop-at.at) i.same ∙ b.1 in
    let joined = subst (λ (Q : List Pair). AreFollowedBy rows marks Q b.0 c.in_ok-row.row) i.same (e.joined b.0 there) in
    let more = taken P c.loop-at.at b.0 b.1 in
    let all = c.in_ok-append.ensures.items in
    record {
      same = e.same ∙ i.same;
      below = rw all (All-append (IsChainBelow n) c.loop-at.chains.items c.in_ok-row.row.items i.below e.below);
      chains = (
        h.0,
        h.1 ++ c.in_ok-row.row.items,
        all ∙ ap (λ (z : List Chain). z ++ c.in_ok-row.row.items) h.2,
        h.3,
        rw more (all_joined_push rows marks P b.0 c.in_ok-row.row.items joined (take c.loop-at.at P) h.1 h.4),
      );
    }

pub returns-clause-proof : goal.returns-clause-proof
returns-clause-proof c =
    let rows = c.args.m.now.grammar.now.rules.items in
    let marks = c.args.m.now.marks.now in
    let m = c.requires.measured in
    let P = c.args.table.now.pairs in
    let i = c.loop-at.invariant in
    let same = c.in_ok-first.ensures.same in
    let h = rw same at i.chains in
    let end = c.loop-at-test.false in
    let count = c.len-at-end.ensures.count in
    let long = ap length same in
    let all : take c.loop-at.at P ≡ P = take_all c.loop-at.at P (omega arith) in
    let joined = subst (λ (bs : List Pair). AreJoined rows marks P bs h.1) all h.4 in
    let fit = subst (λ (k : ℕ). AreFit marks k P) m.lowering.count c.requires.fit in
    let way = subst (λ (k : ℕ). IsWay k marks P c.args.u.now c.args.v.now h.0) m.lowering.count h.3 in
    let below = subst (λ (k : ℕ). All (IsChainBelow k) (h.0 ∷ h.1)) m.lowering.count
    (subst (All (IsChainBelow (length c.args.m.now.lowering.now))) h.2 i.below) in
    rw h.2 (chained_proof (length c.args.m.now.grammar.now.letters.items) rows marks c.args.u.now c.args.v.now P h.0 h.1
    c.requires.letters m.range m.unnormed c.requires.left c.requires.right fit
    c.requires.settled.alike way joined below)

pub returns-clause-same : goal.returns-clause-same
returns-clause-same c = c.loop-at.invariant.same ∙ c.in_ok-first.ensures.same
