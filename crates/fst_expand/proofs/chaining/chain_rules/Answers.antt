use Rattle.std.proofs.Common.{◌≡◌, ◌++◌, ◌∙◌, ℕ, List, ap, arith, length, refl, subst, sym, Some, All}
use Rattle.std.specs.Prelude.{slice_get}
use Rattle.fst_base.proofs.Lists.{length-push}
use Rattle.fst_words.specs.declared.rules.Rule.{Rule}
use Rattle.fst_words.specs.Words.{WordBelow, row_of}
use Rattle.fst_shared.specs.Shared.{word_of}
use Rattle.fst_shared.proofs.Laws.{keeps_on}
use Rattle.fst_expand.specs.Bridge.{IsWay}
use Rattle.fst_expand.specs.Expansion.{parts_pair}
use Rattle.fst_expand.proofs.ChainLaws.{below_by_ways, joined_by_ways, ways_push}
use Rattle.fst_basis.proofs.Laws.{as_long}
use Rattle.fst_expand.proofs.FollowLaws.{after_at}
use Rattle.fst_expand.proofs.FrontLaws.{front_of, pair_letters, way_before}
use Rattle.fst_expand.proofs.PlaceLaws.{got}
use Rattle.fst_expand.proofs.chaining.chain_rules.Goals as goal

pub bounds-others-i : goal.bounds-others-i
bounds-others-i c =
    let rows = c.args.m.now.grammar.now.rules.items in
    let on = rw c.rules_of-rules.ensures.row at c.rules_of-rules.ensures.ordered in
    let om = rw c.rules_of-others.ensures.row at c.rules_of-others.ensures.ordered in
    let letters = pair_letters rows c.args.table.now.words c.args.left c.args.right on om c.requires.pair in
    let wide = as_long (row_of rows c.args.left.0) (row_of rows c.args.right.0) letters in
    let a = ap length c.rules_of-rules.ensures.row in
    let b = ap length c.rules_of-others.ensures.row in
    let lt = c.loop-i-test.true in
    omega arith

pub chain_letter-requires-clause-right : goal.chain_letter-requires-clause-right
chain_letter-requires-clause-right c =
    let rows = c.args.m.now.grammar.now.rules.items in
    let n = length c.args.m.now.lowering.now in
    let i = c.loop-i.invariant in
    let r = c.index-rules-i.result in
    let q = c.index-others-i.result in
    let rs = c.rules_of-rules.result.now in
    let os = c.rules_of-others.result.now in
    let t = word_of c.args.table.now.words c.args.left.1 in
    let s = word_of c.args.table.now.words c.args.right.1 in
    let on = rw c.rules_of-rules.ensures.row at c.rules_of-rules.ensures.ordered in
    let om = rw c.rules_of-others.ensures.row at c.rules_of-others.ensures.ordered in
    let letters = pair_letters rows c.args.table.now.words c.args.left c.args.right on om c.requires.pair in
    let wide = as_long (row_of rows c.args.left.0) (row_of rows c.args.right.0) letters in
    let lr = ap length c.rules_of-rules.ensures.row in
    let lo = ap length c.rules_of-others.ensures.row in
    let lt = c.loop-i-test.true in
    let there = got rs c.loop-i.i r lt c.index-rules-i.is in
    let other = got os c.loop-i.i q (omega arith) c.index-others-i.is in
    let wr : c.as_slice.result.now ≡ r.word = c.as_slice.ensures in
    let wq : c.as_slice-in-loop-i.result.now ≡ q.word = c.as_slice-in-loop-i.ensures ∙ ap
    (λ (z : Rule). z.word) (sym c.index-others-i.is) in
    let left = i.kept.kept c.args.left.1 c.requires.left.there in
    let right = i.kept.kept c.args.right.1 c.requires.right.there in
    let below = subst (λ (k : ℕ). All (λ (r : Rule). WordBelow k r.word) os)
    (sym c.requires.measured.lowering.count) c.rules_of-others.ensures.below in
    front_of n c.args.m.now.marks.now c.args.table.now.words c.loop-i.table.words c.args.right os c.loop-i.i q
    c.as_slice-in-loop-i.result.now i.kept c.requires.right below other wq

pub chain_letter-requires-clause-fit : goal.chain_letter-requires-clause-fit
chain_letter-requires-clause-fit c = rw c.loop-i.invariant.same c.requires.fit

pub chain_letter-requires-clause-before : goal.chain_letter-requires-clause-before
chain_letter-requires-clause-before c d e =
    let rows = c.args.m.now.grammar.now.rules.items in
    let n = length c.args.m.now.lowering.now in
    let i = c.loop-i.invariant in
    let r = c.index-rules-i.result in
    let q = c.index-others-i.result in
    let rs = c.rules_of-rules.result.now in
    let os = c.rules_of-others.result.now in
    let t = word_of c.args.table.now.words c.args.left.1 in
    let s = word_of c.args.table.now.words c.args.right.1 in
    let on = rw c.rules_of-rules.ensures.row at c.rules_of-rules.ensures.ordered in
    let om = rw c.rules_of-others.ensures.row at c.rules_of-others.ensures.ordered in
    let letters = pair_letters rows c.args.table.now.words c.args.left c.args.right on om c.requires.pair in
    let wide = as_long (row_of rows c.args.left.0) (row_of rows c.args.right.0) letters in
    let lr = ap length c.rules_of-rules.ensures.row in
    let lo = ap length c.rules_of-others.ensures.row in
    let lt = c.loop-i-test.true in
    let there = got rs c.loop-i.i r lt c.index-rules-i.is in
    let other = got os c.loop-i.i q (omega arith) c.index-others-i.is in
    let wr : c.as_slice.result.now ≡ r.word = c.as_slice.ensures in
    let wq : c.as_slice-in-loop-i.result.now ≡ q.word = c.as_slice-in-loop-i.ensures ∙ ap
    (λ (z : Rule). z.word) (sym c.index-others-i.is) in
    let left = i.kept.kept c.args.left.1 c.requires.left.there in
    let right = i.kept.kept c.args.right.1 c.requires.right.there in
    let p = c.in_ok-places.ensures in
    let places = rw (sym c.rules_of-rules.ensures.row, sym c.rules_of-others.ensures.row) at p in
    let place = c.index.result.now in
    let at = got c.in_ok-places.places.items c.loop-i.i place (let k = p.count in omega arith) c.index.ensures in
    let chains : slice_get c.loop-i.chains.items place ≡ Some d = rw c.deref.ensures.value at e in
    let way = way_before rs os c.in_ok-places.places.items places
    (omega arith) c.loop-i.i place r q at there other t s n c.args.m.now.marks.now c.args.table.now.pairs
    c.loop-i.chains.items d i.ways chains in
    rw (wr, wq, left, right, i.same) way

pub chain_letter-requires-clause-room : goal.chain_letter-requires-clause-room
chain_letter-requires-clause-room c =
    let rows = c.args.m.now.grammar.now.rules.items in
    let n = length c.args.m.now.lowering.now in
    let i = c.loop-i.invariant in
    let r = c.index-rules-i.result in
    let q = c.index-others-i.result in
    let rs = c.rules_of-rules.result.now in
    let os = c.rules_of-others.result.now in
    let t = word_of c.args.table.now.words c.args.left.1 in
    let s = word_of c.args.table.now.words c.args.right.1 in
    let on = rw c.rules_of-rules.ensures.row at c.rules_of-rules.ensures.ordered in
    let om = rw c.rules_of-others.ensures.row at c.rules_of-others.ensures.ordered in
    let letters = pair_letters rows c.args.table.now.words c.args.left c.args.right on om c.requires.pair in
    let wide = as_long (row_of rows c.args.left.0) (row_of rows c.args.right.0) letters in
    let lr = ap length c.rules_of-rules.ensures.row in
    let lo = ap length c.rules_of-others.ensures.row in
    let lt = c.loop-i-test.true in
    let there = got rs c.loop-i.i r lt c.index-rules-i.is in
    let other = got os c.loop-i.i q (omega arith) c.index-others-i.is in
    let wr : c.as_slice.result.now ≡ r.word = c.as_slice.ensures in
    let wq : c.as_slice-in-loop-i.result.now ≡ q.word = c.as_slice-in-loop-i.ensures ∙ ap
    (λ (z : Rule). z.word) (sym c.index-others-i.is) in
    let left = i.kept.kept c.args.left.1 c.requires.left.there in
    let right = i.kept.kept c.args.right.1 c.requires.right.there in
    let ri = ap (λ (z : List Rule). slice_get z c.loop-i.i) (sym c.rules_of-rules.ensures.row) ∙ there in
    let qi = ap (λ (z : List Rule). slice_get z c.loop-i.i) (sym c.rules_of-others.ensures.row) ∙ other in
    let b = parts_pair c.args.table.now.words c.args.left c.args.right in
    let after = after_at rows b c.args.left.0 c.args.right.0 t s c.loop-i.i r q refl refl on om letters ri qi in
    let room = c.requires.rooms r.letter (r.word ++ t) (q.word ++ s) after in
    rw (wr, wq, left, right, i.same) room

pub loop-i-preserved : goal.loop-i-preserved
loop-i-preserved c =
    let rows = c.args.m.now.grammar.now.rules.items in
    let n = length c.args.m.now.lowering.now in
    let i = c.loop-i.invariant in
    let r = c.index-rules-i.result in
    let q = c.index-others-i.result in
    let rs = c.rules_of-rules.result.now in
    let os = c.rules_of-others.result.now in
    let t = word_of c.args.table.now.words c.args.left.1 in
    let s = word_of c.args.table.now.words c.args.right.1 in
    let on = rw c.rules_of-rules.ensures.row at c.rules_of-rules.ensures.ordered in
    let om = rw c.rules_of-others.ensures.row at c.rules_of-others.ensures.ordered in
    let letters = pair_letters rows c.args.table.now.words c.args.left c.args.right on om c.requires.pair in
    let wide = as_long (row_of rows c.args.left.0) (row_of rows c.args.right.0) letters in
    let lr = ap length c.rules_of-rules.ensures.row in
    let lo = ap length c.rules_of-others.ensures.row in
    let lt = c.loop-i-test.true in
    let there = got rs c.loop-i.i r lt c.index-rules-i.is in
    let other = got os c.loop-i.i q (omega arith) c.index-others-i.is in
    let wr : c.as_slice.result.now ≡ r.word = c.as_slice.ensures in
    let wq : c.as_slice-in-loop-i.result.now ≡ q.word = c.as_slice-in-loop-i.ensures ∙ ap
    (λ (z : Rule). z.word) (sym c.index-others-i.is) in
    let left = i.kept.kept c.args.left.1 c.requires.left.there in
    let right = i.kept.kept c.args.right.1 c.requires.right.there in
    let e = c.in_ok-chain.ensures in
    let way = e.way in
    let way2 : IsWay n c.args.m.now.marks.now c.args.table.now.pairs (r.word ++ t) (q.word ++ s) c.in_ok-chain.chain =
    rw (wr, wq, left, right, i.same) at way in
    let longer = ap length c.in_ok-push.ensures.items in
    let one = length-push c.loop-i.chains.items c.in_ok-chain.chain in
    let count = i.count in
    let ri = subst (λ (k : ℕ). slice_get rs k ≡ Some r) (sym count) there in
    let qi = subst (λ (k : ℕ). slice_get os k ≡ Some q) (sym count) other in
    record {
      kept = keeps_on c.args.table.now.words c.loop-i.table.words c.chain_letter.new.table.words i.kept e.kept;
      same = e.same ∙ i.same;
      count = omega arith;
      ways = rw c.in_ok-push.ensures.items (ways_push n c.args.m.now.marks.now c.args.table.now.pairs rs os t s
          c.loop-i.chains.items c.in_ok-chain.chain r q ri qi i.ways way2);
    }

pub places_of-requires-clause-count : goal.places_of-requires-clause-count
places_of-requires-clause-count c =
    let rows = c.args.m.now.grammar.now.rules.items in
    let on = rw c.rules_of-rules.ensures.row at c.rules_of-rules.ensures.ordered in
    let om = rw c.rules_of-others.ensures.row at c.rules_of-others.ensures.ordered in
    let letters = pair_letters rows c.args.table.now.words c.args.left c.args.right on om c.requires.pair in
    let wide = as_long (row_of rows c.args.left.0) (row_of rows c.args.right.0) letters in
    sym wide

pub returns-clause-joined : goal.returns-clause-joined
returns-clause-joined c =
    let rows = c.args.m.now.grammar.now.rules.items in
    let i = c.loop-i.invariant in
    let on = rw c.rules_of-rules.ensures.row at c.rules_of-rules.ensures.ordered in
    let om = rw c.rules_of-others.ensures.row at c.rules_of-others.ensures.ordered in
    let letters = pair_letters rows c.args.table.now.words c.args.left c.args.right on om c.requires.pair in
    let wide = as_long (row_of rows c.args.left.0) (row_of rows c.args.right.0) letters in
    let t = word_of c.args.table.now.words c.args.left.1 in
    let s = word_of c.args.table.now.words c.args.right.1 in
    let b = parts_pair c.args.table.now.words c.args.left c.args.right in
    let ways = rw (c.rules_of-rules.ensures.row, c.rules_of-others.ensures.row) at i.ways in
    let count = i.count in
    let end = c.loop-i-test.false in
    let most = c.loop-i.auto.i-end in
    let lr = ap length c.rules_of-rules.ensures.row in
    joined_by_ways rows (length c.args.m.now.lowering.now) c.args.m.now.marks.now c.args.table.now.pairs b.right t s
    (row_of rows c.args.left.0) (row_of rows c.args.right.0) c.loop-i.chains.items
    (omega arith) (sym wide) (λ j r q ri qi. (after_at rows b c.args.left.0 c.args.right.0 t s j r q refl refl on om letters ri
    qi).right) ways

pub returns-clause-below : goal.returns-clause-below
returns-clause-below c =
    let rows = c.args.m.now.grammar.now.rules.items in
    let i = c.loop-i.invariant in
    let on = rw c.rules_of-rules.ensures.row at c.rules_of-rules.ensures.ordered in
    let om = rw c.rules_of-others.ensures.row at c.rules_of-others.ensures.ordered in
    let letters = pair_letters rows c.args.table.now.words c.args.left c.args.right on om c.requires.pair in
    let wide = as_long (row_of rows c.args.left.0) (row_of rows c.args.right.0) letters in
    let count = i.count in
    let end = c.loop-i-test.false in
    let most = c.loop-i.auto.i-end in
    let lr = ap length c.rules_of-rules.ensures.row in
    let lo = ap length c.rules_of-others.ensures.row in
    below_by_ways (length c.args.m.now.lowering.now) c.args.m.now.marks.now c.args.table.now.pairs
    (word_of c.args.table.now.words c.args.left.1) (word_of c.args.table.now.words c.args.right.1)
    c.rules_of-rules.result.now c.rules_of-others.result.now c.loop-i.chains.items (omega arith) (omega arith) i.ways
