use Rattle.std.proofs.Common.{◌≡◌, ◌-◌, ◌++◌, ◌∙◌, ℕ, List, ap, arith, length, refl, subst, sym, Some, All}
use Rattle.std.specs.Prelude.{slice_get, slice_index_or}
use Rattle.fst_base.proofs.Lists.{length-push}
use Rattle.fst_words.specs.declared.rules.Rule.{Rule}
use Rattle.fst_words.specs.Words.{WordBelow, row_of}
use Rattle.fst_shared.specs.Shared.{word_of}
use Rattle.fst_shared.proofs.Laws.{keeps_on}
use Rattle.fst_expand.specs.Bridge.{HaveNoRoom, Meet}
use Rattle.fst_expand.specs.Expansion.{parts_pair}
use Rattle.fst_basis.proofs.Laws.{as_long}
use Rattle.fst_expand.proofs.FollowLaws.{after_at, followed_last, followed_next, lack_next}
use Rattle.fst_expand.proofs.FrontLaws.{front_of, met_before}
use Rattle.fst_expand.proofs.PlaceLaws.{got, read_at}
use Rattle.fst_expand.proofs.following.follow_rules.Goals as goal

pub bounds-others-i : goal.bounds-others-i
bounds-others-i c =
    let rows = c.args.m.now.grammar.now.rules.items in
    let wide = as_long (row_of rows c.args.left.0) (row_of rows c.args.right.0) c.requires.letters in
    let a = ap length c.rules_of-rules.ensures.row in
    let b = ap length c.rules_of-others.ensures.row in
    let lt = c.loop-i-test.true in
    omega arith

pub follow_letter-requires-clause-right : goal.follow_letter-requires-clause-right
follow_letter-requires-clause-right c =
    let rows = c.args.m.now.grammar.now.rules.items in
    let marks = c.args.m.now.marks.now in
    let norms = c.args.m.now.norms.now in
    let words = c.args.m.now.lowering.now in
    let i = c.loop-i.invariant in
    let r = c.index-rules-i.result in
    let q = c.index-others-i.result in
    let rs = c.rules_of-rules.result.now in
    let os = c.rules_of-others.result.now in
    let t = word_of c.args.table.now.words c.args.left.1 in
    let s = word_of c.args.table.now.words c.args.right.1 in
    let wide = as_long (row_of rows c.args.left.0) (row_of rows c.args.right.0) c.requires.letters in
    let lr = ap length c.rules_of-rules.ensures.row in
    let lo = ap length c.rules_of-others.ensures.row in
    let lt = c.loop-i-test.true in
    let there = got rs c.loop-i.i r lt c.index-rules-i.is in
    let other = got os c.loop-i.i q (omega arith) c.index-others-i.is in
    let wr : c.as_slice.result.now ≡ r.word = c.as_slice.ensures in
    let wq : c.as_slice-in-loop-i.result.now ≡ q.word = c.as_slice-in-loop-i.ensures ∙ ap
    (λ (z : Rule). z.word) (sym c.index-others-i.is) in
    let left = i.kept.kept c.args.left.1 c.requires.left.there in
    let right = i.kept.kept c.args.right.1 c.requires.right.there in
    let below = subst (λ (n : ℕ). All (λ (r : Rule). WordBelow n r.word) os)
    (sym c.requires.measured.lowering.count) c.rules_of-others.ensures.below in
    front_of (length words) marks c.args.table.now.words c.loop-i.table.words c.args.right os c.loop-i.i q
    c.as_slice-in-loop-i.result.now i.kept c.requires.right below other wq

pub follow_letter-requires-clause-before : goal.follow_letter-requires-clause-before
follow_letter-requires-clause-before c h e =
    let rows = c.args.m.now.grammar.now.rules.items in
    let marks = c.args.m.now.marks.now in
    let norms = c.args.m.now.norms.now in
    let words = c.args.m.now.lowering.now in
    let i = c.loop-i.invariant in
    let r = c.index-rules-i.result in
    let q = c.index-others-i.result in
    let rs = c.rules_of-rules.result.now in
    let os = c.rules_of-others.result.now in
    let t = word_of c.args.table.now.words c.args.left.1 in
    let s = word_of c.args.table.now.words c.args.right.1 in
    let wide = as_long (row_of rows c.args.left.0) (row_of rows c.args.right.0) c.requires.letters in
    let lr = ap length c.rules_of-rules.ensures.row in
    let lo = ap length c.rules_of-others.ensures.row in
    let lt = c.loop-i-test.true in
    let there = got rs c.loop-i.i r lt c.index-rules-i.is in
    let other = got os c.loop-i.i q (omega arith) c.index-others-i.is in
    let wr : c.as_slice.result.now ≡ r.word = c.as_slice.ensures in
    let wq : c.as_slice-in-loop-i.result.now ≡ q.word = c.as_slice-in-loop-i.ensures ∙ ap
    (λ (z : Rule). z.word) (sym c.index-others-i.is) in
    let left = i.kept.kept c.args.left.1 c.requires.left.there in
    let right = i.kept.kept c.args.right.1 c.requires.right.there in
    let p = c.requires.places in
    let places = rw (sym c.rules_of-rules.ensures.row, sym c.rules_of-others.ensures.row) at p in
    let place = slice_index_or c.args.places.now c.loop-i.i 0 in
    let at = read_at c.args.places.now c.loop-i.i 0 (let k = p.count in omega arith) in
    let counts : slice_get c.loop-i.counts.items place ≡ Some h = rw c.deref.ensures.value at e in
    let met = met_before rs os c.args.places.now places
    (omega arith) c.loop-i.i place r q at there other t s rows marks norms words
    (parts_pair c.args.table.now.words c.args.left c.args.right)
    c.args.table.now.pairs c.loop-i.table.pairs c.loop-i.counts.items c.loop-i.heads h i.followed counts in
    rw (wr, wq, left, right) met

pub returns-in_default-clause-lack : goal.returns-in_default-clause-lack
returns-in_default-clause-lack c =
    let rows = c.args.m.now.grammar.now.rules.items in
    let marks = c.args.m.now.marks.now in
    let norms = c.args.m.now.norms.now in
    let words = c.args.m.now.lowering.now in
    let i = c.loop-i.invariant in
    let r = c.index-rules-i.result in
    let q = c.index-others-i.result in
    let rs = c.rules_of-rules.result.now in
    let os = c.rules_of-others.result.now in
    let t = word_of c.args.table.now.words c.args.left.1 in
    let s = word_of c.args.table.now.words c.args.right.1 in
    let wide = as_long (row_of rows c.args.left.0) (row_of rows c.args.right.0) c.requires.letters in
    let lr = ap length c.rules_of-rules.ensures.row in
    let lo = ap length c.rules_of-others.ensures.row in
    let lt = c.loop-i-test.true in
    let there = got rs c.loop-i.i r lt c.index-rules-i.is in
    let other = got os c.loop-i.i q (omega arith) c.index-others-i.is in
    let wr : c.as_slice.result.now ≡ r.word = c.as_slice.ensures in
    let wq : c.as_slice-in-loop-i.result.now ≡ q.word = c.as_slice-in-loop-i.ensures ∙ ap
    (λ (z : Rule). z.word) (sym c.index-others-i.is) in
    let left = i.kept.kept c.args.left.1 c.requires.left.there in
    let right = i.kept.kept c.args.right.1 c.requires.right.there in
    let count = i.count in
    let ri = subst (λ (k : ℕ). slice_get rs k ≡ Some r) (sym count) there in
    let qi = subst (λ (k : ℕ). slice_get os k ≡ Some q) (sym count) other in
    let b = parts_pair c.args.table.now.words c.args.left c.args.right in
    let on = rw c.rules_of-rules.ensures.row at c.rules_of-rules.ensures.ordered in
    let om = rw c.rules_of-others.ensures.row at c.rules_of-others.ensures.ordered in
    let after = after_at rows b c.args.left.0 c.args.right.0 t s c.loop-i.i r q refl refl on om c.requires.letters
    (ap (λ (z : List Rule). slice_get z c.loop-i.i) (sym c.rules_of-rules.ensures.row) ∙ there)
    (ap (λ (z : List Rule). slice_get z c.loop-i.i) (sym c.rules_of-others.ensures.row) ∙ other) in
    let full = rw c.in_default.is at c.in_ok-count.ensures.crowded in
    let full2 : HaveNoRoom marks norms words (r.word ++ t) (q.word ++ s) c.loop-i.table.pairs c.follow_letter.new.table.pairs
    (c.args.room - c.loop-i.heads) = rw (wr, wq, left, right) at full in
    let room = i.room in
    lack_next rows marks norms words b c.args.table.now.pairs rs os t s c.loop-i.table.pairs c.follow_letter.new.table.pairs
    c.loop-i.counts.items c.loop-i.heads r q ri qi after i.followed
    (c.args.room - c.loop-i.heads) c.args.room c.rules_of-rules.ensures.row full2 (omega arith)

pub loop-i-preserved : goal.loop-i-preserved
loop-i-preserved c =
    let rows = c.args.m.now.grammar.now.rules.items in
    let marks = c.args.m.now.marks.now in
    let norms = c.args.m.now.norms.now in
    let words = c.args.m.now.lowering.now in
    let i = c.loop-i.invariant in
    let r = c.index-rules-i.result in
    let q = c.index-others-i.result in
    let rs = c.rules_of-rules.result.now in
    let os = c.rules_of-others.result.now in
    let t = word_of c.args.table.now.words c.args.left.1 in
    let s = word_of c.args.table.now.words c.args.right.1 in
    let wide = as_long (row_of rows c.args.left.0) (row_of rows c.args.right.0) c.requires.letters in
    let lr = ap length c.rules_of-rules.ensures.row in
    let lo = ap length c.rules_of-others.ensures.row in
    let lt = c.loop-i-test.true in
    let there = got rs c.loop-i.i r lt c.index-rules-i.is in
    let other = got os c.loop-i.i q (omega arith) c.index-others-i.is in
    let wr : c.as_slice.result.now ≡ r.word = c.as_slice.ensures in
    let wq : c.as_slice-in-loop-i.result.now ≡ q.word = c.as_slice-in-loop-i.ensures ∙ ap
    (λ (z : Rule). z.word) (sym c.index-others-i.is) in
    let left = i.kept.kept c.args.left.1 c.requires.left.there in
    let right = i.kept.kept c.args.right.1 c.requires.right.there in
    let count = i.count in
    let ri = subst (λ (k : ℕ). slice_get rs k ≡ Some r) (sym count) there in
    let qi = subst (λ (k : ℕ). slice_get os k ≡ Some q) (sym count) other in
    let b = parts_pair c.args.table.now.words c.args.left c.args.right in
    let on = rw c.rules_of-rules.ensures.row at c.rules_of-rules.ensures.ordered in
    let om = rw c.rules_of-others.ensures.row at c.rules_of-others.ensures.ordered in
    let after = after_at rows b c.args.left.0 c.args.right.0 t s c.loop-i.i r q refl refl on om c.requires.letters
    (ap (λ (z : List Rule). slice_get z c.loop-i.i) (sym c.rules_of-rules.ensures.row) ∙ there)
    (ap (λ (z : List Rule). slice_get z c.loop-i.i) (sym c.rules_of-others.ensures.row) ∙ other) in
    let met = rw c.in-Some.is at c.in_ok-count.ensures.met in
    let met2 : Meet marks norms words (r.word ++ t)
    (q.word ++ s) c.loop-i.table.pairs c.follow_letter.new.table.pairs c.in-Some.count = rw (wr, wq, left, right) at met in
    let room = rw c.in-Some.is at c.in_ok-count.ensures.room in
    let before = i.room in
    let longer = ap length c.in_ok-push.ensures.items in
    let one = length-push c.loop-i.counts.items c.in-Some.count in
    record {
      kept = keeps_on c.args.table.now.words c.loop-i.table.words c.follow_letter.new.table.words i.kept
          c.in_ok-count.ensures.kept;
      room = omega arith;
      count = omega arith;
      followed = rw c.in_ok-push.ensures.items (followed_next rows marks norms words b c.args.table.now.pairs rs os t s
          c.loop-i.table.pairs c.follow_letter.new.table.pairs c.loop-i.counts.items
          c.loop-i.heads r q ri qi after i.followed c.in-Some.count met2);
    }

pub returns-clause-followed : goal.returns-clause-followed
returns-clause-followed c =
    let rows = c.args.m.now.grammar.now.rules.items in
    let i = c.loop-i.invariant in
    let t = word_of c.args.table.now.words c.args.left.1 in
    let s = word_of c.args.table.now.words c.args.right.1 in
    let on = rw c.rules_of-rules.ensures.row at c.rules_of-rules.ensures.ordered in
    let om = rw c.rules_of-others.ensures.row at c.rules_of-others.ensures.ordered in
    let end = c.loop-i-test.false in
    let count = i.count in
    let most = c.loop-i.auto.i-end in
    followed_last rows c.args.m.now.marks.now c.args.m.now.norms.now c.args.m.now.lowering.now
    (parts_pair c.args.table.now.words c.args.left c.args.right) c.args.table.now.pairs
    c.rules_of-rules.result.now c.rules_of-others.result.now t s c.args.left.0 c.args.right.0 c.loop-i.table.pairs
    c.loop-i.counts.items c.loop-i.heads refl c.rules_of-rules.ensures.row
    c.rules_of-others.ensures.row on om c.requires.letters c.requires.measured.lowering.count (omega arith) i.followed
