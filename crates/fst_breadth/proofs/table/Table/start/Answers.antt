use Rattle.std.proofs.Common.{◌++◌, ◌∷◌, [], sym, ◌∙◌}
use Rattle.fst_breadth.specs.Following.{same, differ}
use Rattle.fst_breadth.proofs.table.Table.start.Goals as goal

pub returns-then-same : goal.returns-then-same
returns-then-same c =
    let left = c.in_ok-right_word.ensures.kept.kept c.in_ok-left_word.left_word c.in_ok-left_word.ensures.within
    ∙ c.in_ok-left_word.ensures.word in
    let right = c.in_ok-right_word.ensures.word in
    let none = c.number-2.ensures.found ∙ c.number.ensures.found ∙ c.new-pairs.ensures.found in
    same (sym left ∙ c.if-same.ensures.0 (let t = c.if-same.true in cc) ∙ right) none

pub returns : goal.returns
returns c =
    let left = c.in_ok-right_word.ensures.kept.kept c.in_ok-left_word.left_word c.in_ok-left_word.ensures.within
    ∙ c.in_ok-left_word.ensures.word in
    let right = c.in_ok-right_word.ensures.word in
    let none = c.number-2.ensures.found ∙ c.number.ensures.found ∙ c.new-pairs.ensures.found in
    differ (λ q. let t = c.if-same.ensures.1 (left ∙ q ∙ sym right) in cc)
    (c.in_ok-push.ensures.found ∙ (λ i. none i ++ record { left = left i; right = right i; trace = [] } ∷ []))
