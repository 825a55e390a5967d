use Rattle.std.proofs.Common.{◌∙◌, ◌++◌, ◌∷◌, ◌+◌, ◌<◌, ◌≤◌, [], append-nil, drop, length, get_or, sym, ap, arith}
use Rattle.std.proofs.lemmas.List.{drop_all, get_or_default}
use Rattle.fst_code.specs.Arms.{table_of}
use Rattle.fst_code.proofs.TableLaws.{table_more}
use Rattle.fst_code.proofs.arms.match_places.Goals as goal

pub loop-i-preserved : goal.loop-i-preserved
loop-i-preserved c =
    let bs = c.args.arms.now in let is = c.args.starts.now in let n = c.loop-i.i in
    let lb : n < length bs = omega arith in let li : n < length is = omega (arith, c.requires) in
    let start = get_or is n 0 in
    let put = c.in_ok-push.ensures.items ∙ ap (λ l. c.loop-i.places.items ++ (l, start) ∷ []) c.in_ok-copy.ensures in
    ap (λ z. z ++ table_of (drop (n + 1) bs) (drop (n + 1) is)) put
    ∙ table_more c.loop-i.places.items bs is n c.index-arms-i.result start (table_of bs is) lb li c.index-arms-i.is
    (get_or_default is n 0 start li) c.loop-i.invariant

pub returns : goal.returns
returns c =
    let bs = c.args.arms.now in let is = c.args.starts.now in let n = c.loop-i.i in
    let past : length bs ≤ n = omega arith in
    sym (append-nil c.loop-i.places.items) ∙ ap (λ z. c.loop-i.places.items ++ table_of z (drop n is)) (sym (drop_all n bs past))
    ∙ c.loop-i.invariant
