use Rattle.std.proofs.Common.{◌∙◌, ◌<◌, ◌≤◌, drop, length, get_or, sym, ap, arith}
use Rattle.std.proofs.lemmas.List.{drop_all, get_or_default}
use Rattle.fst_machine.specs.Programs.{main_place}
use Rattle.fst_code.proofs.GlobalLaws.{place_here, place_later}
use Rattle.fst_code.proofs.globals.main_start.Goals as goal

pub loop-i-preserved : goal.loop-i-preserved
loop-i-preserved c =
    let gs = c.args.globals.now in let is = c.args.starts.now in let n = c.loop-i.i in
    let lg : n < length gs = omega arith in let li : n < length is = omega (arith, c.requires) in
    place_later gs is n c.index-globals-i.result (get_or is n 0) lg li c.index-globals-i.is
    (get_or_default is n 0 (get_or is n 0) li) (sym c.is_main.ensures ∙ c.if-is_main.false) ∙ c.loop-i.invariant

pub returns-then-is_main : goal.returns-then-is_main
returns-then-is_main c =
    let gs = c.args.globals.now in let is = c.args.starts.now in let n = c.loop-i.i in
    let lg : n < length gs = omega arith in let li : n < length is = omega (arith, c.requires) in
    place_here gs is n c.index-globals-i.result (get_or is n 0) lg li c.index-globals-i.is
    (get_or_default is n 0 (get_or is n 0) li) (sym c.is_main.ensures ∙ c.if-is_main.true) ∙ c.loop-i.invariant

pub returns : goal.returns
returns c =
    let gs = c.args.globals.now in let is = c.args.starts.now in let n = c.loop-i.i in
    let past : length gs ≤ n = omega arith in
    sym (ap (λ z. main_place z (drop n is)) (drop_all n gs past)) ∙ c.loop-i.invariant
