use Rattle.std.proofs.Common.{◌≡◌, ◌∙◌, ap, length, [], arith}
use Rattle.fst_breadth.specs.Tables.{Store, found_from}
use Rattle.fst_breadth.proofs.PairLaws.{found-length}
use Rattle.fst_breadth.proofs.pairs.Pairs.len.Goals as goal

pub returns : goal.returns
returns c =
    let long = found-length c.self.inside.words c.self.inside.map.entries [] in
    let count = c.len.ensures.len in
    let same : c.len.result ≡ length (found_from c.self.inside.words [] c.self.inside.map.entries) = omega arith in
    same ∙ ap (λ (s : Store). length s.found) c.self.view_is
