use Rattle.std.proofs.Common.{◌≡◌, ◌∙◌, ◌++◌, ap, arith, length, refl, reverse, sym}
use Rattle.fst_basis.specs.Parted.{word_of}
use Rattle.fst_basis.proofs.WayLaws.{replaced_here}
use Rattle.fst_basis.proofs.rewriting.replace.Goals as goal

pub returns-clause-made : goal.returns-clause-made
returns-clause-made c t =
    let front = c.seek.new.word.front.items in
    let rest = reverse c.take.new.back.items in
    let whole : word_of c.args.word.now ≡ front ++ (c.args.x.now ++ rest) =
    sym c.in_ok-seek.ensures.same ∙ ap (λ z. front ++ z) (c.if-not-take.ensures.taken refl) in
    let place = c.in_ok-seek.ensures.place in
    let at : length front ≡ c.args.at = omega (arith, c.if-len-at.false, c.len.ensures, c.seek.new.word.front.ok.0) in
    rw (whole, sym at, c.in_ok-put.ensures.front, c.in_ok-put.ensures.back) (replaced_here front c.args.x.now c.args.y.now rest)
