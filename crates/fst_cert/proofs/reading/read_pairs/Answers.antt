use Rattle.std.proofs.Common.{◌∷◌, [], arith, map}
use Rattle.std.proofs.lemmas.List.{length-append, map-append}
use Rattle.std.proofs.lemmas.List.Elements.{All-push}
use Rattle.fst_cert.specs.Certificates.{IsPairFit}
use Rattle.fst_cert.specs.Texts.{pair_line}
use Rattle.fst_cert.proofs.LineLaws.{line_added}
use Rattle.fst_cert.proofs.reading.read_pairs.Goals as goal

pub loop-alloc-preserved : goal.loop-alloc-preserved
loop-alloc-preserved c =
    let pairs = c.loop-alloc.pairs.items in
    let b = c.in-Some.pair in
    let more = c.in-Some.more.now in
    let next = rw c.in-Some.is at c.in_ok-pair.ensures.some in
    let i = c.loop-alloc.invariant in
    let items = c.in_ok-push.ensures.items in
    let test = c.loop-alloc-test.true in
    let count = length-append pairs (b ∷ []) in
    rw items (record {
      read = rw (map-append pair_line pairs (b ∷ [])) (line_added c.args.text.now (map pair_line pairs) c.loop-alloc.rest.now
          (pair_line b) more i.read next.0);
      fit = All-push IsPairFit pairs b i.fit next.1;
      within = omega (arith, c.len.ensures, c.loop-alloc.pairs.ok.0);
    })
