use Rattle.std.proofs.Common.{◌++◌, ◌∷◌, [], arith, map}
use Rattle.std.proofs.lemmas.List.{length-append, length-map, map-append}
use Rattle.std.proofs.lemmas.List.Elements.{All-push}
use Rattle.fst_basis.specs.declared.proof.Chain.{Chain}
use Rattle.fst_cert.specs.Certificates.{IsChainFit}
use Rattle.fst_cert.specs.Texts.{chain_line, steps_of}
use Rattle.fst_cert.proofs.LineLaws.{line_added}
use Rattle.fst_cert.proofs.reading.read_chains.Goals as goal

pub loop-alloc-preserved : goal.loop-alloc-preserved
loop-alloc-preserved c =
    let chains = c.loop-alloc.chains.items in
    let x = c.in-Some.chain in
    let steps = steps_of chains in
    let more = c.in-Some.more.now in
    let next = rw c.in-Some.is at c.in_ok-chain.ensures.some in
    let i = c.loop-alloc.invariant in
    let items = c.in_ok-push.ensures.items in
    let test = c.loop-alloc-test.true in
    let count = length-append chains (x ∷ []) in
    rw (items, map-append (λ (z : Chain). z.steps.items) chains (x ∷ [])) (record {
      read = rw (map-append chain_line steps (x.steps.items ∷ [])) (line_added c.args.text.now (map chain_line steps)
          c.loop-alloc.rest.now (chain_line x.steps.items) more i.read next.0);
      fit = All-push IsChainFit steps x.steps.items i.fit next.1;
      within = (let short = length-map (chains ++ x ∷ []) (λ (z : Chain). z.steps.items) in
          omega (arith, c.len.ensures, c.loop-alloc.chains.ok.0));
    })
