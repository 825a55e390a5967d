use Rattle.std.proofs.Common.{ℕ, List, All, length, subst, sym}
use Rattle.fst_words.specs.Words.{WordBelow}
use Rattle.fst_basis.specs.declared.proof.Pair.{Pair}
use Rattle.fst_basis.specs.Basis.{IsProof}
use Rattle.fst_normed.proofs.DecisionLaws.{count_told, grammar_of, is_proof, lower_by_one}
use Rattle.fst_normed.proofs.decision.decide.Goals as goal

pub close-outcome-requires-clause-lowering : goal.close-outcome-requires-clause-lowering
close-outcome-requires-clause-lowering c =
    let rows = c.args.g.now.rules.items in
    let g = grammar_of rows c.in_ok-norms.norms.items c.deref.result.now c.in_ok-words.words.items c.requires.grammar
    c.each_in_order.ensures c.requires.normed c.in_ok-norms.ensures.len
    c.in_ok-norms.ensures.each c.deref.ensures.value c.in_ok-words.ensures.lowering in
    rw (c.deref-2.ensures.value, c.deref-3.ensures.value)
    (lower_by_one rows c.in_ok-norms.norms.items c.in_ok-words.words.items g)

pub pairs_of-requires-clause-lowering : goal.pairs_of-requires-clause-lowering
pairs_of-requires-clause-lowering c =
    let rows = c.args.g.now.rules.items in
    let g = grammar_of rows c.in_ok-norms.norms.items c.deref.result.now c.in_ok-words.words.items c.requires.grammar
    c.each_in_order.ensures c.requires.normed c.in_ok-norms.ensures.len
    c.in_ok-norms.ensures.each c.deref.ensures.value c.in_ok-words.ensures.lowering in
    rw (c.deref-in-Ok.ensures.value, c.deref-in-Ok-2.ensures.value)
    (lower_by_one rows c.in_ok-norms.norms.items c.in_ok-words.words.items g)

pub returns-in-Ok-clause-proof : goal.returns-in-Ok-clause-proof
returns-in-Ok-clause-proof c marks count set =
    let rows = c.args.g.now.rules.items in
    let norms = c.in_ok-norms.norms.items in
    let words = c.in_ok-words.words.items in
    let size = c.in_ok-words.ensures.lowering.count in
    let closed = rw (c.deref-2.ensures.value, c.deref-3.ensures.value, c.as_slice.ensures, c.as_slice-2.ensures)
    at c.in-Ok.ensures.closed in
    let basis = rw (c.deref-in-Ok.ensures.value, c.deref-in-Ok-2.ensures.value) at c.in_ok-basis-in-Ok.ensures in
    subst (λ (z : List Pair). IsProof (length c.args.g.now.letters.items) rows marks c.args.u.now c.args.v.now z
    c.in-Ok.closed.chains.items) (sym basis)
    (is_proof (length c.args.g.now.letters.items) rows norms words c.in-Ok.closed.needed c.args.u.now c.args.v.now
    c.in-Ok.closed.chains.items
    marks c.requires.letters c.requires.grammar c.requires.left c.requires.right size
    (subst (λ (k : ℕ). All (WordBelow k) words) (sym size) c.in_ok-words.ensures.range) count set closed)

pub returns-in-Ok-clause-count : goal.returns-in-Ok-clause-count
returns-in-Ok-clause-count c =
    let closed = rw (c.deref-2.ensures.value, c.deref-3.ensures.value, c.as_slice.ensures, c.as_slice-2.ensures)
    at c.in-Ok.ensures.closed in
    let basis = rw (c.deref-in-Ok.ensures.value, c.deref-in-Ok-2.ensures.value) at c.in_ok-basis-in-Ok.ensures in
    count_told (length c.args.g.now.rules.items) c.in_ok-norms.norms.items c.in_ok-words.words.items c.in-Ok.closed.needed
    c.in_ok-basis-in-Ok.basis.items closed.are basis
