use Rattle.std.proofs.Common.{◌≡◌, ◌+◌, ◌∷◌, arith, false, inl, inr, true, length, map, sym}
use Rattle.std.proofs.lemmas.Bool.{eqb-true}
use Rattle.std.proofs.lemmas.List.{length-map, nil_from_length}
use Rattle.fst_basis.specs.declared.proof.Chain.{Chain}
use Rattle.fst_cert.specs.Texts.{chain_line, pair_line, steps_of}
use Rattle.fst_cert.proofs.LineLaws.{line_first, lines_behind}
use Rattle.fst_cert.proofs.CertLaws.{all_read, chains_bad, chains_line, count_bad, first_bad, pairs_bad, pairs_line}
use Rattle.fst_cert.proofs.reading.read_cert.Goals.{then-len-many-via-then-len-many, then-len-many-via-else-len-many+then-not-is_empty}
use Rattle.fst_cert.proofs.reading.read_cert.Goals as goal

pub returns-in_default-clause-fault : goal.returns-in_default-clause-fault
returns-in_default-clause-fault c = first_bad c.args.text.now (rw c.from.ensures at c.in_default.ensures.none)

pub returns-then-len-count-clause-fault : goal.returns-then-len-count-clause-fault
returns-then-len-count-clause-fault c =
    let read = line_first c.args.text.now (pairs_line c.in-Some.count)
    (map pair_line c.in_ok-basis.basis.items) c.in-Some.rest.now
    c.in_ok-basis.rest.now c.in-Some.ensures.some.0 c.in_ok-basis.ensures.read in
    pairs_bad c.args.text.now c.in_ok-basis.rest.now c.in_ok-basis.basis.items c.in_ok-basis.ensures.fit c.in-Some.count
    (rw c.from.ensures at c.in-Some.ensures.some.1) read (c.len.result + 2)
    (omega (arith, c.len.ensures, c.in_ok-basis.basis.ok.0))
    (omega (arith, c.len-2.ensures, c.in_ok-basis.basis.ok.0, c.if-len-count.true))
    (c.in_ok-basis.ensures.no_more (omega (arith, c.len-2.ensures, c.in_ok-basis.basis.ok.0, c.if-len-count.true)))

pub returns-in_default-next_count-clause-fault : goal.returns-in_default-next_count-clause-fault
returns-in_default-next_count-clause-fault c =
    let read = line_first c.args.text.now (pairs_line c.in-Some.count)
    (map pair_line c.in_ok-basis.basis.items) c.in-Some.rest.now
    c.in_ok-basis.rest.now c.in-Some.ensures.some.0 c.in_ok-basis.ensures.read in
    let within = c.in_ok-basis.ensures.within in
    count_bad c.args.text.now c.in_ok-basis.rest.now c.in_ok-basis.basis.items c.in_ok-basis.ensures.fit c.in-Some.count
    (rw c.from.ensures at c.in-Some.ensures.some.1) read (c.len.result + 2)
    (omega (arith, c.len.ensures, c.in_ok-basis.basis.ok.0))
    (omega (arith, c.len-2.ensures, c.in_ok-basis.basis.ok.0, c.if-len-count.false)) c.in_default-next_count.ensures.none

pub returns-then-len-many-clause-fault : goal.returns-then-len-many-clause-fault
returns-then-len-many-clause-fault c =
    let read = line_first c.args.text.now (pairs_line c.in-Some.count)
    (map pair_line c.in_ok-basis.basis.items) c.in-Some.rest.now
    c.in_ok-basis.rest.now c.in-Some.ensures.some.0 c.in_ok-basis.ensures.read in
    let chains = steps_of c.in_ok-chains.chains.items in
    let behind = line_first c.in_ok-basis.rest.now (chains_line c.in-Some-next_count.many) (map chain_line chains)
    c.in-Some-next_count.rest.now c.in_ok-chains.rest.now c.in-Some-next_count.ensures.some.0 c.in_ok-chains.ensures.read in
    let whole = lines_behind c.args.text.now (pairs_line c.in-Some.count ∷ map pair_line c.in_ok-basis.basis.items)
    (chains_line c.in-Some-next_count.many ∷ map chain_line chains) c.in_ok-basis.rest.now c.in_ok-chains.rest.now read behind in
    let paired = c.in_ok-basis.ensures.within in
    let chained = c.in_ok-chains.ensures.within in
    let count = length-map c.in_ok-chains.chains.items (λ (x : Chain). x.steps.items) in
    let many = c.in-Some-next_count.ensures.some.1 in
    chains_bad c.args.text.now c.in_ok-chains.rest.now c.in_ok-basis.basis.items c.in_ok-basis.ensures.fit c.in-Some.count
    (rw c.from.ensures at c.in-Some.ensures.some.1)
    (omega (arith, c.len-2.ensures, c.in_ok-basis.basis.ok.0, c.if-len-count.false))
    chains c.in_ok-chains.ensures.fit c.in-Some-next_count.many (omega arith) (omega arith) whole
    (c.len.result + 2 + c.len-then-len-many.result + 1)
    (omega (arith, c.len.ensures, c.in_ok-basis.basis.ok.0, c.len-then-len-many.ensures, c.in_ok-chains.chains.ok.0))
    (λ less. c.in_ok-chains.ensures.no_more (omega arith)) (elim c.then-len-many.branch [
      | then-len-many-via-then-len-many w ↦ inl (omega (arith, c.len-3.ensures, c.in_ok-chains.chains.ok.0, w.if-len-many.true))
      | then-len-many-via-else-len-many+then-not-is_empty w ↦ inr (
        omega (arith, c.len-3.ensures, c.in_ok-chains.chains.ok.0, w.if-len-many.false),
        λ e. (let d : false ≡ true = rw e at w.if-not-is_empty.ensures in cc),
      )
    ])

pub returns-clause-read : goal.returns-clause-read
returns-clause-read c =
    let read = line_first c.args.text.now (pairs_line c.in-Some.count)
    (map pair_line c.in_ok-basis.basis.items) c.in-Some.rest.now
    c.in_ok-basis.rest.now c.in-Some.ensures.some.0 c.in_ok-basis.ensures.read in
    let chains = steps_of c.in_ok-chains.chains.items in
    let behind = line_first c.in_ok-basis.rest.now (chains_line c.in-Some-next_count.many) (map chain_line chains)
    c.in-Some-next_count.rest.now c.in_ok-chains.rest.now c.in-Some-next_count.ensures.some.0 c.in_ok-chains.ensures.read in
    let whole = lines_behind c.args.text.now (pairs_line c.in-Some.count ∷ map pair_line c.in_ok-basis.basis.items)
    (chains_line c.in-Some-next_count.many ∷ map chain_line chains) c.in_ok-basis.rest.now c.in_ok-chains.rest.now read behind in
    let paired = c.in_ok-basis.ensures.within in
    let chained = c.in_ok-chains.ensures.within in
    let count = length-map c.in_ok-chains.chains.items (λ (x : Chain). x.steps.items) in
    let many = c.in-Some-next_count.ensures.some.1 in
    let nothing = nil_from_length c.in_ok-chains.rest.now (eqb-true (length c.in_ok-chains.rest.now) 0
    (sym c.if-not-is_empty.ensures)) in
    all_read c.args.text.now c.in_ok-basis.basis.items chains c.in-Some.count c.in-Some-next_count.many c.in_ok-basis.ensures.fit
    c.in_ok-chains.ensures.fit (rw c.from.ensures at c.in-Some.ensures.some.1) (omega arith)
    (omega (arith, c.len-2.ensures, c.in_ok-basis.basis.ok.0, c.if-len-count.false))
    (omega (arith, c.len-3.ensures, c.in_ok-chains.chains.ok.0, c.if-len-many.false)) (rw nothing at whole)
