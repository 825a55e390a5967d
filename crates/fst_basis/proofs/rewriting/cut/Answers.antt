use Rattle.std.proofs.Common.{◌∙◌, [], ap, arith, length, refl, reverse, sym}
use Rattle.std.proofs.lemmas.Bool.{eq-eqb, eqb-true}
use Rattle.std.proofs.lemmas.List.{append-nil, append_cancel_left, length-reverse, nil_from_length}
use Rattle.fst_basis.proofs.PartedLaws.{begins_so, cut_here, cut_nothing}
use Rattle.fst_basis.proofs.rewriting.cut.Goals.{then-not-take-via-then-not-take, then-not-take-via-else-not-take+then-not-is_empty}
use Rattle.fst_basis.proofs.rewriting.cut.Goals as goal

pub returns-then-not-take-clause-none : goal.returns-then-not-take-clause-none
returns-then-not-take-clause-none c t =
    let s = rw c.in-Some.is at c.in_ok-n.ensures.some in
    let front = c.take_marked.new.word.front.items in
    let behind = reverse c.take_marked.new.word.back.items in
    let tail = c.args.tail.now in
    rw (s.0, sym s.1) (cut_nothing c.args.marks.now front c.in-Some.n behind tail (λ e. elim c.then-not-take.branch [
      | then-not-take-via-then-not-take w ↦
          let yes = begins_so behind tail [] (e ∙ sym (append-nil tail)) in
          let no = c.take.ensures.none w.if-not-take.true in
          cc
      | then-not-take-via-else-not-take+then-not-is_empty w ↦
          let whole = c.take.ensures.taken w.if-not-take.false in
          let left = append_cancel_left tail (reverse c.take.new.back.items) [] (sym whole ∙ e ∙ sym (append-nil tail)) in
          let long = length-reverse c.take.new.back.items in
          let none = ap length left in
          let yes = eq-eqb c.take.new.back.len 0 (omega (arith, c.take.new.back.ok.0)) in
          let no = w.if-not-is_empty.ensures in
          cc
    ]))

pub returns-clause-made : goal.returns-clause-made
returns-clause-made c t =
    let s = rw c.in-Some.is at c.in_ok-n.ensures.some in
    let front = c.take_marked.new.word.front.items in
    let back = c.take.new.back in
    let count = eqb-true back.len 0 (sym c.if-not-is_empty.ensures) in
    let nothing = nil_from_length back.items (omega (arith, back.ok.0)) in
    let tail = rw nothing at c.if-not-take.ensures.taken refl in
    rw (s.0, sym s.1, tail, append-nil, c.in_ok-push.ensures.items, nothing) (cut_here c.args.marks.now front c.in-Some.n
    c.args.tail.now s.2)
