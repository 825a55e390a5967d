use Rattle.std.proofs.Common.{◌++◌, ◌∷◌, [], map, take, get_or, length, sym, subst}
use Rattle.std.proofs.lemmas.List.{map_more}
use Rattle.fst_written.specs.Faults.{IsLeast}
use Rattle.fst_written.specs.Readings.{reading_of}
use Rattle.fst_written.specs.declared.readings.Occurrence.{Occurrence}
use Rattle.fst_written.proofs.LeastLaws.{least_formed, least_fault}
use Rattle.fst_written.proofs.RangeLaws.{below_at}
use Rattle.fst_written.proofs.kinds.first_fault.Goals as goal
use Rattle.fst_written.proofs.kinds.first_fault.Goals.{in-Some, in_default}

pub fault_of-requires : goal.fault_of-requires
fault_of-requires c = below_at (λ o. o.number)
    (length c.args.m.now.types.items) c.args.standing.now c.loop-occurrence.occurrence-index _ c.requires
    c.loop-occurrence-test.true

pub loop-occurrence-preserved : goal.loop-occurrence-preserved
loop-occurrence-preserved c =
    let m = c.args.m.now in
    let i = c.loop-occurrence.occurrence-index in
    let standing = c.args.standing.now in
    let before = map reading_of (take i standing) in
    let none : Occurrence = record { number = 0; kinds = record { ref_ptr = (0, 0); now = [] } } in
    let r = reading_of (get_or standing i none) in
    let whole = sym (map_more reading_of standing i none c.loop-occurrence-test.true) in
    elim c.match-branch-2.branch [
      | in-Some w ↦
          subst (λ rs. IsLeast m rs c.match-branch-2.found) whole
          (subst (IsLeast m (before ++ r ∷ [])) (sym w.found-is)
          (least_fault m before r c.loop-occurrence.found w.in-Some.next w.earlier.result c.loop-occurrence.invariant
          (rw w.in-Some.is at c.in_ok-next.ensures) w.earlier.ensures))
      | in_default w ↦
          subst (λ rs. IsLeast m rs c.match-branch-2.found) whole
          (subst (IsLeast m (before ++ r ∷ [])) (sym w.found-is)
          (least_formed m before r c.loop-occurrence.found c.loop-occurrence.invariant
          (rw w.in_default.is at c.in_ok-next.ensures)))
    ]
