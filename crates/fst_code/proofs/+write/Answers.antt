use Rattle.std.proofs.Common.{◌≡◌, ◌∙◌, ◌<◌, ◌≤◌, ◌+◌, ◌-◌, ◌++◌, ◌∷◌, true, false, suc, [], length, drop, take, refl, sym, ap, subst, arith, rules, w64}
use mir.Val.{of_z, to_z}
use Rattle.std.proofs.lemmas.List.{drop_all, take_all}
use Rattle.std.proofs.lemmas.Option.{slice_get_read}
use Rattle.fst_terms.proofs.Laws.{core_arms_height_at, cores_height_at}
use Rattle.fst_terms.specs.CoreCount.{core_arms_count, cores_count}
use Rattle.fst_terms.specs.CoreTree.{core_arms_height, core_height, pair, make, lambda, apply, let_in, int, split, if_else, case_of, match_with, operate, negate, send, receive, close, wait, select, fork, seq}
use Rattle.fst_terms.specs.declared.binder.Binder.{Binder}
use Rattle.fst_terms.specs.InRange.{terms_length}
use Rattle.fst_terms.specs.ModelCoreView.{core_arms_of, cores_of}
use Rattle.fst_terms.specs.declared.core_term.Arm.{Arm}
use Rattle.std.specs.Prelude.{List, slice_get}
use Rattle.fst_code.specs.declared.codes.ArmCode.{ArmCode}
use Rattle.fst_code.specs.Arms.{AllForget, AreAtMost, ArePlacesOf, AreWritten, marks_of, table_of}
use Rattle.fst_code.proofs.ArmLaws.{arm_written, arms_from, kept_written, run_length, take_next, written_deep, written_more, written_within}
use Rattle.fst_code.proofs.CaseLaws.{case_left, match_left}
use Rattle.fst_code.proofs.TableLaws.{table_at_most}
use Rattle.fst_code.proofs.Extended.{extends_both, extends_same}
use Rattle.fst_machine.specs.declared.code.Instr.TheVariants as instr
use Rattle.fst_machine.specs.Code.{also, no_variables, place_of}
use Rattle.fst_machine.specs.Free.{free, free_below}
use Rattle.fst_machine.specs.Machine.{in_either}
use Rattle.fst_code.specs.Marks.{marked}
use Rattle.fst_code.proofs.ListsLaws.{also_none}
use Rattle.fst_code.specs.Writable.{AreArmsWritable, AreWritable, IsWritable}
use Rattle.fst_code.specs.Written.{Closes, ComesTo, Forgot, Pushes, Writes, WritesAll, WritesUnder, compiled, top}
use Rattle.fst_code.proofs.FormLaws.{all_more, all_none, behind_from, fork_written, if_left, lambda_written, leaves_more, leaves_none, let_left, make_written, seq_left, split_left, apply_left, bool_written, char_written, global_written, int_written, negate_left, new_written, operate_left, pair_left, receive_left, close_left, wait_left, select_left, send_left, unit_written}
use Rattle.fst_code.proofs.HeightLaws.{terms_length-cores}
use Rattle.fst_code.proofs.MarkLaws.{within_none}
use Rattle.fst_code.proofs.PieceLaws.{drop_before}
use Rattle.fst_code.proofs.UnderLaws.{under_written}
use Rattle.fst_code.proofs.Wholes.{left_as, whole_one, whole_three, whole_two, written_as}
use Rattle.fst_code.proofs.WritableLaws.{case_arms, cores_count_drop, length_cores_count, match_arms, ready_at, writable_as, writable_from}
use Rattle.fst_code.proofs.+write.Goals as goal

-- some binder
unnamed : Binder
unnamed = record { name = []; at = 0 }

-- ---- under binders

pub parts::write_under-write-requires : goal.parts::write_under-write-requires
parts::write_under-write-requires t c =
    let same = c.in_ok-enter_all.ensures.deep in
    (omega (arith, c.decreases), writable_from c.requires.ready same (omega (arith, same, c.requires.few)))

pub parts::write_under-leave_all-requires : goal.parts::write_under-leave_all-requires
parts::write_under-leave_all-requires t c = omega (arith, c.in_ok-enter_all.ensures.deep, c.in_ok-write.ensures.deep)

pub parts::write_under-returns : goal.parts::write_under-returns
parts::write_under-returns t c = λ xs h.
    let F = c.args.given.now.families.now in
    let deep : length c.enter_all.new.later.items ≡ length xs + length c.args.later.now.items =
    omega (arith, c.in_ok-enter_all.ensures.deep, h) in
    let less : length c.write.new.later.items ≡ length xs + length c.leave_all.new.later.items =
    omega (arith, c.in_ok-leave_all.ensures.deep, h) in
    under_written (compiled F c.args.out.now) (compiled F c.write.new.out)
    (compiled F c.leave_all.new.out) c.args.later.now.items c.enter_all.new.later.items c.write.new.later.items
    c.leave_all.new.later.items xs c.args.body.now
    (c.in_ok-enter_all.ensures.marks xs h) deep c.in_ok-write.ensures (c.in_ok-leave_all.ensures.code F xs h)
    (c.in_ok-leave_all.ensures.marks xs h) less

-- ---- functions and tasks

pub parts::write_task-write-requires : goal.parts::write_task-write-requires
parts::write_task-write-requires t c =
    let p = c.in_ok-push.ensures c.args.given.now.families.now in
    let same : length c.in_ok-used.used.items ≡ length c.args.later.now.items =
    omega (arith, c.in_ok-used.ensures.deep, c.len.ensures, c.args.later.now.ok.0) in (
      omega (arith, c.decreases),
      writable_from c.requires.ready same (omega (arith, same, ap length p.entries, c.requires.few)),
    )

pub parts::write_task-close-requires : goal.parts::write_task-close-requires
parts::write_task-close-requires t c =
    let F = c.args.given.now.families.now in
    let p = c.in_ok-push.ensures F in
    let long = ap length c.deref.ensures.value in
    let deep : length c.deref.result.now ≡ length c.args.later.now.items =
    omega (arith, long, c.in_ok-write.ensures.deep, c.in_ok-used.ensures.deep, c.len.ensures, c.args.later.now.ok.0) in
    record {
      place = omega (arith, c.top_of-next.ensures, p.extends.longer, c.in_ok-write.ensures.extends.longer);
      deep = deep;
      few = omega (arith, deep, c.requires.few);
      room = omega (arith, c.in_ok-write.ensures.entries, ap length p.entries, c.requires.few);
    }

pub parts::write_task-returns : goal.parts::write_task-returns
parts::write_task-returns t c = λ at.
    let F = c.args.given.now.families.now in
    let b = compiled F c.args.out.now in
    let k = compiled F c.write.new.out in
    let d = compiled F c.close.new.out in
    let x = subst (λ z. Closes k c.args.later.now.items d c.close.new.later.items true (top k) z c.top_of-next.result)
    (ap marked c.deref.ensures.value) (c.in_ok-close.ensures F) in
    fork_written b (compiled F c.push.new.out) k d c.args.later.now.items c.in_ok-used.used.items c.write.new.later.items
    c.close.new.later.items at c.args.body.now
    (c.in_ok-push.ensures F) c.in_ok-used.ensures.marks c.in_ok-write.ensures
    (subst (λ z. Closes k c.args.later.now.items d c.close.new.later.items true (top k) (marked c.write.new.later.items) z)
    c.top_of-next.ensures x)

pub parts::write_function-write_under-requires : goal.parts::write_function-write_under-requires
parts::write_function-write_under-requires t c =
    let p = c.in_ok-push.ensures c.args.given.now.families.now in
    let same : 1 + length c.in_ok-used.used.items ≡ suc (length c.args.later.now.items) =
    omega (arith, c.in_ok-used.ensures.deep, c.len.ensures, c.args.later.now.ok.0) in (
      omega (arith, c.decreases),
      writable_from c.requires.ready same (omega (arith, same, ap length p.entries, c.requires.few)),
    )

pub parts::write_function-close-requires : goal.parts::write_function-close-requires
parts::write_function-close-requires t c =
    let F = c.args.given.now.families.now in
    let p = c.in_ok-push.ensures F in
    let w = c.in_ok-write_under.ensures (unnamed ∷ []) refl in
    let long = ap length c.deref.ensures.value in
    let deep : length c.deref.result.now ≡ length c.args.later.now.items =
    omega (arith, long, w.deep, c.in_ok-used.ensures.deep, c.len.ensures, c.args.later.now.ok.0) in
    record {
      place = omega (arith, c.top_of-next.ensures, p.extends.longer, w.extends.longer);
      deep = deep;
      few = omega (arith, deep, c.requires.few);
      room = omega (arith, w.entries, ap length p.entries, c.requires.few);
    }

pub parts::write_function-returns : goal.parts::write_function-returns
parts::write_function-returns t c = λ at u a y.
    let F = c.args.given.now.families.now in
    let b = compiled F c.args.out.now in
    let k = compiled F c.write_under.new.out in
    let d = compiled F c.close.new.out in
    let x = subst (λ z. Closes k c.args.later.now.items d c.close.new.later.items false (top k) z c.top_of-next.result)
    (ap marked c.deref.ensures.value) (c.in_ok-close.ensures F) in
    lambda_written b (compiled F c.push.new.out) k d c.args.later.now.items c.in_ok-used.used.items c.write_under.new.later.items
    c.close.new.later.items at u a y c.args.body.now
    (c.in_ok-push.ensures F) c.in_ok-used.ensures.marks (c.in_ok-write_under.ensures (y ∷ []) refl) within_none
    (subst (λ z. Closes k c.args.later.now.items d c.close.new.later.items false (top k) (marked c.write_under.new.later.items) z)
    c.top_of-next.ensures x)

-- ---- several terms

pub parts::write_all-write-requires : goal.parts::write_all-write-requires
parts::write_all-write-requires t c =
    let xs = c.args.terms.now in let n = c.loop-i.i - 1 in let x = c.index-terms-i.result in
    let lt : n < length xs = omega arith in let e : c.loop-i.i ≡ n + 1 = omega arith in
    let high = cores_height_at xs n x lt in
    let ready = ready_at xs n x lt c.index-terms-i.is c.requires.ready in
    let here = ap (λ z. cores_count (cores_of z)) (drop_before xs n c.loop-i.i x lt e c.index-terms-i.is) in
    let all = cores_count_drop n xs in
    let so_far = c.loop-i.invariant in (
      omega (arith, high, ap core_height c.index-terms-i.is, c.decreases),
      writable_from ready so_far.deep (omega (arith, so_far.deep, so_far.entries, here, all, c.requires.few)),
    )

pub parts::write_all-loop-i-init : goal.parts::write_all-loop-i-init
parts::write_all-loop-i-init t c =
    let F = c.args.given.now.families.now in
    let xs = c.args.terms.now in let all : length xs ≤ length xs = omega arith in
    subst (λ z. WritesAll (compiled F c.args.out.now) c.args.later.now.items (compiled F c.args.out.now) c.args.later.now.items
    (cores_of z)) (sym (drop_all (length xs) xs all))
    (all_none (compiled F c.args.out.now) c.args.later.now.items)

pub parts::write_all-loop-i-preserved : goal.parts::write_all-loop-i-preserved
parts::write_all-loop-i-preserved t c =
    let F = c.args.given.now.families.now in
    let xs = c.args.terms.now in let n = c.loop-i.i - 1 in
    let lt : n < length xs = omega arith in let e : c.loop-i.i ≡ n + 1 = omega arith in
    subst (λ z. WritesAll (compiled F c.args.out.now) c.args.later.now.items (compiled F c.write.new.out) c.write.new.later.items
    (cores_of z))
    (sym (drop_before xs n c.loop-i.i c.index-terms-i.result lt e c.index-terms-i.is))
    (all_more (compiled F c.args.out.now) (compiled F c.loop-i.out)
    (compiled F c.write.new.out) c.args.later.now.items c.loop-i.later.items c.write.new.later.items c.index-terms-i.result
    (cores_of (drop c.loop-i.i xs)) c.loop-i.invariant c.in_ok-write.ensures)

pub parts::write_make-overflow_cast-arguments : goal.parts::write_make-overflow_cast-arguments
parts::write_make-overflow_cast-arguments t c = omega (arith, length_cores_count c.args.arguments.now, c.requires.few)

pub parts::write_make-write_all-requires : goal.parts::write_make-write_all-requires
parts::write_make-write_all-requires t c =
    let p = c.in_ok-push.ensures c.args.given.now.families.now in (
      omega (arith, c.decreases),
      subst (λ z. AreWritable (length c.args.later.now.items) (length z) (cores_of c.args.arguments.now)) (sym p.entries)
          c.requires,
    )

pub parts::write_make-returns : goal.parts::write_make-returns
parts::write_make-returns t c = λ at.
    let F = c.args.given.now.families.now in
    let es = c.args.arguments.now in
    let n : length es ≡ terms_length (cores_of es) = sym (terms_length-cores es) in
    make_written (compiled F c.args.out.now) (compiled F c.push.new.out)
    (compiled F c.write_all.new.out) c.args.later.now.items c.write_all.new.later.items at c.args.family c.args.maker
    (cores_of es)
    (subst (λ z. Pushes (compiled F c.args.out.now) (compiled F c.push.new.out) (instr.Make c.args.family c.args.maker z)) n
    (c.in_ok-push.ensures F)) c.in_ok-write_all.ensures

-- ---- first parts that are left

pub parts::write_second-write-requires : goal.parts::write_second-write-requires
parts::write_second-write-requires t c =
    let p = c.in_ok-push.ensures c.args.given.now.families.now in (
      omega (arith, c.decreases),
      subst (λ z. IsWritable (length c.args.later.now.items) (length z) c.args.second.now) (sym p.entries) c.requires.writable,
    )

pub parts::write_second-returns : goal.parts::write_second-returns
parts::write_second-returns t c =
    let F = c.args.given.now.families.now in
    behind_from (compiled F c.args.out.now) (compiled F c.push.new.out)
    (compiled F c.write.new.out) c.args.later.now.items c.write.new.later.items c.args.instr c.args.second.now
    (c.in_ok-push.ensures F) c.in_ok-write.ensures

pub parts::write_then-returns : goal.parts::write_then-returns
parts::write_then-returns t c = λ at e.
    let F = c.args.given.now.families.now in
    seq_left (compiled F c.args.out.now) (compiled F c.write.new.out)
    (compiled F c.push.new.out) c.args.later.now.items c.write.new.later.items at e c.args.second.now c.in_ok-write.ensures
    (c.in_ok-push.ensures F)

pub parts::write_let-write_under-requires : goal.parts::write_let-write_under-requires
parts::write_let-write_under-requires t c =
    let p = c.in_ok-push.ensures c.args.given.now.families.now in
    let same : 1 + length c.args.later.now.items ≡ suc (length c.args.later.now.items) = omega arith in (
      omega (arith, c.decreases),
      writable_from c.requires.ready same (omega (arith, ap length p.entries, c.requires.few)),
    )

pub parts::write_let-returns : goal.parts::write_let-returns
parts::write_let-returns t c = λ at x e.
    let F = c.args.given.now.families.now in
    let_left (compiled F c.args.out.now) (compiled F c.push.new.out)
    (compiled F c.write_under.new.out) c.args.later.now.items c.write_under.new.later.items at x e c.args.body.now
    (c.in_ok-push.ensures F) (c.in_ok-write_under.ensures (x ∷ []) refl)

pub parts::write_split-write_under-requires : goal.parts::write_split-write_under-requires
parts::write_split-write_under-requires t c =
    let p = c.in_ok-push.ensures c.args.given.now.families.now in
    let same : 2 + length c.args.later.now.items ≡ suc (suc (length c.args.later.now.items)) = omega arith in (
      omega (arith, c.decreases),
      writable_from c.requires.ready same (omega (arith, ap length p.entries, c.requires.few)),
    )

pub parts::write_split-returns : goal.parts::write_split-returns
parts::write_split-returns t c = λ at x y e.
    let F = c.args.given.now.families.now in
    split_left (compiled F c.args.out.now) (compiled F c.push.new.out) (compiled F c.write_under.new.out)
    (compiled F c.push-2.new.out) c.args.later.now.items c.write_under.new.later.items at x y
    e c.args.body.now (c.in_ok-push.ensures F) (c.in_ok-write_under.ensures (x ∷ y ∷ []) refl) (c.in_ok-push-2.ensures F)

pub branches::write_if-write-requires : goal.branches::write_if-write-requires
branches::write_if-write-requires t c =
    let r = c.requires.ready in
    let same = ap length (c.in_ok-no_marks.ensures ∙ c.deref.ensures.value) in (
      omega (arith, c.decreases),
      writable_from (record { range = r.range.1.0; whole = r.whole.1.0 }) same
          (omega (arith, same, c.requires.few)),
    )

pub branches::write_if-write-requires-2 : goal.branches::write_if-write-requires-2
branches::write_if-write-requires-2 t c =
    let r = c.requires.ready in
    let to = c.in_ok-come_to.ensures c.args.given.now.families.now in
    let same = ap length (c.in_ok-yes_marks.ensures ∙ c.deref-2.ensures.value) in (
      omega (arith, c.decreases),
      writable_from (record { range = r.range.0; whole = r.whole.0 }) same
          (omega (arith, same, ap length to.entries, c.in_ok-write.ensures.entries, c.requires.few)),
    )

pub branches::write_if-come_to-requires : goal.branches::write_if-come_to-requires
branches::write_if-come_to-requires t c = omega (arith, c.top_of-next.ensures, c.in_ok-write.ensures.extends.longer)

pub branches::write_if-mark_all-requires : goal.branches::write_if-mark_all-requires
branches::write_if-mark_all-requires t c = ap length c.deref-3.ensures.value ∙ c.in_ok-write.ensures.deep
    ∙ ap length (c.in_ok-no_marks.ensures ∙ c.deref.ensures.value)

pub branches::write_if-mark_all-requires-2 : goal.branches::write_if-mark_all-requires-2
branches::write_if-mark_all-requires-2 t c = ap length c.deref-4.ensures.value ∙ c.in_ok-write-2.ensures.deep
    ∙ ap length (c.in_ok-yes_marks.ensures ∙ c.deref-2.ensures.value) ∙ sym
    c.mark_all.ensures.deep

pub branches::write_if-forget-requires : goal.branches::write_if-forget-requires
branches::write_if-forget-requires t c =
    let to = c.in_ok-come_to.ensures c.args.given.now.families.now in
    let long = ap length c.deref-5.ensures.value ∙ c.mark_all-2.ensures.deep ∙ c.mark_all.ensures.deep in
    record {
      place = omega (arith, c.top_of-no_start.ensures, to.extends.longer, c.in_ok-write-2.ensures.extends.longer);
      deep = ap length c.deref-6.ensures.value ∙ c.in_ok-write.ensures.deep
          ∙ ap length (c.in_ok-no_marks.ensures ∙ c.deref.ensures.value) ∙ sym long;
      few = omega (arith, long, c.requires.few);
    }

pub branches::write_if-forget_here-requires : goal.branches::write_if-forget_here-requires
branches::write_if-forget_here-requires t c =
    let all = marked c.deref-5.result.now in let one = marked c.deref-6.result.now in
    let x = c.in_ok-place.ensures c.args.given.now.families.now all one no_variables (sym (also_none all))
    (sym (also_none one)) in
    let long = ap length c.deref-7.ensures.value ∙ c.mark_all-2.ensures.deep ∙ c.mark_all.ensures.deep in
    record {
      place = omega (arith, c.top_of-yes_start.ensures, x.extends.longer);
      deep = ap length c.deref-8.ensures.value ∙ c.in_ok-write-2.ensures.deep
          ∙ ap length (c.in_ok-yes_marks.ensures ∙ c.deref-2.ensures.value) ∙ sym long;
      few = omega (arith, long, c.requires.few);
    }

pub branches::write_if-push-requires : goal.branches::write_if-push-requires
branches::write_if-push-requires t c =
    let F = c.args.given.now.families.now in
    let all = marked c.deref-5.result.now in let one = marked c.deref-6.result.now in
    let again = marked c.deref-7.result.now in let two = marked c.deref-8.result.now in
    let x = c.in_ok-place.ensures F all one no_variables (sym (also_none all)) (sym (also_none one)) in
    let y = c.in_ok-forget_here.ensures F again two no_variables (sym (also_none again)) (sym (also_none two)) in
    omega (arith, x.within, y.extends.longer)

pub branches::write_if-returns : goal.branches::write_if-returns
branches::write_if-returns t c = λ at e.
    let F = c.args.given.now.families.now in
    let b = compiled F c.args.out.now in
    let b1 = compiled F c.write.new.out in let b2 = compiled F c.come_to.new.out in let b3 = compiled F c.write-2.new.out in
    let b4 = compiled F c.forget.new.out in let b5 = compiled F c.forget_here.new.out in
    let ms = c.args.later.now.items in
    let no = c.args.no.now in let yes = c.args.yes.now in
    let gs = c.write.new.later.items in let fs = c.write-2.new.later.items in
    let wg = subst (λ z. Writes b z b1 gs no) (c.in_ok-no_marks.ensures ∙ c.deref.ensures.value) c.in_ok-write.ensures in
    let wf = subst (λ z. Writes b2 z b3 fs yes) (c.in_ok-yes_marks.ensures ∙ c.deref-2.ensures.value) c.in_ok-write-2.ensures in
    let fg = λ (u : marked c.mark_all-2.new.later.items ≡ also (in_either yes no) (marked ms)).
    subst (λ z. Forgot b3 b4 c.in_ok-place.place (in_either yes no) (free no) (marked ms) z) c.top_of-no_start.ensures
    (c.in_ok-place.ensures F (in_either yes no) (free no) (marked ms) (ap marked c.deref-5.ensures.value ∙ u)
    (ap marked c.deref-6.ensures.value ∙ wg.marks)) in
    let ff = λ (u : marked c.mark_all-2.new.later.items ≡ also (in_either yes no) (marked ms)).
    subst (λ z. Forgot b4 b5 (top b5) (in_either yes no) (free yes) (marked ms) z) c.top_of-yes_start.ensures
    (c.in_ok-forget_here.ensures F (in_either yes no) (free yes) (marked ms) (ap marked c.deref-7.ensures.value ∙ u)
    (ap marked c.deref-8.ensures.value ∙ wf.marks)) in
    if_left b b1 b2 b3 b4 b5 (compiled F c.push.new.out) ms gs fs c.mark_all.new.later.items c.mark_all-2.new.later.items
    at c.in_ok-place.place e yes no
    wg (subst (λ z. ComesTo b1 b2 z) c.top_of-next.ensures (c.in_ok-come_to.ensures F)) wf
    (c.mark_all.ensures.marks ∙ ap (λ z. also (marked z) (marked ms)) c.deref-3.ensures.value)
    (c.mark_all-2.ensures.marks ∙ ap (λ z. also (marked z) (marked c.mark_all.new.later.items)) c.deref-4.ensures.value)
    (c.mark_all-2.ensures.deep ∙ c.mark_all.ensures.deep) fg ff (c.in_ok-push.ensures F)

-- ---- arms

pub branches::write_arm-write_under-requires : goal.branches::write_arm-write_under-requires
branches::write_arm-write_under-requires t c =
    let F = c.args.given.now.families.now in
    let to = c.in_ok-come_to.ensures F in let p = c.in_ok-push.ensures F in
    let same : c.len-count.result + length c.in_ok-marks.marks.items ≡ length c.args.arm.now.binders.items
    + length c.args.later.now =
    omega (arith, c.len-count.ensures, c.args.arm.now.binders.ok.0, ap length c.in_ok-marks.ensures) in
    let h = c.requires.writable in (
      omega (arith, c.decreases),
      writable_from h.ready same (omega (arith, same, ap length (p.entries ∙ to.entries), h.few)),
    )

pub branches::write_arm-returns-clause-more : goal.branches::write_arm-returns-clause-more
branches::write_arm-returns-clause-more t c =
    let F = c.args.given.now.families.now in
    let to = c.in_ok-come_to.ensures F in let p = c.in_ok-push.ensures F in
    let count : length c.args.arm.now.binders.items ≡ c.len-count.result =
    omega (arith, c.len-count.ensures, c.args.arm.now.binders.ok.0) in
    let w = c.in_ok-write_under.ensures c.args.arm.now.binders.items count in
    extends_both to.extends (extends_both p.extends w.extends)

pub branches::write_arm-returns-clause-entries : goal.branches::write_arm-returns-clause-entries
branches::write_arm-returns-clause-entries t c =
    let F = c.args.given.now.families.now in
    let to = c.in_ok-come_to.ensures F in let p = c.in_ok-push.ensures F in
    let count : length c.args.arm.now.binders.items ≡ c.len-count.result =
    omega (arith, c.len-count.ensures, c.args.arm.now.binders.ok.0) in
    let w = c.in_ok-write_under.ensures c.args.arm.now.binders.items count in
    omega (arith, w.entries, ap length (p.entries ∙ to.entries))

pub branches::write_arm-returns-clause-arm : goal.branches::write_arm-returns-clause-arm
branches::write_arm-returns-clause-arm t c =
    let F = c.args.given.now.families.now in
    let b = c.args.arm.now in let xs = b.binders.items in
    let b1 = compiled F c.come_to.new.out in let b2 = compiled F c.push.new.out in let d = compiled F c.write_under.new.out in
    let count : length xs ≡ c.len-count.result = omega (arith, c.len-count.ensures, b.binders.ok.0) in
    let p = subst (λ z. Pushes b1 b2 (instr.Unbind z)) (sym count) (c.in_ok-push.ensures F) in
    let w = subst (λ z. WritesUnder b2 z d c.write_under.new.later.items xs b.body) c.in_ok-marks.ensures
    (c.in_ok-write_under.ensures xs count) in
    arm_written (compiled F c.args.out.now) b1 b2 d c.args.later.now c.args.next b
    (record { marks = c.write_under.new.later; start = c.top_of-start.result }) (c.in_ok-come_to.ensures F) p w
    c.top_of-start.ensures

pub branches::write_arms-write_arm-requires : goal.branches::write_arms-write_arm-requires
branches::write_arms-write_arm-requires t c =
    let bs = c.args.arms.now in let n = c.loop-arm.arm-index in
    let lt : n < length bs = omega arith in
    let high = core_arms_height_at bs n c.arm-item.result lt in
    let there = slice_get_read bs (length bs) n c.arm-item.result refl lt c.arm-item.is in
    let here = ap (λ z. core_arms_count (core_arms_of z)) (drop_before bs n (n + 1) c.arm-item.result lt refl c.arm-item.is) in
    let h = c.requires.writable in (
      omega (arith, high, ap (λ (z : Arm). core_height z.body) c.arm-item.is, c.decreases),
      (
        omega (arith, c.requires.place, c.loop-arm.invariant.more.longer),
        writable_from (h.ready n c.arm-item.result there) refl
            (omega (arith, here, c.loop-arm.invariant.entries, h.few)),
      ),
    )

pub branches::write_arms-loop-arm-init : goal.branches::write_arms-loop-arm-init
branches::write_arms-loop-arm-init t c =
    let b = compiled c.args.given.now.families.now c.args.out.now in
    record {
      more = extends_same b b refl refl refl;
      entries = omega arith;
      arms = subst (AreWritten b c.args.later.now c.args.next []) (sym c.new-codes.ensures.items) tt;
    }

pub branches::write_arms-loop-arm-preserved : goal.branches::write_arms-loop-arm-preserved
branches::write_arms-loop-arm-preserved t c =
    let F = c.args.given.now.families.now in
    let bs = c.args.arms.now in let n = c.loop-arm.arm-index in let b = c.arm-item.result in
    let lt : n < length bs = omega arith in
    let d = compiled F c.write_arm.new.out in let ms = c.args.later.now in let j = c.args.next in
    let old = c.loop-arm.codes.items in
    let x = c.in_ok-write_arm.ensures.more in
    let here = ap (λ z. core_arms_count (core_arms_of z)) (drop_before bs n (n + 1) b lt refl c.arm-item.is) in
    record {
      more = extends_both c.loop-arm.invariant.more x;
      entries = omega (arith, here, c.in_ok-write_arm.ensures.entries, c.loop-arm.invariant.entries);
      arms = subst (AreWritten d ms j (take (n + 1) bs)) (sym {A = List ArmCode} c.in_ok-push.ensures.items)
          (subst (λ z. AreWritten d ms j z (old ++ c.in_ok-write_arm.field-0 ∷ []))
          (sym {A = List Arm} (take_next bs n b lt c.arm-item.is))
          (written_more d ms j (take n bs) old b c.in_ok-write_arm.field-0
          (kept_written x ms j (take n bs) old c.loop-arm.invariant.arms) c.in_ok-write_arm.ensures.arm));
    }

pub branches::write_arms-returns : goal.branches::write_arms-returns
branches::write_arms-returns t c =
    let bs = c.args.arms.now in let n = c.loop-arm.arm-index in
    let past : length bs ≤ n = omega arith in
    record {
      more = c.loop-arm.invariant.more;
      entries = omega (arith, c.loop-arm.invariant.entries);
      arms = subst (λ z. AreWritten (compiled c.args.given.now.families.now c.loop-arm.out) c.args.later.now c.args.next z
          c.loop-arm.codes.items) (take_all n bs past) c.loop-arm.invariant.arms;
    }

pub branches::write_branches-write_arms-requires : goal.branches::write_branches-write_arms-requires
branches::write_branches-write_arms-requires t c = (
  omega (arith, c.decreases),
  (
    omega (arith, c.top_of-next.ensures),
    subst (λ z. AreArmsWritable (length z) (length c.args.out.now.lambdas.items) c.args.arms.now) (sym c.deref.ensures.value)
        c.requires,
  ),
)

pub branches::write_branches-mark_arms-requires : goal.branches::write_branches-mark_arms-requires
branches::write_branches-mark_arms-requires t c = λ k a at.
    written_deep (compiled c.args.given.now.families.now c.write_arms.new.out) c.deref.result.now c.top_of-next.result
    c.args.arms.now c.in_ok-codes.codes.items c.in_ok-codes.ensures.arms k a
    (ap (λ z. slice_get z k) (sym c.deref-2.ensures.value) ∙ at) ∙ ap length c.deref.ensures.value

pub branches::write_branches-write_starts-requires : goal.branches::write_branches-write_starts-requires
branches::write_branches-write_starts-requires t c =
    let m = compiled c.args.given.now.families.now c.write_arms.new.out in
    record {
      deep = λ k a at.
          written_deep m c.deref.result.now c.top_of-next.result c.args.arms.now c.in_ok-codes.codes.items
          c.in_ok-codes.ensures.arms k a (ap (λ z. slice_get z k) (sym c.deref-4.ensures.value) ∙ at)
          ∙ ap length c.deref.ensures.value ∙ sym c.mark_arms.ensures.deep ∙ sym (ap length c.deref-3.ensures.value);
      within = λ k a at. written_within m c.deref.result.now c.top_of-next.result c.args.arms.now c.in_ok-codes.codes.items
          c.in_ok-codes.ensures.arms k a
          (ap (λ z. slice_get z k) (sym c.deref-4.ensures.value) ∙ at);
      few = omega (arith, ap length c.deref-3.ensures.value, c.mark_arms.ensures.deep, c.requires.few);
    }

pub branches::write_branches-returns : goal.branches::write_branches-returns
branches::write_branches-returns t c =
    let F = c.args.given.now.families.now in
    let b = compiled F c.args.out.now in let m = compiled F c.write_arms.new.out in let d = compiled F c.write_starts.new.out in
    let ms = c.args.later.now.items in let ns = c.mark_arms.new.later.items in
    let bs = c.args.arms.now in let cs = c.in_ok-codes.codes.items in let is = c.in_ok-starts.starts.items in
    let w = subst (λ z. AreWritten m z (top b) bs cs) c.deref.ensures.value
    (subst (λ z. AreWritten m c.deref.result.now z bs cs) c.top_of-next.ensures c.in_ok-codes.ensures.arms) in
    arms_from b m d ms ns bs cs is c.in_ok-codes.ensures.more c.in_ok-codes.ensures.entries w
    (c.mark_arms.ensures.marks ∙ ap (λ z. also (marks_of z) (marked ms)) c.deref-2.ensures.value) c.mark_arms.ensures.deep
    (c.in_ok-starts.ensures.more F) c.in_ok-starts.ensures.entries
    (λ q e. subst (λ z. AllForget d q (marked ms) z is) c.deref-4.ensures.value
    (c.in_ok-starts.ensures.starts F q (marked ms) (ap marked c.deref-3.ensures.value ∙ e))) c.in_ok-starts.ensures.within

pub branches::write_case-case_places-requires : goal.branches::write_case-case_places-requires
branches::write_case-case_places-requires t c =
    let F = c.args.given.now.families.now in
    let w = c.in_ok-starts.ensures in
    ap length c.deref.ensures.value ∙ run_length (compiled F c.write_branches.new.out) (free_below (core_arms_of c.args.arms.now))
    (marked c.args.later.now.items) c.args.arms.now
    c.in_ok-starts.starts.items (top (compiled F c.args.out.now)) w.run

pub branches::write_case-push-requires : goal.branches::write_case-push-requires
branches::write_case-push-requires t c = λ o j at.
    let n = length c.write_branches.new.out.code.items in
    let w = c.in_ok-starts.ensures in
    let low = c.in_ok-places.ensures.within n (subst (AreAtMost n) (sym c.deref.ensures.value) w.within) o j at in
    omega (arith, low)

pub branches::write_case-returns : goal.branches::write_case-returns
branches::write_case-returns t c = λ at e.
    let F = c.args.given.now.families.now in
    let bs = c.args.arms.now in let ps = c.in_ok-places.places in
    case_left (compiled F c.args.out.now) (compiled F c.write_branches.new.out)
    (compiled F c.push.new.out) c.args.later.now.items c.write_branches.new.later.items at e bs
    c.in_ok-starts.starts.items ps
    c.in_ok-starts.ensures c.args.given.now.placed.distinct
    (λ n f here each. subst (λ z. ArePlacesOf f bs z ps.items) c.deref.ensures.value
    (c.in_ok-places.ensures.places n f here each)) (c.in_ok-push.ensures F)

pub branches::write_match-match_places-requires : goal.branches::write_match-match_places-requires
branches::write_match-match_places-requires t c =
    let F = c.args.given.now.families.now in
    let w = c.in_ok-starts.ensures in
    ap length c.deref.ensures.value ∙ run_length (compiled F c.write_branches.new.out) (free_below (core_arms_of c.args.arms.now))
    (marked c.args.later.now.items) c.args.arms.now
    c.in_ok-starts.starts.items (top (compiled F c.args.out.now)) w.run

pub branches::write_match-push-requires : goal.branches::write_match-push-requires
branches::write_match-push-requires t c = λ l j at.
    let n = length c.write_branches.new.out.code.items in
    let w = c.in_ok-starts.ensures in
    let is = c.in_ok-places.ensures ∙ ap (table_of c.args.arms.now) c.deref.ensures.value in
    let low = table_at_most n c.args.arms.now c.in_ok-starts.starts.items w.within l j (ap (λ z. place_of z l) (sym is) ∙ at) in
    omega (arith, low)

pub branches::write_match-returns : goal.branches::write_match-returns
branches::write_match-returns t c = λ at e.
    let F = c.args.given.now.families.now in
    let bs = c.args.arms.now in
    match_left (compiled F c.args.out.now) (compiled F c.write_branches.new.out)
    (compiled F c.push.new.out) c.args.later.now.items c.write_branches.new.later.items at e bs
    c.in_ok-starts.starts.items c.in_ok-places.places
    c.in_ok-starts.ensures (c.in_ok-places.ensures ∙ ap (table_of bs) c.deref.ensures.value) (c.in_ok-push.ensures F)

-- ---- the whole

pub terms::write-write_behind-requires : goal.terms::write-write_behind-requires
terms::write-write_behind-requires t c =
    let left = c.loop-first.invariant.left in (
      omega (arith, c.loop-first.invariant.low, c.decreases),
      writable_from (left.part c.requires.bounds (length c.args.later.now.items) c.requires.ready) left.deep
          (omega (arith, left.deep, left.entries, c.requires.few)),
    )

pub terms::write-loop-first-init : goal.terms::write-loop-first-init
terms::write-loop-first-init t c = record {
  left =
      leaves_none (compiled c.args.given.now.families.now c.args.out.now) c.args.later.now.items c.args.term.now;
  low =
      omega arith;
}

pub terms::write-loop-first-preserved : goal.terms::write-loop-first-preserved
terms::write-loop-first-preserved t c =
    let F = c.args.given.now.families.now in
    let e = c.in-Some.first.now in
    let written = rw c.in-Some.is at c.in_ok-first.ensures.written in
    let low = rw c.in-Some.is at c.in_ok-first.ensures.low in
    record {
      left = leaves_more (compiled F c.args.out.now) (compiled F c.loop-first.out)
          (compiled F c.write_behind.new.out) c.args.later.now.items c.loop-first.later.items
          c.write_behind.new.later.items c.args.term.now c.loop-first.rest.now e c.loop-first.invariant.left written;
      low = omega (arith, low, c.loop-first.invariant.low);
    }

pub terms::write-returns : goal.terms::write-returns
terms::write-returns t c =
    let F = c.args.given.now.families.now in
    let written = rw c.in_default.is at c.in_ok-first.ensures.written in
    c.loop-first.invariant.left.rest (compiled F c.write_behind.new.out) c.write_behind.new.later.items written

-- ---- the forms

pub terms::write_behind-write_case-requires : goal.terms::write_behind-write_case-requires
terms::write_behind-write_case-requires t c =
    let w = rw c.in-Case.is at c.term.view_is in
    let arms = c.deref-in-Case.ensures.value in (
      omega (arith, ap core_height w, ap (λ z. core_arms_height (core_arms_of z)) arms, c.decreases),
      subst (AreArmsWritable (length c.args.later.now.items) (length c.args.out.now.lambdas.items)) (sym arms)
          (case_arms _ (writable_as w c.requires)),
    )

pub terms::write_behind-write_match-requires : goal.terms::write_behind-write_match-requires
terms::write_behind-write_match-requires t c =
    let w = rw c.in-Match.is at c.term.view_is in
    let arms = c.deref-in-Match.ensures.value in (
      omega (arith, ap core_height w, ap (λ z. core_arms_height (core_arms_of z)) arms, c.decreases),
      subst (AreArmsWritable (length c.args.later.now.items) (length c.args.out.now.lambdas.items)) (sym arms)
          (match_arms _ (writable_as w c.requires)),
    )

pub terms::write_behind-returns-in_ok-push-in-GlobalUse-clause-written :
    goal.terms::write_behind-returns-in_ok-push-in-GlobalUse-clause-written
terms::write_behind-returns-in_ok-push-in-GlobalUse-clause-written t c =
    let w = rw c.in-GlobalUse.is at c.term.view_is in
    written_as w (global_written _ _ _ c.term.inside.at c.in-GlobalUse.k c.in-GlobalUse.field-1.items
    (c.in_ok-push-in-GlobalUse.ensures c.args.given.now.families.now))

pub terms::write_behind-returns-in_ok-push-in-Int-clause-written :
    goal.terms::write_behind-returns-in_ok-push-in-Int-clause-written
terms::write_behind-returns-in_ok-push-in-Int-clause-written t c =
    let w = rw c.in-Int.is at c.term.view_is in
    let same : to_z w64 (of_z w64 c.in-Int.n) ≡ c.in-Int.n = search rules in
    written_as (ap (int c.term.inside.at) same ∙ w)
    (int_written _ c.term.inside.at _ (c.in_ok-push-in-Int.ensures c.args.given.now.families.now))

pub terms::write_behind-returns-in_ok-push-in-Bool-clause-written :
    goal.terms::write_behind-returns-in_ok-push-in-Bool-clause-written
terms::write_behind-returns-in_ok-push-in-Bool-clause-written t c =
    let w = rw c.in-Bool.is at c.term.view_is in
    written_as w (bool_written _ _ _ c.term.inside.at c.in-Bool.b (c.in_ok-push-in-Bool.ensures c.args.given.now.families.now))

pub terms::write_behind-returns-in_ok-push-in-Char-clause-written :
    goal.terms::write_behind-returns-in_ok-push-in-Char-clause-written
terms::write_behind-returns-in_ok-push-in-Char-clause-written t c =
    let w = rw c.in-Char.is at c.term.view_is in
    written_as w (char_written _ _ _ c.term.inside.at c.in-Char.c (c.in_ok-push-in-Char.ensures c.args.given.now.families.now))

pub terms::write_behind-returns-in_ok-push-in-Unit-clause-written :
    goal.terms::write_behind-returns-in_ok-push-in-Unit-clause-written
terms::write_behind-returns-in_ok-push-in-Unit-clause-written t c =
    let w = rw c.in-Unit.is at c.term.view_is in
    written_as w (unit_written _ _ _ c.term.inside.at (c.in_ok-push-in-Unit.ensures c.args.given.now.families.now))

pub terms::write_behind-returns-in_ok-push-in-New-clause-written :
    goal.terms::write_behind-returns-in_ok-push-in-New-clause-written
terms::write_behind-returns-in_ok-push-in-New-clause-written t c =
    let w = rw c.in-New.is at c.term.view_is in
    written_as w (new_written _ _ _ c.term.inside.at c.in-New.k (c.in_ok-push-in-New.ensures c.args.given.now.families.now))

pub terms::write_behind-returns-in_ok-write_local-in-Local-clause-written :
    goal.terms::write_behind-returns-in_ok-write_local-in-Local-clause-written
terms::write_behind-returns-in_ok-write_local-in-Local-clause-written t c =
    let w = rw c.in-Local.is at c.term.view_is in
    written_as w (c.in_ok-write_local-in-Local.ensures c.args.given.now.families.now c.term.inside.at)

pub terms::write_behind-returns-in_ok-write_make-in-Make-clause-written :
    goal.terms::write_behind-returns-in_ok-write_make-in-Make-clause-written
terms::write_behind-returns-in_ok-write_make-in-Make-clause-written t c =
    let w = rw c.in-Make.is at c.term.view_is in
    written_as (ap (λ xs. make c.term.inside.at c.in-Make.family c.in-Make.maker (cores_of xs)) c.deref-in-Make.ensures.value ∙ w)
    (c.in_ok-write_make-in-Make.ensures c.term.inside.at)

pub terms::write_behind-returns-in_ok-write_function-in-Lambda-clause-written :
    goal.terms::write_behind-returns-in_ok-write_function-in-Lambda-clause-written
terms::write_behind-returns-in_ok-write_function-in-Lambda-clause-written t c =
    let w = rw c.in-Lambda.is at c.term.view_is in
    written_as (whole_one (lambda c.term.inside.at c.in-Lambda.field-0 c.in-Lambda.field-1 c.in-Lambda.field-2) w
    c.deref-in-Lambda.ensures)
    (c.in_ok-write_function-in-Lambda.ensures c.term.inside.at c.in-Lambda.field-0 c.in-Lambda.field-1 c.in-Lambda.field-2)

pub terms::write_behind-returns-in_ok-write_task-in-Fork-clause-written :
    goal.terms::write_behind-returns-in_ok-write_task-in-Fork-clause-written
terms::write_behind-returns-in_ok-write_task-in-Fork-clause-written t c =
    let w = rw c.in-Fork.is at c.term.view_is in
    written_as (whole_one (fork c.term.inside.at) w c.deref-in-Fork.ensures) (c.in_ok-write_task-in-Fork.ensures c.term.inside.at)

pub terms::write_behind-returns-in_ok-write_second-in-Pair-clause-written :
    goal.terms::write_behind-returns-in_ok-write_second-in-Pair-clause-written
terms::write_behind-returns-in_ok-write_second-in-Pair-clause-written t c =
    let w = rw c.in-Pair.is at c.term.view_is in
    left_as (whole_two (pair c.term.inside.at) w c.deref-in-Pair.ensures c.deref.ensures)
    (pair_left _ _ _ _ c.term.inside.at _ _ c.in_ok-write_second-in-Pair.ensures)

pub terms::write_behind-returns-in_ok-write_second-in-Apply-clause-written :
    goal.terms::write_behind-returns-in_ok-write_second-in-Apply-clause-written
terms::write_behind-returns-in_ok-write_second-in-Apply-clause-written t c =
    let w = rw c.in-Apply.is at c.term.view_is in
    left_as (whole_two (apply c.term.inside.at) w c.deref-in-Apply-2.ensures c.deref-in-Apply.ensures)
    (apply_left _ _ _ _ c.term.inside.at _ _ c.in_ok-write_second-in-Apply.ensures)

pub terms::write_behind-returns-in_ok-write_second-in-Send-clause-written :
    goal.terms::write_behind-returns-in_ok-write_second-in-Send-clause-written
terms::write_behind-returns-in_ok-write_second-in-Send-clause-written t c =
    let w = rw c.in-Send.is at c.term.view_is in
    left_as (whole_two (send c.term.inside.at) w c.deref-in-Send-2.ensures c.deref-in-Send.ensures)
    (send_left _ _ _ _ c.term.inside.at _ _ c.in_ok-write_second-in-Send.ensures)

pub terms::write_behind-returns-in_ok-write_second-in-Operate-clause-written :
    goal.terms::write_behind-returns-in_ok-write_second-in-Operate-clause-written
terms::write_behind-returns-in_ok-write_second-in-Operate-clause-written t c =
    let w = rw c.in-Operate.is at c.term.view_is in
    left_as (whole_two (operate c.term.inside.at c.in-Operate.op) w c.deref-in-Operate-2.ensures c.deref-in-Operate.ensures)
    (operate_left _ _ _ _ c.term.inside.at c.in-Operate.op _ _ c.in_ok-write_second-in-Operate.ensures)

pub terms::write_behind-returns-in_ok-push-in-Not-clause-written :
    goal.terms::write_behind-returns-in_ok-push-in-Not-clause-written
terms::write_behind-returns-in_ok-push-in-Not-clause-written t c =
    let w = rw c.in-Not.is at c.term.view_is in
    left_as (whole_one (negate c.term.inside.at) w c.deref-in-Not.ensures)
    (negate_left _ _ _ c.term.inside.at _ (c.in_ok-push-in-Not.ensures c.args.given.now.families.now))

pub terms::write_behind-returns-in_ok-push-in-Receive-clause-written :
    goal.terms::write_behind-returns-in_ok-push-in-Receive-clause-written
terms::write_behind-returns-in_ok-push-in-Receive-clause-written t c =
    let w = rw c.in-Receive.is at c.term.view_is in
    left_as (whole_one (receive c.term.inside.at) w c.deref-in-Receive.ensures)
    (receive_left _ _ _ c.term.inside.at _ (c.in_ok-push-in-Receive.ensures c.args.given.now.families.now))

pub terms::write_behind-returns-in_ok-push-in-Close-clause-written :
    goal.terms::write_behind-returns-in_ok-push-in-Close-clause-written
terms::write_behind-returns-in_ok-push-in-Close-clause-written t c =
    let w = rw c.in-Close.is at c.term.view_is in
    left_as (whole_one (close c.term.inside.at) w c.deref-in-Close.ensures)
    (close_left _ _ _ c.term.inside.at _ (c.in_ok-push-in-Close.ensures c.args.given.now.families.now))

pub terms::write_behind-returns-in_ok-push-in-Wait-clause-written :
    goal.terms::write_behind-returns-in_ok-push-in-Wait-clause-written
terms::write_behind-returns-in_ok-push-in-Wait-clause-written t c =
    let w = rw c.in-Wait.is at c.term.view_is in
    left_as (whole_one (wait c.term.inside.at) w c.deref-in-Wait.ensures)
    (wait_left _ _ _ c.term.inside.at _ (c.in_ok-push-in-Wait.ensures c.args.given.now.families.now))

pub terms::write_behind-returns-in_ok-push-in-Select-clause-written :
    goal.terms::write_behind-returns-in_ok-push-in-Select-clause-written
terms::write_behind-returns-in_ok-push-in-Select-clause-written t c =
    let w = rw c.in-Select.is at c.term.view_is in
    let label = c.in_ok-copy-in-Select.ensures in
    left_as (whole_one (select c.term.inside.at c.in-Select.label) w c.deref-in-Select.ensures)
    (select_left _ _ _ c.term.inside.at c.in-Select.label _
    (subst (λ l. Pushes (compiled c.args.given.now.families.now c.args.out.now)
    (compiled c.args.given.now.families.now c.push-in-Select.new.out) (instr.Select l)) label
    (c.in_ok-push-in-Select.ensures c.args.given.now.families.now)))

pub terms::write_behind-returns-in_ok-write_let-in-Let-clause-written :
    goal.terms::write_behind-returns-in_ok-write_let-in-Let-clause-written
terms::write_behind-returns-in_ok-write_let-in-Let-clause-written t c =
    let w = rw c.in-Let.is at c.term.view_is in
    left_as (whole_two (let_in c.term.inside.at c.in-Let.field-0) w c.deref-in-Let-2.ensures c.deref-in-Let.ensures)
    (c.in_ok-write_let-in-Let.ensures c.term.inside.at c.in-Let.field-0 c.deref-in-Let-2.result.now)

pub terms::write_behind-returns-in_ok-write_split-in-Split-clause-written :
    goal.terms::write_behind-returns-in_ok-write_split-in-Split-clause-written
terms::write_behind-returns-in_ok-write_split-in-Split-clause-written t c =
    let w = rw c.in-Split.is at c.term.view_is in
    left_as (whole_two (split c.term.inside.at c.in-Split.field-0 c.in-Split.field-1) w c.deref-in-Split-2.ensures
    c.deref-in-Split.ensures)
    (c.in_ok-write_split-in-Split.ensures c.term.inside.at c.in-Split.field-0 c.in-Split.field-1 c.deref-in-Split-2.result.now)

pub terms::write_behind-returns-in_ok-write_if-in-If-clause-written :
    goal.terms::write_behind-returns-in_ok-write_if-in-If-clause-written
terms::write_behind-returns-in_ok-write_if-in-If-clause-written t c =
    let w = rw c.in-If.is at c.term.view_is in
    left_as (whole_three (if_else c.term.inside.at) w c.deref-in-If-3.ensures c.deref-in-If.ensures c.deref-in-If-2.ensures)
    (c.in_ok-write_if-in-If.ensures c.term.inside.at c.deref-in-If-3.result.now)

pub terms::write_behind-returns-in_ok-write_then-in-Then-clause-written :
    goal.terms::write_behind-returns-in_ok-write_then-in-Then-clause-written
terms::write_behind-returns-in_ok-write_then-in-Then-clause-written t c =
    let w = rw c.in-Then.is at c.term.view_is in
    left_as (whole_two (seq c.term.inside.at) w c.deref-in-Then-2.ensures c.deref-in-Then.ensures)
    (c.in_ok-write_then-in-Then.ensures c.term.inside.at c.deref-in-Then-2.result.now)

pub terms::write_behind-returns-in_ok-write_case-in-Case-clause-written :
    goal.terms::write_behind-returns-in_ok-write_case-in-Case-clause-written
terms::write_behind-returns-in_ok-write_case-in-Case-clause-written t c =
    let w = rw c.in-Case.is at c.term.view_is in
    left_as ((λ i. case_of c.term.inside.at (c.deref-in-Case-2.ensures i) (core_arms_of (c.deref-in-Case.ensures.value i))) ∙ w)
    (c.in_ok-write_case-in-Case.ensures c.term.inside.at c.deref-in-Case-2.result.now)

pub terms::write_behind-returns-in_ok-write_match-in-Match-clause-written :
    goal.terms::write_behind-returns-in_ok-write_match-in-Match-clause-written
terms::write_behind-returns-in_ok-write_match-in-Match-clause-written t c =
    let w = rw c.in-Match.is at c.term.view_is in
    left_as ((λ i. match_with c.term.inside.at (c.deref-in-Match-2.ensures i) (core_arms_of (c.deref-in-Match.ensures.value i)))
    ∙ w)
    (c.in_ok-write_match-in-Match.ensures c.term.inside.at c.deref-in-Match-2.result.now)
