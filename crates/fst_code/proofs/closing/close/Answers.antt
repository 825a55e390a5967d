use Rattle.std.proofs.Common.{◌∙◌, subst}
use Rattle.fst_code.specs.Marks.{marked}
use Rattle.fst_code.specs.Written.{Loads, compiled}
use Rattle.fst_code.proofs.PieceLaws.{closes_from}
use Rattle.fst_code.proofs.closing.close.Goals as goal

pub returns : goal.returns
returns c = λ fs.
    let ks = c.in_ok-captured.captured.items in
    let entry = c.in_ok-number.ensures.there in
    let loads = subst (λ z. Loads (compiled fs c.push_closing.new.out) (compiled fs c.capture.new.out) z
    (marked c.deref-2.result.now)) c.deref-3.ensures.value (c.in_ok-capture.ensures fs) in
    closes_from (compiled fs c.args.out.now) (compiled fs c.add_entry.new.out) (compiled fs c.push.new.out)
    (compiled fs c.push_closing.new.out) (compiled fs c.capture.new.out)
    c.args.later.now.items c.mark_all.new.later.items c.args.is_task
    (marked c.args.used.now) c.args.next c.in_ok-number.number ks c.in_ok-captured.ensures.lists
    (c.in_ok-number.ensures.more fs) c.in_ok-number.ensures.entries c.in_ok-number.ensures.same
    (entry.0, entry.1, entry.2, entry.3 ∙ c.deref.ensures.value)
    (c.in_ok-push.ensures fs) (c.in_ok-push_closing.ensures fs)
    (subst (λ z. Loads (compiled fs c.push_closing.new.out) (compiled fs c.capture.new.out) ks (marked z))
    c.deref-2.ensures.value
    loads) c.mark_all.ensures.marks c.mark_all.ensures.deep
