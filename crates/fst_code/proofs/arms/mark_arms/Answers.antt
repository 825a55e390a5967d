use Rattle.std.proofs.Common.{◌≡◌, ◌∙◌, ◌<◌, ◌≤◌, ◌+◌, ◌-◌, length, drop, refl, sym, ap, arith}
use Rattle.std.proofs.lemmas.List.{drop_all}
use Rattle.std.proofs.lemmas.Option.{slice_get_read}
use Rattle.fst_machine.specs.Code.{also}
use Rattle.fst_code.specs.declared.codes.ArmCode.{ArmCode}
use Rattle.fst_code.specs.Arms.{marks_of}
use Rattle.fst_code.specs.Marks.{marked}
use Rattle.fst_code.proofs.ArmLaws.{marks_more}
use Rattle.fst_code.proofs.PieceLaws.{drop_before}
use Rattle.fst_code.proofs.arms.mark_arms.Goals as goal

pub loop-i-init : goal.loop-i-init
loop-i-init c =
    let cs = c.args.codes.now in let all : length cs ≤ length cs = omega arith in
    record {
      marks = ap (λ z. also (marks_of z) (marked c.args.later.now.items)) (sym (drop_all (length cs) cs all));
      deep =
          refl;
    }

pub loop-i-preserved : goal.loop-i-preserved
loop-i-preserved c =
    let cs = c.args.codes.now in let n = c.loop-i.i - 1 in let a = c.index-codes-i.result in
    let lt : n < length cs = omega arith in let e : c.loop-i.i ≡ n + 1 = omega arith in
    let its = c.deref.ensures.value ∙ ap (λ (z : ArmCode). z.marks.items) (sym c.index-codes-i.is) in
    record {
      marks = marks_more a (drop c.loop-i.i cs) (marked c.args.later.now.items) (marked c.loop-i.later.items)
          (marked c.mark_all.new.later.items)
          c.loop-i.invariant.marks (c.mark_all.ensures.marks ∙ ap (λ z. also (marked z) (marked c.loop-i.later.items)) its)
          ∙ ap (λ z. also (marks_of z) (marked c.args.later.now.items))
          (sym (drop_before cs n c.loop-i.i a lt e c.index-codes-i.is));
      deep = c.mark_all.ensures.deep ∙ c.loop-i.invariant.deep;
    }

pub mark_all-requires : goal.mark_all-requires
mark_all-requires c =
    let cs = c.args.codes.now in let n = c.loop-i.i - 1 in let a = c.index-codes-i.result in
    let lt : n < length cs = omega arith in
    let its = c.deref.ensures.value ∙ ap (λ (z : ArmCode). z.marks.items) (sym c.index-codes-i.is) in
    ap length its ∙ c.requires n a (slice_get_read cs (length cs) n a refl lt c.index-codes-i.is) ∙ sym c.loop-i.invariant.deep

pub returns : goal.returns
returns c =
    let e : c.loop-i.i ≡ 0 = omega arith in
    record {
      marks = c.loop-i.invariant.marks ∙ ap (λ z. also (marks_of (drop z c.args.codes.now)) (marked c.args.later.now.items)) e;
      deep = c.loop-i.invariant.deep;
    }
