use Rattle.std.proofs.Common.{◌≡◌, ◌∙◌, ◌<◌, ◌≤◌, ◌++◌, ◌+◌, ◌∷◌, ℕ, [], List, length, take, refl, sym, ap, subst, arith}
use Rattle.std.proofs.lemmas.List.{take_all}
use Rattle.std.proofs.lemmas.Option.{slice_get_read}
use Rattle.fst_types.specs.declared.family.Family.{Family}
use Rattle.fst_machine.specs.Code.{no_variables}
use Rattle.fst_code.specs.declared.codes.ArmCode.{ArmCode}
use Rattle.fst_code.specs.Arms.{AllForget, AreAtMost}
use Rattle.fst_code.specs.Marks.{marked}
use Rattle.fst_code.specs.Written.{compiled}
use Rattle.fst_code.proofs.ArmLaws.{at_most_more, at_most_none, forget_more, kept_forget, take_next}
use Rattle.fst_code.proofs.Extended.{extends_both, extends_same}
use Rattle.fst_code.proofs.ListsLaws.{also_none}
use Rattle.fst_code.proofs.arms.write_starts.Goals as goal

-- the marks of an arm, as they are passed
its : (c : goal.After-deref) → c.deref.result.now ≡ c.code-item.result.marks.items
its c = c.deref.ensures.value

pub forget-requires : goal.forget-requires
forget-requires c =
    let cs = c.args.codes.now in let i = c.loop-code.code-index in let a = c.code-item.result in
    let lt : i < length cs = omega arith in
    let there = slice_get_read cs (length cs) i a refl lt c.code-item.is in
    let more = c.loop-code.invariant.more [] in
    record {
      place = omega (arith, c.requires.within i a there, more.longer);
      deep = ap length (its c) ∙ c.requires.deep i a there;
      few = c.requires.few;
    }

pub loop-code-init : goal.loop-code-init
loop-code-init c = record {
  more = λ fs. extends_same (compiled fs c.args.out.now) (compiled fs c.args.out.now) refl refl refl;
  entries = refl;
  starts = λ fs q p e. subst (AllForget (compiled fs c.args.out.now) q p []) (sym c.new-starts.ensures.items) tt;
  within = subst (AreAtMost (length c.args.out.now.code.items)) (sym c.new-starts.ensures.items)
      (at_most_none (length c.args.out.now.code.items));
}

pub loop-code-preserved : goal.loop-code-preserved
loop-code-preserved c =
    let cs = c.args.codes.now in let i = c.loop-code.code-index in let a = c.code-item.result in
    let lt : i < length cs = omega arith in
    let m = c.loop-code.out in let d = c.forget.new.out in
    let old = c.loop-code.starts.items in let start = c.in_ok-forget.field-0 in
    let all = marked c.args.all.now in let one = marked c.deref.result.now in
    let x = λ (fs : List Family). c.in_ok-forget.ensures fs all one no_variables (sym (also_none all)) (sym (also_none one)) in
    let y = x [] in
    record {
      more = λ fs. let z = x fs in extends_both (c.loop-code.invariant.more fs) z.extends;
      entries = y.entries ∙ c.loop-code.invariant.entries;
      starts = λ fs q p e. let z = x fs in
          subst (AllForget (compiled fs d) q p (take (i + 1) cs)) (sym {A = List ℕ} c.in_ok-push.ensures.items)
          (subst (λ ts. AllForget (compiled fs d) q p ts (old ++ start ∷ []))
          (sym {A = List ArmCode} (take_next cs i a lt c.code-item.is))
          (forget_more (compiled fs d) q p (take i cs) old a start
          (kept_forget z.extends q p (take i cs) old (c.loop-code.invariant.starts fs q p e))
          (λ f g. let forgot = c.in_ok-forget.ensures fs q f p e (ap marked c.deref.ensures.value ∙ g) in forgot.forgets)));
      within = subst (AreAtMost (length d.code.items)) (sym {A = List ℕ} c.in_ok-push.ensures.items)
          (at_most_more (length m.code.items) (length d.code.items) old start c.loop-code.invariant.within y.extends.longer
          y.within);
    }

pub returns : goal.returns
returns c =
    let cs = c.args.codes.now in let i = c.loop-code.code-index in
    let past : length cs ≤ i = omega arith in
    record {
      more = c.loop-code.invariant.more;
      entries = c.loop-code.invariant.entries;
      starts = λ fs q p e. subst (λ ts. AllForget (compiled fs c.loop-code.out) q p ts c.loop-code.starts.items)
          (take_all i cs past) (c.loop-code.invariant.starts fs q p e);
      within = c.loop-code.invariant.within;
    }
