use Rattle.std.proofs.Common.{◌≡◌, ◌∙◌, ◌<◌, List, Some, arith, length, map, refl, subst, sym}
use Rattle.std.proofs.lemmas.Option.{slice_get_read}
use Rattle.std.specs.Prelude.{IfSome, IsSome}
use Rattle.fst_types.specs.declared.family.Family.{Family}
use Rattle.fst_types.specs.declared.family.Maker.{Maker}
use Rattle.fst_terms.specs.ModelCoreView.{core_arms_of}
use Rattle.fst_arms.specs.Arms.{arm_labels, AreEachOnce, AreMakerNumbers}
use Rattle.fst_premises.proofs.choices.makers_in.Goals as goal

pub returns-in-Some-clause-found : goal.returns-in-Some-clause-found
returns-in-Some-clause-found c =
    let low : c.args.family < length c.args.scene.module.now.families.items =
    omega (arith, c.if-len-number.false, c.len.ensures, c.args.scene.module.now.families.ok.0) in
    let once = c.in_ok-numbers.ensures.each_once.0 (subst IsSome (sym c.in-Some.is) refl) in
    let numbers = subst (λ o. IfSome o (λ ns. AreMakerNumbers c.deref-makers.result.now c.args.arms.now ns.items)) c.in-Some.is
    c.in_ok-numbers.ensures.numbers in
    record {
      number = c.args.family;
      family = c.index.result.now;
      type = refl;
      there = slice_get_read c.args.scene.module.now.families.items
          (length c.args.scene.module.now.families.items) c.args.family c.index.result.now refl low c.index.ensures;
      makers = c.deref-makers.ensures.value;
      each_once = subst (λ (xs : List Maker). AreEachOnce (map (λ x. x.name) xs) (arm_labels (core_arms_of c.args.arms.now)))
          c.deref-makers.ensures.value once;
      numbers = subst (λ xs. AreMakerNumbers xs c.args.arms.now c.in-Some.numbers.items) c.deref-makers.ensures.value numbers;
    }

pub returns-in-None-clause-none : goal.returns-in-None-clause-none
returns-in-None-clause-none c =
    let low : c.args.family < length c.args.scene.module.now.families.items =
    omega (arith, c.if-len-number.false, c.len.ensures, c.args.scene.module.now.families.ok.0) in
    λ g e a.
    let both : Some g ≡ Some c.index.result.now = sym e
    ∙ slice_get_read c.args.scene.module.now.families.items
    (length c.args.scene.module.now.families.items) c.args.family c.index.result.now refl low c.index.ensures in
    let same : g ≡ c.index.result.now = cc in
    let here = subst (λ (f : Family). AreEachOnce (map (λ x. x.name) f.makers.items) (arm_labels (core_arms_of c.args.arms.now)))
    same a in
    let some = c.in_ok-numbers.ensures.each_once.1
    (subst (λ (xs : List Maker). AreEachOnce (map (λ x. x.name) xs) (arm_labels (core_arms_of c.args.arms.now)))
    (sym c.deref-makers.ensures.value) here) in
    let none = subst IsSome c.in-None.is some in
    cc
