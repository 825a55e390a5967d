use Rattle.std.proofs.Common.{◌≡◌, ◌∙◌, ◌<◌, length, refl, ap, subst, arith}
use Rattle.std.proofs.lemmas.List.{nil_from_length}
use Rattle.std.proofs.lemmas.Option.{same_Some, slice_get_read}
use Rattle.fst_terms.specs.ModelCoreView.{core_arms_of}
use Rattle.fst_arms.specs.Arms.{AreEachOnce, arm_labels}
use Rattle.fst_code.specs.declared.makers.MakerPlace.{MakerPlace}
use Rattle.fst_code.specs.Makers.{place_in}
use Rattle.fst_code.proofs.TableLaws.{names, no_makers, stands}
use Rattle.fst_code.proofs.arms.maker_count.Goals as goal

pub returns-then-is_empty : goal.returns-then-is_empty
returns-then-is_empty c = λ n f here each.
    let none : length c.args.arms.now ≡ 0 = grind arith in
    no_makers f.makers.items (subst (λ z. AreEachOnce (names f.makers.items) (arm_labels (core_arms_of z)))
    (nil_from_length c.args.arms.now none) each)

pub returns-in-Some : goal.returns-in-Some
returns-in-Some c = λ n f here each.
    let bs = c.args.arms.now in let b = c.index-arms-0.result in
    let lt : 0 < length bs = grind arith in
    let s = stands c.args.given.now.families.now c.args.given.now.makers.now.entries n f bs 0 b c.args.given.now.placed here each
    (slice_get_read bs (length bs) 0 b refl lt c.index-arms-0.is) in
    ap (λ (z : MakerPlace). z.count) (same_Some c.in-Some.place (place_in f.makers.items s.number)
    (c.in-Some.ensures ∙ s.found_at))

pub returns-in-None : goal.returns-in-None
returns-in-None c = λ n f here each.
    let bs = c.args.arms.now in let b = c.index-arms-0.result in
    let lt : 0 < length bs = grind arith in
    let s = stands c.args.given.now.families.now c.args.given.now.makers.now.entries n f bs 0 b c.args.given.now.placed here each
    (slice_get_read bs (length bs) 0 b refl lt c.index-arms-0.is) in
    absurd (cc (c.in-None.ensures ∙ s.found_at))
