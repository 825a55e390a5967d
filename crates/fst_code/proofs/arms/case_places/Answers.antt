use Rattle.std.proofs.Common.{◌∙◌, ◌+◌, ◌<◌, ◌≤◌, length, get_or, refl, sym, ap, subst, arith}
use Rattle.std.proofs.lemmas.Option.{slice_get-get_or, slice_get_read}
use Rattle.fst_code.specs.Arms.{AreAtMost}
use Rattle.fst_code.specs.Makers.{found}
use Rattle.fst_code.proofs.TableLaws.{PlacedSoFar, placed_all, placed_more, put_at_most, put_length}
use Rattle.fst_code.proofs.arms.case_places.Goals as goal

pub loop-i-init : goal.loop-i-init
loop-i-init c = record {
  long = λ n f here each. c.in_ok-places.ensures.long ∙ c.maker_count.ensures n f here each;
  places = λ n f here each k j b lt. absurd (omega (arith, lt));
  low = λ j h. c.in_ok-places.ensures.low j;
}

pub loop-i-preserved : goal.loop-i-preserved
loop-i-preserved c =
    let bs = c.args.arms.now in let is = c.args.starts.now in let i = c.loop-i.i in let ps = c.loop-i.places.items in
    let b = c.index-arms-i.result in let start = get_or is i 0 in
    let entries = c.args.given.now.makers.now.entries in
    let lb : i < length bs = omega arith in let li : i < length is = omega (arith, c.requires) in
    let at = slice_get_read bs (length bs) i b refl lb c.index-arms-i.is in
    let to = slice_get-get_or is i 0 li in
    let put = c.put_place.ensures in
    record {
      long = λ n f here each. ap length put ∙ put_length (found entries b.label) start ps ∙ c.loop-i.invariant.long n f here each;
      places = λ n f here each. subst (λ z. PlacedSoFar f bs is z (i + 1)) (sym put)
          (placed_more c.args.given.now.families.now entries n f bs is ps i b start c.args.given.now.placed here each at to
          (c.loop-i.invariant.long n f here each)
          (c.loop-i.invariant.places n f here each));
      low = λ j h. subst (AreAtMost j) (sym put) (put_at_most (found entries b.label) j start ps (c.loop-i.invariant.low j h)
          (h i start to));
    }

pub returns : goal.returns
returns c =
    let bs = c.args.arms.now in
    let past : length bs ≤ c.loop-i.i = omega arith in
    record {
      places = λ n f here each. placed_all f bs c.args.starts.now c.loop-i.places.items c.loop-i.i
          (c.loop-i.invariant.places n f here each) past;
      within = c.loop-i.invariant.low;
    }
