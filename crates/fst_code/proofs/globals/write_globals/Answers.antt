use Rattle.std.proofs.Common.{◌<◌, ◌≤◌, ◌+◌, ◌++◌, ◌∷◌, ℕ, List, [], length, take, refl, sym, ap, subst, arith}
use Rattle.std.proofs.lemmas.List.{take_all}
use Rattle.std.proofs.lemmas.Option.{slice_get_read}
use Rattle.fst_terms.specs.CoreCount.{globals_count}
use Rattle.fst_terms.specs.declared.global.GlobalEntry.{GlobalEntry}
use Rattle.fst_code.specs.Globals.{AllStart}
use Rattle.fst_code.specs.Written.{compiled}
use Rattle.fst_code.proofs.ArmLaws.{take_next}
use Rattle.fst_code.proofs.Extended.{extends_both, extends_same}
use Rattle.fst_code.proofs.GlobalLaws.{kept_all, start_more}
use Rattle.fst_code.proofs.PieceLaws.{drop_before}
use Rattle.fst_code.proofs.WritableLaws.{writable_from}
use Rattle.fst_code.proofs.globals.write_globals.Goals as goal

pub write_global-requires : goal.write_global-requires
write_global-requires c =
    let gs = c.args.globals.now in let n = c.loop-global.global-index in let g = c.global-item.result in
    let lt : n < length gs = omega arith in
    let there = slice_get_read gs (length gs) n g refl lt c.global-item.is in
    let here = ap globals_count (drop_before gs n (n + 1) g lt refl c.global-item.is) in
    writable_from (c.requires.ready n g there) refl
    (omega (arith, here, c.loop-global.invariant.entries, c.requires.few))

pub loop-global-init : goal.loop-global-init
loop-global-init c =
    let b = compiled c.args.given.now.families.now c.args.out.now in
    record {
      more = extends_same b b refl refl refl;
      entries = omega arith;
      starts = subst (AllStart b []) (sym c.new-starts.ensures.items) tt;
    }

pub loop-global-preserved : goal.loop-global-preserved
loop-global-preserved c =
    let F = c.args.given.now.families.now in
    let gs = c.args.globals.now in let n = c.loop-global.global-index in let g = c.global-item.result in
    let lt : n < length gs = omega arith in
    let d = compiled F c.write_global.new.out in
    let old = c.loop-global.starts.items in let i = c.in_ok-write_global.field-0 in
    let x = c.in_ok-write_global.ensures.more in
    let here = ap globals_count (drop_before gs n (n + 1) g lt refl c.global-item.is) in
    record {
      more = extends_both c.loop-global.invariant.more x;
      entries = omega (arith, here, c.in_ok-write_global.ensures.entries, c.loop-global.invariant.entries);
      starts = subst (AllStart d (take (n + 1) gs)) (sym {A = List ℕ} c.in_ok-push.ensures.items)
          (subst (λ z. AllStart d z (old ++ i ∷ [])) (sym {A = List GlobalEntry} (take_next gs n g lt c.global-item.is))
          (start_more d (take n gs) old g i (kept_all x (take n gs) old c.loop-global.invariant.starts)
          c.in_ok-write_global.ensures.starts));
    }

pub returns : goal.returns
returns c =
    let gs = c.args.globals.now in let n = c.loop-global.global-index in
    let past : length gs ≤ n = omega arith in
    record {
      more = c.loop-global.invariant.more;
      entries = omega (arith, past, c.loop-global.invariant.entries);
      starts = subst (λ z. AllStart (compiled c.args.given.now.families.now c.loop-global.out) z c.loop-global.starts.items)
          (take_all n gs past) c.loop-global.invariant.starts;
    }
