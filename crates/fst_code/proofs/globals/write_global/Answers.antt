use Rattle.std.proofs.Common.{◌∙◌, length, refl, ap, arith}
use Rattle.std.proofs.Math.Path.{fun_ext}
use Rattle.fst_code.specs.Marks.{marked}
use Rattle.fst_code.specs.Written.{compiled}
use Rattle.fst_code.proofs.Extended.{extends_both}
use Rattle.fst_code.proofs.GlobalLaws.{starts_from}
use Rattle.fst_code.proofs.WritableLaws.{writable_from}
use Rattle.fst_code.proofs.globals.write_global.Goals as goal

pub write-requires : goal.write-requires
write-requires c =
    let p = c.in_ok-push.ensures c.args.given.now.families.now in
    let none = ap length c.new-later.ensures.items in
    writable_from c.requires.ready none (omega (arith, none, ap length p.entries, c.requires.few))

pub returns : goal.returns
returns c =
    let F = c.args.given.now.families.now in
    let p = c.in_ok-push.ensures F in
    record {
      more = extends_both p.extends c.in_ok-write.ensures.extends;
      entries = omega (arith, c.in_ok-write.ensures.entries, ap length p.entries);
      starts = starts_from (compiled F c.args.out.now) (compiled F c.push.new.out)
          (compiled F c.write.new.out) c.new-later.result.items c.write.new.later.items c.args.body.now c.top_of.result
          p (ap marked c.new-later.ensures.items ∙ fun_ext (λ k. refl)) c.in_ok-write.ensures c.top_of.ensures;
    }
