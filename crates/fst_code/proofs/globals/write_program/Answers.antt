use Rattle.std.proofs.Common.{◌≡◌, ◌∙◌, is_some, length, sym, ap, arith}
use Rattle.std.proofs.lemmas.Option.{same_Some}
use Rattle.fst_machine.specs.Programs.{main_place}
use Rattle.fst_code.specs.Written.{compiled}
use Rattle.fst_code.proofs.Extended.{extends_both}
use Rattle.fst_code.proofs.GlobalLaws.{all_length, kept_all, main_there}
use Rattle.fst_code.proofs.globals.write_program.Goals as goal

pub main_start-requires : goal.main_start-requires
main_start-requires c = ap length c.deref.ensures.value
    ∙ all_length (compiled c.args.given.now.families.now c.write_globals.new.out) c.args.globals.now c.in_ok-starts.starts.items
    c.in_ok-starts.ensures.starts

pub unwrap-start-requires : goal.unwrap-start-requires
unwrap-start-requires c =
    let gs = c.args.globals.now in
    let there = main_there (compiled c.args.given.now.families.now c.write_globals.new.out) gs c.in_ok-starts.starts.items 0
    c.in_ok-starts.ensures.starts c.requires.main in
    ap is_some (c.main_start.ensures ∙ ap (main_place gs) c.deref.ensures.value ∙ there.1)

pub come_to-requires : goal.come_to-requires
come_to-requires c =
    let gs = c.args.globals.now in
    let there = main_there (compiled c.args.given.now.families.now c.write_globals.new.out) gs c.in_ok-starts.starts.items 0
    c.in_ok-starts.ensures.starts c.requires.main in
    let same : c.unwrap-start.result ≡ there.0 = same_Some c.unwrap-start.result there.0
    (sym c.unwrap-start.ensures ∙ c.main_start.ensures ∙ ap (main_place gs) c.deref.ensures.value ∙ there.1) in
    omega (arith, same, there.2)

pub returns : goal.returns
returns c =
    let F = c.args.given.now.families.now in
    let gs = c.args.globals.now in
    let to = c.in_ok-come_to.ensures F in
    record {
      more = extends_both c.in_ok-starts.ensures.more to.extends;
      entries = omega (arith, ap length to.entries, c.in_ok-starts.ensures.entries);
      starts = kept_all to.extends gs c.in_ok-starts.starts.items c.in_ok-starts.ensures.starts;
      main = (
        c.unwrap-start.result,
        ap (main_place gs) (sym c.deref.ensures.value) ∙ sym c.main_start.ensures
            ∙ c.unwrap-start.ensures,
        to.there,
      );
    }
