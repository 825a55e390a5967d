use Rattle.std.proofs.Common.{◌≡◌, ◌-◌, suc, Some, ap, subst, arith}
use Rattle.std.specs.Prelude.{option_map, slice_set}
use Rattle.fst_buffered.specs.Channels.{further}
use Rattle.fst_paths.specs.ChannelLists.{IsChangedAt}
use Rattle.fst_paths.proofs.Laws.{numbered_there, set_changed}
use Rattle.fst_buffered.specs.KeptOf.{held_at, held_of, with_changed}
use Rattle.fst_buffered.proofs.kept.advance_among.Goals as goal

pub advance-requires : goal.advance-requires
advance-requires c =
    let js = c.args.channels.now.items in
    let x = c.index_mut.result.now in
    let one : suc (c.args.number - 1) ≡ c.args.number = omega arith in
    c.requires (held_of x) (subst (λ n. held_at js n ≡ Some (held_of x)) one
    (ap (option_map held_of) (numbered_there js (c.args.number - 1) x (omega arith) c.index_mut.ensures.value)))

pub returns : goal.returns
returns c =
    let js = c.args.channels.now.items in
    let x = c.index_mut.result.now in
    let f = with_changed (further c.args.side) in
    let one : suc (c.args.number - 1) ≡ c.args.number = omega arith in
    subst (λ n. IsChangedAt held_of n f js (slice_set js (c.args.number - 1) c.advance.new.channel)) one
    (set_changed held_of js (c.args.number - 1) f x c.advance.new.channel
    (omega arith) c.index_mut.ensures.value c.advance.ensures)
