use Rattle.std.proofs.Common.{◌≡◌, refl, sym, ap, ◌∙◌, arith}
use Rattle.fst_types.specs.declared.side.Side.TheVariants.{Left, Right}
use Rattle.fst_lts.specs.Histories.{opposite}
use Rattle.fst_types.specs.declared.ends.EndName.{EndName}
use Rattle.fst_worker.proofs.closing.close_both.Goals as goal

pub returns-in-Left : goal.returns-in-Left
returns-in-Left c =
    let left : c.args.first.knows.side ≡ Left = cc in
    record {
      pair = record { left = c.args.first; right = c.args.second; closed = c.close.result };
      ends = λ w. refl;
      shut = record {
        left_side = left;
        right_side = ap (λ (x : EndName). x.side) c.requires.name ∙ ap opposite left;
        channel = ap (λ (x : EndName). x.channel) c.requires.name;
        closed = c.close.ensures;
      };
      closed = refl;
      named = c.close.ensures.named;
    }

pub returns-in-Right : goal.returns-in-Right
returns-in-Right c =
    let right : c.args.first.knows.side ≡ Right = cc in
    let channel = ap (λ (x : EndName). x.channel) c.requires.name in
    record {
      pair = record { left = c.args.second; right = c.args.first; closed = c.close-in-Right.result };
      ends = λ w. omega arith;
      shut = record {
        left_side = ap (λ (x : EndName). x.side) c.requires.name ∙ ap opposite right;
        right_side = right;
        channel = sym channel;
        closed = c.close-in-Right.ensures;
      };
      closed = refl;
      named = c.close-in-Right.ensures.named ∙ channel;
    }
