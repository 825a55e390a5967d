use Rattle.std.proofs.Common.{◌<◌, ◌+◌, ◌^◌, arith}
use Rattle.fst_types.specs.ModelView.{branches_of}
use Rattle.fst_types.specs.Size.{nodes, nodes_all}
use Rattle.fst_parts.specs.Shapes.{shape_of}
use Rattle.fst_parts.proofs.CountLaws.{few_body, few_choice, few_both, few_branch}
use Rattle.fst_parts.proofs.numbers.+number.Goals as goal

pub number_both-number_fork-requires : goal.number_both-number_fork-requires
number_both-number_fork-requires t c =
    record {
      few = few_both _ _ _ c.args.first.now c.args.second.now c.requires.few
          (c.in_ok-right.ensures.kept (shape_of c.args.first.now) c.in_ok-left.left c.in_ok-left.ensures.stands)
          c.in_ok-right.ensures.stands;
    }

pub number_branches-number_link-requires : goal.number_branches-number_link-requires
number_branches-number_link-requires t c =
    let s = c.in-Some.branch.now.body in
    let cs = branches_of c.in-Some.rest.now in
    let few : nodes s + 1 + nodes_all cs + 1 < 2 ^ 31 = grind arith in
    record {
      few = few_branch _ _ _ s cs few (c.in_ok-list-in-Some.ensures.kept
          (shape_of s) c.in_ok-body-in-Some.body c.in_ok-body-in-Some.ensures.stands) c.in_ok-list-in-Some.ensures.stands;
    }

pub number_choice-number_wrap-requires : goal.number_choice-number_wrap-requires
number_choice-number_wrap-requires t c =
    record { few = few_choice _ _ (branches_of c.args.branches.now) c.requires.few c.in_ok-part.ensures.stands }

pub number_rec-number_wrap-requires : goal.number_rec-number_wrap-requires
number_rec-number_wrap-requires t c = record { few = few_body _ _ c.args.body.now c.requires.few c.in_ok-part.ensures.stands }
