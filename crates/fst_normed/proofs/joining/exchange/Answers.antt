use Rattle.std.proofs.Common.{arith, length}
use Rattle.std.proofs.lemmas.Option.{slice_get_within}
use Rattle.fst_normed.proofs.CandidateLaws.{few_candidates}
use Rattle.fst_normed.proofs.NotedLaws.{noted_one}
use Rattle.fst_normed.proofs.joining.exchange.Goals as goal

pub overflow_cast-result : goal.overflow_cast-result
overflow_cast-result c =
    let noted = noted_one (length c.args.words.now) c.args.norms.now c.args.needed.now c.place_of.new.self (c.args.x, c.args.y)
    c.requires.are c.requires.candidate c.in_ok-at.ensures.added c.in_ok-at.ensures.once in
    let few = few_candidates (length c.args.words.now) c.args.norms.now c.place_of.new.self noted.are in
    let within = slice_get_within c.place_of.new.self c.in_ok-at.at (c.args.x, c.args.y) c.in_ok-at.ensures.place in
    let most = c.requires.few in
    omega arith

pub returns-clause-noted : goal.returns-clause-noted
returns-clause-noted c = noted_one (length c.args.words.now) c.args.norms.now c.args.needed.now c.place_of.new.self
    (c.args.x, c.args.y) c.requires.are c.requires.candidate c.in_ok-at.ensures.added c.in_ok-at.ensures.once
