use Rattle.std.proofs.Common.{◌<◌, length}
use Rattle.std.proofs.lemmas.List.Elements.{All-tail}
use Rattle.std.proofs.lemmas.List.Sorted.{All-permutation}
use Rattle.fst_norms.proofs.estimate.take_least.Goals as goal

pub returns-in-Some-clause-estimate : goal.returns-in-Some-clause-estimate
returns-in-Some-clause-estimate c = record {
  len = c.requires.len;
  sound = c.requires.sound;
  found = All-tail (λ x. x.1 < length c.args.g.now.rules.items) _ _
      (All-permutation (λ x. x.1 < length c.args.g.now.rules.items) _ _ c.in-Some.ensures.permutation c.requires.found);
}
