use Rattle.std.proofs.Common.{◌≡◌, ◌<◌, ◌∙◌, length, subst, sym, Some, ap}
use Rattle.std.specs.Prelude.{slice_get}
use Rattle.std.specs.Option.{option_copied}
use Rattle.fst_expand.specs.Table.{Store, key_pair}
use Rattle.fst_expand.proofs.KeyLaws.{key_at, pair_at}
use Rattle.fst_expand.proofs.table.Table.key.Goals as goal

there : (c : goal.After-result-1) → slice_get c.self.inside.keys.keys c.args.at ≡ Some c.unwrap.result.now
there c = sym c.get_index.ensures.key ∙ ap option_copied c.unwrap.ensures

pub returns-clause-left : goal.returns-clause-left
returns-clause-left c = subst (λ (s : Store). c.unwrap.result.now.0 < length s.words) c.self.view_is
    (key_at (length c.self.inside.words) c.self.inside.keys.keys c.args.at c.unwrap.result.now c.self.invariant.within
    (there c)).0

pub returns-clause-right : goal.returns-clause-right
returns-clause-right c = subst (λ (s : Store). c.unwrap.result.now.1 < length s.words) c.self.view_is
    (key_at (length c.self.inside.words) c.self.inside.keys.keys c.args.at c.unwrap.result.now c.self.invariant.within
    (there c)).1

pub returns-clause-pair : goal.returns-clause-pair
returns-clause-pair c = subst (λ (s : Store). slice_get s.pairs c.args.at ≡ Some (key_pair s.words c.unwrap.result.now))
    c.self.view_is
    (pair_at c.self.inside.words c.self.inside.keys.keys c.args.at c.unwrap.result.now (there c))
