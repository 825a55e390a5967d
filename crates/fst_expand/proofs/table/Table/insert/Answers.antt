use Rattle.std.proofs.Common.{◌<◌, length, subst, sym}
use Rattle.std.specs.Prelude.{map}
use Rattle.fst_expand.specs.Table.{IsNumbered, Store, key_pair}
use Rattle.fst_expand.proofs.KeyLaws.{IsInserted, inserted}
use Rattle.fst_expand.proofs.table.Table.insert.Goals as goal

done : (c : goal.In_ok-at) → IsInserted c.self.inside.words c.self.inside.keys.keys c.insert_full.new.self.keys
    (c.args.left, c.args.right) c.in_ok-at.at
done c =
    let e = c.in_ok-at.ensures in
    let left = subst (λ (s : Store). c.args.left < length s.words) (sym c.self.view_is) c.requires.left in
    let right = subst (λ (s : Store). c.args.right < length s.words) (sym c.self.view_is) c.requires.right in
    inserted c.self.inside.words c.self.inside.keys.keys c.insert_full.new.self.keys
    (c.args.left, c.args.right) e.stored.0 c.in_ok-at.at c.self.invariant left right e.keys e.stored.1 e.stored.2

pub invariant_of-self-2 : goal.invariant_of-self-2
invariant_of-self-2 c = (done c).keys

pub returns-clause-number : goal.returns-clause-number
returns-clause-number c =
    subst (λ (s : Store). IsNumbered (key_pair s.words (c.args.left, c.args.right)) s.pairs
    (map (key_pair c.self.inside.words) c.insert_full.new.self.keys) c.in_ok-at.at) c.self.view_is (done c).number
