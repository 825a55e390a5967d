use Rattle.std.proofs.Common.{◌≡◌, ◌<◌, sym, ◌∙◌, Bool, true, arith, subst, length, Any}
use Rattle.std.specs.Prelude.{IsTrue, ◌↔◌}
use Rattle.fst_shared.specs.Shared.{word_of}
use Rattle.fst_breadth.specs.Tables.{Store, HasPair}
use Rattle.fst_breadth.proofs.PairLaws.{listed, found}
use Rattle.fst_breadth.proofs.pairs.Pairs.contains.Goals as goal

to_true : (b : Bool) → IsTrue b → b ≡ true
to_true b h = grind arith

from_true : (b : Bool) → b ≡ true → IsTrue b
from_true b h = grind arith

pub returns : goal.returns
returns c =
    let left = subst (λ (s : Store). c.args.left < length s.words) (sym c.self.view_is) c.requires.left in
    let right = subst (λ (s : Store). c.args.right < length s.words) (sym c.self.view_is) c.requires.right in
    subst (λ (s : Store). IsTrue c.contains_key.result ↔ Any
    (HasPair (word_of s.words c.args.left) (word_of s.words c.args.right)) s.found) c.self.view_is (
      (λ t. listed c.self.inside.words c.self.inside.map.entries c.self.invariant c.args.left c.args.right
          (sym c.contains_key.ensures ∙ to_true _ t)),
      (λ h. from_true _ (c.contains_key.ensures ∙ found c.self.inside.words c.self.inside.map.entries c.self.invariant c.args.left
          c.args.right c.each_once.ensures.once left right h)),
    )
