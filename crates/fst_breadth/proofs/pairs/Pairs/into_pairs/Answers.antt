use Rattle.std.proofs.Common.{◌∙◌, ap, sym, subst, length, List, ℕ}
use Rattle.std.specs.Prelude.{map}
use Rattle.std.specs.Map.{keys_of}
use Rattle.fst_shared.specs.Shared.{AreKeys}
use Rattle.fst_breadth.specs.Answer.{pair_of}
use Rattle.fst_breadth.specs.Tables.{Store, key_pair}
use Rattle.fst_breadth.proofs.PairLaws.{pairs_of_keys, keys_within}
use Rattle.fst_breadth.proofs.pairs.Pairs.into_pairs.Goals as goal

pub loop-left-init : goal.loop-left-init
loop-left-init c =
    let keys = c.into_iter-left-iterator.ensures.into_iter_gives ∙ c.into_keys-left-items.ensures.rest in
    let words = c.in_ok-words.ensures.ok in (
      rw c.new-pairs.ensures.items (ap (map (key_pair c.in_ok-words.words.value)) keys
          ∙ ap (λ (W : List (List ℕ)). map (key_pair W) (keys_of c.self.inside.map.entries)) words
          ∙ pairs_of_keys c.self.inside.words c.self.inside.map.entries
          ∙ ap (λ (s : Store). map pair_of s.found) c.self.view_is),
      subst (λ (W : List (List ℕ)). AreKeys (length W) c.into_iter-left-iterator.result) (sym words)
          (subst (AreKeys (length c.self.inside.words)) (sym keys)
          (keys_within (length c.self.inside.words) c.self.inside.map.entries 0 c.self.invariant)),
    )
