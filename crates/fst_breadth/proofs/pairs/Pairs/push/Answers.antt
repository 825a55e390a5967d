use Rattle.std.proofs.Common.{◌≡◌, ◌<◌, ◌+◌, ◌++◌, ◌∷◌, ℕ, sym, ◌∙◌, ap, subst, length, [], Any}
use Rattle.std.specs.Prelude.{IfSome}
use Rattle.indexmap.proofs.CallerLemmas.{insert_entry-new}
use Rattle.fst_shared.specs.Shared.{word_of}
use Rattle.fst_breadth.specs.Tables.{Store, HasPair, found_from, AreEntries, trace_from}
use Rattle.fst_breadth.proofs.PairLaws.{listed, found-push, found-length, entries-push, none_from}
use Rattle.fst_breadth.proofs.pairs.Pairs.push.Goals as goal

made : (c : goal.In_ok-insert) → c.insert.new.self.entries ≡ c.self.inside.map.entries
    ++ ((c.args.left, c.args.right), c.args.origin) ∷ []
made c =
    let other = subst (λ (s : Store). Any (HasPair (word_of s.words c.args.left) (word_of s.words c.args.right)) s.found → ⊥)
    (sym c.self.view_is) c.requires.other in
    let none = none_from _ (λ t. other (listed c.self.inside.words c.self.inside.map.entries c.self.invariant c.args.left
    c.args.right t)) in
    c.in_ok-insert.ensures.entries ∙ insert_entry-new _ c.self.inside.map _ _ none

pub invariant_of-self-2 : goal.invariant_of-self-2
invariant_of-self-2 c =
    let left = subst (λ (s : Store). c.args.left < length s.words) (sym c.self.view_is) c.requires.left in
    let right = subst (λ (s : Store). c.args.right < length s.words) (sym c.self.view_is) c.requires.right in
    let long : length (found_from c.self.inside.words [] c.self.inside.map.entries) ≡ 0 + length c.self.inside.map.entries =
    found-length c.self.inside.words c.self.inside.map.entries [] in
    let origin = subst (λ (s : Store). IfSome c.args.origin (λ p. p.0 < length s.found)) (sym c.self.view_is) c.requires.origin in
    let before = subst (λ (n : ℕ). IfSome c.args.origin (λ p. p.0 < n)) long origin in
    subst (AreEntries (length c.self.inside.words) 0) (sym (made c))
    (entries-push (length c.self.inside.words) c.self.inside.map.entries 0
    ((c.args.left, c.args.right), c.args.origin) c.self.invariant (record { left = left; right = right; origin = before }))

pub returns-clause-found : goal.returns-clause-found
returns-clause-found c =
    ap (found_from c.self.inside.words []) (made c)
    ∙ found-push c.self.inside.words c.self.inside.map.entries [] ((c.args.left, c.args.right), c.args.origin)
    ∙ ap (λ (s : Store). s.found ++ record {
      left = word_of s.words c.args.left;
      right = word_of s.words c.args.right;
      trace =
          trace_from s.found c.args.origin;
    } ∷ []) c.self.view_is
