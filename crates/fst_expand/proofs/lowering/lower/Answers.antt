use Rattle.std.proofs.Common.{◌≡◌, ◌<◌, ◌∙◌, ◌++◌, ◌∷◌, [], ap, length, List, ℕ, reverse, sym, subst}
use Rattle.std.proofs.lemmas.List.Elements.{All-head}
use Rattle.fst_words.specs.Words.{WordBelow}
use Rattle.fst_norms.specs.Lowering.{lower}
use Rattle.fst_expand.proofs.CutLaws.{lower_below}
use Rattle.fst_norms.proofs.Laws.{popped}
use Rattle.fst_expand.proofs.lowering.lower.Goals as goal

done : (c : goal.In_ok-push_word) → reverse c.push_word.new.stack.items ≡ lower c.args.words.now (reverse c.args.stack.now.items)
done c =
    let old : c.args.stack.now.items ≡ c.pop.new.self.items ++ c.in-Some.head ∷ [] = c.in-Some.ensures.items in
    c.in_ok-push_word.ensures ∙ ap (λ (z : List ℕ). z ++ reverse c.pop.new.self.items) c.lowered_to.ensures
    ∙ sym (ap (lower c.args.words.now) (ap reverse old ∙ popped c.pop.new.self.items c.in-Some.head))

pub lowered_to-requires : goal.lowered_to-requires
lowered_to-requires c =
    let R : List ℕ → Type 0 = WordBelow (length c.args.words.now) in
    let word = subst R (ap reverse c.in-Some.ensures.items ∙ popped c.pop.new.self.items c.in-Some.head) c.requires.range in
    All-head (λ k. k < length c.args.words.now) c.in-Some.head (reverse c.pop.new.self.items) word

pub returns-clause-lower : goal.returns-clause-lower
returns-clause-lower c = done c

pub returns-clause-range : goal.returns-clause-range
returns-clause-range c =
    let R : List ℕ → Type 0 = WordBelow (length c.args.words.now) in
    subst R (sym (done c)) (lower_below (length c.args.words.now) c.args.words.now
    (reverse c.args.stack.now.items) c.requires.words c.requires.range)
