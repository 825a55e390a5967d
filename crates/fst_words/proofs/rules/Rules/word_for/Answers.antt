use Rattle.std.proofs.Common.{◌∙◌, sym, ap, rules, Some, []}
use Rattle.std.proofs.lemmas.List.Sorted.{answers_always}
use Rattle.fst_words.specs.declared.rules.Rule.{Rule}
use Rattle.fst_words.proofs.RuleLaws.{searched}
use Rattle.fst_words.proofs.rules.Rules.word_for.Goals as goal

pub returns-in-Ok : goal.returns-in-Ok
returns-in-Ok c =
    let facts = c.binary_search_by_key.ensures in
    let by_letter = facts.position (λ r. r.letter) (answers_always _ _ _ (λ f a r g called. search rules)) in
    let found = searched _ (rw c.deref.ensures.value c.self.invariant) c.args.letter c.index.result.now _ facts.bound by_letter in
    let is = rw c.in-Ok.is at found.0 in
    rw (← c.self.view_is) (ap (λ (r : Rule). Some r.word) c.index.ensures ∙ sym (rw c.deref.ensures.value at is))

pub returns-in-Err : goal.returns-in-Err
returns-in-Err c =
    let facts = c.binary_search_by_key.ensures in
    let by_letter = facts.position (λ r. r.letter) (answers_always _ _ _ (λ f a r g called. search rules)) in
    let found = searched _ (rw c.deref.ensures.value c.self.invariant) c.args.letter
    (record { letter = 0; word = [] }) _ facts.bound by_letter in
    let is = rw c.in-Err.is at found.1 in
    rw (← c.self.view_is, ← c.deref.ensures.value) (sym is)
