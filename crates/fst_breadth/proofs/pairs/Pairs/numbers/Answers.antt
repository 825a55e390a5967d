use Rattle.std.proofs.Common.{◌<◌, sym, ◌∙◌, ap, subst, length, [], arith}
use Rattle.std.specs.Prelude.{option_map}
use Rattle.std.specs.Map.Iter.{deref_pair}
use Rattle.fst_breadth.specs.Tables.{Store, found_from, AreNumbersAt}
use Rattle.fst_breadth.proofs.PairLaws.{found-length, at_entry, entry_at}
use Rattle.fst_breadth.proofs.pairs.Pairs.numbers.Goals as goal

pub unwrap-requires : goal.unwrap-requires
unwrap-requires c =
    let long = found-length c.self.inside.words c.self.inside.map.entries [] in
    let within : c.args.at < length (found_from c.self.inside.words [] c.self.inside.map.entries) = subst
    (λ (s : Store). c.args.at < length s.found) (sym c.self.view_is) c.requires in
    c.get_index.ensures.found.1 (omega arith)

pub returns-clause-numbers : goal.returns-clause-numbers
returns-clause-numbers c =
    let there = sym c.get_index.ensures.entry ∙ ap (option_map deref_pair) c.unwrap.ensures in
    let a = at_entry c.self.inside.words c.self.inside.map.entries c.args.at
    (deref_pair c.unwrap.result) c.self.invariant there in
    subst (λ (s : Store). AreNumbersAt s c.args.at c.unwrap.result.0.now.0 c.unwrap.result.0.now.1) c.self.view_is
    (record { entry = a.entry; there = a.there; left_is = a.left; right_is = a.right })

pub returns-clause-left : goal.returns-clause-left
returns-clause-left c =
    let there = sym c.get_index.ensures.entry ∙ ap (option_map deref_pair) c.unwrap.ensures in
    let entry = entry_at (length c.self.inside.words) c.self.inside.map.entries 0 c.args.at
    (deref_pair c.unwrap.result) c.self.invariant there in
    subst (λ (s : Store). c.unwrap.result.0.now.0 < length s.words) c.self.view_is entry.left

pub returns-clause-right : goal.returns-clause-right
returns-clause-right c =
    let there = sym c.get_index.ensures.entry ∙ ap (option_map deref_pair) c.unwrap.ensures in
    let entry = entry_at (length c.self.inside.words) c.self.inside.map.entries 0 c.args.at
    (deref_pair c.unwrap.result) c.self.invariant there in
    subst (λ (s : Store). c.unwrap.result.0.now.1 < length s.words) c.self.view_is entry.right
