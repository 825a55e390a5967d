use Rattle.std.proofs.Common.{◌≡◌, ◌+◌, ◌<◌, ◌++◌, ◌∷◌, ℕ, List, Some, None, sym, ◌∙◌, ap, subst, length, [], arith}
use Rattle.std.specs.Prelude.{option_map, IfSome, IfNone}
use Rattle.std.specs.Map.Iter.{deref_pair}
use Rattle.fst_breadth.specs.Reached.{ReachedPair}
use Rattle.fst_breadth.specs.Tables.{Store, Origin, found_from, trace_at, trace_from}
use Rattle.fst_breadth.proofs.PairLaws.{found-length, at_entry, entry_at}
use Rattle.fst_breadth.proofs.pairs.Pairs.origin.Goals as goal

none_of : (found : List ReachedPair) (at : ℕ) (o : Origin) → trace_at found at ≡ trace_from found o →
    IfNone o (trace_at found at ≡ [])
none_of found at None e = e
none_of found at (Some p) e = tt

some_of : (found : List ReachedPair) (at : ℕ) (o : Origin) → trace_at found at ≡ trace_from found o → IfSome o
    (λ p. trace_at found at ≡ trace_at found p.0 ++ p.1 ∷ [])
some_of found at None e = tt
some_of found at (Some p) e = e

pub unwrap-requires : goal.unwrap-requires
unwrap-requires c =
    let long = found-length c.self.inside.words c.self.inside.map.entries [] in
    let within : c.args.at < length (found_from c.self.inside.words [] c.self.inside.map.entries) = subst
    (λ (s : Store). c.args.at < length s.found) (sym c.self.view_is) c.requires in
    c.get_index.ensures.found.1 (omega arith)

pub returns-clause-none : goal.returns-clause-none
returns-clause-none c =
    let there = sym c.get_index.ensures.entry ∙ ap (option_map deref_pair) c.unwrap.ensures in
    let a = at_entry c.self.inside.words c.self.inside.map.entries c.args.at
    (deref_pair c.unwrap.result) c.self.invariant there in
    none_of c.args.self.now.found c.args.at c.unwrap.result.1.now
    (subst (λ (s : Store). trace_at s.found c.args.at ≡ trace_from s.found c.unwrap.result.1.now) c.self.view_is a.trace)

pub returns-clause-some : goal.returns-clause-some
returns-clause-some c =
    let there = sym c.get_index.ensures.entry ∙ ap (option_map deref_pair) c.unwrap.ensures in
    let a = at_entry c.self.inside.words c.self.inside.map.entries c.args.at
    (deref_pair c.unwrap.result) c.self.invariant there in
    some_of c.args.self.now.found c.args.at c.unwrap.result.1.now
    (subst (λ (s : Store). trace_at s.found c.args.at ≡ trace_from s.found c.unwrap.result.1.now) c.self.view_is a.trace)

pub returns-clause-less : goal.returns-clause-less
returns-clause-less c =
    let there = sym c.get_index.ensures.entry ∙ ap (option_map deref_pair) c.unwrap.ensures in
    let place : 0 + c.args.at ≡ c.args.at = omega arith in
    subst (λ (k : ℕ). IfSome c.unwrap.result.1.now (λ p. p.0 < k)) place
    (entry_at (length c.self.inside.words) c.self.inside.map.entries 0 c.args.at
    (deref_pair c.unwrap.result) c.self.invariant there).origin
