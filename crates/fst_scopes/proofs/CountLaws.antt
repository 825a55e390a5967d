-- What is counted of aliases in an order is counted of what they stand for.
use Rattle.std.proofs.Common.{◌≡◌, ◌∙◌, ℕ, zero, suc, ◌+◌, ◌<◌, Bool, false, List, [], ◌∷◌, ◌++◌, length, map, get_or, set, take, replicate, Option, Some, None, Bor, refl, sym, ap, arith}
use Rattle.std.specs.Prelude.{option_map, slice_get, if◌then◌else◌}
use Rattle.std.proofs.lemmas.List.{take_more, map-set}
use Rattle.std.proofs.lemmas.Option.{slice_get-get_or}
use Rattle.fst_types.specs.Tree.{Tree}
use Rattle.fst_types.specs.declared.written.Written.{Written}
use Rattle.fst_terms.specs.Naming.{type_of}
use Rattle.fst_scopes.specs.declared.measure.Measure.{Measure}
use Rattle.fst_scopes.specs.declared.names.Names as names
use Rattle.fst_scopes.specs.declared.types.TypeEntry.{TypeEntry}
use Rattle.fst_scopes.specs.declared.types.TypeEntry.TheVariants as entry
use Rattle.fst_scopes.specs.declared.types.TypeNames.{TypeNames}
use Rattle.fst_scopes.specs.Counted.{AreMeasures}
use Rattle.fst_scopes.specs.Graph.{entry_tree, tree_after, trees_after}
use Rattle.fst_scopes.specs.Measures.{measured, measure}
use Rattle.fst_scopes.specs.Scopes.{recs_of, vars_of, types_of, counted, declared_in, standing_in}
use Rattle.fst_scopes.specs.TypeNames.{scope_with}
use Rattle.fst_scopes.proofs.TypeLaws.{type_counted}

abbrev nothing : {A : Type 0} → Option A
nothing = None

-- what is counted of an alias
pub alias_counted : (types : Bor TypeNames) (looped : List Bool) (trees : List (Option Tree)) (measures : List (Option Measure))
    (k : ℕ) (vars : Bor (List (List ℕ))) (e : TypeEntry) (w : Bor Written) (m : Option Measure) → vars.now ≡ [] →
    get_or looped k false ≡ false → k < length types.now.names → e ≡ get_or types.now.entries.items k e → e ≡ entry.Alias w →
    AreMeasures trees measures →
    m ≡ measure (recs_of (names.Outermost vars types))
    (counted (vars_of (names.Outermost vars types)) (types_of (names.Outermost vars types)) measures) w.now →
    m ≡ option_map measured (tree_after types.now looped trees k)
alias_counted types looped trees measures k vars e w m none off within there is are counts =
    counts ∙ type_counted (names.Outermost vars types) trees measures w.now are ∙
    ap (λ xs. option_map measured (type_of (scope_with xs (declared_in types.now) (standing_in types.now trees)) w.now)) none ∙
    ap (λ o. option_map measured (entry_tree types.now trees o)) (sym at) ∙
    ap (λ (b : Bool). option_map measured (if b then None else entry_tree types.now trees (slice_get types.now.entries.items k)))
    (sym off)
  where
    at : slice_get types.now.entries.items k ≡ Some (entry.Alias w)
    at = let same = types.now.paired in slice_get-get_or types.now.entries.items k e (omega (arith, same, within))
        ∙ ap Some (sym there ∙ is)

none_mapped : (n : ℕ) → map (option_map measured) (replicate n (nothing {A = Tree})) ≡ replicate n nothing
none_mapped zero = refl
none_mapped (suc n) = λ i. nothing ∷ none_mapped n i

-- nothing is counted where nothing is known
pub none_counted : (n : ℕ) (measures : List (Option Measure)) → measures ≡ replicate n None →
    AreMeasures (replicate n None) measures
none_counted n measures is = is ∙ sym (none_mapped n)

-- one more name
pub more_counted : (types : TypeNames) (looped : List Bool) (order : List ℕ) (i : ℕ) (start : List (Option Tree))
    (measures : List (Option Measure)) (m : Option Measure) → i < length order →
    AreMeasures (trees_after types looped start (take i order)) measures →
    ((trees : List (Option Tree)) → AreMeasures trees measures →
    m ≡ option_map measured (tree_after types looped trees (get_or order i 0))) →
    AreMeasures (trees_after types looped start (take (i + 1) order)) (set measures (get_or order i 0) m)
more_counted types looped order i start measures m lt are counts =
    let trees = trees_after types looped start (take i order) in
    let k = get_or order i 0 in
    (λ j. set (are j) k (counts trees are j)) ∙ sym (map-set (option_map measured) trees k (tree_after types looped trees k)) ∙
    ap (map (option_map measured)) (sym (last start (take i order))
    ∙ ap (trees_after types looped start) (sym (take_more order i 0 lt)))
  where
    last : (trees : List (Option Tree)) (done : List ℕ) →
        trees_after types looped trees (done ++ get_or order i 0 ∷ []) ≡ set (trees_after types looped trees done)
        (get_or order i 0) (tree_after types looped (trees_after types looped trees done) (get_or order i 0))
    last trees [] = refl
    last trees (x ∷ done) = last (set trees x (tree_after types looped trees x)) done
