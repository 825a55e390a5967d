-- What is counted of events.
use Rattle.std.proofs.Common.{◌≡◌, ℕ, suc, ◌+◌, ◌≤◌, Bool, true, false, Some, List, [], ◌∷◌, refl, ap, length, arith}
use Rattle.std.proofs.lemmas.List.Sums.{sum_by-cons}
use Rattle.std.specs.Prelude.{unwrap_or, sum_by, if◌then◌else◌}
use Rattle.std.specs.Map.{lookup, KeepsOthers}
use Rattle.fst_paths.specs.Paths.{at_path, same_key}
use Rattle.fst_paths.proofs.Laws.{found_after}
use Rattle.fst_runs.specs.Configs.{Path, same_path}
use Rattle.fst_runs.specs.Wrong.{once}
use Rattle.fst_runs.proofs.Laws.{same_path-same}
use Rattle.fst_merge.specs.Counts.{Counts, counted, IsCounted}

-- where a map has one more at a path, and the same at all others, one more is counted there
pub counted_after : (p : Path) (old new : Counts) (n : ℕ) → lookup (at_path p) new ≡ Some n →
    KeepsOthers same_key (at_path p) old new → n ≡ suc (counted old p) → IsCounted p old new
counted_after p old new n here others is q = by (same_path p q) refl (found_after p old new (Some n) here others q)
  where
    by : (b : Bool) → same_path p q ≡ b → lookup (at_path q) new ≡ (if b then Some n else lookup (at_path q) old) →
        counted new q ≡ once b + counted old q
    by true e f =
        let one : counted old p ≡ counted old q = ap (counted old) (same_path-same p q e) in
        let found : counted new q ≡ n = ap (λ o. unwrap_or o 0) f in
        omega (arith, one, found, is)
    by false e f =
        let found : counted new q ≡ counted old q = ap (λ o. unwrap_or o 0) f in
        omega (arith, found)

-- of events no more make something than there are
pub few_once : {X : Type 0} (f : X → Bool) (xs : List X) → sum_by (λ x. once (f x)) xs ≤ length xs
few_once f [] = omega arith
few_once f (x ∷ xs) =
    let first = at_most_one (f x) in
    let others = few_once f xs in
    let more = sum_by-cons (λ y. once (f y)) x xs in
    omega (arith, first, others, more)
  where
    at_most_one : (b : Bool) → once b ≤ 1
    at_most_one true = omega arith
    at_most_one false = omega arith
