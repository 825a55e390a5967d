-- No path of a set comes before the first one.
use Rattle.std.proofs.Common.{◌≡◌, ◌∙◌, Bool, true, false, ◌||◌, List, [], ◌∷◌, refl, sym, ap}
use Rattle.std.specs.Cmp.Lexicographic.{slice_cmp}
use Rattle.std.specs.List.{All, list_any}
use Rattle.std.specs.Ordering.{is_gt, nat_cmp, ordering_reverse}
use Rattle.std.proofs.lemmas.Bool.{false≢true}
use Rattle.std.proofs.lemmas.Cmp.{nat_list_cmp_total}
use Rattle.std.proofs.lemmas.List.Elements.{All-head, All-tail}
use Rattle.fst_runs.specs.Configs.{Path}
use Rattle.fst_runs.specs.Least.{IsBefore}
use Rattle.fst_runs.proofs.Laws.{same_path-same}
use Rattle.fst_paths.specs.Paths.{at_path, Key}
use Rattle.fst_paths.proofs.Laws.{at_same}

-- the path of a key isn't before it
abbrev pub StandsFrom : Path → Key → Type 0
StandsFrom p k = is_gt (slice_cmp nat_cmp p k.items) ≡ false

not_before : (p q : Path) (k : Key) → StandsFrom p k → IsBefore q p → at_path q k ≡ false
not_before p q k from before = go (at_path q k) refl
  where
    go : (b : Bool) → at_path q k ≡ b → at_path q k ≡ false
    go false e = e
    go true e =
        let same = same_path-same q k.items (sym (at_same q k.items) ∙ e) in
        let after = nat_list_cmp_total.antisymm p q ∙ ap ordering_reverse before in
        absurd (false≢true (sym from ∙ ap (λ z. is_gt (slice_cmp nat_cmp p z)) (sym same) ∙ ap is_gt after))

-- where all paths of a set come from this one on, none before it is in the set
pub none_before : (p q : Path) (ks : List Key) → All (StandsFrom p) ks → IsBefore q p → list_any (at_path q) ks ≡ false
none_before p q [] all before = refl
none_before p q (k ∷ ks) all before =
    ap (λ b. b || list_any (at_path q) ks) (not_before p q k (All-head (StandsFrom p) k ks all) before)
    ∙ none_before p q ks (All-tail (StandsFrom p) k ks all) before
