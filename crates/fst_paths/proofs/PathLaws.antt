-- What is found in a map or in a set once one path has something else, and in a map in order.
use Rattle.std.proofs.Common.{◌≡◌, ◌∙◌, ℕ, Bool, true, false, cond, Option, Some, None, List, [], ◌∷◌, refl, sym, ap, arith}
use Rattle.std.specs.Prelude.{if◌then◌else◌}
use Rattle.std.specs.Str.{bytes_eq}
use Rattle.std.specs.List.{AllByRecursion, list_any}
use Rattle.std.specs.List.Sorted.{IsStrictlySortedBy}
use Rattle.std.specs.Map.{lookup, keys_of, KeepsOthers}
use Rattle.std.specs.Set.{KeepsOthers as KeepsOtherKeys}
use Rattle.std.specs.Ordering.{is_eq, nat_cmp}
use Rattle.std.specs.Cmp.Lexicographic.{slice_cmp}
use Rattle.std.specs.declared.cmp.Ordering.TheVariants.{Less}
use Rattle.std.proofs.lemmas.Bool.{false≢true}
use Rattle.std.proofs.lemmas.Cmp.{same_from_slice_cmp, nat_list_eq_equiv}
use Rattle.std.proofs.lemmas.Bool.Decides.{nat_tests}
use Rattle.std.proofs.lemmas.Slice.Eq.{bytes_eq-Decides}
use Rattle.fst_paths.specs.Paths.{Path, Key, Keys, same_key, at_path, has_path, put_at, AreInOrder}

-- paths that pass the test are one
pub path_same : (p q : Path) → bytes_eq p q ≡ true → p ≡ q
path_same p q e = (bytes_eq-Decides p q).0 e

-- paths are ordered as equal where they are the same
pub at_same : (p q : Path) → is_eq (slice_cmp nat_cmp p q) ≡ bytes_eq p q
at_same p q = same_from_slice_cmp nat_cmp is_eq bytes_eq refl (λ _ _. refl) (λ _ _. refl)
    (λ x y xs ys o h. grind (arith, nat_tests)) p q (slice_cmp nat_cmp p q) refl

-- a path at a key is that of the key
pub at_key : (p : Path) (k : Key) → at_path p k ≡ true → p ≡ k.items
at_key p k e = path_same p k.items (sym (at_same p k.items) ∙ e)

-- a key is at its own path
pub at_itself : (k : Key) → at_path k.items k ≡ true
at_itself k = at_same k.items k.items ∙ (bytes_eq-Decides k.items k.items).1 refl

one_key : (p : Path) (a b : Key) → at_path p a ≡ true → at_path p b ≡ same_key a b
one_key p a b e = ap (λ z. is_eq (slice_cmp nat_cmp z b.items)) (at_key p a e)

other_key : (p q : Path) (k : Key) → bytes_eq p q ≡ false → at_path p k ≡ true → at_path q k ≡ false
other_key p q k f e = at_same q k.items ∙ ap (bytes_eq q) (sym (at_key p k e)) ∙ nat_list_eq_equiv.symm q p ∙ f

-- what a map finds once a path has this value, or none
pub found_after : {X : Type 0} (p : Path) (old new : List (Key × X)) (w : Option X) → lookup (at_path p) new ≡ w →
    KeepsOthers same_key (at_path p) old new → (q : Path) →
    lookup (at_path q) new ≡ put_at p w (λ o. lookup (at_path o) old) q
unfolding KeepsOthers
found_after p old new w here others q = by (bytes_eq p q) refl
  where
    by : (b : Bool) → bytes_eq p q ≡ b → lookup (at_path q) new ≡ (if b then w else lookup (at_path q) old)
    by true e = ap (λ o. lookup (at_path o) new) (sym (path_same p q e)) ∙ here
    by false e = others (at_path q) (one_key q) (λ k. other_key p q k e)

-- and what a set has
pub has_after : (p : Path) (old new : Keys) (b : Bool) → has_path new p ≡ b →
    KeepsOtherKeys same_key (at_path p) old new → has_path new ≡ put_at p b (has_path old)
unfolding KeepsOtherKeys
has_after p old new b here others = λ i q. at q i
  where
    at : (q : Path) → has_path new q ≡ put_at p b (has_path old) q
    at q = by (bytes_eq p q) refl
      where
        by : (c : Bool) → bytes_eq p q ≡ c → has_path new q ≡ (if c then b else has_path old q)
        by true e = ap (has_path new) (sym (path_same p q e)) ∙ here
        by false e = others (at_path q) (one_key q) (λ k. other_key p q k e)

-- a function of what is put at a path
pub put_mapped : {X Y : Type 0} (f : X → Y) (p : Path) (x : X) (g : Path → X) (q : Path) → f (put_at p x g q) ≡ put_at p (f x)
    (λ o. f (g o)) q
put_mapped f p x g q = by (bytes_eq p q)
  where
    by : (b : Bool) → f (if b then x else g q) ≡ (if b then f x else f (g q))
    by true = refl
    by false = refl

-- all keys of a map come behind this path
abbrev pub AreBehind : {X : Type 0} → Path → List (Key × X) → Type 0
AreBehind p es = AllByRecursion (λ (k : Key). slice_cmp nat_cmp p k.items ≡ Less) (keys_of es)

-- the keys behind the first one come behind it, and are in order
pub in_order : {X : Type 0} (e : Key × X) (es : List (Key × X)) → AreInOrder (e ∷ es) → AreBehind e.0.items es × AreInOrder es
unfolding IsStrictlySortedBy
in_order e es o = o

-- a path isn't behind itself
not_behind_itself : (p : Path) → slice_cmp nat_cmp p p ≡ Less → ⊥
not_behind_itself p e = false≢true (sym (ap is_eq e) ∙ at_same p p ∙ (bytes_eq-Decides p p).1 refl)

-- a key that comes behind a path isn't at it
pub apart_behind : (p q : Path) (k : Key) → k.items ≡ p → slice_cmp nat_cmp p q ≡ Less → at_path q k ≡ false
apart_behind p q k e less = go (at_path q k) refl
  where
    go : (b : Bool) → at_path q k ≡ b → at_path q k ≡ false
    go false f = f
    go true f =
        let same : q ≡ p = at_key q k f ∙ e in
        absurd (not_behind_itself p (ap (slice_cmp nat_cmp p) (sym same) ∙ less))

-- none of the keys behind a path is found there
pub none_found : {X : Type 0} (p : Path) (es : List (Key × X)) → AreBehind p es → lookup (at_path p) es ≡ None
none_found p [] a = refl
none_found p (e ∷ es) a = ap (λ o. cond (is_eq o) (Some e.1) (lookup (at_path p) es)) a.0 ∙ none_found p es a.1
