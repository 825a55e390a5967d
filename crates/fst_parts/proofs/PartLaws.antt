-- The places of parts by their numbers.
use Rattle.std.proofs.Common.{◌≡◌, ◌∙◌, ◌+◌, ◌<◌, ◌≤◌, refl, sym, ap, subst, arith, ℕ, zero, suc, List, [], ◌∷◌, ◌++◌, length, get_or, map, Bool, true, false, cond, not, ◌&&◌}
use Rattle.std.specs.Prelude.{All, if◌then◌else◌, nat_eq}
use Rattle.std.specs.Str.{bytes_eq}
use Rattle.std.proofs.lemmas.Bool.{eq-eqb, eqb-true, and_parts, le-ltb}
use Rattle.std.proofs.lemmas.Slice.Eq.{bytes_eq-Decides}
use Rattle.std.proofs.lemmas.List.{map-append, length-map}
use Rattle.std.proofs.lemmas.List.Elements.{All-append}
use Rattle.fst_types.specs.Tree.{Tree}
use Rattle.fst_parts.specs.Shapes.{shape_of}
use Rattle.fst_parts.specs.Keys.{place, with_key, Stands}
use Rattle.fst_parts.specs.Same.{same_tree}
use Rattle.fst_parts.specs.Once.{position, stands_at}
use Rattle.fst_parts.specs.Views.{part_of, key_of, AreNumbered, IsKept}
use Rattle.fst_parts.specs.declared.found.Found.{Found}
use Rattle.fst_parts.specs.declared.parts.Parts.{Parts}
use Rattle.fst_parts.proofs.SameLaws.{same_tree-same, same_tree-itself}
use Rattle.fst_parts.proofs.KeyLaws.{one_number, one_shape, place_within}
use Rattle.fst_parts.proofs.ShapeLaws.{same_shape}

-- a part stands at a place of a closed type exactly where their keys are the same
tells : (keys : List (List ℕ)) (p : Found) (w : Tree) (root at : ℕ) → Stands keys root (shape_of w) → AreNumbered keys p →
    bytes_eq (root ∷ at ∷ []) (key_of p) ≡ stands_at (part_of p) w at
tells keys p w root at h k = pick (bytes_eq (root ∷ at ∷ []) (key_of p)) refl (stands_at (part_of p) w at) refl
  where
    pick : (b : Bool) → bytes_eq (root ∷ at ∷ []) (key_of p) ≡ b → (c : Bool) → stands_at (part_of p) w at ≡ c → b ≡ c
    pick true e true f = refl
    pick true e false f =
        let same : root ∷ at ∷ [] ≡ key_of p = (bytes_eq-Decides (root ∷ at ∷ []) (key_of p)).0 e in
        let number : root ≡ p.whole.number = ap (λ x. get_or x 0 0) same in
        let here : p.at ≡ at = sym (ap (λ x. get_or x 1 0) same) in
        let tree : p.whole.ty.now ≡ w =
        same_shape p.whole.ty.now w (one_shape keys (shape_of p.whole.ty.now) (shape_of w) root
        (subst (λ n. Stands keys n (shape_of p.whole.ty.now)) (sym number) k.whole) h) in
        let itself : same_tree p.whole.ty.now w ≡ true = ap (same_tree p.whole.ty.now) (sym tree)
        ∙ same_tree-itself p.whole.ty.now in
        let both : stands_at (part_of p) w at ≡ true = λ i. eq-eqb p.at at here i && itself i in
        sym both ∙ f
    pick false e true f =
        let h2 = and_parts (nat_eq p.at at) (same_tree p.whole.ty.now w) f in
        let here : p.at ≡ at = eqb-true p.at at h2.0 in
        let tree : p.whole.ty.now ≡ w = same_tree-same p.whole.ty.now w h2.1 in
        let number : root ≡ p.whole.number = one_number keys (shape_of w) root p.whole.number h
        (subst (λ t. Stands keys p.whole.number (shape_of t)) tree k.whole) in
        let same : root ∷ at ∷ [] ≡ key_of p = λ i. number i ∷ sym here i ∷ [] in
        sym e ∙ (bytes_eq-Decides (root ∷ at ∷ []) (key_of p)).1 same
    pick false e false f = refl

place_in_list : (keys : List (List ℕ)) (found : List Found) (w : Tree) (root at : ℕ) → Stands keys root (shape_of w) →
    All (AreNumbered keys) found → place (map key_of found) (root ∷ at ∷ []) ≡ position (map part_of found) w at
place_in_list keys [] w root at h k = refl
place_in_list keys (p ∷ found) w root at h k =
    ap (λ c. cond (not c) (1 + place (map key_of found) (root ∷ at ∷ [])) 0)
    (tells keys p w root at h (let z : 0 < suc (length found) = omega arith in k 0 p z))
    ∙ pick (place_in_list keys found w root at h (λ i d lt. k (suc i) d (omega arith))) (stands_at (part_of p) w at)
  where
    pick : place (map key_of found) (root ∷ at ∷ []) ≡ position (map part_of found) w at →
        (c : Bool) → cond (not c) (1 + place (map key_of found) (root ∷ at ∷ []))
        0 ≡ (if c then 0 else suc (position (map part_of found) w at))
    pick e true = refl
    pick e false = omega arith

-- the place that the index has is the position
pub place_position : (keys : List (List ℕ)) (parts : Parts) (w : Tree) (root at : ℕ) → Stands keys root (shape_of w) →
    IsKept keys parts → place parts.index (root ∷ at ∷ []) ≡ position (map part_of parts.found.items) w at
place_position keys parts w root at h k = ap (λ index. place index (root ∷ at ∷ [])) k.index
    ∙ place_in_list keys parts.found.items w root at h k.numbered

-- or the number of parts, where it has none
pub place_fits : (keys : List (List ℕ)) (parts : Parts) (key : List ℕ) → IsKept keys parts →
    place parts.index key ≤ length parts.found.items
place_fits keys parts key k = subst (λ n. place parts.index key ≤ n) (ap length k.index ∙ length-map parts.found.items key_of)
    (place_within parts.index key)

-- a part that is put behind the others is found there
pub kept_more : (keys : List (List ℕ)) (old new : Parts) (p : Found) (key : List ℕ) → IsKept keys old → AreNumbered keys p →
    key ≡ key_of p → length old.found.items ≤ position (map part_of old.found.items) p.whole.ty.now p.at →
    new.index ≡ with_key old.index key → new.found.items ≡ old.found.items ++ p ∷ [] → IsKept keys new
kept_more keys old new p key h k e past is more = record {
  index = index_is;
  numbered = subst (All (AreNumbered keys)) (sym more)
      (All-append (AreNumbered keys) old.found.items (p ∷ []) h.numbered (λ i d lt. one i d lt));
}
  where
    one : (i : ℕ) (d : Found) → i < 1 → AreNumbered keys (get_or (p ∷ []) i d)
    one zero d lt = k
    one (suc i) d lt = absurd (omega arith)

    here : place old.index key ≡ position (map part_of old.found.items) p.whole.ty.now p.at
    here = ap (place old.index) e ∙ place_position keys old p.whole.ty.now p.whole.number p.at k.whole h

    long : length old.index ≡ length old.found.items
    long = ap length h.index ∙ length-map old.found.items key_of

    index_is : new.index ≡ map key_of new.found.items
    index_is =
        is ∙ ap (λ c. if c then old.index else old.index ++ key ∷ [])
        (le-ltb (place old.index key) (length old.index) (omega (arith, here, long, past)))
        ∙ (λ i. h.index i ++ e i ∷ []) ∙ sym (map-append key_of old.found.items (p ∷ [])) ∙ ap (map key_of) (sym more)
