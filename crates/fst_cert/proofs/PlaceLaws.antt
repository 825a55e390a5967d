-- Pairs of words by the numbers that these have in a table.
use Rattle.std.proofs.Common.{get_or, inl, inr, position, ◌≡◌, ℕ, zero, suc, ◌<◌, List, [], ◌∷◌, ◌++◌, length, refl, sym, ◌∙◌, ap, subst, arith, Some, true, false, true≢false, ◌||◌, cond}
use Rattle.std.specs.Prelude.{map, option_map, slice_get}
use Rattle.std.specs.List.{list_any}
use Rattle.std.specs.Str.{bytes_eq}
use Rattle.std.proofs.lemmas.List.{map-append}
use Rattle.std.proofs.lemmas.List.Folds.{list_any_at}
use Rattle.std.proofs.lemmas.List.Quantifiers.{position-Some}
use Rattle.std.proofs.lemmas.Option.{get_or_from_slice_get, slice_get-get_or, slice_get-map, slice_get_within}
use Rattle.indexmap.specs.IndexSet.{insert_key}
use Rattle.fst_base.proofs.Bools.{pair_eq, pair_itself, same_pair, text_itself}
use Rattle.fst_shared.specs.Shared.{AreKeys, IsEachOnce, Keeps}
use Rattle.fst_basis.specs.declared.proof.Pair.{Pair}
use Rattle.fst_expand.specs.Good.{IsIn}
use Rattle.fst_expand.specs.Table.{key_pair}
use Rattle.fst_cert.specs.Visited.{AreNumbersOf, AreSameOrPair, pair_of}

-- more words leave the numbers of keys among theirs
keys_keep : (W V : List (List ℕ)) → Keeps W V → (keys : List (ℕ × ℕ)) → AreKeys (length W) keys → AreKeys (length V) keys
keys_keep W V keeps [] h = tt
keys_keep W V keeps (k ∷ keys) h =
    let longer = keeps.longer in
    let left = h.0 in
    let right = h.1 in
    (omega arith, omega arith, keys_keep W V keeps keys h.2)

-- and change no pair
pairs_keep : (W V : List (List ℕ)) → Keeps W V → (keys : List (ℕ × ℕ)) → AreKeys (length W) keys →
    map (key_pair V) keys ≡ map (key_pair W) keys
pairs_keep W V keeps [] h = refl
pairs_keep W V keeps (k ∷ keys) h = λ i. record { left = keeps.kept k.0 h.0 i; right = keeps.kept k.1 h.1 i }
    ∷ pairs_keep W V keeps keys h.2 i

-- keys with the numbers of words of a table, which stand for these pairs
pub record AreKeysOf (W : List (List ℕ)) (keys : List (ℕ × ℕ)) (B : List Pair) : Type 0 where
  pub below : AreKeys (length W) keys
  pub pairs : map (key_pair W) keys ≡ B

-- they do so with more words
pub stay : (W V : List (List ℕ)) (keys : List (ℕ × ℕ)) (B : List Pair) → Keeps W V → AreKeys (length W) keys →
    map (key_pair W) keys ≡ B → AreKeysOf V keys B
stay W V keys B keeps below is = record {
  below = keys_keep W V keeps keys below;
  pairs = pairs_keep W V keeps keys below ∙ is;
}

keys_push : (n : ℕ) (keys : List (ℕ × ℕ)) (k : ℕ × ℕ) → AreKeys n keys → k.0 < n → k.1 < n → AreKeys n (keys ++ k ∷ [])
keys_push n [] k h l r = (l, r, tt)
keys_push n (j ∷ keys) k h l r = (h.0, h.1, keys_push n keys k h.2 l r)

-- a key that the test finds is that of a pair that is there
pair_there : (W : List (List ℕ)) (k : ℕ × ℕ) (keys : List (ℕ × ℕ)) → list_any (pair_eq k) keys ≡ true →
    IsIn (key_pair W k) (map (key_pair W) keys)
pair_there W k [] e = cc
pair_there W k (j ∷ keys) e =
    (elim (pair_eq k j) as (λ b. pair_eq k j ≡ b → (b || list_any (pair_eq k) keys) ≡ true →
    IsIn (key_pair W k) (key_pair W j ∷ map (key_pair W) keys)) [
      | true ↦ λ t e. (0, ap (λ (z : ℕ × ℕ). Some (key_pair W z)) (sym (same_pair k j t)))
      | false ↦ λ t e. let r = pair_there W k keys e in (suc r.0, r.1)
    ]) refl e

-- a pair that is there has its numbers as its key, since no word has two numbers
key_at : (W : List (List ℕ)) (keys : List (ℕ × ℕ)) → IsEachOnce W → AreKeys (length W) keys →
    (k : ℕ × ℕ) → k.0 < length W → k.1 < length W → (at : ℕ) → slice_get (map (key_pair W) keys) at ≡ Some (key_pair W k) →
    slice_get keys at ≡ Some k
key_at W [] once below k l r at e = cc
key_at W (j ∷ keys) once below k l r zero e =
    let same : key_pair W j ≡ key_pair W k = cc in
    let left = once j.0 k.0 below.0 l (ap (λ (z : Pair). z.left) same) in
    let right = once j.1 k.1 below.1 r (ap (λ (z : Pair). z.right) same) in
    λ i. Some (left i, right i)
key_at W (j ∷ keys) once below k l r (suc at) e = key_at W keys once below.2 k l r at e

-- so the test finds it
key_there : (W : List (List ℕ)) (keys : List (ℕ × ℕ)) → IsEachOnce W → AreKeys (length W) keys →
    (k : ℕ × ℕ) → k.0 < length W → k.1 < length W → IsIn (key_pair W k) (map (key_pair W) keys) → list_any (pair_eq k) keys ≡ true
key_there W keys once below k l r (at, e) =
    let there = key_at W keys once below k l r at e in
    list_any_at (pair_eq k) keys at k (slice_get_within keys at k there)
    (ap (pair_eq k) (get_or_from_slice_get keys at k k there) ∙ pair_itself k)

module _ (W : List (List ℕ)) (keys : List (ℕ × ℕ)) (B : List Pair) (stored : AreKeysOf W keys B)
    (u v : List ℕ) (k : ℕ × ℕ) (of : AreNumbersOf W u v k) where
  its_pair : key_pair W k ≡ pair_of u v
  its_pair = λ i. pair_of (of.left i) (of.right i)

  -- the key of a pair that isn't there is none of the keys
  absent : (IsIn (pair_of u v) B → ⊥) → list_any (pair_eq k) keys ≡ true → ⊥
  absent other e = other (subst (IsIn (pair_of u v)) stored.pairs
      (subst (λ (b : Pair). IsIn b (map (key_pair W) keys)) its_pair (pair_there W k keys e)))

  pushed : (more : List (ℕ × ℕ)) → more ≡ insert_key pair_eq keys k → (IsIn (pair_of u v) B → ⊥) → more ≡ keys ++ k ∷ []
  pushed more e other =
      (elim (list_any (pair_eq k) keys) as (λ b. list_any (pair_eq k) keys ≡ b → more ≡ cond b keys (keys ++ k ∷ []) →
      more ≡ keys ++ k ∷ []) [
        | true ↦ λ t e. absurd (absent other t)
        | false ↦ λ t e. e
      ]) refl e

  -- so it comes behind them, and the pair behind the pairs
  pub push_below : (more : List (ℕ × ℕ)) → more ≡ insert_key pair_eq keys k → (IsIn (pair_of u v) B → ⊥) → AreKeys (length W) more
  push_below more e other = subst (AreKeys (length W)) (sym (pushed more e other))
      (keys_push (length W) keys k stored.below of.left_within of.right_within)

  pub push_adds : (more : List (ℕ × ℕ)) → more ≡ insert_key pair_eq keys k → (IsIn (pair_of u v) B → ⊥) →
      map (key_pair W) more ≡ B ++ pair_of u v ∷ []
  push_adds more e other =
      ap (map (key_pair W)) (pushed more e other) ∙ map-append (key_pair W) keys (k ∷ [])
      ∙ (λ i. stored.pairs i ++ its_pair i ∷ [])

  -- the key of a pair that is there is found
  pub found : IsEachOnce W → AreSameOrPair B u v → bytes_eq u v ≡ false → list_any (pair_eq k) keys ≡ true
  found once there differ = elim there [
    | inl same ↦ absurd (true≢false (sym (ap (bytes_eq u) (sym same) ∙ text_itself u) ∙ differ))
    | inr i ↦ key_there W keys once stored.below k of.left_within of.right_within
        (subst (IsIn (key_pair W k)) (sym stored.pairs) (subst (λ (b : Pair). IsIn b B) (sym its_pair) i))
  ]

  -- at the place of the pair
  pub place_is : (at : ℕ) → position (pair_eq k) keys ≡ Some at → slice_get B at ≡ Some (pair_of u v)
  place_is at e =
      let p = position-Some (pair_eq k) keys at k e in
      let same : k ≡ get_or keys at k = same_pair k (get_or keys at k) p.1 in
      let there : slice_get keys at ≡ Some k = slice_get-get_or keys at k p.0 ∙ ap Some (sym same) in
      ap (λ (P : List Pair). slice_get P at) (sym stored.pairs) ∙ slice_get-map (key_pair W) keys at
      ∙ ap (option_map (key_pair W)) there ∙ ap Some its_pair
