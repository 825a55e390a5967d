-- The list of pairs that keys stand for.
use Rattle.std.proofs.Common.{◌≡◌, ℕ, zero, suc, ◌<◌, ◌≤◌, List, [], ◌∷◌, ◌++◌, length, append-nil, refl, sym, ◌∙◌, ap, subst, arith, inl, inr, Some, Bool, true, false, true≢false, ◌||◌}
use Rattle.std.specs.Prelude.{map, slice_get, if◌then◌else◌}
use Rattle.std.specs.List.{list_any}
use Rattle.std.proofs.lemmas.List.{map-append}
use Rattle.indexmap.specs.IndexSet.{insert_key}
use Rattle.fst_base.proofs.Bools.{pair_eq, pair_itself, same_pair}
use Rattle.fst_base.proofs.Lists.{get-push}
use Rattle.fst_shared.specs.Shared.{IsEachOnce, Keeps, AreKeys}
use Rattle.fst_basis.specs.declared.proof.Pair.{Pair}
use Rattle.fst_expand.specs.Good.{AreDistinct}
use Rattle.fst_expand.specs.Table.{Adds, AreKeysOnce, IsNumbered, key_pair}

keys_keep : (n m : ℕ) → n ≤ m → (keys : List (ℕ × ℕ)) → AreKeys n keys → AreKeys m keys
keys_keep n m le [] h = tt
keys_keep n m le (k ∷ keys) h = let a = h.0 in let b = h.1 in (omega arith, omega arith, keys_keep n m le keys h.2)

pub once_keep : (n m : ℕ) → n ≤ m → (keys : List (ℕ × ℕ)) → AreKeysOnce n keys → AreKeysOnce m keys
once_keep n m le keys h = record { within = keys_keep n m le keys h.within; once = h.once }

-- more words change no pair
pub pairs_keep : (W V : List (List ℕ)) → Keeps W V →
    (keys : List (ℕ × ℕ)) → AreKeys (length W) keys → map (key_pair V) keys ≡ map (key_pair W) keys
pairs_keep W V keeps [] h = refl
pairs_keep W V keeps (k ∷ keys) h = λ i. record { left = keeps.kept k.0 h.0 i; right = keeps.kept k.1 h.1 i } ∷ pairs_keep W V
    keeps keys h.2 i

pub key_at : (n : ℕ) (keys : List (ℕ × ℕ)) (at : ℕ) (k : ℕ × ℕ) → AreKeys n keys → slice_get keys at ≡ Some k → (k.0 < n) ×
    (k.1 < n)
key_at n [] at k h e = absurd (cc e)
key_at n (j ∷ keys) zero k h e = subst (λ (z : ℕ × ℕ). (z.0 < n) × (z.1 < n)) (let f : j ≡ k = cc in f) (h.0, h.1)
key_at n (j ∷ keys) (suc at) k h e = key_at n keys at k h.2 e

pub pair_at : (W : List (List ℕ)) (keys : List (ℕ × ℕ)) (at : ℕ) (k : ℕ × ℕ) → slice_get keys at ≡ Some k →
    slice_get (map (key_pair W) keys) at ≡ Some (key_pair W k)
pair_at W [] at k e = absurd (cc e)
pair_at W (j ∷ keys) zero k e = ap (λ (z : ℕ × ℕ). Some (key_pair W z)) (let f : j ≡ k = cc in f)
pair_at W (j ∷ keys) (suc at) k e = pair_at W keys at k e

-- each pair is that of a key
from_key : (W : List (List ℕ)) (keys : List (ℕ × ℕ)) (at : ℕ) (b : Pair) → slice_get (map (key_pair W) keys) at ≡ Some b →
    (k : ℕ × ℕ) × (slice_get keys at ≡ Some k) × (key_pair W k ≡ b)
from_key W [] at b e = absurd (cc e)
from_key W (j ∷ keys) zero b e = (j, refl, (let f : key_pair W j ≡ b = cc in f))
from_key W (j ∷ keys) (suc at) b e = from_key W keys at b e

-- no pair is twice in the list, since no key is, and no word has two numbers
pub pairs_once : (W : List (List ℕ)) (keys : List (ℕ × ℕ)) → IsEachOnce W → AreKeysOnce (length W) keys →
    AreDistinct (map (key_pair W) keys)
pairs_once W keys words h i j b e f =
    let p = from_key W keys i b e in
    let q = from_key W keys j b f in
    let a = key_at (length W) keys i p.0 h.within p.1 in
    let c = key_at (length W) keys j q.0 h.within q.1 in
    let same = p.2 ∙ sym q.2 in
    let left : p.0.0 ≡ q.0.0 = words p.0.0 q.0.0 a.0 c.0 (ap (λ (z : Pair). z.left) same) in
    let right : p.0.1 ≡ q.0.1 = words p.0.1 q.0.1 a.1 c.1 (ap (λ (z : Pair). z.right) same) in
    h.once i j p.0 p.1 (q.1 ∙ ap Some (λ z. (sym left z, sym right z)))

keys_push : (n : ℕ) (keys : List (ℕ × ℕ)) (k : ℕ × ℕ) → AreKeys n keys → k.0 < n → k.1 < n → AreKeys n (keys ++ k ∷ [])
keys_push n [] k h l r = (l, r, tt)
keys_push n (j ∷ keys) k h l r = (h.0, h.1, keys_push n keys k h.2 l r)

rest_false : (a b : Bool) → (a || b) ≡ false → b ≡ false
rest_false true b h = cc
rest_false false b h = h

not_there : (k : ℕ × ℕ) (keys : List (ℕ × ℕ)) → list_any (pair_eq k) keys ≡ false → (at : ℕ) → slice_get keys at ≡ Some k → ⊥
not_there k [] none at e = cc
not_there k (j ∷ keys) none zero e =
    let there : j ≡ k = cc in
    let yes : pair_eq k j ≡ true = ap (pair_eq k) there ∙ pair_itself k in
    true≢false (sym (ap (λ (b : Bool). b || list_any (pair_eq k) keys) yes) ∙ none)
not_there k (j ∷ keys) none (suc at) e = not_there k keys (rest_false (pair_eq k j) (list_any (pair_eq k) keys) none) at e

-- what the insertion of a key leaves
pub record IsInserted (W : List (List ℕ)) (old new : List (ℕ × ℕ)) (k : ℕ × ℕ) (at : ℕ) : Type 0 where
  pub keys : AreKeysOnce (length W) new
  pub number : IsNumbered (key_pair W k) (map (key_pair W) old) (map (key_pair W) new) at

added : (W : List (List ℕ)) (N : List (ℕ × ℕ)) (k : ℕ × ℕ) →
    Adds (key_pair W k ∷ []) (map (key_pair W) N) (map (key_pair W) N ++ key_pair W k ∷ [])
added W N k = λ at c e. elim (get-push (map (key_pair W) N) (key_pair W k) c at e) [
  | inl h ↦ inl (at, h)
  | inr h ↦ inr (0, ap Some h.1)
]

pub inserted : (W : List (List ℕ)) (N M : List (ℕ × ℕ)) (k stored : ℕ × ℕ) (at : ℕ) → AreKeysOnce (length W) N → k.0 < length W →
    k.1 < length W → M ≡ insert_key pair_eq N k →
    slice_get M at ≡ Some stored → pair_eq k stored ≡ true → IsInserted W N M k at
inserted W N M k stored at h left right made there equal =
    let same : stored ≡ k = sym (same_pair k stored equal) in
    let here : slice_get M at ≡ Some k = there ∙ ap Some same in
    (elim (list_any (pair_eq k) N) as (λ b. list_any (pair_eq k) N ≡ b → M ≡ (if b then N else N ++ k ∷ []) →
    IsInserted W N M k at) [
      | true ↦ λ t is. record {
        keys = subst (AreKeysOnce (length W)) (sym is) h;
        number = record {
          there = pair_at W M at k here;
          grows = record { more = []; grown = ap (map (key_pair W)) is ∙ sym (append-nil (map (key_pair W) N)) };
          adds = subst (Adds (key_pair W k ∷ []) (map (key_pair W) N)) (ap (map (key_pair W)) (sym is)) (λ at c e. inl (at, e));
        };
      }
      | false ↦ λ t is.
          let pushed : map (key_pair W) M ≡ map (key_pair W) N ++ key_pair W k ∷ [] = ap (map (key_pair W)) is
          ∙ map-append (key_pair W) N (k ∷ []) in
          record {
            keys = subst (AreKeysOnce (length W)) (sym is) (record {
              within = keys_push (length W) N k h.within left right;
              once = λ i j c e f. elim (get-push N k c i e) [
                | inl a ↦ elim (get-push N k c j f) [
                  | inl b ↦ h.once i j c a b
                  | inr b ↦ absurd (not_there k N t i (a ∙ ap Some (sym b.1)))
                ]
                | inr a ↦ elim (get-push N k c j f) [
                  | inl b ↦ absurd (not_there k N t j (b ∙ ap Some (sym a.1)))
                  | inr b ↦ a.0 ∙ sym b.0
                ]
              ];
            });
            number = record {
              there = pair_at W M at k here;
              grows = record { more = key_pair W k ∷ []; grown = pushed };
              adds = subst (Adds (key_pair W k ∷ []) (map (key_pair W) N)) (sym pushed) (added W N k);
            };
          }
    ]) refl made
