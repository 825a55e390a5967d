-- Places at which two lists have the same numbers.
use Rattle.std.proofs.Common.{◌≡◌, ℕ, ◌+◌, List, [], ◌∷◌, ◌++◌, length, refl, sym, ◌∙◌, ap, subst, arith, inl, inr, Some, true, false}
use Rattle.std.specs.Prelude.{slice_get, if◌then◌else◌, not}
use Rattle.std.specs.List.{list_any}
use Rattle.indexmap.specs.IndexSet.{insert_key}
use Rattle.fst_base.proofs.Bools.{pair_eq}
use Rattle.std.proofs.lemmas.Option.{slice_get_within}
use Rattle.fst_base.proofs.Lists.{get-push, get_there, length-push}
use Rattle.fst_words.specs.declared.rules.Rule.{Rule}
use Rattle.fst_shared.specs.Numbers.{IsRow}
use Rattle.fst_expand.specs.Repeats.{AreOrigins, ArePlaces, AreRepeats, HaveOneWord, IsRepeat}

-- rules with the same number have the same word
pub one_word : (words : List (List ℕ)) (rules : List Rule) (numbers : List ℕ) (i j : ℕ) → IsRow words rules numbers →
    slice_get numbers i ≡ slice_get numbers j → HaveOneWord rules i j
one_word words rules numbers i j row same r q ri qj =
    let m = get_there numbers i (let e = row.count in let l = slice_get_within rules i r ri in omega arith) in
    let a = row.words_are i m.0 r ri m.1 in
    let b = row.words_are j m.0 q qj (sym same ∙ m.1) in
    sym a.word ∙ b.word

module _ (left right : List ℕ) (keys : List (ℕ × ℕ)) (origins : List ℕ) (here : ℕ)
    (h : AreOrigins left right keys origins here) where
  -- one place on
  pub origins_old : AreOrigins left right keys origins (here + 1)
  origins_old = record {
    count = h.count;
    each = λ k o p e f. let g = h.each k o p e f in let lt = g.0 in
        (omega arith, g.1, g.2);
  }

  -- with the numbers at the place
  pub origins_new : (a b : ℕ) → slice_get left here ≡ Some a → slice_get right here ≡ Some b →
      AreOrigins left right (keys ++ (a, b) ∷ []) (origins ++ here ∷ []) (here + 1)
  origins_new a b ea eb = record {
    count = (let x = length-push origins here in let y = length-push keys (a, b) in let e = h.count in omega arith);
    each = λ k o p e f. elim (get-push origins here o k e) [
      | inl before ↦ elim (get-push keys (a, b) p k f) [
        | inl too ↦ origins_old.each k o p before too
        | inr last ↦ absurd (let w = slice_get_within origins k o before in let e = h.count in let l = last.0 in omega arith)
      ]
      | inr last ↦ elim (get-push keys (a, b) p k f) [
        | inl before ↦ absurd (let w = slice_get_within keys k p before in let e = h.count in let l = last.0 in omega arith)
        | inr too ↦ (
          (let e = last.1 in omega arith),
          ap (slice_get left) (sym last.1) ∙ ea ∙ ap (λ (z : ℕ × ℕ). Some z.0) too.1,
          ap (slice_get right) (sym last.1) ∙ eb ∙ ap (λ (z : ℕ × ℕ). Some z.1) too.1,
        )
      ]
    ];
  }

-- a key that is new goes last, and one that isn't changes nothing
pub inserted_new : (k : ℕ × ℕ) (keys : List (ℕ × ℕ)) → true ≡ not (list_any (pair_eq k) keys) →
    insert_key pair_eq keys k ≡ keys ++ k ∷ []
inserted_new k keys e =
    elim (list_any (pair_eq k) keys) as (λ b. true ≡ not b → (if b then keys else keys ++ k ∷ []) ≡ keys ++ k ∷ []) [
      | true ↦ λ f. cc
      | false ↦ λ f. refl
    ] e

pub inserted_old : (k : ℕ × ℕ) (keys : List (ℕ × ℕ)) → false ≡ not (list_any (pair_eq k) keys) → insert_key pair_eq keys k ≡ keys
inserted_old k keys e =
    elim (list_any (pair_eq k) keys) as (λ b. false ≡ not b → (if b then keys else keys ++ k ∷ []) ≡ keys) [
      | true ↦ λ f. refl
      | false ↦ λ f. cc
    ] e

-- a place with an origin repeats it
pub repeats : (left right : List ℕ) (i j a b : ℕ) → slice_get left i ≡ Some a → slice_get right i ≡ Some b →
    slice_get left j ≡ Some a → slice_get right j ≡ Some b → IsRepeat left right j i
repeats left right i j a b li ri lj rj = record { left = lj ∙ sym li; right = rj ∙ sym ri }

-- one place more
pub each_push : (R : ℕ → ℕ → Type 0) (places : List ℕ) (n here : ℕ) → length places ≡ here →
    ((i j : ℕ) → slice_get places i ≡ Some j → R i j) → R here n →
    (i j : ℕ) → slice_get (places ++ n ∷ []) i ≡ Some j → R i j
each_push R places n here count h r i j e = elim (get-push places n j i e) [
  | inl before ↦ h i j before
  | inr last ↦ subst (R i) last.1 (subst (λ (z : ℕ). R z n) (sym (last.0 ∙ count)) r)
]

-- places at which the numbers of rules repeat are places at which their words do
pub places_by_rows : (words : List (List ℕ)) (rules others : List Rule) (left right places : List ℕ) → IsRow words rules left →
    IsRow words others right → AreRepeats left right places →
    ArePlaces rules others places
places_by_rows words rules others left right places l r h = record {
  count = h.count ∙ l.count;
  before = λ i j e. (h.each i j e).0;
  left = λ i j e. one_word words rules left j i l (h.each i j e).1.left;
  right = λ i j e. one_word words others right j i r (h.each i j e).1.right;
}
