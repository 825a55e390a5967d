-- A table of nodes with one more node.
use Rattle.std.proofs.Common.{◌≡◌, ℕ, ◌+◌, ◌<◌, List, [], ◌∷◌, ◌++◌, length, refl, sym, ◌∙◌, ap, subst, arith, inl, inr, Some, zero, suc, Bool, true, false, true≢false, ◌||◌, ◌⊎◌}
use Rattle.std.proofs.lemmas.Bool.{cases_lt}
use Rattle.std.specs.Prelude.{slice_get, if◌then◌else◌}
use Rattle.std.specs.List.{list_any}
use Rattle.indexmap.specs.IndexSet.{insert_key}
use Rattle.fst_shared.specs.Shared.{word_of, words_from, words_of, Keeps, IsTable}
use Rattle.std.proofs.lemmas.List.{get_or_append_left}
use Rattle.std.proofs.Math.Seq.{get_or-append_seam}
use Rattle.std.proofs.lemmas.Option.{slice_get_within}
use Rattle.fst_base.proofs.Lists.{get-push, get_there, length-push}

word-front : (W : List (List ℕ)) (x : List ℕ) (k : ℕ) → k < length W → word_of (W ++ x ∷ []) k ≡ word_of W k
word-front W x k l = get_or_append_left W (x ∷ []) [] k l

word-last : (W : List (List ℕ)) (x : List ℕ) → word_of (W ++ x ∷ []) (length W) ≡ x
word-last W x = get_or-append_seam W x [] []

split_last : (i n : ℕ) → i < suc n → (i < n) ⊎ (i ≡ n)
split_last i n l = elim (cases_lt i n) [ inl lt ↦ inl lt | inr ge ↦ inr (omega arith) ]

pub words-push : (N : List (ℕ × ℕ)) (W : List (List ℕ)) (p : ℕ × ℕ) →
    words_from W (N ++ p ∷ []) ≡ words_from W N ++ (p.0 ∷ word_of (words_from W N) p.1) ∷ []
words-push [] W p = refl
words-push (q ∷ N) W p = words-push N (W ++ (q.0 ∷ word_of W q.1) ∷ []) p

pub keeps_all : (W : List (List ℕ)) → Keeps W W
keeps_all W = record { longer = omega arith; kept = λ k l. refl }

pub keeps_on : (A B C : List (List ℕ)) → Keeps A B → Keeps B C → Keeps A C
keeps_on A B C p q = record {
  longer = (let a = p.longer in let b = q.longer in omega arith);
  kept = λ k l. q.kept k (let a = p.longer in omega arith) ∙ p.kept k l;
}

pub keeps-push : (W : List (List ℕ)) (x : List ℕ) → Keeps W (W ++ x ∷ [])
keeps-push W x = record {
  longer = (let e = length-push W x in omega arith);
  kept = λ k l. word-front W x k l;
}

module _ (N : List (ℕ × ℕ)) (W : List (List ℕ)) (h t : ℕ) (ok : IsTable N W) (within : t < length W)
    (fresh : (k : ℕ) (p : ℕ × ℕ) → slice_get N k ≡ Some p → p ≡ (h, t) → ⊥) where
  other : (i : ℕ) → i < length W → word_of W i ≡ h ∷ word_of W t → ⊥
  other zero l e = let z = ok.empty in cc
  other (suc k) l e =
      let count = ok.count in
      let there = get_there N k (omega arith) in
      let is : there.0.0 ∷ word_of W there.0.1 ≡ h ∷ word_of W t = sym (ok.linked k there.0 there.1) ∙ e in
      let first : there.0.0 ≡ h = cc in
      let rest : word_of W there.0.1 ≡ word_of W t = cc in
      let before = ok.before k there.0 there.1 in
      let last : there.0.1 ≡ t = ok.once there.0.1 t (omega arith) within rest in
      fresh k there.0 there.1 (λ i. (first i, last i))

  pub table-push : IsTable (N ++ (h, t) ∷ []) (W ++ (h ∷ word_of W t) ∷ [])
  table-push =
      let count = ok.count in
      let longer = length-push W (h ∷ word_of W t) in
      record {
        count = length-push W (h ∷ word_of W t) ∙ ap suc count ∙ ap suc (sym (length-push N (h, t)));
        empty = word-front W (h ∷ word_of W t) 0 (omega arith) ∙ ok.empty;
        before = λ k p is. elim (get-push N (h, t) p k is) [
          | inl e ↦ ok.before k p e
          | inr e ↦ let a = e.0 in let b : t ≡ p.1 = ap (λ (z : ℕ × ℕ). z.1) e.1 in omega arith
        ];
        linked = λ k p is. elim (get-push N (h, t) p k is) [
          | inl e ↦
              let l = slice_get_within N k p e in
              let b = ok.before k p e in
              word-front W (h ∷ word_of W t) (suc k) (omega arith) ∙ ok.linked k p e ∙ ap
              (λ (z : List ℕ). p.0 ∷ z) (sym (word-front W (h ∷ word_of W t) p.1 (omega arith)))
          | inr e ↦
              let a = e.0 in
              let at : suc k ≡ length W = omega arith in
              let b : t ≡ p.1 = ap (λ (z : ℕ × ℕ). z.1) e.1 in
              let c : h ≡ p.0 = ap (λ (z : ℕ × ℕ). z.0) e.1 in
              ap (word_of (W ++ (h ∷ word_of W t) ∷ [])) at ∙ word-last W (h ∷ word_of W t) ∙ ap
              (λ (z : ℕ × ℕ). z.0 ∷ word_of W z.1) e.1
              ∙ ap (λ (z : List ℕ). p.0 ∷ z) (sym (word-front W (h ∷ word_of W t) p.1 (omega arith)))
        ];
        once = λ i j li lj e. elim (split_last i (length W) (omega arith)) [
          | inl a ↦ elim (split_last j (length W) (omega arith)) [
            | inl b ↦ ok.once i j a b (sym (word-front W (h ∷ word_of W t) i a) ∙ e ∙ word-front W (h ∷ word_of W t) j b)
            | inr b ↦ absurd (other i a (sym (word-front W (h ∷ word_of W t) i a) ∙ e
                ∙ ap (word_of (W ++ (h ∷ word_of W t) ∷ [])) b ∙ word-last W (h ∷ word_of W t)))
          ]
          | inr a ↦ elim (split_last j (length W) (omega arith)) [
            | inl b ↦ absurd (other j b (sym (word-front W (h ∷ word_of W t) j b) ∙ sym e
                ∙ ap (word_of (W ++ (h ∷ word_of W t) ∷ [])) a ∙ word-last W (h ∷ word_of W t)))
            | inr b ↦ a ∙ sym b
          ]
        ];
      }

-- what a node in front of a word leaves
pub record IsPushed (N : List (ℕ × ℕ)) (old new : List (List ℕ)) (h t at : ℕ) : Type 0 where
  pub table : IsTable N new
  pub word : word_of new (at + 1) ≡ h ∷ word_of old t
  pub within : at + 1 < length new
  pub kept : Keeps old new

module _ (eq : ℕ × ℕ → ℕ × ℕ → Bool) (same : (p q : ℕ × ℕ) → eq p q ≡ true → p ≡ q) (self : (p : ℕ × ℕ) → eq p p ≡ true) where
  not_there : (p : ℕ × ℕ) (N : List (ℕ × ℕ)) → list_any (eq p) N ≡ false →
      (k : ℕ) (q : ℕ × ℕ) → slice_get N k ≡ Some q → q ≡ p → ⊥
  not_there p [] none k q is e = cc
  not_there p (x ∷ N) none zero q is e =
      let there : x ≡ p = (let f : x ≡ q = cc in f ∙ e) in
      let yes : eq p x ≡ true = ap (eq p) there ∙ self p in
      true≢false (sym (ap (λ (b : Bool). b || list_any (eq p) N) yes) ∙ none)
  not_there p (x ∷ N) none (suc k) q is e = not_there p N (rest (eq p x) (list_any (eq p) N) none) k q is e
    where
      rest : (a b : Bool) → (a || b) ≡ false → b ≡ false
      rest true b h = cc
      rest false b h = h

  pub pushed : (N M : List (ℕ × ℕ)) (h t at : ℕ) (k : ℕ × ℕ) → IsTable N (words_of N) → t < length (words_of N) →
      M ≡ insert_key eq N (h, t)
      → slice_get M at ≡ Some k → eq (h, t) k ≡ true → IsPushed M (words_of N) (words_of M) h t at
  pushed N M h t at k ok within made stored equal =
      (elim (list_any (eq (h, t)) N) as (λ b. list_any (eq (h, t)) N ≡ b → M ≡ (if b then N else N ++ (h, t) ∷ []) →
      IsPushed M (words_of N) (words_of M) h t at) [
        | true ↦ λ b is. subst (λ (z : List (ℕ × ℕ)). IsPushed z (words_of N) (words_of z) h t at) (sym is)
            (let there : slice_get N at ≡ Some (h, t) = ap (λ (z : List (ℕ × ℕ)). slice_get z at) (sym is) ∙ stored
            ∙ ap Some (sym (same (h, t) k equal)) in
            let l = slice_get_within N at (h, t) there in
            let count = ok.count in
            record {
              table = ok;
              word = ap (word_of (words_of N)) (let e : at + 1 ≡ suc at = omega arith in e) ∙ ok.linked at (h, t) there;
              within = omega arith;
              kept = keeps_all (words_of N);
            })
        | false ↦ λ b is.
            let made : words_of M ≡ words_of N ++ (h ∷ word_of (words_of N) t) ∷ [] = ap words_of is
            ∙ words-push N ([] ∷ []) (h, t) in
            let ok2 : IsTable M (words_of M) = subst (IsTable M) (sym made)
            (subst (λ (z : List (ℕ × ℕ)). IsTable z (words_of N ++ (h ∷ word_of (words_of N) t) ∷ [])) (sym is)
            (table-push N (words_of N) h t ok within (not_there (h, t) N b))) in
            let there : slice_get M at ≡ Some (h, t) = stored ∙ ap Some (sym (same (h, t) k equal)) in
            let keeps : Keeps (words_of N) (words_of M) =
            subst (Keeps (words_of N)) (sym made) (keeps-push (words_of N) (h ∷ word_of (words_of N) t)) in
            let l = slice_get_within M at (h, t) there in
            let count = ok2.count in
            record {
              table = ok2;
              word = ap (word_of (words_of M)) (let e : at + 1 ≡ suc at = omega arith in e) ∙ ok2.linked at (h, t) there ∙ ap
                  (λ (z : List ℕ). h ∷ z) (keeps.kept t within);
              within = omega arith;
              kept = keeps;
            }
      ]) refl made
