-- The numbers of the constructors that arms stand for.
use Rattle.std.proofs.Common.{◌≡◌, ◌∙◌, ◌+◌, ◌<◌, sym, ap, subst, arith, ℕ, List, ◌∷◌, [], ◌++◌, length, length-append, get_or, Some}
use Rattle.std.specs.Prelude.{slice_get}
use borrow.Author.Count.{below_more}
use Rattle.std.proofs.lemmas.List.{get_or_append_left}
use Rattle.std.proofs.lemmas.Option.{get_or_from_slice_get, slice_get_within}
use Rattle.std.proofs.Math.Seq.{get_or-append_seam}
use Rattle.fst_types.specs.declared.family.Maker.{Maker}
use Rattle.fst_terms.specs.InRange.{maker_named}
use Rattle.fst_terms.specs.declared.core_term.Arm.{Arm}
use Rattle.fst_arms.specs.Arms.{AreMakerNumbers}

-- the first i of the arms have these numbers
pub record AreNumbered (makers : List Maker) (bs : List Arm) (i : ℕ) (numbers : List ℕ) : Type 0 where
  pub as_many : length numbers ≡ i
  pub within : (k : ℕ) → k < i → get_or numbers k 0 < length makers
  pub named : (k : ℕ) → k < i → (b : Arm) → slice_get bs k ≡ Some b →
      maker_named b.label makers ≡ slice_get makers (get_or numbers k 0)

-- one more
pub one_numbered : (makers : List Maker) (bs : List Arm) (i : ℕ) (numbers : List ℕ) (b : Arm) (n : ℕ) →
    AreNumbered makers bs i numbers → b ≡ get_or bs i b →
    n < length makers → maker_named b.label makers ≡ slice_get makers n → AreNumbered makers bs (i + 1) (numbers ++ n ∷ [])
one_numbered makers bs i numbers b n t at lt is =
    let last : get_or (numbers ++ n ∷ []) i 0 ≡ n = ap (λ k. get_or (numbers ++ n ∷ []) k 0) (sym t.as_many)
    ∙ get_or-append_seam numbers n [] 0 in
    let front : (k : ℕ) → k < i → get_or numbers k 0 ≡ get_or (numbers ++ n ∷ []) k 0 =
    λ k less. sym (get_or_append_left numbers (n ∷ []) 0 k (omega (arith, less, t.as_many))) in
    record {
      as_many = omega (arith, length-append numbers (n ∷ []), t.as_many);
      within = below_more (λ k. get_or (numbers ++ n ∷ []) k 0 < length makers) i
          (λ k less. subst (λ m. m < length makers) (front k less) (t.within k less))
          (subst (λ m. m < length makers) (sym last) lt);
      named = below_more (λ k. (a : Arm) → slice_get bs k ≡ Some a →
          maker_named a.label makers ≡ slice_get makers (get_or (numbers ++ n ∷ []) k 0)) i
          (λ k less a there. t.named k less a there ∙ ap (slice_get makers) (front k less))
          (λ a there.
          let same : a ≡ b = sym (at ∙ get_or_from_slice_get bs i a b there) in
          ap (λ (x : Arm). maker_named x.label makers) same ∙ is ∙ ap (slice_get makers) (sym last));
    }

-- all of them
pub all_numbered : (makers : List Maker) (bs : List Arm) (i : ℕ) (numbers : List ℕ) → AreNumbered makers bs i numbers →
    i ≡ length bs → AreMakerNumbers makers bs numbers
all_numbered makers bs i numbers t e = record {
  as_many = t.as_many ∙ e;
  within = λ k lt. t.within k (omega (arith, lt, e));
  named = λ k b at. t.named k (omega (arith, slice_get_within bs k b at, e)) b at;
}
