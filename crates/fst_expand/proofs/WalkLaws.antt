-- Dropping one head more on the way from one word to another.
use Rattle.std.proofs.Common.{◌≡◌, ℕ, ◌+◌, List, [], ◌∷◌, ◌++◌, length, reverse, append_assoc, refl, sym, ◌∙◌, ap, subst, arith, Some, None, Option, Bool, true, false, cond}
use Rattle.std.specs.Prelude.{slice_get}
use Rattle.std.specs.Str.{bytes_eq}
use Rattle.fst_types.specs.declared.side.Side.{Side}
use Rattle.fst_types.specs.declared.side.Side.TheVariants.{Left, Right}
use Rattle.fst_base.proofs.Bools.{same_text}
use Rattle.fst_base.proofs.Lists.{length-push}
use Rattle.fst_basis.specs.declared.proof.Pair.{Pair}
use Rattle.fst_basis.specs.declared.proof.Rewrite.{Rewrite}
use Rattle.fst_basis.specs.declared.proof.Rewrite.TheVariants.{Forth}
use Rattle.fst_basis.specs.Rewrites.{chained}
use Rattle.fst_norms.specs.Lowering.{lowered}
use Rattle.fst_expand.specs.Cuts.{head_cut, left_rest, right_rest, unless_same}
use Rattle.fst_expand.specs.Table.{AreNumbered}
use Rattle.fst_expand.specs.Trail.{AreNoted, Leads}
use Rattle.fst_expand.proofs.CutLaws.{HasHead}
use Rattle.fst_basis.proofs.Laws.{chained_first, chained_last, chained_more, forth, reverse-push}

-- where there is no pair of two words they are the same
pub same_words : (x y : List ℕ) → unless_same x y ≡ [] → x ≡ y
same_words x y e =
    (elim (bytes_eq x y) as (λ b. bytes_eq x y ≡ b →
    (cond {A = List Pair} b [] (record { left = x; right = y } ∷ [])) ≡ [] → x ≡ y) [
      | true ↦ λ t h. same_text x y t
      | false ↦ λ t h. cc
    ]) refl e

-- where there is one, it is theirs
pub one_pair : (x y : List ℕ) (b : Pair) → unless_same x y ≡ b ∷ [] → record { left = x; right = y } ≡ b
one_pair x y b e =
    elim (bytes_eq x y) as (λ c. (cond {A = List Pair} c [] (record { left = x; right = y } ∷ [])) ≡ b ∷ [] →
    record { left = x; right = y } ≡ b) [
      | true ↦ λ h. cc
      | false ↦ λ h. cc
    ] e

one_more : (front : List ℕ) (n heads : ℕ) → length front ≡ heads → length (front ++ n ∷ []) ≡ heads + 1
one_more front n heads e = let l = length-push front n in omega arith

shift : (front : List ℕ) (n : ℕ) (w : List ℕ) → (front ++ n ∷ []) ++ w ≡ front ++ (n ∷ w)
shift front n w = append_assoc front (n ∷ []) w

module _ (words : List (List ℕ)) (norm : ℕ) (P Q : List Pair) (heads : ℕ) (x y : List ℕ) (n : ℕ) (l : List ℕ) (m : ℕ)
    (r : List ℕ) where
  -- the head of the left word is dropped
  left_next : (before after before2 after2 : List Rewrite) (cut : Option ℕ) → Leads P before after heads x y (n ∷ l) (m ∷ r) →
      AreNumbered (unless_same (n ∷ lowered words norm (m ∷ [])) (m ∷ [])) P Q cut →
      AreNoted Left before after before2 after2 heads cut →
      Leads Q before2 after2 (heads + 1) x y l (lowered words norm (m ∷ []) ++ r)
  left_next before after before2 after2 None w (none, same) steps =
      let b = lowered words norm (m ∷ []) in
      let as_other : n ∷ b ≡ m ∷ [] = same_words (n ∷ b) (m ∷ []) none in
      rw (same, steps.0, steps.1) (record {
        front = w.front ++ n ∷ [];
        count = one_more w.front n heads w.count;
        from = λ marks. w.from marks ∙ ap Some (sym (shift w.front n l));
        to = λ marks.
            ap (chained marks P (reverse after)) (shift w.front n (b ++ r) ∙ ap (λ (z : List ℕ). w.front ++ (z ++ r)) as_other)
            ∙ w.to marks;
      })
  left_next before after before2 after2 (Some p) w (c, cut, number) steps =
      let b = lowered words norm (m ∷ []) in
      let is : record { left = n ∷ b; right = m ∷ [] } ≡ c = one_pair (n ∷ b) (m ∷ []) c cut in
      let there : slice_get Q p ≡ Some (record { left = n ∷ b; right = m ∷ [] }) = number.there ∙ ap Some (sym is) in
      let on : (marks : List Bool) (s : List Rewrite) (v z : List ℕ) → chained marks P s v ≡ Some z →
      chained marks Q s v ≡ Some z =
      λ marks s v z e. rw number.grows.grown (chained_more marks P number.grows.more s v z e) in
      rw (steps.0, steps.1) (record {
        front = w.front ++ n ∷ [];
        count = one_more w.front n heads w.count;
        from = λ marks. on marks before x (w.front ++ (n ∷ l)) (w.from marks) ∙ ap Some (sym (shift w.front n l));
        to = λ marks.
            ap (λ (s : List Rewrite). chained marks Q s ((w.front ++ n ∷ []) ++ (b ++ r))) (reverse-push after (Forth heads p))
            ∙ ap (chained marks Q (Forth heads p ∷ reverse after)) (shift w.front n (b ++ r))
            ∙ chained_first marks Q (Forth heads p) (reverse after) (w.front ++ (n ∷ (b ++ r))) (w.front ++ (m ∷ r))
            (forth marks Q heads p (record { left = n ∷ b; right = m ∷ [] }) w.front r there w.count)
            ∙ on marks (reverse after) (w.front ++ (m ∷ r)) y (w.to marks);
      })

  -- the head of the right word is dropped
  right_next : (before after before2 after2 : List Rewrite) (cut : Option ℕ) → Leads P before after heads x y (n ∷ l) (m ∷ r) →
      AreNumbered (unless_same (n ∷ []) (m ∷ lowered words norm (n ∷ []))) P Q cut →
      AreNoted Right before after before2 after2 heads cut →
      Leads Q before2 after2 (heads + 1) x y (lowered words norm (n ∷ []) ++ l) r
  right_next before after before2 after2 None w (none, same) steps =
      let b = lowered words norm (n ∷ []) in
      let as_other : n ∷ [] ≡ m ∷ b = same_words (n ∷ []) (m ∷ b) none in
      rw (same, steps.0, steps.1) (record {
        front = w.front ++ m ∷ [];
        count = one_more w.front m heads w.count;
        from = λ marks. w.from marks ∙ ap (λ (z : List ℕ). Some (w.front ++ (z ++ l))) as_other
            ∙ ap Some (sym (shift w.front m (b ++ l)));
        to = λ marks. ap (chained marks P (reverse after)) (shift w.front m r) ∙ w.to marks;
      })
  right_next before after before2 after2 (Some p) w (c, cut, number) steps =
      let b = lowered words norm (n ∷ []) in
      let is : record { left = n ∷ []; right = m ∷ b } ≡ c = one_pair (n ∷ []) (m ∷ b) c cut in
      let there : slice_get Q p ≡ Some (record { left = n ∷ []; right = m ∷ b }) = number.there ∙ ap Some (sym is) in
      let on : (marks : List Bool) (s : List Rewrite) (v z : List ℕ) → chained marks P s v ≡ Some z →
      chained marks Q s v ≡ Some z =
      λ marks s v z e. rw number.grows.grown (chained_more marks P number.grows.more s v z e) in
      rw (steps.0, steps.1) (record {
        front = w.front ++ m ∷ [];
        count = one_more w.front m heads w.count;
        from = λ marks.
            chained_last marks Q before (Forth heads p) x (w.front ++ (n ∷ l)) (w.front ++ (m ∷ (b ++ l)))
            (on marks before x (w.front ++ (n ∷ l)) (w.from marks))
            (forth marks Q heads p (record { left = n ∷ []; right = m ∷ b }) w.front l there w.count)
            ∙ ap Some (sym (shift w.front m (b ++ l)));
        to = λ marks. ap (chained marks Q (reverse after)) (shift w.front m r)
            ∙ on marks (reverse after) (w.front ++ (m ∷ r)) y (w.to marks);
      })

-- a head of either word is dropped
pub leads_next : (norms : List (Option ℕ)) (words : List (List ℕ)) (side : Side) (norm : ℕ) (P Q : List Pair)
    (before after before2 after2 : List Rewrite) (heads : ℕ) (x y l r : List ℕ)
    (cut : Option ℕ) → HasHead norms l → HasHead norms r → Leads P before after heads x y l r →
    AreNumbered (head_cut words side norm l r) P Q cut →
    AreNoted side before after before2 after2 heads cut →
    Leads Q before2 after2 (heads + 1) x y (left_rest words side norm l) (right_rest words side norm r)
leads_next norms words Left norm P Q before after before2 after2 heads x y l r cut hl hr w number steps =
    let lw = hl.word in
    let rw_ = hr.word in
    let R : List ℕ → List ℕ → Type 0 = λ u v. Leads P before after heads x y u v →
    AreNumbered (head_cut words Left norm u v) P Q cut →
    Leads Q before2 after2 (heads + 1) x y (left_rest words Left norm u) (right_rest words Left norm v) in
    subst (λ (u : List ℕ). R u r) (sym lw) (subst (λ (v : List ℕ). R (hl.head ∷ hl.rest) v) (sym rw_)
    (λ q k. left_next words norm P Q heads x y hl.head hl.rest hr.head hr.rest before after before2 after2 cut q k steps)) w
    number
leads_next norms words Right norm P Q before after before2 after2 heads x y l r cut hl hr w number steps =
    let lw = hl.word in
    let rw_ = hr.word in
    let R : List ℕ → List ℕ → Type 0 = λ u v. Leads P before after heads x y u v →
    AreNumbered (head_cut words Right norm u v) P Q cut →
    Leads Q before2 after2 (heads + 1) x y (left_rest words Right norm u) (right_rest words Right norm v) in
    subst (λ (u : List ℕ). R u r) (sym lw) (subst (λ (v : List ℕ). R (hl.head ∷ hl.rest) v) (sym rw_)
    (λ q k. right_next words norm P Q heads x y hl.head hl.rest hr.head hr.rest before after before2 after2 cut q k steps)) w
    number
