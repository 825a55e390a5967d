-- An end that is put where it belongs: among the open ones or among the spent ones.
use Rattle.std.proofs.Common.{◌≡◌, ◌∙◌, ◌⊎◌, inl, inr, ℕ, ◌+◌, List, [], ◌∷◌, ◌++◌, Bool, true, false, Some, None, refl, sym, ap, subst, arith}
use Rattle.std.specs.Prelude.{sum_by, All}
use Rattle.std.proofs.lemmas.List.{append-nil}
use Rattle.std.proofs.lemmas.List.Elements.{All-head, All-tail, All-push, All-weaker}
use Rattle.std.proofs.lemmas.List.Sums.{sum_by-cons, sum_by_push}
use Rattle.std.proofs.lemmas.Bool.{false≢true}
use Rattle.fst_base.proofs.Options.{some_same}
use Rattle.fst_types.specs.Tree.{Tree, skip}
use Rattle.fst_lts.specs.Step.{terminated}
use Rattle.fst_derivations.specs.Rules.{Surroundings}
use Rattle.fst_types.specs.declared.ends.EndName.{EndName}
use Rattle.fst_machine.specs.Machine.{State}
use Rattle.fst_runs.specs.Configs.{Task}
use Rattle.fst_runs.specs.Wrong.{held_state, IsUnspent}
use Rattle.fst_cell.specs.End.{EndView, end_name, residual_of}
use Rattle.fst_safety.specs.Fitting.{Residuals, IsTyped}
use Rattle.fst_safety.specs.Threads.{count_of, FitsEnd, IsOpen, IsPast, IsSpent, AreResiduals}
use Rattle.fst_safety.specs.Bags.{IsPutBack, put_by}
use Rattle.fst_safety.proofs.BagLaws.{counted, with_at, at_itself, at_other, are_more}
use Rattle.fst_safety.proofs.StillLaws.{unchanged, typed_still}
use Rattle.fst_safety.proofs.SpentEnds.{spent_typed}

-- what is left of a type, or nothing where nothing is left to do
abbrev pub rested_by : Bool → Tree → Tree
rested_by true t = skip
rested_by false t = t

abbrev pub rested : Tree → Tree
rested t = rested_by (terminated t) t

-- the end stands among the open ones now, or among the spent ones
abbrev pub WentTo : EndView → List EndView → List EndView → List EndView → List EndView → Type 0
WentTo f bag0 ret0 bag1 ret1 =
    ((z : EndName) → (count_of z bag1 ≡ count_of z bag0 + counted z f) × (count_of z ret1 ≡ count_of z ret0))
    ⊎ ((z : EndName) → (count_of z bag1 ≡ count_of z bag0) × (count_of z ret1 ≡ count_of z ret0 + counted z f))

-- what is so after an end was put where it belongs
pub record HasPut (f : EndView) (t : Tree) (bag0 ret0 bag1 ret1 : List EndView) : Type 0 where
  pub went : WentTo f bag0 ret0 bag1 ret1
  pub sums : (w : EndView → ℕ) → sum_by w bag1 + sum_by w ret1 ≡ (sum_by w bag0 + sum_by w ret0) + w f
  pub unspent : All IsOpen bag0 → All IsOpen bag1
  pub spent : f.knows.offer ≡ None → All IsSpent ret0 → All IsSpent ret1
  pub past : (n : ℕ) → IsPast n f → All (IsPast n) ret0 → All (IsPast n) ret1
  pub ends : (m : Surroundings) (u : Task) → FitsEnd m u f → All (FitsEnd m u) bag0 → All (FitsEnd m u) bag1
  pub more : List EndView
  pub kept : ret1 ≡ ret0 ++ more
  pub are : (q : Residuals) → AreResiduals bag0 q → count_of (end_name f) bag0 ≡ 0 →
      AreResiduals bag1 (with_at (end_name f) (Some (rested t)) q)

-- a residual that was that of a spent end anyway
are_idle : (q : Residuals) (x : EndName) (bag : List EndView) → AreResiduals bag q → count_of x bag ≡ 0 →
    AreResiduals bag (with_at x (Some skip) q)
are_idle q x bag h n = record {
  known = All-weaker (λ (e : EndView). q (end_name e) ≡ residual_of e.knows)
      (λ (e : EndView). with_at x (Some skip) q (end_name e) ≡ residual_of e.knows) (λ e k. same (end_name e) ∙ k) bag h.known;
  others = λ z c. same z ∙ h.others z c;
}
  where
    same : (z : EndName) → with_at x (Some skip) q z ≡ q z
    same z = go (at_other x (Some skip) q z)
      where
        go : (z ≡ x) ⊎ (with_at x (Some skip) q z ≡ q z) → with_at x (Some skip) q z ≡ q z
        go (inl i) = ap (with_at x (Some skip) q) i ∙ at_itself x (Some skip) q ∙ sym (h.others x n) ∙ sym (ap q i)
        go (inr i) = i

pub has_put : (f : EndView) (t : Tree) → residual_of f.knows ≡ Some t →
    (bag0 ret0 bag1 ret1 : List EndView) → IsPutBack f bag0 ret0 bag1 ret1 → HasPut f t bag0 ret0 bag1 ret1
has_put f t is bag0 ret0 bag1 ret1 p = pick (terminated p.0) refl p.2
  where
    same : p.0 ≡ t
    same = some_same (sym p.1 ∙ is)

    rested_is : (b : Bool) → terminated p.0 ≡ b → rested t ≡ rested_by b t
    rested_is b e = ap (λ c. rested_by c t) (ap terminated (sym same) ∙ e)

    pick : (b : Bool) → terminated p.0 ≡ b → put_by b f bag0 ret0 bag1 ret1 → HasPut f t bag0 ret0 bag1 ret1
    pick true e h = record {
      went = inr (λ z. (ap (count_of z) h.0, ap (count_of z) h.1 ∙ sum_by_push (counted z) ret0 f));
      sums = λ w. let a = ap (sum_by w) h.0 in let b = ap (sum_by w) h.1 ∙ sum_by_push w ret0 f in omega (arith, a, b);
      unspent = λ o. subst (All IsOpen) (sym h.0) o;
      spent = λ i s. subst (All IsSpent) (sym h.1)
          (All-push IsSpent ret0 f s (record { residual = t; is = is; done = ap terminated (sym same) ∙ e; idle = i }));
      past = λ n one rest. subst (All (IsPast n)) (sym h.1) (All-push (IsPast n) ret0 f rest one);
      ends = λ m u one rest. subst (All (FitsEnd m u)) (sym h.0) rest;
      more = f ∷ [];
      kept = h.1;
      are = λ q a n. subst (λ u. AreResiduals bag1 (with_at (end_name f) (Some u) q)) (sym (rested_is true e))
          (subst (λ b. AreResiduals b (with_at (end_name f) (Some skip) q)) (sym h.0) (are_idle q (end_name f) bag0 a n));
    }
    pick false e h = record {
      went = inl (λ z. (ap (count_of z) h.0 ∙ sum_by_push (counted z) bag0 f, ap (count_of z) h.1));
      sums = λ w. let a = ap (sum_by w) h.0 ∙ sum_by_push w bag0 f in let b = ap (sum_by w) h.1 in omega (arith, a, b);
      unspent = λ o. subst (All IsOpen) (sym h.0) (All-push IsOpen bag0 f o
          (record { residual = t; is = is; left = ap terminated (sym same) ∙ e }));
      spent = λ i s. subst (All IsSpent) (sym h.1) s;
      past = λ n one rest. subst (All (IsPast n)) (sym h.1) rest;
      ends = λ m u one rest. subst (All (FitsEnd m u)) (sym h.0) (All-push (FitsEnd m u) bag0 f rest one);
      more = [];
      kept = h.1 ∙ sym (append-nil ret0);
      are = λ q a n.
          let k = are_more q f bag0 a n in
          subst (λ u. AreResiduals bag1 (with_at (end_name f) u q)) (is ∙ sym (ap (λ u. Some u) (rested_is false e)))
          (subst (λ b. AreResiduals b (with_at (end_name f) (residual_of f.knows) q)) (sym h.0) (last_first q k));
    }
      where
        last_first : (q : Residuals) → AreResiduals (f ∷ bag0) (with_at (end_name f) (residual_of f.knows) q) →
            AreResiduals (bag0 ++ f ∷ []) (with_at (end_name f) (residual_of f.knows) q)
        last_first q k =
            let P = λ (e : EndView). with_at (end_name f) (residual_of f.knows) q (end_name e) ≡ residual_of e.knows in
            record {
              known = All-push P bag0 f (All-tail P f bag0 k.known) (All-head P f bag0 k.known);
              others = λ z c. k.others z (let a = sum_by_push (counted z) bag0 f in let b = sum_by-cons (counted z) f bag0 in
                  omega (arith, a, b, c));
            }

-- ---- residuals of which one is rested

module _ (q q' : Residuals) (x : EndName) (t : Tree) (before : q x ≡ Some t) (later : q' x ≡ Some (rested t))
    (others : (z : EndName) → (z ≡ x) ⊎ (q' z ≡ q z)) where
  -- what is typed stays so
  pub rested_typed : (m : Surroundings) (s : State) (a : Tree) → IsTyped m q s a → IsTyped m q' s a
  rested_typed m s a h = pick (terminated t) refl
    where
      pick : (b : Bool) → terminated t ≡ b → IsTyped m q' s a
      pick true e = spent_typed m q q' x t before e (later ∙ ap (λ b. Some (rested_by b t)) e) others s a h
      pick false e = typed_still m q q' s a h (unchanged m q q' (λ z. held_state z s) (λ z u k n. go z u k (others z)))
        where
          go : (z : EndName) (u : Tree) → q z ≡ Some u → (z ≡ x) ⊎ (q' z ≡ q z) → q' z ≡ Some u
          go z u k (inl i) = ap q' i ∙ later ∙ ap (λ b. Some (rested_by b t)) e ∙ sym before ∙ sym (ap q i) ∙ k
          go z u k (inr i) = i ∙ k

  -- what is unspent then was so before
  pub rested_unspent : (z : EndName) → IsUnspent q' z → IsUnspent q z
  rested_unspent z u = go (others z)
    where
      pick : (b : Bool) → terminated t ≡ b → q' x ≡ Some u.0 → IsUnspent q x
      pick true e k =
          let is : skip ≡ u.0 = some_same (sym (later ∙ ap (λ b. Some (rested_by b t)) e) ∙ k) in
          absurd (false≢true (sym u.2 ∙ sym (ap terminated is)))
      pick false e k = (t, before, e)

      go : (z ≡ x) ⊎ (q' z ≡ q z) → IsUnspent q z
      go (inl i) = subst (IsUnspent q) (sym i) (pick (terminated t) refl (sym (ap q' i) ∙ u.1))
      go (inr i) = (u.0, sym i ∙ u.1, u.2)
