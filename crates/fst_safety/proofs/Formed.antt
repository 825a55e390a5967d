-- The type of a running term is well formed, or the term has every type.
use Rattle.std.proofs.Common.{◌⊎◌, inl, inr, List, [], ◌∷◌}
use Rattle.fst_types.specs.Tree.{Tree}
use Rattle.fst_terms.specs.CoreTree.{CoreTree, local, global, int, bool, char, unit, pair, make, lambda, apply, let_in, split, if_else, case_of, operate, negate, new, send, receive, close, wait, select, match_with, fork, seq, CoreArms, no_arms, arm}
use Rattle.fst_context.specs.Scope.{Variable}
use Rattle.fst_derivations.specs.Parts as context
use Rattle.fst_derivations.specs.Parts.{IsFormed}
use Rattle.fst_derivations.specs.Rules.{Surroundings, Binding, rest}
use Rattle.fst_safety.specs.Running.{HasType, ArmsHaveType}

-- of one part
by_one : {X P Q : Type 0} → X ⊎ P → (P → Q) → X ⊎ Q
by_one (inl x) f = inl x
by_one (inr p) f = inr (f p)

-- of two parts
by_two : {X P Q R : Type 0} → X ⊎ P → X ⊎ Q → (P → Q → R) → X ⊎ R
by_two (inl x) o f = inl x
by_two (inr p) (inl x) f = inl x
by_two (inr p) (inr q) f = inr (f p q)

mutual
  -- a term's type is well formed, or the term has every type: one that comes to arms of which there is none
  pub formed_or_any : (m : Surroundings) (g : List Variable) (e : CoreTree) (a : Tree) → HasType m g e a → IsFormed [] a ⊎
      ((t : Tree) → HasType m g e t)
  formed_or_any m g (local at k) a h = inl h.2.right
  formed_or_any m g (global at k ks) a h = inl h.2.right
  formed_or_any m g (int at n) a h = inl h.right
  formed_or_any m g (bool at b) a h = inl h.right
  formed_or_any m g (char at c) a h = inl h.right
  formed_or_any m g (unit at) a h = inl h.right
  formed_or_any m g (pair at e f) a h = inl h.5.right
  formed_or_any m g (make at n o es) a h = inl h.5.right
  formed_or_any m g (lambda at u k x e) a h = inl h.6.right
  formed_or_any m g (apply at e f) a h = inl h.6.right
  formed_or_any m g (let_in at x e f) a h = by_one (formed_or_any m (h.0 ∷ g) f a h.3) (λ k t. (h.0, h.1, h.2, k t, h.4, h.5))
  formed_or_any m g (split at x y e f) a h = by_one (formed_or_any m (h.1 ∷ h.0 ∷ g) f a h.5)
      (λ k t. (h.0, h.1, h.2, h.3, h.4, k t, h.6, h.7, h.8))
  formed_or_any m g (if_else at e f i) a h = by_two (formed_or_any m g f a h.1) (formed_or_any m g i a h.2)
      (λ k l t. (h.0, k t, l t, h.3, h.4))
  formed_or_any m g (case_of at e bs) a h = by_one (arms_formed_or_any m _ g bs a h.5)
      (λ k t. (h.0, h.1, h.2, h.3, h.4, k t, h.6, h.7))
  formed_or_any m g (operate at o e f) a h = inl h.6.right
  formed_or_any m g (negate at e) a h = inl h.1.right
  formed_or_any m g (new at k) a h = inl h.3.right
  formed_or_any m g (send at e f) a h = inl h.7.right
  formed_or_any m g (receive at e) a h = inl h.5.right
  formed_or_any m g (close at e) a h = inl h.4.right
  formed_or_any m g (wait at e) a h = inl h.4.right
  formed_or_any m g (select at l e) a h = inl h.4.right
  formed_or_any m g (match_with at e bs) a h = by_one (arms_formed_or_any m (rest h.0) g bs a h.5)
      (λ k t. (h.0, h.1, h.2, h.3, h.4, k t, h.6, h.7))
  formed_or_any m g (fork at e) a h = inl h.3.right
  formed_or_any m g (seq at e f) a h = by_one (formed_or_any m g f a h.3) (λ k t. (h.0, h.1, h.2, k t, h.4))

  arms_formed_or_any : (m : Surroundings) (B : Binding) (g : List Variable) (bs : CoreArms) (a : Tree) → ArmsHaveType m B g bs a →
      IsFormed [] a ⊎ ((t : Tree) → ArmsHaveType m B g bs t)
  arms_formed_or_any m B g no_arms a h = inr (λ t. tt)
  arms_formed_or_any m B g (arm l xs e bs) a h =
      by_two (formed_or_any m (context.enter_all h.1 g) e a h.5) (arms_formed_or_any m B g bs a h.7)
      (λ k n t. (h.0, h.1, h.2, h.3, h.4, k t, h.6, n t))
