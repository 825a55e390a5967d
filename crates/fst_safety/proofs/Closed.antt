-- A typed term has no variable free that isn't in scope.
use Rattle.std.proofs.Common.{◌≡◌, ℕ, suc, ◌+◌, List, [], ◌∷◌, length, Bool, true, false, ◌||◌, Some, None, refl, sym, ap, ◌∙◌, arith}
use Rattle.std.specs.Prelude.{slice_get}
use Rattle.std.proofs.lemmas.Bool.{or_from}
use Rattle.fst_machine.proofs.Laws.{outside_all_at, is_same}
use Rattle.fst_base.proofs.Options.{none_some}
use Rattle.fst_types.specs.Tree as type
use Rattle.fst_types.specs.Tree.{Tree, plain, arrow, named}
use Rattle.fst_types.specs.declared.base.Base.TheVariants.{Bool as Truth}
use Rattle.fst_terms.specs.CoreTree.{CoreTree, local, global, int, bool, char, unit, pair, make, lambda, apply, let_in, split, if_else, case_of, operate, negate, new, send, receive, close, wait, select, match_with, fork, seq, CoreList, no_terms, term, CoreArms, no_arms, arm}
use Rattle.fst_context.specs.Scope.{Variable}
use Rattle.fst_derivations.specs.Parts as context
use Rattle.fst_derivations.specs.Rules.{Surroundings, Binding, fields, rest}
use Rattle.fst_machine.specs.Free.{is, free, free_in, free_below, outside_all}
use Rattle.fst_safety.specs.Running.{HasType, HaveTypes, ArmsHaveType}

elsewhere : (g : List Variable) (j k : ℕ) (v : Variable) (b : Bool) → is j k ≡ b → slice_get g j ≡ Some v → slice_get g k ≡ None →
    b ≡ false
elsewhere g j k v true e p q = absurd (none_some (sym q ∙ ap (slice_get g) (sym (is_same j k e)) ∙ p))
elsewhere g j k v false e p q = refl

-- outside the variables that are entered a context is what it was
pub entered_at : (vs g : List Variable) (k : ℕ) → slice_get (context.enter_all vs g) (length vs + k) ≡ slice_get g k
entered_at [] g k = ap (slice_get g) (omega arith)
entered_at (v ∷ vs) g k = ap (slice_get (context.enter_all vs (v ∷ g))) (omega arith) ∙ entered_at vs (v ∷ g) (suc k)

mutual
  -- what isn't in scope isn't free in a typed term
  pub closed_by : (m : Surroundings) (g : List Variable) (e : CoreTree) (t : Tree) (k : ℕ) → HasType m g e t →
      slice_get g k ≡ None → free e k ≡ false
  closed_by m g (local at j) t k d q = elsewhere g j k d.0 (is j k) refl d.1 q
  closed_by m g (global at n ks) t k d q = refl
  closed_by m g (int at n) t k d q = refl
  closed_by m g (bool at b) t k d q = refl
  closed_by m g (char at c) t k d q = refl
  closed_by m g (unit at) t k d q = refl
  closed_by m g (pair at e f) t k d q = or_from (free e k) (free f k) (closed_by m g e d.0 k d.2 q) (closed_by m g f d.1 k d.3 q)
  closed_by m g (make at n o es) t k d q = all_closed_by m g es d.1 k d.4 q
  closed_by m g (lambda at u j x e) t k d q = closed_by m (d.0 ∷ g) e d.1 (suc k) d.3 q
  closed_by m g (apply at e f) t k d q = or_from (free e k) (free f k) (closed_by m g e (arrow d.0 d.1 d.2) k d.3 q)
      (closed_by m g f d.1 k d.4 q)
  closed_by m g (let_in at x e f) t k d q = or_from (free e k) (free f (suc k)) (closed_by m g e d.0.type k d.2 q)
      (closed_by m (d.0 ∷ g) f t (suc k) d.3 q)
  closed_by m g (split at x y e f) t k d q =
      or_from (free e k) (free f (suc (suc k))) (closed_by m g e (type.pair d.0.type d.1.type) k d.4 q)
      (closed_by m (d.1 ∷ d.0 ∷ g) f t (suc (suc k)) d.5 q)
  closed_by m g (if_else at e f h) t k d q =
      or_from (free e k) (free f k || free h k) (closed_by m g e (plain Truth) k d.0 q)
      (or_from (free f k) (free h k) (closed_by m g f t k d.1 q) (closed_by m g h t k d.2 q))
  closed_by m g (case_of at e bs) t k d q = or_from (free e k) (free_below bs k) (closed_by m g e (named d.0) k d.2 q)
      (arms_closed_by m (fields d.1.makers.items) g bs t k d.5 q)
  closed_by m g (operate at o e f) t k d q = or_from (free e k) (free f k) (closed_by m g e d.0 k d.3 q)
      (closed_by m g f d.0 k d.4 q)
  closed_by m g (negate at e) t k d q = closed_by m g e (plain Truth) k d.0 q
  closed_by m g (new at n) t k d q = refl
  closed_by m g (send at e f) t k d q = or_from (free e k) (free f k) (closed_by m g e (plain d.0) k d.3 q)
      (closed_by m g f d.1 k d.4 q)
  closed_by m g (receive at e) t k d q = closed_by m g e d.1 k d.3 q
  closed_by m g (close at e) t k d q = closed_by m g e d.0 k d.2 q
  closed_by m g (wait at e) t k d q = closed_by m g e d.0 k d.2 q
  closed_by m g (select at l e) t k d q = closed_by m g e d.0 k d.2 q
  closed_by m g (match_with at e bs) t k d q = or_from (free e k) (free_below bs k) (closed_by m g e d.0 k d.2 q)
      (arms_closed_by m (rest d.0) g bs t k d.5 q)
  closed_by m g (fork at e) t k d q = closed_by m g e d.0 k d.1 q
  closed_by m g (seq at e f) t k d q = or_from (free e k) (free f k) (closed_by m g e d.0 k d.1 q) (closed_by m g f t k d.3 q)

  -- nor in terms
  pub all_closed_by : (m : Surroundings) (g : List Variable) (es : CoreList) (ts : List Tree) (k : ℕ) → HaveTypes m g es ts →
      slice_get g k ≡ None → free_in es k ≡ false
  all_closed_by m g no_terms ts k d q = refl
  all_closed_by m g (term e es) [] k d q = absurd d
  all_closed_by m g (term e es) (t ∷ ts) k d q =
      or_from (free e k) (free_in es k) (closed_by m g e t k d.0 q) (all_closed_by m g es ts k d.1 q)

  -- nor in arms
  pub arms_closed_by : (m : Surroundings) (B : Binding) (g : List Variable) (bs : CoreArms) (t : Tree) (k : ℕ) →
      ArmsHaveType m B g bs t → slice_get g k ≡ None → free_below bs k ≡ false
  arms_closed_by m B g no_arms t k d q = refl
  arms_closed_by m B g (arm l xs e bs) t k d q =
      or_from (outside_all xs (free e) k) (free_below bs k)
      (outside_all_at xs (free e) k ∙ ap (λ n. free e (n + k)) d.4
      ∙ closed_by m (context.enter_all d.1 g) e t (length d.1 + k) d.5 (entered_at d.1 g k ∙ q))
      (arms_closed_by m B g bs t k d.7 q)
