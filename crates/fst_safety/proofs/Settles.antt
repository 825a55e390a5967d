-- A typed state comes to an allowed request, and holds the same unspent ends there.
use Rattle.std.proofs.Common.{◌≡◌, ℕ, zero, suc, ◌+◌, List, [], ◌∷◌, false, not, Some, refl, sym, ◌∙◌, subst, arith}
use Rattle.fst_machine.proofs.Laws.{is_itself}
use Rattle.fst_types.specs.Tree as type
use Rattle.fst_types.specs.Tree.{Tree, plain, arrow, named}
use Rattle.fst_types.specs.declared.base.Base.TheVariants.{Bool as Truth}
use Rattle.fst_terms.specs.CoreTree.{CoreTree, local, global, int, bool, char, unit, pair, make, lambda, apply, let_in, split, if_else, case_of, operate, negate, new, send, receive, close, wait, select, match_with, fork, seq, CoreList, no_terms, term, CoreArms, no_arms, arm}
use Rattle.fst_derivations.specs.Rules.{Surroundings}
use Rattle.fst_types.specs.declared.ends.EndName.{EndName}
use Rattle.fst_types.specs.declared.event.Event.TheVariants.{Label}
use Rattle.fst_machine.specs.Free.{is, free, free_in, free_below, outside}
use Rattle.fst_machine.specs.Values as value
use Rattle.fst_machine.specs.Values.{Value, no_values, Environment, lookup, enter, keep, turned_onto, bool_in, operated, sent}
use Rattle.fst_machine.specs.Machine.{State, Frame, at_function, at_argument, at_first, at_second, at_field, at_let, at_split, at_if, at_case, at_left, at_right, at_not, at_value, at_target, at_receive, at_close, at_wait, at_select, at_match, at_seq, Pause, calls, puts, gets, closes, waits, matches, eval, eval_all, eval_arm, resume, pause, on, on_function, on_pair, on_made, on_end, chosen, name_of, in_either}
use Rattle.fst_runs.specs.Wrong.{held, held_all, held_env, held_frames, held_state}
use Rattle.fst_runs.proofs.Laws.{held_turned}
use Rattle.fst_safety.specs.Fitting.{Residuals, Fits, Exactly, Takes, IsTyped}
use Rattle.fst_safety.specs.WellTyped.{IsWellTyped}
use Rattle.fst_safety.specs.Pauses.{Reached}
use Rattle.fst_safety.proofs.Typed.{fits_equal, fits_lookup}
use Rattle.fst_safety.proofs.Held.{held_nothing, held_one}
use Rattle.fst_safety.proofs.Lists.{fit_turned}
use Rattle.fst_safety.proofs.Comes.{Comes, Good, GoodAll, GoodArms, counted, left, right, shared}
use Rattle.fst_safety.proofs.Next.{next_argument, next_function, next_second, next_first, next_field, next_let, next_split, next_seq, next_right, next_left, next_not, next_target, next_value, next_receive, next_close, next_wait, next_select, next_match}
use Rattle.fst_safety.proofs.NextChoices.{next_if, no_arm, next_arm, next_case}

module _ (m : Surroundings) (w : IsWellTyped m) (r : Residuals) where
  found : (env : Environment) (fs : List Frame) (back : Value → Pause) (j : ℕ) (t : Tree) (v : Value) → lookup env j ≡ Some v →
      Exactly (is j) env →
      Reached m r (back v) t (λ x. held x v + held_frames x fs) → Reached m r (on (lookup env j) back) t
      (λ x. held_env x env + held_frames x fs)
  found env fs back j t v q i h =
      subst (λ o. Reached m r (on o back) t (λ x. held_env x env + held_frames x fs)) (sym q)
      (counted m w r (back v) t _ _ h (λ x u. let z = held_one x env j v q i in omega (arith, z)))

  -- a value that is written in the term, where no variable is used
  written : (v : Value) (env : Environment) (fs : List Frame) (back : Value → Pause) (a t : Tree) →
      ((x : EndName) → held x v ≡ 0) → Exactly (λ k. false) env →
      Fits m r v a → Comes m w r back fs a t → Reached m r (back v) t (λ x. held_env x env + held_frames x fs)
  written v env fs back a t n i f k =
      counted m w r (back v) t _ _ (k v f) (λ x u. let y = n x in let z = held_nothing x env i in omega (arith, y, z))

  mutual
    -- a typed term comes to an allowed request
    pub term_goes : (e : CoreTree) → Good m w r e
    term_goes (local at j) env fs back g a t i d k c =
        let f = fits_lookup m r env j g d.0 i.0 (i.1 j ∙ is_itself j) d.1 in
        found env fs back j t f.0 f.1 i.1 (c f.0 (fits_equal m r f.0 d.0.type a f.2 d.2))
    term_goes (global at n ks) env fs back g a t i d k c =
        ((d.0, d.1, a, d.2, k), λ x u. let z = held_nothing x env i.1 in omega (arith, z))
    term_goes (int at n) env fs back g a t i d k c = written (value.int n) env fs back a t (λ x. refl) i.1 d c
    term_goes (bool at b) env fs back g a t i d k c = written (value.bool b) env fs back a t (λ x. refl) i.1 d c
    term_goes (char at n) env fs back g a t i d k c = written (value.char n) env fs back a t (λ x. refl) i.1 d c
    term_goes (unit at) env fs back g a t i d k c = written value.unit env fs back a t (λ x. refl) i.1 d c
    term_goes (pair at e f) env fs back g a t i d k c =
        let env2 : Environment = keep (free f) env in
        let kk : Takes m r (at_first f env2 ∷ fs) d.0 t = (d.1, g, right m w r g (free e) (free f) env i, d.3, a, d.5, k) in
        counted m w r (eval m.families (pair at e f) env fs back) t _ _
        (term_goes e (keep (free e) env) (at_first f env2 ∷ fs)
        (λ v. eval m.families f env2 (at_second v ∷ fs) (λ z. back (value.pair v z))) g d.0 t
        (left m w r g (free e) (free f) env i) d.2 kk (next_first m w r f env2 fs back d.0 t (term_goes f) kk c))
        (shared m w r g (free e) (free f) env fs i d.4)
    term_goes (make at n o es) env fs back g a t i d k c =
        counted m w r (eval_all m.families es n o no_values env fs back) t (λ x. (0 + held_env x env) + held_frames x fs)
        (λ x. held_env x env + held_frames x fs)
        (terms_go es n o no_values env fs back g d.0 d.1 d.1 a t d.2 d.3 refl i d.4 d.5 k c) (λ x u. omega arith)
    term_goes (lambda at u j x e) env fs back g a t i d k c =
        c (value.function e env) (g, u, d.0, d.1, i.0, i.1, d.2, d.3, d.4, d.5, d.6)
    term_goes (apply at e f) env fs back g a t i d k c =
        let env2 : Environment = keep (free f) env in
        let kk : Takes m r (at_function f env2 ∷ fs) (arrow d.0 d.1 d.2) t =
        (d.0, d.1, d.2, g, refl, right m w r g (free e) (free f) env i, d.4, a, d.6, k) in
        counted m w r (eval m.families (apply at e f) env fs back) t _ _
        (term_goes e (keep (free e) env) (at_function f env2 ∷ fs)
        (λ v. eval m.families f env2 (at_argument v ∷ fs) (λ z. on_function v (λ b own. calls b own z fs))) g
        (arrow d.0 d.1 d.2) t
        (left m w r g (free e) (free f) env i) d.3 kk (next_function m w r f env2 fs (arrow d.0 d.1 d.2) t (term_goes f) kk))
        (shared m w r g (free e) (free f) env fs i d.5)
    term_goes (let_in at x e f) env fs back g a t i d k c =
        let env2 : Environment = keep (outside (free f)) env in
        let kk : Takes m r (at_let f env2 ∷ fs) d.0.type t =
        (d.0, a, g, refl, d.1, right m w r g (free e) (outside (free f)) env i, d.3, d.4, k) in
        counted m w r (eval m.families (let_in at x e f) env fs back) t _ _
        (term_goes e (keep (free e) env) (at_let f env2 ∷ fs)
        (λ v. eval m.families f (enter (free f zero) v env2) fs back) g d.0.type t
        (left m w r g (free e) (outside (free f)) env i) d.2 kk (next_let m w r f env2 fs back d.0.type t (term_goes f) kk c))
        (shared m w r g (free e) (outside (free f)) env fs i d.5)
    term_goes (split at x y e f) env fs back g a t i d k c =
        let env2 : Environment = keep (outside (outside (free f))) env in
        let kk : Takes m r (at_split f env2 ∷ fs) (type.pair d.0.type d.1.type) t =
        (d.0, d.1, a, g, refl, d.2, d.3, right m w r g (free e) (outside (outside (free f))) env i, d.5, d.6, d.7, k) in
        counted m w r (eval m.families (split at x y e f) env fs back) t _ _
        (term_goes e (keep (free e) env) (at_split f env2 ∷ fs)
        (λ v. on_pair v (λ y z. eval m.families f (enter (free f zero) z (enter (free f (suc zero)) y env2)) fs back)) g
        (type.pair d.0.type d.1.type) t
        (left m w r g (free e) (outside (outside (free f))) env i) d.4 kk
        (next_split m w r f env2 fs back (type.pair d.0.type d.1.type) t (term_goes f) kk c))
        (shared m w r g (free e) (outside (outside (free f))) env fs i d.8)
    term_goes (if_else at e f h) env fs back g a t i d k c =
        let env2 : Environment = keep (in_either f h) env in
        let kk : Takes m r (at_if f h env2 ∷ fs) (plain Truth) t =
        (a, g, refl, right m w r g (free e) (in_either f h) env i, d.1, d.2, d.3, k) in
        counted m w r (eval m.families (if_else at e f h) env fs back) t _ _
        (term_goes e (keep (free e) env) (at_if f h env2 ∷ fs)
        (λ v. on (bool_in v) (λ b. chosen b (eval m.families f (keep (free f) env2) fs back)
        (eval m.families h (keep (free h) env2) fs back))) g (plain Truth) t
        (left m w r g (free e) (in_either f h) env i) d.0 kk
        (next_if m w r f h env2 fs back (plain Truth) t (term_goes f) (term_goes h) kk c))
        (shared m w r g (free e) (in_either f h) env fs i d.4)
    term_goes (case_of at e bs) env fs back g a t i d k c =
        let env2 : Environment = keep (free_below bs) env in
        let kk : Takes m r (at_case bs env2 ∷ fs) (named d.0) t =
        (d.0, d.1, a, g, refl, right m w r g (free e) (free_below bs) env i, d.3, d.4, d.5, d.6, k) in
        counted m w r (eval m.families (case_of at e bs) env fs back) t _ _
        (term_goes e (keep (free e) env) (at_case bs env2 ∷ fs)
        (λ v. on_made v (λ n o vs. on (name_of m.families n o) (λ l. eval_arm m.families bs l vs env2 fs back))) g
        (named d.0) t
        (left m w r g (free e) (free_below bs) env i) d.2 kk (next_case m w r bs env2 fs back (named d.0) t (arms_go bs) kk c))
        (shared m w r g (free e) (free_below bs) env fs i d.7)
    term_goes (operate at o e f) env fs back g a t i d k c =
        let env2 : Environment = keep (free f) env in
        let kk : Takes m r (at_left o f env2 ∷ fs) d.0 t = (d.1, g, d.2, right m w r g (free e) (free f) env i, d.4, a, d.6, k) in
        counted m w r (eval m.families (operate at o e f) env fs back) t _ _
        (term_goes e (keep (free e) env) (at_left o f env2 ∷ fs)
        (λ v. eval m.families f env2 (at_right o v ∷ fs) (λ z. on (operated o v z) back)) g d.0 t
        (left m w r g (free e) (free f) env i) d.3 kk (next_left m w r o f env2 fs back d.0 t (term_goes f) kk c))
        (shared m w r g (free e) (free f) env fs i d.5)
    term_goes (negate at e) env fs back g a t i d k c =
        let kk : Takes m r (at_not ∷ fs) (plain Truth) t = (refl, a, d.1, k) in
        counted m w r (eval m.families (negate at e) env fs back) t _ _
        (term_goes e env (at_not ∷ fs) (λ v. on (bool_in v) (λ b. back (value.bool (not b)))) g (plain Truth) t i d.0 kk
        (next_not m w r fs back (plain Truth) t kk c))
        (λ x u. omega arith)
    term_goes (new at n) env fs back g a t i d k c =
        ((d.0, d.1, d.2, a, d.3, k), λ x u. let z = held_nothing x env i.1 in omega (arith, z))
    term_goes (send at e f) env fs back g a t i d k c =
        let env2 : Environment = keep (free f) env in
        let kk : Takes m r (at_value f env2 ∷ fs) (plain d.0) t =
        (d.0, d.1, d.2, g, refl, right m w r g (free e) (free f) env i, d.4, d.5, a, d.7, k) in
        counted m w r (eval m.families (send at e f) env fs back) t _ _
        (term_goes e (keep (free e) env) (at_value f env2 ∷ fs)
        (λ v. eval m.families f env2 (at_target v ∷ fs) (λ z. on_end z (λ y. on (sent v) (λ ev. puts y ev fs)))) g
        (plain d.0) t
        (left m w r g (free e) (free f) env i) d.3 kk (next_value m w r f env2 fs (plain d.0) t (term_goes f) kk))
        (shared m w r g (free e) (free f) env fs i d.6)
    term_goes (receive at e) env fs back g a t i d k c =
        let kk : Takes m r (at_receive ∷ fs) d.1 t = (d.0, d.2, d.4, a, d.5, k) in
        counted m w r (eval m.families (receive at e) env fs back) t _ _
        (term_goes e env (at_receive ∷ fs) (λ v. on_end v (λ y. gets y fs)) g d.1 t i d.3 kk (next_receive m w r fs d.1 t kk))
        (λ x u. omega arith)
    term_goes (close at e) env fs back g a t i d k c =
        let kk : Takes m r (at_close ∷ fs) d.0 t = (d.1, d.3, a, d.4, k) in
        counted m w r (eval m.families (close at e) env fs back) t _ _
        (term_goes e env (at_close ∷ fs) (λ v. on_end v (λ y. closes y fs)) g d.0 t i d.2 kk (next_close m w r fs d.0 t kk))
        (λ x u. omega arith)
    term_goes (wait at e) env fs back g a t i d k c =
        let kk : Takes m r (at_wait ∷ fs) d.0 t = (d.1, d.3, a, d.4, k) in
        counted m w r (eval m.families (wait at e) env fs back) t _ _
        (term_goes e env (at_wait ∷ fs) (λ v. on_end v (λ y. waits y fs)) g d.0 t i d.2 kk (next_wait m w r fs d.0 t kk))
        (λ x u. omega arith)
    term_goes (select at l e) env fs back g a t i d k c =
        let kk : Takes m r (at_select l ∷ fs) d.0 t = (d.1, d.3, a, d.4, k) in
        counted m w r (eval m.families (select at l e) env fs back) t _ _
        (term_goes e env (at_select l ∷ fs) (λ v. on_end v (λ y. puts y (Label l) fs)) g d.0 t i d.2 kk
        (next_select m w r l fs d.0 t kk)) (λ x u. omega arith)
    term_goes (match_with at e bs) env fs back g a t i d k c =
        let env2 : Environment = keep (free_below bs) env in
        let kk : Takes m r (at_match bs env2 ∷ fs) d.0 t =
        (d.1, a, g, d.3, d.4, right m w r g (free e) (free_below bs) env i, d.5, d.6, k) in
        counted m w r (eval m.families (match_with at e bs) env fs back) t _ _
        (term_goes e (keep (free e) env) (at_match bs env2 ∷ fs) (λ v. on_end v (λ y. matches y bs env2 fs)) g d.0 t
        (left m w r g (free e) (free_below bs) env i) d.2 kk (next_match m w r bs env2 fs d.0 t kk))
        (shared m w r g (free e) (free_below bs) env fs i d.7)
    term_goes (fork at e) env fs back g a t i d k c = ((d.0, g, i, d.1, d.2, a, d.3, k), λ x u. refl)
    term_goes (seq at e f) env fs back g a t i d k c =
        let env2 : Environment = keep (free f) env in
        let kk : Takes m r (at_seq f env2 ∷ fs) d.0 t = (a, g, d.2, right m w r g (free e) (free f) env i, d.3, k) in
        counted m w r (eval m.families (seq at e f) env fs back) t _ _
        (term_goes e (keep (free e) env) (at_seq f env2 ∷ fs) (λ v. eval m.families f env2 fs back) g d.0 t
        (left m w r g (free e) (free f) env i) d.1 kk (next_seq m w r f env2 fs back d.0 t (term_goes f) kk c))
        (shared m w r g (free e) (free f) env fs i d.4)

    -- so do the arguments of a constructor
    pub terms_go : (es : CoreList) → GoodAll m w r es
    terms_go no_terms n o done env fs back g q all [] a t h p b i d e k c =
        counted m w r (back (value.made n o (turned_onto done no_values))) t _ _
        (c (value.made n o (turned_onto done no_values)) (q, all, h, p, fit_turned m r done no_values all [] b tt, e))
        (λ x u. let y = held_turned x done no_values in let z = held_nothing x env i.1 in omega (arith, y, z))
    terms_go no_terms n o done env fs back g q all (s ∷ ts) a t h p b i d e k c = absurd d
    terms_go (term e es) n o done env fs back g q all [] a t h p b i d l k c = absurd d
    terms_go (term e es) n o done env fs back g q all (s ∷ ts) a t h p b i d l k c =
        let env2 : Environment = keep (free_in es) env in
        let kk : Takes m r (at_field n o done es env2 ∷ fs) s t =
        (q, all, ts, g, h, p, b, right m w r g (free e) (free_in es) env i, d.1, a, l, k) in
        counted m w r (eval_all m.families (term e es) n o done env fs back) t
        (λ x. held_env x (keep (free e) env) + ((held_all x done + held_env x env2) + held_frames x fs)) _
        (term_goes e (keep (free e) env) (at_field n o done es env2 ∷ fs)
        (λ v. eval_all m.families es n o (value.value v done) env2 fs back) g s t
        (left m w r g (free e) (free_in es) env i) d.0 kk (next_field m w r n o done es env2 fs back s t (terms_go es) kk c))
        (λ x u. let z = shared m w r g (free e) (free_in es) env fs i d.2 x u in omega (arith, z))

    -- so does the arm of a label
    pub arms_go : (bs : CoreArms) → GoodArms m w r bs
    arms_go no_arms = no_arm m w r
    arms_go (arm l xs e bs) = next_arm m w r l xs e bs (term_goes e) (arms_go bs)

  -- a value comes through typed frames to an allowed request
  pub value_goes : (fs : List Frame) (a t : Tree) → Takes m r fs a t → Comes m w r (resume m.families fs) fs a t
  value_goes [] a t k v f = (fits_equal m r v a t f k, λ x u. omega arith)
  value_goes (at_function e env ∷ fs) a t k y h = next_function m w r e env fs a t (term_goes e) k y h
  value_goes (at_argument v ∷ fs) a t k y h = next_argument m w r v fs a t k y h
  value_goes (at_first e env ∷ fs) a t k y h = next_first m w r e env fs (resume m.families fs) a t (term_goes e) k
      (value_goes fs k.4 t k.6) y h
  value_goes (at_second v ∷ fs) a t k y h = next_second m w r v fs (resume m.families fs) a t k (value_goes fs k.2 t k.4) y h
  value_goes (at_field n o done es env ∷ fs) a t k y h =
      next_field m w r n o done es env fs (resume m.families fs) a t (terms_go es) k (value_goes fs k.9 t k.11) y h
  value_goes (at_let e env ∷ fs) a t k y h = next_let m w r e env fs (resume m.families fs) a t (term_goes e) k
      (value_goes fs k.1 t k.8) y h
  value_goes (at_split e env ∷ fs) a t k y h = next_split m w r e env fs (resume m.families fs) a t (term_goes e) k
      (value_goes fs k.2 t k.11) y h
  value_goes (at_if e f env ∷ fs) a t k y h = next_if m w r e f env fs (resume m.families fs) a t (term_goes e) (term_goes f) k
      (value_goes fs k.0 t k.7) y h
  value_goes (at_case bs env ∷ fs) a t k y h = next_case m w r bs env fs (resume m.families fs) a t (arms_go bs) k
      (value_goes fs k.2 t k.10) y h
  value_goes (at_left o e env ∷ fs) a t k y h =
      next_left m w r o e env fs (resume m.families fs) a t (term_goes e) k (value_goes fs k.5 t k.7) y h
  value_goes (at_right o v ∷ fs) a t k y h = next_right m w r o v fs (resume m.families fs) a t k (value_goes fs k.3 t k.5) y h
  value_goes (at_not ∷ fs) a t k y h = next_not m w r fs (resume m.families fs) a t k (value_goes fs k.1 t k.3) y h
  value_goes (at_value e env ∷ fs) a t k y h = next_value m w r e env fs a t (term_goes e) k y h
  value_goes (at_target v ∷ fs) a t k y h = next_target m w r v fs a t k y h
  value_goes (at_receive ∷ fs) a t k y h = next_receive m w r fs a t k y h
  value_goes (at_close ∷ fs) a t k y h = next_close m w r fs a t k y h
  value_goes (at_wait ∷ fs) a t k y h = next_wait m w r fs a t k y h
  value_goes (at_select l ∷ fs) a t k y h = next_select m w r l fs a t k y h
  value_goes (at_match bs env ∷ fs) a t k y h = next_match m w r bs env fs a t k y h
  value_goes (at_seq e env ∷ fs) a t k y h = next_seq m w r e env fs (resume m.families fs) a t (term_goes e) k
      (value_goes fs k.0 t k.5) y h

  -- a typed state comes to an allowed request, with the same unspent ends
  pub pause_goes : (s : State) (t : Tree) → IsTyped m r s t → Reached m r (pause m.families s) t (λ x. held_state x s)
  pause_goes s t h =
      term_goes s.term s.environment s.frames (resume m.families s.frames) h.variables h.type t h.environment h.term h.frames
      (value_goes s.frames h.type t h.frames)
