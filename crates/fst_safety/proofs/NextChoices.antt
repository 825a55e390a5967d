-- What a truth value and a constructor lead to: the values that the arm taken doesn't use hold no unspent end.
use Rattle.std.proofs.Common.{◌≡◌, ◌<◌, ℕ, ◌+◌, List, ◌∷◌, length, Bool, true, false, ◌||◌, Some, refl, sym, ap, ◌∙◌, subst, arith}
use Rattle.std.specs.Prelude.{slice_get, bytes_eq, option_map}
use Rattle.std.proofs.lemmas.Bool.{or_left, or_right}
use Rattle.fst_base.proofs.Options.{some_same}
use Rattle.fst_types.specs.Tree.{Tree, named}
use Rattle.fst_types.specs.declared.family.Maker.{Maker}
use Rattle.fst_base.proofs.Bools.{same_text}
use Rattle.fst_terms.specs.CoreTree.{CoreTree, CoreArms, no_arms, arm}
use Rattle.fst_terms.specs.declared.binder.Binder.{Binder}
use Rattle.fst_terms.specs.InRange.{maker_of, maker_named}
use Rattle.fst_arms.specs.Arms.{arm_labels}
use Rattle.fst_context.specs.Scope.{Variable, is_once}
use Rattle.fst_derivations.specs.Parts as context
use Rattle.fst_derivations.specs.Rules.{Surroundings, fields, Binds}
use Rattle.fst_machine.specs.Free.{free, free_below, outside_all}
use Rattle.fst_machine.specs.Values as value
use Rattle.fst_machine.specs.Values.{Value, Values, Environment, keep, count, enter_all, bool_in}
use Rattle.fst_machine.specs.Machine.{Frame, at_if, at_case, Pause, eval, eval_arm, on, on_made, chosen, name_of, in_either}
use Rattle.fst_runs.specs.Wrong.{held_all, held_env, held_frames}
use Rattle.fst_safety.specs.Running.{HasType}
use Rattle.fst_safety.specs.Fitting.{Residuals, Fits, FitAll, IsEnv, Takes}
use Rattle.fst_safety.specs.WellTyped.{IsWellTyped}
use Rattle.fst_safety.specs.Pauses.{Reached}
use Rattle.fst_safety.proofs.Exact.{exactly_enter_all}
use Rattle.fst_safety.proofs.Typed.{fits_enter_all}
use Rattle.fst_safety.proofs.Held.{counted_values, held_enter_all, held_kept}
use Rattle.fst_safety.proofs.Shapes.{nameds_equal}
use Rattle.fst_safety.proofs.Lists.{contains_map, contains_later, are_at_one}
use Rattle.fst_safety.proofs.Comes.{Comes, Good, GoodArms, counted, part, made_next, bool_next}

-- of two tests that are the same and of which one holds, the first holds
pub one_of : (a b : Bool) → a ≡ b → (a || b) ≡ true → a ≡ true
one_of true b e h = refl
one_of false b e h = e ∙ h

module _ (m : Surroundings) (w : IsWellTyped m) (r : Residuals) where
  -- one of two terms with the same linear variables goes on
  branch : (f : CoreTree) (q : ℕ → Bool) (env : Environment) (fs : List Frame) (back : Value → Pause) (g : List Variable)
      (b t : Tree) → Good m w r f →
      IsEnv m r g q env → ((k : ℕ) → free f k ≡ true → q k ≡ true) →
      ((k : ℕ) (y : Variable) → slice_get g k ≡ Some y → is_once y.uses ≡ true → q k ≡ true → free f k ≡ true) →
      HasType m g f b → Takes m r fs b t → Comes m w r back fs b t →
      Reached m r (eval m.families f (keep (free f) env) fs back) t (λ x. held_env x env + held_frames x fs)
  branch f q env fs back g b t h i s l d k c =
      counted m w r (eval m.families f (keep (free f) env) fs back) t (λ x. held_env x (keep (free f) env) + held_frames x fs)
      (λ x. held_env x env + held_frames x fs)
      (h (keep (free f) env) fs back g b t (part m w r g q (free f) env i s) d k c)
      (λ x u. let z = held_kept m w r x env g (free f) q u i.0 i.1 l in omega (arith, z))

  -- a truth value leads to one of two terms
  pub next_if : (f h : CoreTree) (env : Environment) (fs : List Frame) (back : Value → Pause) (a t : Tree) → Good m w r f →
      Good m w r h → (k : Takes m r (at_if f h env ∷ fs) a t) →
      Comes m w r back fs k.0 t →
      Comes m w r (λ v. on (bool_in v) (λ b. chosen b (eval m.families f (keep (free f) env) fs back)
      (eval m.families h (keep (free h) env) fs back))) (at_if f h env ∷ fs) a t
  next_if f h env fs back a t gf gh k c v g =
      bool_next m w r v t (λ x. held_env x env + held_frames x fs)
      (λ b. chosen b (eval m.families f (keep (free f) env) fs back) (eval m.families h (keep (free h) env) fs back))
      (subst (Fits m r v) k.2 g)
      pick
    where
      pick : (b : Bool) → Reached m r (chosen b (eval m.families f (keep (free f) env) fs back)
          (eval m.families h (keep (free h) env) fs back)) t (λ x. held_env x env + held_frames x fs)
      pick true =
          branch f (in_either f h) env fs back k.1 k.0 t gf k.3 (λ j. or_left (free f j) (free h j))
          (λ j y s l u. one_of (free f j) (free h j) (k.6 j y s l) u) k.4 k.7 c
      pick false =
          branch h (in_either f h) env fs back k.1 k.0 t gh k.3 (λ j. or_right (free f j) (free h j))
          (λ j y s l u. sym (k.6 j y s l) ∙ one_of (free f j) (free h j) (k.6 j y s l) u) k.5 k.7 c

  -- no arm has a label where there is none
  pub no_arm : GoodArms m w r no_arms
  no_arm l vs ts B env fs back g p b t c f o i s d a k h = let z : c.0 < 0 = c.1 in absurd (omega (arith, z))

  -- the first arm, or one behind it
  pub next_arm : (j : List ℕ) (xs : List Binder) (e : CoreTree) (bs : CoreArms) → Good m w r e → GoodArms m w r bs →
      GoodArms m w r (arm j xs e bs)
  next_arm j xs e bs he hb l vs ts B env fs back g p b t c f o i s d a k h = pick (bytes_eq l j) refl
    where
      here : l ≡ j → Reached m r (eval m.families e (enter_all (free e) vs (keep (outside_all xs (free e)) env)) fs back) t
          (λ x. (held_all x vs + held_env x env) + held_frames x fs)
      here q =
          let f' : FitAll m r vs d.0 = subst (FitAll m r vs) (sym (o d.0 (subst (λ n. Binds m B n d.0) (sym q) d.2))) f in
          let kept : IsEnv m r g (outside_all xs (free e)) (keep (outside_all xs (free e)) env) =
          part m w r g p (outside_all xs (free e)) env i
          (λ n u. s n (or_left (outside_all xs (free e) n) (free_below bs n) u)) in
          let many : length xs ≡ count vs = d.4 ∙ sym (counted_values m r vs d.0 d.1 f' d.3) in
          counted m w r (eval m.families e (enter_all (free e) vs (keep (outside_all xs (free e)) env)) fs back) t _ _
          (he (enter_all (free e) vs (keep (outside_all xs (free e)) env)) fs back (context.enter_all d.1 g) b t (
            fits_enter_all m r (free e) vs d.0 d.1 (keep (outside_all xs (free e)) env) g f' d.3 kept.0,
            exactly_enter_all xs (free e) vs (keep (outside_all xs (free e)) env) many kept.1,
          )
          d.5 k h)
          (λ x u.
          let y = held_enter_all m w r x (free e) vs d.0 d.1 (keep (outside_all xs (free e)) env) u f' d.3 d.6 in
          let z = held_kept m w r x env g (outside_all xs (free e)) p u i.0 i.1 (λ n v v1 v2 v3. a.0 n v v1 v2 ∙ v3) in
          omega (arith, y, z))

      pick : (z : Bool) → bytes_eq l j ≡ z →
          Reached m r (chosen z (eval m.families e (enter_all (free e) vs (keep (outside_all xs (free e)) env)) fs back)
          (eval_arm m.families bs l vs env fs back)) t
          (λ x. (held_all x vs + held_env x env) + held_frames x fs)
      pick true q = here (same_text l j q)
      pick false q =
          hb l vs ts B env fs back g p b t (contains_later j (arm_labels bs) l q c) f o i
          (λ n u. s n (or_right (outside_all xs (free e) n) (free_below bs n) u)) d.7 a.1 k h

  -- a constructor with its fields leads to its arm
  pub next_case : (bs : CoreArms) (env : Environment) (fs : List Frame) (back : Value → Pause) (a t : Tree) → GoodArms m w r bs →
      (k : Takes m r (at_case bs env ∷ fs) a t) →
      Comes m w r back fs k.2 t →
      Comes m w r (λ v. on_made v (λ n o vs. on (name_of m.families n o) (λ l. eval_arm m.families bs l vs env fs back)))
      (at_case bs env ∷ fs) a t
  next_case bs env fs back a t h k c v g =
      made_next m w r v k.0 t (λ x. held_env x env + held_frames x fs)
      (λ n o vs. on (name_of m.families n o) (λ l. eval_arm m.families bs l vs env fs back))
      (subst (Fits m r v) k.4 g) found
    where
      found : (n o : ℕ) (vs : Values) → Fits m r (value.made n o vs) (named k.0) →
          Reached m r (on (name_of m.families n o) (λ l. eval_arm m.families bs l vs env fs back)) t
          (λ x. held_all x vs + (held_env x env + held_frames x fs))
      found n o vs f =
          let maker : Maker = f.0 in
          let there : slice_get m.families n ≡ Some k.1 = subst (λ j. slice_get m.families j ≡ Some k.1) (nameds_equal f.5) k.6 in
          let at_place : slice_get k.1.makers.items o ≡ Some maker = subst (λ z. maker_of z o ≡ Some maker) there f.2 in
          let name : name_of m.families n o ≡ Some maker.name = ap (option_map (λ (q : Maker). q.name)) f.2 in
          let by_name : maker_named maker.name k.1.makers.items ≡ Some maker = w.names n o k.1 maker there at_place in
          subst (λ z. Reached m r (on z (λ l. eval_arm m.families bs l vs env fs back)) t
          (λ x. held_all x vs + (held_env x env + held_frames x fs))) (sym name)
          (counted m w r (eval_arm m.families bs maker.name vs env fs back) t
          (λ x. (held_all x vs + held_env x env) + held_frames x fs)
          (λ x. held_all x vs + (held_env x env + held_frames x fs))
          (h maker.name vs f.1 (fields k.1.makers.items) env fs back k.3 (free_below bs) k.2 t
          ((k.7.same maker.name).0 (contains_map (λ (q : Maker). q.name) k.1.makers.items o maker at_place)) f.4
          (λ us b. are_at_one m.types maker.fields.items f.1 us f.3
          (subst (λ (q : Maker). context.AreAt m.types q.fields.items us) (some_same (sym b.1 ∙ by_name)) b.2))
          k.5 (λ j u. u) k.8 k.9 k.10 c)
          (λ x u. omega arith))
