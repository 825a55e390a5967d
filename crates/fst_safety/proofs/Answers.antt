-- The state after an answer is typed, and holds the same unspent ends.
use Rattle.std.proofs.Common.{◌≡◌, ◌<◌, ℕ, zero, suc, ◌+◌, List, [], ◌∷◌, length, map, Bool, true, false, if◌then◌else◌, Some, Contains, slice_index_or, IsSome, le_of_suc-le-suc, refl, sym, ap, ◌∙◌, subst, arith}
use Rattle.std.specs.Prelude.{option_map, slice_get, bytes_eq}
use Rattle.std.proofs.lemmas.Bool.{or_left, or_right}
use Rattle.fst_base.proofs.Options.{some_same, none_some}
use Rattle.fst_types.specs.Tree.{Tree, arrow}
use Rattle.fst_types.specs.declared.label.Label.TheVariants.{Offer}
use Rattle.fst_base.proofs.Bools.{same_text}
use Rattle.fst_lts.specs.Step.{step}
use Rattle.fst_lts.proofs.Laws.{labels_are_moves}
use Rattle.fst_terms.specs.CoreTree.{CoreTree, CoreArms, no_arms, arm}
use Rattle.fst_terms.specs.declared.binder.Binder.{Binder}
use Rattle.fst_terms.specs.declared.global.GlobalEntry.{GlobalEntry}
use Rattle.fst_arms.specs.Arms.{arm_labels, AreEachOnce}
use Rattle.fst_context.specs.Scope.{Variable}
use Rattle.fst_derivations.specs.Parts as context
use Rattle.fst_derivations.specs.Parts.{HasUse, AreVariables, IsOffering}
use Rattle.fst_derivations.specs.Rules.{Surroundings, rest}
use Rattle.fst_types.specs.declared.ends.EndName.{EndName}
use Rattle.fst_machine.specs.Free.{is, free, free_below, outside, outside_all}
use Rattle.fst_machine.specs.Values as value
use Rattle.fst_machine.specs.Values.{Value, Environment, none, slot, enter, keep}
use Rattle.fst_machine.specs.declared.request.Answer.TheVariants.{Go}
use Rattle.fst_machine.specs.Machine.{State, Frame, Pause, stuck, calls, uses, makes, forks, puts, gets, closes, waits, matches, ended, giving, begins, arm_state, after, or_lost}
use Rattle.fst_runs.specs.Configs.{bodies}
use Rattle.fst_runs.specs.Wrong.{held, held_env, held_frames, held_pause}
use Rattle.fst_safety.specs.Running.{Alike, SpendAll, AreAlike, HasType, ArmsHaveType}
use Rattle.fst_safety.specs.Fitting.{Residuals, Exactly, Fits, IsEnv, Takes}
use Rattle.fst_safety.specs.WellTyped.{IsWellTyped, program_in}
use Rattle.fst_safety.specs.Pauses.{Allowed, Goes}
use Rattle.fst_safety.proofs.Equals.{equals_itself, equals_back, equals_through, use_formed, formed_use, arrows_equal}
use Rattle.fst_safety.proofs.Exact.{exactly_enter, exactly_keep}
use Rattle.fst_safety.proofs.Typed.{type_equal, fits_equal, fits_formed, fits_enter, fits_keep}
use Rattle.fst_safety.proofs.Held.{held_enter, held_kept}
use Rattle.fst_safety.proofs.Lists.{contains_later}
use Rattle.fst_safety.proofs.Closed.{closed_by}

-- the body of a global that is there
pub body_at : (gs : List GlobalEntry) (k : ℕ) (g : GlobalEntry) → slice_get gs k ≡ Some g → slice_get (bodies gs) k ≡ Some g.body
body_at [] k g q = absurd (cc q)
body_at (h ∷ gs) zero g q = λ i. Some (some_same q i).body
body_at (h ∷ gs) (suc k) g q = body_at gs k g q

offered : (names : List (List ℕ)) (l : List ℕ) (k : ℕ) → k < length (map Offer names) →
    slice_index_or (map Offer names) k (Offer l) ≡ Offer l → Contains names l
offered [] l k i e = absurd (omega (arith, i))
offered (n ∷ names) l zero i e = (zero, omega arith, same e)
  where
    same : Offer n ≡ Offer l → n ≡ l
    same q = cc
offered (n ∷ names) l (suc k) i e =
    let c = offered names l k (le_of_suc-le-suc i) e in
    let b : c.0 < length names = c.1 in
    (suc c.0, omega (arith, b), c.2)

-- a label by which a type moves that offers these names is one of them
pub offered_name : (s : Tree) (names : List (List ℕ)) (l : List ℕ) (q : Tree) → IsOffering s names → step s (Offer l) ≡ Some q →
    Contains names l
offered_name s names l q o e =
    let c = (labels_are_moves s (Offer l)).1 (subst IsSome (sym e) refl) in
    let d = subst (λ ls. Contains ls (Offer l)) o.labels c in
    offered names l d.0 d.1 d.2

module _ (m : Surroundings) (w : IsWellTyped m) (r : Residuals) where
  -- a function's body, with its argument bound
  pub call_goes : (e : CoreTree) (env : Environment) (v : Value) (fs : List Frame) (t : Tree) → Allowed m r (calls e env v fs) t →
      Goes m r (record { term = e; environment = enter (free e zero) v env; frames = fs }) t
      (λ x. held_pause x (calls e env v fs))
  call_goes e env v fs t a =
      let f : Fits m r (value.function e env) (arrow a.0 a.1 a.2) = a.3 in
      let q = arrows_equal f.10 in
      let g : Fits m r v f.2.type = fits_equal m r v a.1 f.2.type a.4 (equals_back q.1) in (
        record {
          variables = f.2 ∷ f.0;
          type = a.5;
          environment = (
            fits_enter m r (free e zero) v env f.2 f.0 g f.6 f.4,
            exactly_enter (free e zero) v env (free e) refl f.5,
          );
          term = type_equal m (f.2 ∷ f.0) e f.3 a.5 f.7 (equals_through q.2 a.6);
          frames = a.7;
        },
        λ x u. let z = held_enter m w r x (free e zero) v env f.2 u g f.6 f.8 in omega (arith, z),
      )

  -- the body of a global that is used is there
  pub use_there : (g : ℕ) (fs : List Frame) (t : Tree) → Allowed m r (uses g fs) t → (e : CoreTree) ×
      (slice_get (bodies m.globals) g ≡ Some e)
  use_there g fs t a = (a.1.entry.body, body_at m.globals g a.1.entry a.1.there)

  -- and it is what runs on
  pub use_goes : (g : ℕ) (e : CoreTree) (fs : List Frame) (t : Tree) → slice_get (bodies m.globals) g ≡ Some e →
      Allowed m r (uses g fs) t →
      Goes m r (begins e fs) t (λ x. held_pause x (uses g fs))
  use_goes g e fs t q a =
      let same : a.1.entry.body ≡ e = some_same (sym (body_at m.globals g a.1.entry a.1.there) ∙ q) in
      let d : HasType m [] e a.0 =
      subst (λ b. HasType m [] b a.0) same
      (subst (HasType m [] a.1.entry.body) (sym a.1.is)
      (w.bodies_typed g a.1.entry a.1.signature a.1.arguments a.1.there a.1.written a.1.closing)) in (
        record {
          variables = [];
          type = a.2;
          environment = (tt, λ k. sym (closed_by m [] e a.0 k d refl));
          term = type_equal m [] e a.0 a.2 d a.3;
          frames = a.4;
        },
        λ x u. omega arith,
      )

  only_one : (v : Value) → Exactly (is zero) (slot v none)
  only_one v zero = refl
  only_one v (suc k) = refl

  -- a value on its way to what waits for it
  pub giving_goes : (v : Value) (fs : List Frame) (a t : Tree) → Fits m r v a → Takes m r fs a t → Goes m r (giving v fs) t
      (λ x. held x v + held_frames x fs)
  giving_goes v fs a t f k =
      let u = formed_use (fits_formed m r v a f) in
      let y : Variable = record { type = a; uses = u.0 } in (
        record {
          variables = y ∷ [];
          type = a;
          environment = ((f, u.1, tt), only_one v);
          term = (y, refl, equals_itself a (fits_formed m r v a f));
          frames = k;
        },
        λ x h. omega arith,
      )

  -- the task that a fork makes
  pub child_goes : (e : CoreTree) (env : Environment) (fs : List Frame) (t : Tree) → Allowed m r (forks e env fs) t →
      (a : Tree) × Goes m r (record { term = e; environment = env; frames = [] }) a (λ x. held_env x env)
  child_goes e env fs t h = (
    h.0,
    (
      record { variables = h.1; type = h.0; environment = h.2; term = h.3; frames = equals_itself h.0 (use_formed h.4) },
      λ x u. omega arith,
    ),
  )

  -- and the task that forks
  pub parent_goes : (e : CoreTree) (env : Environment) (fs : List Frame) (t : Tree) → Allowed m r (forks e env fs) t →
      Goes m r (giving value.unit fs) t (λ x. held_frames x fs)
  parent_goes e env fs t h =
      let g = giving_goes value.unit fs h.5 t h.6 h.7 in
      (g.0, λ x u. let z = g.1 x u in omega (arith, z))

  -- an arm with one variable, which stands for the end
  one_arm : (y : EndName) (e : CoreTree) (env : Environment) (fs : List Frame) (q b t : Tree) (g : List Variable) (p : ℕ → Bool)
      (xs : List Binder) (ts : List Tree) (vs : List Variable) →
      Fits m r (value.end y) q → IsEnv m r g p env → ts ≡ q ∷ [] → AreVariables [] ts vs → length xs ≡ length vs →
      HasType m (context.enter_all vs g) e b → SpendAll vs (free e) →
      Alike g (outside_all xs (free e)) p → ((k : ℕ) → outside_all xs (free e) k ≡ true → p k ≡ true) → Takes m r fs b t →
      Goes m r (record { term = e; environment = enter (free e zero) (value.end y) (keep (outside (free e)) env); frames = fs }) t
      (λ x. (held x (value.end y) + held_env x env) + held_frames x fs)
  one_arm y e env fs q b t g p xs [] vs f i s a n d l al su k = absurd (cc s)
  one_arm y e env fs q b t g p xs (z ∷ z2 ∷ ts) vs f i s a n d l al su k = absurd (cc s)
  one_arm y e env fs q b t g p xs (z ∷ []) [] f i s a n d l al su k = absurd a
  one_arm y e env fs q b t g p xs (z ∷ []) (v ∷ v2 ∷ vs) f i s a n d l al su k = absurd a.2
  one_arm y e env fs q b t g p [] (z ∷ []) (v ∷ []) f i s a n d l al su k = absurd (cc n)
  one_arm y e env fs q b t g p (x ∷ x2 ∷ xs) (z ∷ []) (v ∷ []) f i s a n d l al su k = absurd (cc n)
  one_arm y e env fs q b t g p (x ∷ []) (z ∷ []) (v ∷ []) f i s a n d l al su k =
      let first : z ≡ q = cc in
      let is : q ≡ v.type = sym (a.0 ∙ first) in
      let f' : Fits m r (value.end y) v.type = subst (Fits m r (value.end y)) is f in
      let h : HasUse [] v.type v.uses = subst (λ o. HasUse [] o v.uses) (sym a.0) a.1 in
      let k1 : Environment = keep (outside (free e)) env in (
        record {
          variables = v ∷ g;
          type = b;
          environment = (
            fits_enter m r (free e zero) (value.end y) k1 v g f' h (fits_keep m r env (outside (free e)) g i.0),
            exactly_enter (free e zero) (value.end y) k1 (free e) refl (exactly_keep env p (outside (free e)) i.1 su),
          );
          term = d;
          frames = k;
        },
        λ j u.
            let c = held_enter m w r j (free e zero) (value.end y) k1 v u f' h l.0 in
            let c2 = held_kept m w r j env g (outside (free e)) p u i.0 i.1 (λ n o o1 o2 o3. al n o o1 o2 ∙ o3) in
            omega (arith, c, c2),
      )

  arms_match : (bs : CoreArms) (l : List ℕ) (y : EndName) (env : Environment) (fs : List Frame) (s q b t : Tree)
      (g : List Variable) (p : ℕ → Bool) →
      Contains (arm_labels bs) l → Fits m r (value.end y) q → step s (Offer l) ≡ Some q → IsEnv m r g p env →
      ((k : ℕ) → free_below bs k ≡ true → p k ≡ true) →
      ArmsHaveType m (rest s) g bs b → AreAlike g p bs → Takes m r fs b t →
      Goes m r (arm_state bs l y env fs) t (λ x. (held x (value.end y) + held_env x env) + held_frames x fs)
  arms_match no_arms l y env fs s q b t g p c f o i su d al k = let z : c.0 < 0 = c.1 in absurd (omega (arith, z))
  arms_match (arm j xs e bs) l y env fs s q b t g p c f o i su d al k =
      pick (λ c'. arms_match bs l y env fs s q b t g p c' f o i
      (λ n u. su n (or_right (outside_all xs (free e) n) (free_below bs n) u)) d.7 al.1 k) (bytes_eq l j) refl
    where
      pick : (Contains (arm_labels bs) l → Goes m r (arm_state bs l y env fs) t
          (λ x. (held x (value.end y) + held_env x env) + held_frames x fs)) → (z : Bool) → bytes_eq l j ≡ z →
          Goes m r (if z then record {
            term = e;
            environment = enter (free e zero) (value.end y) (keep (outside (free e)) env);
            frames = fs;
          } else arm_state bs l y env fs) t
          (λ x. (held x (value.end y) + held_env x env) + held_frames x fs)
      pick more true eq =
          one_arm y e env fs q b t g p xs d.0 d.1 f i
          (d.2.2 ∙ ap (λ (z : Tree). z ∷ []) (some_same (sym d.2.1 ∙ ap (λ n. step s (Offer n)) (sym (same_text l j eq)) ∙ o)))
          d.3 d.4 d.5 d.6 al.0 (λ n u. su n (or_left (outside_all xs (free e) n) (free_below bs n) u)) k
      pick more false eq = more (contains_later j (arm_labels bs) l eq c)

  -- the arm of a label that came
  pub match_goes : (y : EndName) (bs : CoreArms) (l : List ℕ) (names : List (List ℕ)) (env : Environment) (fs : List Frame)
      (s q b t : Tree) (g : List Variable) →
      Fits m r (value.end y) q → IsOffering s names → AreEachOnce names (arm_labels bs) → step s (Offer l) ≡ Some q →
      IsEnv m r g (free_below bs) env →
      ArmsHaveType m (rest s) g bs b → AreAlike g (free_below bs) bs → Takes m r fs b t →
      Goes m r (arm_state bs l y env fs) t (λ x. (held x (value.end y) + held_env x env) + held_frames x fs)
  match_goes y bs l names env fs s q b t g f o a e i d al k =
      arms_match bs l y env fs s q b t g (free_below bs) ((a.same l).0 (offered_name s names l q o e)) f e i (λ n u. u) d al k

-- what a task becomes that applies a function or uses a global
pub steps_on : (m : Surroundings) (well : IsWellTyped m) (r : Residuals) (p : Pause) (s : State) (t : Tree) → Allowed m r p t →
    after (program_in m) p Go ≡ Some s →
    Goes m r s t (λ x. held_pause x p)
steps_on m well r stuck s t a e = absurd a
steps_on m well r (calls f env v fs) s t a e =
    subst (λ z. Goes m r z t (λ x. held_pause x (calls f env v fs))) (some_same e) (call_goes m well r f env v fs t a)
steps_on m well r (uses g fs) s t a e =
    let k = use_there m well r g fs t a in
    let f : Some (begins k.0 fs) ≡ Some s = ap (λ o. Some (or_lost (option_map (λ e. begins e fs) o))) (sym k.1) ∙ e in
    subst (λ z. Goes m r z t (λ x. held_pause x (uses g fs))) (some_same f) (use_goes m well r g k.0 fs t k.1 a)
steps_on m well r (makes k fs) s t a e = absurd (none_some e)
steps_on m well r (forks f env fs) s t a e = absurd (none_some e)
steps_on m well r (puts x ev fs) s t a e = absurd (none_some e)
steps_on m well r (gets x fs) s t a e = absurd (none_some e)
steps_on m well r (closes x fs) s t a e = absurd (none_some e)
steps_on m well r (waits x fs) s t a e = absurd (none_some e)
steps_on m well r (matches x bs env fs) s t a e = absurd (none_some e)
steps_on m well r (ended v) s t a e = absurd (none_some e)
