-- In each closing instance of its equation's signature a term with a derivation has the instance of its type as it runs.
use Rattle.std.proofs.Common.{◌≡◌, ◌∙◌, ℕ, zero, suc, Bool, List, [], ◌∷◌, Some, map, slice_get, refl, sym, ap, subst}
use Rattle.std.specs.List.{AllByRecursion}
use Rattle.fst_types.specs.Tree as type
use Rattle.fst_types.specs.Tree.{Tree, plain, arrow, named}
use Rattle.fst_types.specs.Instance.{instantiated}
use Rattle.fst_types.specs.declared.base.Base.TheVariants.{Int, Bool as Truth, Char, Unit as Nothing}
use Rattle.fst_types.specs.declared.family.Family.{Family}
use Rattle.fst_types.specs.declared.label.Label.TheVariants.{Send, Receive, Select, Offer, Close, Wait}
use Rattle.fst_kinds.specs.WellFormed.{IsInstantiation}
use Rattle.fst_kinds.proofs.Laws.{instantiated_again, instantiation_again}
use Rattle.fst_lts.specs.Dual.{dual}
use Rattle.fst_instances.proofs.Laws.{instance_moves}
use Rattle.fst_terms.specs.CoreTree.{CoreTree, local, global, int, bool, char, unit, pair, make, lambda, apply, let_in, split, if_else, case_of, operate, negate, new, send, receive, close, wait, select, match_with, fork, seq, CoreList, no_terms, term, CoreArms, no_arms, arm}
use Rattle.fst_terms.specs.declared.global.GlobalEntry.{GlobalEntry}
use Rattle.fst_context.specs.Scope.{Variable, is_once}
use Rattle.fst_context.specs.Vars.{Vars, under}
use Rattle.fst_derivations.specs.Deriv.{Deriv, row, type_of, Derivs, none, part, one, two, three}
use Rattle.fst_derivations.specs.Modules.{AreFamiliesFormed}
use Rattle.fst_derivations.specs.Parts.{IsFormed, IsConversion, AreAt, enter_all, under_all}
use Rattle.fst_derivations.specs.Rules.{Surroundings, Mode, Converted, converting, Over, At, Binding, fields, rest, Binds, Row, Fields, Arms, FurtherArms}
use Rattle.fst_machine.specs.Free.{free, free_in, free_below, outside}
use Rattle.fst_machine.specs.Machine.{in_either}
use Rattle.fst_safety.specs.Running.{Equals, Alike, AreAlike, HasType, HaveTypes, ArmsHaveType}
use Rattle.fst_safety.proofs.Sets.{AreSetsOf, same_set, set_is_free, fields_set, arms_set, arms_sets}
use Rattle.fst_safety.proofs.Equals.{equals_itself}
use Rattle.fst_safety.proofs.Typed.{type_equal}
use Rattle.fst_safety.proofs.InstanceContexts.{IsInstanceOf, has_instance, many_in, variable_in, variables_in, found_in, entered_in, same_length, alike_in, apart_in, alike_of, plentiful_in, spends_in, spend_all_in}
use Rattle.fst_safety.proofs.InstanceTypes.{formed_in, converted_in, closed_in, all_closed_in, dual_in, operates_in, offering_in}
use Rattle.fst_safety.proofs.Makers.{family_formed, named_formed, numbered_formed, fields_formed}

-- the same parts of a module, where no variables are in scope
abbrev pub closed : Surroundings → Surroundings
closed m = record { families = m.families; globals = m.globals; types = m.types; vars = [] }

-- what instances of terms ask of a module: its data types and its signatures are well formed
pub record HasFormedParts (m : Surroundings) : Type 0 where
  pub families : AreFamiliesFormed m.types m.families
  pub signatures : (k : ℕ) (g : GlobalEntry) (t : Tree) → slice_get m.globals k ≡ Some g →
      slice_get m.types g.signature ≡ Some t → IsFormed g.kinds.items t

-- where all arms have one set, each has the same linear variables as a part with this set
are_alike : (args : List Tree) (g h : List Variable) (u : Vars) (p : ℕ → Bool) → IsInstanceOf args g h → Alike h u p →
    (bs : CoreArms) → AreSetsOf g u bs → AreAlike h p bs
are_alike args g h u p q f no_arms x = tt
are_alike args g h u p q f (arm l xs e bs) x =
    (alike_of h u _ p (alike_in args g h u _ q x.0) f, are_alike args g h u p q f bs x.1)

module _ (m : Surroundings) (F : HasFormedParts m) (args : List Tree) (i : IsInstantiation [] m.vars args) where
  abbrev Cv : Deriv → Deriv → Type 0
  Cv = Converted (IsConversion m.vars)

  abbrev S : Mode
  S = converting (IsConversion m.vars)

  abbrev Rows : CoreTree → List Variable → Vars → Deriv → Type 0
  Rows e g = Row m S e g

  abbrev In : Tree → Tree
  In t = instantiated args t

  abbrev Runs : List Variable → CoreTree → Tree → Type 0
  Runs h e t = HasType (closed m) h e (In t)

  -- each row of the term gives it its type
  abbrev Gives : CoreTree → List Variable → List Variable → Type 0
  Gives e g h = (u : Vars) (c : Deriv) → IsFormed m.vars (type_of c) → Rows e g u c → Runs h e (type_of c)

  part_of : (e : CoreTree) (g h : List Variable) (u : Vars) (d : Deriv) → Gives e g h → Over m.vars Cv (Rows e g) u d →
      Runs h e (type_of d)
  part_of e g h u d f x = type_equal (closed m) h e (In (type_of x.core)) (In (type_of d)) (f u x.core x.formed x.rule)
      (converted_in m.vars args i d x.core x.formed x.stands)

  part_at : (t : Tree) (e : CoreTree) (g h : List Variable) (u : Vars) (d : Deriv) → Gives e g h → At m.vars t Cv (Rows e g) u d →
      Runs h e t
  part_at t e g h u d f x =
      subst (λ z. Runs h e z) x.wanted (type_equal (closed m) h e (In (type_of x.core)) (In (type_of d))
      (f u x.core x.formed x.rule) (converted_in m.vars args i d x.core x.formed x.stands))

  set_of : (e : CoreTree) (g h : List Variable) (u : Vars) (d : Deriv) → IsInstanceOf args g h → Over m.vars Cv (Rows e g) u d →
      Alike h u (free e)
  set_of e g h u d q x = alike_in args g h u (free e) q (set_is_free m S e g u x.core x.rule)

  set_at : (t : Tree) (e : CoreTree) (g h : List Variable) (u : Vars) (d : Deriv) → IsInstanceOf args g h →
      At m.vars t Cv (Rows e g) u d → Alike h u (free e)
  set_at t e g h u d q x = alike_in args g h u (free e) q (set_is_free m S e g u x.core x.rule)

  -- a term of a row's type
  made : (e : CoreTree) (h : List Variable) (c : Deriv) (t : Tree) (ds : Derivs) → c ≡ row t ds → Runs h e t →
      Runs h e (type_of c)
  made e h c t ds x r = subst (λ z. Runs h e (type_of z)) (sym x) r

  -- a row's type is equal to itself
  same : (c : Deriv) (t : Tree) (ds : Derivs) → c ≡ row t ds → IsFormed m.vars (type_of c) → Equals (In t) (In t)
  same c t ds x f = equals_itself (In t) (formed_in m.vars args i t (subst (λ z. IsFormed m.vars (type_of z)) x f))

  abbrev Bound : Binding → Binding → Type 0
  Bound B D = (l : List ℕ) (ts : List Tree) → Binds m B l ts → Binds (closed m) D l (map (instantiated args) ts)

  -- fields are closed
  bound_fields : (n : ℕ) (f : Family) → slice_get m.families n ≡ Some f → Bound (fields f.makers.items) (fields f.makers.items)
  bound_fields n f e l ts (c, x, y) =
      let all = fields_formed m.types c.fields.items ts
      (named_formed m.types f.makers.items l c (family_formed m.types m.families n f F.families e) x) y in
      (c, x, subst (λ z. AreAt m.types c.fields.items z) (sym (all_closed_in args ts all)) y)

  -- an instance moves to an instance
  bound_rest : (s : Tree) → Bound (rest s) (rest (In s))
  bound_rest s l ts (t, x, e) = (
    In t,
    instance_moves [] m.vars args i s t (Offer l) (λ k z. cc z) x,
    ap (map (instantiated args)) e,
  )

  mutual
    -- a row gives its term the instance of its type
    pub typed : (e : CoreTree) (g h : List Variable) → IsInstanceOf args g h →
        (u : Vars) (c : Deriv) → IsFormed m.vars (type_of c) → Row m S e g u c →
        HasType (closed m) h e (instantiated args (type_of c))
    typed (local at k) g h q u c f (v, x, p, e) =
        let r = found_in args g h q k v x in
        made (local at k) h c v.type none e (r.0, r.1, subst (λ z. Equals z (In v.type)) (sym r.2.type) (same c v.type none e f))
    typed (global at k ks) g h q u c f (y, t, ts, a, b, z, w, p, e) =
        let s = F.signatures k y t a b in
        made (global at k ks) h c (instantiated ts t) none e (
          In (instantiated ts t),
          record {
            entry = y;
            signature = t;
            arguments = map (instantiated args) ts;
            there = a;
            written = b;
            closing = instantiation_again [] m.vars args i y.kinds.items ts w;
            is = instantiated_again args m.vars y.kinds.items ts w t s.0 s.1.kinded;
          },
          same c (instantiated ts t) none e f,
        )
    typed (int at n) g h q u c f (p, e) = made (int at n) h c (plain Int) none e (same c (plain Int) none e f)
    typed (bool at n) g h q u c f (p, e) = made (bool at n) h c (plain Truth) none e (same c (plain Truth) none e f)
    typed (char at n) g h q u c f (p, e) = made (char at n) h c (plain Char) none e (same c (plain Char) none e f)
    typed (unit at) g h q u c f (p, e) = made (unit at) h c (plain Nothing) none e (same c (plain Nothing) none e f)
    typed (pair at a b) g h q u c f (d, l, x, e) =
        made (pair at a b) h c (type.pair (type_of d) (type_of l)) (two d l) e (
          In (type_of d),
          In (type_of l),
          part_of a g h x.left d (typed a g h q) x.first,
          part_of b g h x.right l (typed b g h q) x.second,
          apart_in h u x.left x.right (free a) (free b) x.split (set_of a g h x.left d q x.first)
              (set_of b g h x.right l q x.second),
          same c (type.pair (type_of d) (type_of l)) (two d l) e f,
        )
    typed (make at n k es) g h q u c f (o, ts, ds, p, z, x, e) =
        let all = fields_formed m.types o.fields.items ts (numbered_formed m.types m.families n k o F.families p) z in
        made (make at n k es) h c (named n) ds e (o, ts, p, z, typed_fields es ts g h q u ds all x, same c (named n) ds e f)
    typed (lambda at uses k z a) g h q u c f (t, n, d, p, w, b, o, x, e) =
        let r = has_instance m.vars args t n i w in
        let V : Variable = record { type = t; uses = n } in
        let W : Variable = record { type = In t; uses = r.uses } in
        let q' : IsInstanceOf args (V ∷ g) (W ∷ h) = (variable_in args t n r, q) in
        let s = set_of a (V ∷ g) (W ∷ h) (under (is_once n) u) d q' x in
        made (lambda at uses k z a) h c (arrow uses t (type_of d)) (one d) e (
          W,
          In (type_of d),
          r.variable,
          part_of a (V ∷ g) (W ∷ h) (under (is_once n) u) d (typed a (V ∷ g) (W ∷ h) q') x,
          spends_in (W ∷ h) (under (is_once n) u) (free a) zero W s refl r.falls,
          λ many. plentiful_in h u (outside (free a)) (o many) (λ j v y. s (suc j) v y),
          same c (arrow uses t (type_of d)) (one d) e f,
        )
    typed (apply at a b) g h q u c f (d, l, uses, s, t, x, p, e) =
        made (apply at a b) h c t (two d l) e (
          uses,
          In s,
          In t,
          subst (λ z. Runs h a z) p (part_of a g h x.left d (typed a g h q) x.first),
          part_at s b g h x.right l (typed b g h q) x.second,
          apart_in h u x.left x.right (free a) (free b) x.split (set_of a g h x.left d q x.first)
              (set_at s b g h x.right l q x.second),
          same c t (two d l) e f,
        )
    typed (let_in at z a b) g h q u c f (d, l, n, x, w, e) =
        let r = has_instance m.vars args (type_of d) n i w in
        let V : Variable = record { type = type_of d; uses = n } in
        let W : Variable = record { type = In (type_of d); uses = r.uses } in
        let q' : IsInstanceOf args (V ∷ g) (W ∷ h) = (variable_in args (type_of d) n r, q) in
        let s = set_of b (V ∷ g) (W ∷ h) (under (is_once n) x.right) l q' x.second in
        made (let_in at z a b) h c (type_of l) (two d l) e (
          W,
          r.variable,
          part_of a g h x.left d (typed a g h q) x.first,
          part_of b (V ∷ g) (W ∷ h) (under (is_once n) x.right) l (typed b (V ∷ g) (W ∷ h) q') x.second,
          spends_in (W ∷ h) (under (is_once n) x.right) (free b) zero W s refl r.falls,
          apart_in h u x.left x.right (free a) (outside (free b)) x.split (set_of a g h x.left d q x.first)
              (λ j v y. s (suc j) v y),
        )
    typed (split at y z a b) g h q u c f (d, l, s, t, n, o, x, p, j, w, e) =
        let r = has_instance m.vars args s n i j in
        let r' = has_instance m.vars args t o i w in
        let V : Variable = record { type = s; uses = n } in
        let W : Variable = record { type = In s; uses = r.uses } in
        let V' : Variable = record { type = t; uses = o } in
        let W' : Variable = record { type = In t; uses = r'.uses } in
        let q' : IsInstanceOf args (V' ∷ V ∷ g) (W' ∷ W ∷ h) = (variable_in args t o r', (variable_in args s n r, q)) in
        let U : Vars = under (is_once o) (under (is_once n) x.right) in
        let k = set_of b (V' ∷ V ∷ g) (W' ∷ W ∷ h) U l q' x.second in
        made (split at y z a b) h c (type_of l) (two d l) e (
          W,
          W',
          r.variable,
          r'.variable,
          subst (λ z. Runs h a z) p (part_of a g h x.left d (typed a g h q) x.first),
          part_of b (V' ∷ V ∷ g) (W' ∷ W ∷ h) U l (typed b (V' ∷ V ∷ g) (W' ∷ W ∷ h) q') x.second,
          spends_in (W' ∷ W ∷ h) U (free b) (suc zero) W k refl r.falls,
          spends_in (W' ∷ W ∷ h) U (free b) zero W' k refl r'.falls,
          apart_in h u x.left x.right (free a) (outside (outside (free b))) x.split (set_of a g h x.left d q x.first)
              (λ n v y. k (suc (suc n)) v y),
        )
    typed (if_else at a b o) g h q u c f (d, k, l, x, e) =
        let s = set_of b g h x.right k q x.second.0 in
        let s' = set_at (type_of k) o g h x.right l q x.second.1 in
        let both = same_set g x.right (free b) (free o) (set_is_free m S b g x.right x.second.0.core x.second.0.rule)
        (set_is_free m S o g x.right x.second.1.core x.second.1.rule) in
        made (if_else at a b o) h c (type_of k) (three d k l) e (
          part_at (plain Truth) a g h x.left d (typed a g h q) x.first,
          part_of b g h x.right k (typed b g h q) x.second.0,
          part_at (type_of k) o g h x.right l (typed o g h q) x.second.1,
          alike_of h x.right (free b) (free o) s s',
          apart_in h u x.left x.right (free a) (in_either b o) x.split (set_at (plain Truth) a g h x.left d q x.first)
              (alike_in args g h x.right (in_either b o) q both),
        )
    typed (case_of at a bs) g h q u c f (d, n, fam, t, ds, x, p, y, l, e) =
        let s = alike_in args g h x.right (free_below bs) q (arms_set m S (fields fam.makers.items) bs g x.right t ds x.second) in
        made (case_of at a bs) h c t (part d ds) e (
          n,
          fam,
          subst (λ z. Runs h a z) p (part_of a g h x.left d (typed a g h q) x.first),
          y,
          l,
          typed_arms (fields fam.makers.items) (fields fam.makers.items) (bound_fields n fam y) bs g h q x.right t ds x.second,
          are_alike args g h x.right (free_below bs) q s bs (arms_sets m S (fields fam.makers.items) bs g x.right t ds x.second),
          apart_in h u x.left x.right (free a) (free_below bs) x.split (set_of a g h x.left d q x.first) s,
        )
    typed (operate at o a b) g h q u c f (d, l, s, t, j, x, e) =
        made (operate at o a b) h c t (two d l) e (
          In s,
          In t,
          operates_in args o s t j,
          part_at s a g h x.left d (typed a g h q) x.first,
          part_at s b g h x.right l (typed b g h q) x.second,
          apart_in h u x.left x.right (free a) (free b) x.split (set_at s a g h x.left d q x.first)
              (set_at s b g h x.right l q x.second),
          same c t (two d l) e f,
        )
    typed (negate at a) g h q u c f (d, x, e) =
        made (negate at a) h c (plain Truth) (one d) e
        (part_at (plain Truth) a g h u d (typed a g h q) x, same c (plain Truth) (one d) e f)
    typed (new at k) g h q u c f (s, p, w, o, e) =
        let is : In (type.pair s (dual s)) ≡ type.pair s (dual s) =
        λ j. type.pair (closed_in args s (_, w.1) j) (dual_in args s w j) in
        made (new at k) h c (type.pair s (dual s)) none e
        (s, p, w, subst (λ z. Equals z (In (type.pair s (dual s)))) is (same c (type.pair s (dual s)) none e f))
    typed (send at a b) g h q u c f (d, l, k, t, x, p, y, e) =
        made (send at a b) h c t (two d l) e (
          k,
          In (type_of l),
          In t,
          subst (λ z. Runs h a z) p (part_of a g h x.left d (typed a g h q) x.first),
          part_of b g h x.right l (typed b g h q) x.second,
          instance_moves [] m.vars args i (type_of l) t (Send k) (λ j z. cc z) y,
          apart_in h u x.left x.right (free a) (free b) x.split (set_of a g h x.left d q x.first)
              (set_of b g h x.right l q x.second),
          same c t (two d l) e f,
        )
    typed (receive at a) g h q u c f (d, k, t, x, p, e) =
        made (receive at a) h c (type.pair (plain k) t) (one d) e (
          k,
          In (type_of d),
          In t,
          part_of a g h u d (typed a g h q) x,
          instance_moves [] m.vars args i (type_of d) t (Receive k) (λ j z. cc z) p,
          same c (type.pair (plain k) t) (one d) e f,
        )
    typed (close at a) g h q u c f (d, t, x, p, e) =
        made (close at a) h c (plain Nothing) (one d) e (
          In (type_of d),
          In t,
          part_of a g h u d (typed a g h q) x,
          instance_moves [] m.vars args i (type_of d) t Close (λ j z. cc z) p,
          same c (plain Nothing) (one d) e f,
        )
    typed (wait at a) g h q u c f (d, t, x, p, e) =
        made (wait at a) h c (plain Nothing) (one d) e (
          In (type_of d),
          In t,
          part_of a g h u d (typed a g h q) x,
          instance_moves [] m.vars args i (type_of d) t Wait (λ j z. cc z) p,
          same c (plain Nothing) (one d) e f,
        )
    typed (select at l a) g h q u c f (d, t, x, p, e) =
        made (select at l a) h c t (one d) e (
          In (type_of d),
          In t,
          part_of a g h u d (typed a g h q) x,
          instance_moves [] m.vars args i (type_of d) t (Select l) (λ j z. cc z) p,
          same c t (one d) e f,
        )
    typed (match_with at a bs) g h q u c f (d, ls, t, ds, x, o, l, e) =
        let s = alike_in args g h x.right (free_below bs) q (arms_set m S (rest (type_of d)) bs g x.right t ds x.second) in
        made (match_with at a bs) h c t (part d ds) e (
          In (type_of d),
          ls,
          part_of a g h x.left d (typed a g h q) x.first,
          offering_in args (type_of d) ls o,
          l,
          typed_arms (rest (type_of d)) (rest (In (type_of d))) (bound_rest (type_of d)) bs g h q x.right t ds x.second,
          are_alike args g h x.right (free_below bs) q s bs (arms_sets m S (rest (type_of d)) bs g x.right t ds x.second),
          apart_in h u x.left x.right (free a) (free_below bs) x.split (set_of a g h x.left d q x.first) s,
        )
    typed (fork at a) g h q u c f (d, x, w, e) =
        made (fork at a) h c (plain Nothing) (one d) e (
          In (type_of d),
          part_of a g h u d (typed a g h q) x,
          many_in m.vars args (type_of d) i w,
          same c (plain Nothing) (one d) e f,
        )
    typed (seq at a b) g h q u c f (d, l, x, w, e) =
        made (seq at a b) h c (type_of l) (two d l) e (
          In (type_of d),
          part_of a g h x.left d (typed a g h q) x.first,
          many_in m.vars args (type_of d) i w,
          part_of b g h x.right l (typed b g h q) x.second,
          apart_in h u x.left x.right (free a) (free b) x.split (set_of a g h x.left d q x.first)
              (set_of b g h x.right l q x.second),
        )

    -- a constructor's arguments have the types of its fields
    typed_fields : (es : CoreList) (ts : List Tree) (g h : List Variable) → IsInstanceOf args g h →
        (u : Vars) (ds : Derivs) → AllByRecursion (IsFormed []) ts → Fields m S es ts g u ds → HaveTypes (closed m) h es ts
    typed_fields no_terms [] g h q u ds f x = tt
    typed_fields no_terms (t ∷ ts) g h q u ds f x = absurd x
    typed_fields (term e es) [] g h q u ds f x = absurd x
    typed_fields (term e es) (t ∷ ts) g h q u ds f (d, more, x, p) = (
      subst (λ z. HasType (closed m) h e z) (closed_in args t f.0) (part_at t e g h x.left d (typed e g h q) x.first),
      typed_fields es ts g h q x.right more f.1 x.second,
      apart_in h u x.left x.right (free e) (free_in es) x.split (set_at t e g h x.left d q x.first)
          (alike_in args g h x.right (free_in es) q (fields_set m S es ts g x.right more x.second)),
    )

    -- arms have the instance of their type, where their variables stand for instances
    typed_arms : (B D : Binding) → Bound B D → (bs : CoreArms) (g h : List Variable) → IsInstanceOf args g h →
        (u : Vars) (t : Tree) (ds : Derivs) → Arms m S B bs g u t ds → ArmsHaveType (closed m) D h bs (In t)
    typed_arms B D b no_arms g h q u t ds x = absurd x
    typed_arms B D b (arm l xs e bs) g h q u t ds (ts, vs, d, more, j, k, v, n, x, p, y, z) =
        let r = variables_in m.vars args i ts vs k in
        let q' = entered_in args vs r.0 g h r.2 q in (
          map (instantiated args) ts,
          r.0,
          b l ts j,
          r.1,
          n ∙ same_length args vs r.0 r.2,
          subst (λ z. Runs (enter_all r.0 h) e z) p (part_of e (enter_all vs g) (enter_all r.0 h) (under_all vs u) d
              (typed e (enter_all vs g) (enter_all r.0 h) q') x),
          spend_all_in args vs r.0 h u (free e) r.2 (set_of e (enter_all vs g) (enter_all r.0 h) (under_all vs u) d q' x),
          typed_further B D b bs g h q u t more y,
        )

    typed_further : (B D : Binding) → Bound B D → (bs : CoreArms) (g h : List Variable) → IsInstanceOf args g h →
        (u : Vars) (t : Tree) (ds : Derivs) → FurtherArms m S B bs g u t ds → ArmsHaveType (closed m) D h bs (In t)
    typed_further B D b no_arms g h q u t ds x = tt
    typed_further B D b (arm l xs e bs) g h q u t ds (ts, vs, d, more, j, k, v, n, x, y, z) =
        let r = variables_in m.vars args i ts vs k in
        let q' = entered_in args vs r.0 g h r.2 q in (
          map (instantiated args) ts,
          r.0,
          b l ts j,
          r.1,
          n ∙ same_length args vs r.0 r.2,
          part_at t e (enter_all vs g) (enter_all r.0 h) (under_all vs u) d (typed e (enter_all vs g) (enter_all r.0 h) q') x,
          spend_all_in args vs r.0 h u (free e) r.2 (set_at t e (enter_all vs g) (enter_all r.0 h) (under_all vs u) d q' x),
          typed_further B D b bs g h q u t more y,
        )

  -- and so does one at the type that is wanted
  pub wanted_typed : (t : Tree) (e : CoreTree) (g h : List Variable) → IsInstanceOf args g h →
      (u : Vars) (d : Deriv) → At m.vars t (Converted (IsConversion m.vars)) (Row m (converting (IsConversion m.vars)) e g) u d →
      HasType (closed m) h e (instantiated args t)
  wanted_typed t e g h q u d x = part_at t e g h u d (typed e g h q) x
