-- A term that has a derivation has a plain one.
use Rattle.std.proofs.Common.{◌≡◌, ◌∙◌, ℕ, zero, suc, List, [], ◌∷◌, Some, length, slice_get, refl, sym, ap, subst}
use Rattle.fst_base.proofs.Alls.{all_any}
use Rattle.fst_types.specs.Tree as type
use Rattle.fst_types.specs.Tree.{Tree, plain, arrow, named}
use Rattle.fst_types.specs.declared.base.Base.TheVariants.{Bool as Truth, Unit as Nothing}
use Rattle.fst_types.specs.declared.label.Label.TheVariants.{Send, Receive, Select, Offer, Close, Wait}
use Rattle.fst_terms.specs.CoreTree.{CoreTree, local, global, int, bool, char, unit, pair, make, lambda, apply, let_in, split, if_else, case_of, operate, negate, new, send, receive, close, wait, select, match_with, fork, seq, CoreList, no_terms, term, CoreArms, no_arms, arm}
use Rattle.fst_context.specs.Scope.{Variable, is_once}
use Rattle.fst_context.specs.Vars.{Vars, under, single}
use Rattle.fst_derivations.specs.Deriv.{Deriv, row, convert, type_of, Derivs, none, part, one, two, three}
use Rattle.fst_derivations.specs.Parts.{IsFormed, AreVariables, enter_all, under_all}
use Rattle.fst_derivations.specs.Rules.{Surroundings, Converted, converting, itself, turned, Bare, Compared, comparing, Over, At, Binding, fields, rest, Binds, Row, Fields, Arms, FurtherArms, PlainRow, Derives}
use Rattle.fst_derivations.proofs.Parts.{plain_formed}
use Rattle.fst_derivations.specs.Laws.{IsTypeEquality, AllEqual, HasPlain}

module _ (m : Surroundings) (E : Tree → Tree → Type 0) (L : IsTypeEquality m.vars E) where
  abbrev Plain : CoreTree → List Variable → Vars → Deriv → Type 0
  Plain e g = PlainRow m E e g

  bare : (P : Vars → Deriv → Type 0) (u : Vars) (c : Deriv) → IsFormed m.vars (type_of c) → P u c → Over m.vars Bare P u c
  bare P u c f p = record { core = c; stands = refl; rule = p; formed = f }

  compared : (t : Tree) (P : Vars → Deriv → Type 0) (u : Vars) (c : Deriv) → E (type_of c) t → P u c →
      At m.vars t (Compared E) P u (convert (type_of c) t c)
  compared t P u c e p = record { core = c; stands = (t, e, refl); rule = p; formed = L.formed (type_of c) t e; wanted = refl }

  -- the plain derivation of a part, as it stands in a row
  own : (e : CoreTree) (g : List Variable) (u : Vars) (t : Tree) (x : HasPlain m E e g u t) →
      Over m.vars Bare (Plain e g) u x.derivation
  own e g u t x = bare (Plain e g) u x.derivation (L.formed (type_of x.derivation) t x.equal) x.rule

  -- the same where it is compared
  turned_to : (e : CoreTree) (g : List Variable) (u : Vars) (s t : Tree) (x : HasPlain m E e g u s) → E s t →
      At m.vars t (Compared E) (Plain e g) u (convert (type_of x.derivation) t x.derivation)
  turned_to e g u s t x e' = compared t (Plain e g) u x.derivation (L.through (type_of x.derivation) s t x.equal e') x.rule

  -- conversions lead to an equal type
  converted : (d c : Deriv) → IsFormed m.vars (type_of c) → Converted E d c → E (type_of c) (type_of d)
  converted d c f (itself h) = subst (λ z. E (type_of c) (type_of z)) (sym h) (L.itself (type_of c) f)
  converted _ c f (turned {s} {t} {d} x h y) = L.through (type_of c) s t (subst (E (type_of c)) h (converted d c f y)) x

  found : (g h : List Variable) → AllEqual E h g → (k : ℕ) (v : Variable) → slice_get g k ≡ Some v → (w : Variable) ×
      (slice_get h k ≡ Some w) × E w.type v.type × (w.uses ≡ v.uses)
  found [] h q k v e = absurd (cc e)
  found (a ∷ g) [] q k v e = absurd q
  found (a ∷ g) (b ∷ h) q zero v e = let same : a ≡ v = cc in
      (b, refl, subst (λ z. E b.type z.type) same q.0, q.1 ∙ ap (λ z. z.uses) same)
  found (a ∷ g) (b ∷ h) q (suc k) v e = found g h q.2 k v e

  -- variables entered in equal contexts
  all_entered : (vs ws g h : List Variable) → AllEqual E ws vs → AllEqual E h g → AllEqual E (enter_all ws h) (enter_all vs g)
  all_entered [] [] g h p q = q
  all_entered [] (w ∷ ws) g h p q = absurd p
  all_entered (v ∷ vs) [] g h p q = absurd p
  all_entered (v ∷ vs) (w ∷ ws) g h p q = all_entered vs ws (v ∷ g) (w ∷ h) p.2 (p.0, p.1, q)

  same_under : (vs ws : List Variable) (u : Vars) → AllEqual E ws vs → under_all vs u ≡ under_all ws u
  same_under [] [] u p = refl
  same_under [] (w ∷ ws) u p = absurd p
  same_under (v ∷ vs) [] u p = absurd p
  same_under (v ∷ vs) (w ∷ ws) u p = same_under vs ws (under (is_once v.uses) u) p.2 ∙ ap
      (λ n. under_all ws (under (is_once n) u)) (sym p.1)

  same_length : (vs ws : List Variable) → AllEqual E ws vs → length vs ≡ length ws
  same_length [] [] p = refl
  same_length [] (w ∷ ws) p = absurd p
  same_length (v ∷ vs) [] p = absurd p
  same_length (v ∷ vs) (w ∷ ws) p = ap suc (same_length vs ws p.2)

  -- each variable is equal to itself
  all_itself : (ts : List Tree) (vs : List Variable) → AreVariables m.vars ts vs → AllEqual E vs vs
  all_itself [] [] p = tt
  all_itself [] (v ∷ vs) p = absurd p
  all_itself (t ∷ ts) [] p = absurd p
  all_itself (t ∷ ts) (v ∷ vs) p = (subst (λ z. E z z) (sym p.0) (L.itself t (p.1.kind, p.1.formed)), refl, all_itself ts vs p.2)

  -- what arms bind for equal types
  abbrev SameBinding : Binding → Binding → Type 0
  SameBinding (fields ms) (fields ns) = ms ≡ ns
  SameBinding (fields ms) (rest s) = ⊥
  SameBinding (rest s) (fields ns) = ⊥
  SameBinding (rest s) (rest t) = E s t

  record Bound (b : Binding) (l : List ℕ) (vs : List Variable) : Type 0 where
    types : List Tree
    variables : List Variable
    binds : Binds m b l types
    are : AreVariables m.vars types variables
    equal : AllEqual E variables vs

  bound : (b b' : Binding) → SameBinding b' b →
      (l : List ℕ) (ts : List Tree) (vs : List Variable) → Binds m b l ts → AreVariables m.vars ts vs → Bound b' l vs
  bound (fields ms) (fields ns) q l ts vs x p =
      record {
        types = ts;
        variables = vs;
        binds = subst (λ z. Binds m (fields z) l ts) (sym q) x;
        are = p;
        equal =
            all_itself ts vs p;
      }
  bound (fields ms) (rest s) q l ts vs x p = absurd q
  bound (rest s) (fields ns) q l ts vs x p = absurd q
  bound (rest s) (rest s') q l ts [] (t, h, e) p = absurd (subst (λ z. AreVariables m.vars z []) e p)
  bound (rest s) (rest s') q l ts (v ∷ w ∷ vs) (t, h, e) p = absurd ((subst (λ z. AreVariables m.vars z (v ∷ w ∷ vs)) e p).2)
  bound (rest s) (rest s') q l ts (v ∷ []) (t, h, e) p =
      let one = subst (λ z. AreVariables m.vars z (v ∷ [])) e p in
      let w = L.steps s' s t (Offer l) (λ k z. cc z) q h in
      record {
        types = w.0 ∷ [];
        variables = record { type = w.0; uses = v.uses } ∷ [];
        binds = (w.0, w.1, refl);
        are = (refl, L.uses w.0 t v.uses w.2 one.1, tt);
        equal = (subst (λ z. E w.0 z) (sym one.0) w.2, refl, tt);
      }

  -- the plain derivation of a part from that of its row
  part_of : (a : CoreTree) (g h : List Variable) (u : Vars) (d : Deriv) →
      ((v : Vars) (c : Deriv) → IsFormed m.vars (type_of c) → Row m (converting E) a g v c → HasPlain m E a h v (type_of c)) →
      Over m.vars (Converted E) (Row m (converting E) a g) u d → HasPlain m E a h u (type_of d)
  part_of a g h u d f x =
      let r = f u x.core x.formed x.rule in
      record {
        derivation = r.derivation;
        rule = r.rule;
        equal =
            L.through (type_of r.derivation) (type_of x.core) (type_of d) r.equal (converted d x.core x.formed x.stands);
      }

  part_at : (t : Tree) (a : CoreTree) (g h : List Variable) (u : Vars) (d : Deriv) →
      ((v : Vars) (c : Deriv) → IsFormed m.vars (type_of c) → Row m (converting E) a g v c → HasPlain m E a h v (type_of c)) →
      At m.vars t (Converted E) (Row m (converting E) a g) u d → HasPlain m E a h u t
  part_at t a g h u d f x =
      let r = f u x.core x.formed x.rule in
      record {
        derivation = r.derivation;
        rule = r.rule;
        equal =
            subst (E (type_of r.derivation)) x.wanted (L.through (type_of r.derivation) (type_of x.core) (type_of d) r.equal
            (converted d x.core x.formed x.stands));
      }

  -- a row at a type
  made : (e : CoreTree) (g : List Variable) (u : Vars) (c d : Deriv) (t : Tree) (ds : Derivs) → c ≡ row t ds → Plain e g u d →
      E (type_of d) t → HasPlain m E e g u (type_of c)
  made e g u c d t ds h p q = record { derivation = d; rule = p; equal = subst (E (type_of d)) (sym (ap type_of h)) q }

  -- a leaf is plain as it is
  leaf : (e : CoreTree) (g : List Variable) (u : Vars) (c : Deriv) → IsFormed m.vars (type_of c) → Plain e g u c →
      HasPlain m E e g u (type_of c)
  leaf e g u c f p = record { derivation = c; rule = p; equal = L.itself (type_of c) f }

  mutual
    pub plainly : (e : CoreTree) (g h : List Variable) → AllEqual E h g →
        (u : Vars) (c : Deriv) → IsFormed m.vars (type_of c) → Row m (converting E) e g u c → HasPlain m E e h u (type_of c)
    plainly (local at k) g h q u c f (v, x, p, e) =
        let r = found g h q k v x in
        made (local at k) h u c (row (r.0).type none) v.type none e
        (r.0, r.1, p ∙ ap (λ n. single (is_once n) k) (sym r.3), refl) r.2
    plainly (global at k ks) g h q u c f x = leaf (global at k ks) h u c f x
    plainly (int at n) g h q u c f x = leaf (int at n) h u c f x
    plainly (bool at b) g h q u c f x = leaf (bool at b) h u c f x
    plainly (char at n) g h q u c f x = leaf (char at n) h u c f x
    plainly (unit at) g h q u c f x = leaf (unit at) h u c f x
    plainly (pair at a b) g h q u c f (da, db, x, e) =
        let ra = part_of a g h x.left da (plainly a g h q) x.first in
        let rb = part_of b g h x.right db (plainly b g h q) x.second in
        made (pair at a b) h u c (row (type.pair (type_of ra.derivation) (type_of rb.derivation))
        (two ra.derivation rb.derivation)) _ _ e (
          ra.derivation,
          rb.derivation,
          record {
            left = x.left;
            right = x.right;
            split = x.split;
            first =
                own a h x.left (type_of da) ra;
            second = own b h x.right (type_of db) rb;
          },
          refl,
        )
        (L.pair_of (type_of ra.derivation) (type_of rb.derivation) (type_of da) (type_of db) ra.equal rb.equal)
    plainly (make at n k es) g h q u c f (o, ts, ds, x, y, z, e) =
        let r = plainly_fields es ts g h q u ds z in
        made (make at n k es) h u c (row (named n) r.0) _ _ e (o, ts, r.0, x, y, r.1, refl)
        (subst (λ z. E z z) (ap type_of e) (L.itself (type_of c) f))
    plainly (lambda at uses k z a) g h q u c f (t, n, da, p, w, z0, o, x, e) =
        let eq : E t t = L.itself t (w.kind, w.formed) in
        let ra = part_of a (record { type = t; uses = n } ∷ g) (record { type = t; uses = n } ∷ h) (under (is_once n) u) da
        (plainly a (record { type = t; uses = n } ∷ g) (record { type = t; uses = n } ∷ h) (eq, refl, q)) x in
        made (lambda at uses k z a) h u c (row (arrow uses t (type_of ra.derivation)) (one ra.derivation)) _ _ e
        (t, n, ra.derivation, p, w, tt, o, own a (record { type = t; uses = n } ∷ h) (under (is_once n) u) (type_of da) ra, refl)
        (L.arrow_of uses t (type_of ra.derivation) t (type_of da) eq ra.equal)
    plainly (apply at a b) g h q u c f (da, db, uses, s, t, x, p, e) =
        let ra = part_of a g h x.left da (plainly a g h q) x.first in
        let rb = part_at s b g h x.right db (plainly b g h q) x.second in
        let w = L.arrows (type_of ra.derivation) uses s t (subst (E (type_of ra.derivation)) p ra.equal) in
        made (apply at a b) h u c (row w.1 (two ra.derivation (convert (type_of rb.derivation) w.0 rb.derivation))) _ _ e (
          ra.derivation,
          convert (type_of rb.derivation) w.0 rb.derivation,
          uses,
          w.0,
          w.1,
          record {
            left = x.left;
            right = x.right;
            split = x.split;
            first = own a h x.left (type_of da) ra;
            second =
                turned_to b h x.right s w.0 rb (L.back w.0 s w.3);
          },
          w.2,
          refl,
        )
        w.4
    plainly (let_in at z a b) g h q u c f (da, db, n, x, w, e) =
        let ra = part_of a g h x.left da (plainly a g h q) x.first in
        let v : Variable = record { type = type_of da; uses = n } in
        let v' : Variable = record { type = type_of ra.derivation; uses = n } in
        let rb = part_of b (v ∷ g) (v' ∷ h) (under (is_once n) x.right) db
        (plainly b (v ∷ g) (v' ∷ h) (ra.equal, refl, q)) x.second in
        made (let_in at z a b) h u c (row (type_of rb.derivation) (two ra.derivation rb.derivation)) _ _ e (
          ra.derivation,
          rb.derivation,
          n,
          record {
            left = x.left;
            right = x.right;
            split = x.split;
            first = own a h x.left (type_of da) ra;
            second =
                own b (v' ∷ h) (under (is_once n) x.right) (type_of db) rb;
          },
          L.uses (type_of ra.derivation) (type_of da) n ra.equal w,
          refl,
        )
        rb.equal
    plainly (split at y z a b) g h q u c f (da, db, s, t, n, o, x, p, i, j, e) =
        let ra = part_of a g h x.left da (plainly a g h q) x.first in
        let w = L.pairs (type_of ra.derivation) s t (subst (E (type_of ra.derivation)) p ra.equal) in
        let G : List Variable = record { type = t; uses = o } ∷ record { type = s; uses = n } ∷ g in
        let H : List Variable = record { type = w.1; uses = o } ∷ record { type = w.0; uses = n } ∷ h in
        let U : Vars = under (is_once o) (under (is_once n) x.right) in
        let rb = part_of b G H U db (plainly b G H (w.4, refl, (w.3, refl, q))) x.second in
        made (split at y z a b) h u c (row (type_of rb.derivation) (two ra.derivation rb.derivation)) _ _ e (
          ra.derivation,
          rb.derivation,
          w.0,
          w.1,
          n,
          o,
          record {
            left = x.left;
            right = x.right;
            split = x.split;
            first = own a h x.left (type_of da) ra;
            second =
                own b H U (type_of db) rb;
          },
          w.2,
          L.uses w.0 s n w.3 i,
          L.uses w.1 t o w.4 j,
          refl,
        )
        rb.equal
    plainly (if_else at a b o) g h q u c f (da, db, dc, x, e) =
        let ra = part_at (plain Truth) a g h x.left da (plainly a g h q) x.first in
        let rb = part_of b g h x.right db (plainly b g h q) x.second.0 in
        let rc = part_at (type_of db) o g h x.right dc (plainly o g h q) x.second.1 in
        let T : Tree = type_of rb.derivation in
        let ca : Deriv = convert (type_of ra.derivation) (plain Truth) ra.derivation in
        let co : Deriv = convert (type_of rc.derivation) T rc.derivation in
        made (if_else at a b o) h u c (row T (three ca rb.derivation co)) _ _ e (
          ca,
          rb.derivation,
          co,
          record {
            left = x.left;
            right = x.right;
            split = x.split;
            first =
                compared (plain Truth) (Plain a h) x.left ra.derivation ra.equal ra.rule;
            second =
                (own b h x.right (type_of db) rb, turned_to o h x.right (type_of db) T rc (L.back T (type_of db) rb.equal));
          },
          refl,
        )
        rb.equal
    plainly (case_of at a bs) g h q u c f (da, n, fam, t, ds, x, p, i, l, e) =
        let ra = part_of a g h x.left da (plainly a g h q) x.first in
        let is = L.data_types (type_of ra.derivation) n (subst (E (type_of ra.derivation)) p ra.equal) in
        let r = plainly_arms (fields fam.makers.items) (fields fam.makers.items) refl bs g h q x.right t ds x.second in
        made (case_of at a bs) h u c (row r.0 (part ra.derivation r.1)) _ _ e (
          ra.derivation,
          n,
          fam,
          r.0,
          r.1,
          record { left = x.left; right = x.right; split = x.split; first = own a h x.left (type_of da) ra; second = r.2 },
          is,
          i,
          l,
          refl,
        )
        r.3
    plainly (operate at o a b) g h q u c f (da, db, s, t, i, x, e) =
        let ra = part_at s a g h x.left da (plainly a g h q) x.first in
        let rb = part_at s b g h x.right db (plainly b g h q) x.second in
        let ca : Deriv = convert (type_of ra.derivation) s ra.derivation in
        let cb : Deriv = convert (type_of rb.derivation) s rb.derivation in
        made (operate at o a b) h u c (row t (two ca cb)) _ _ e (
          ca,
          cb,
          s,
          t,
          i,
          record {
            left = x.left;
            right = x.right;
            split = x.split;
            first =
                compared s (Plain a h) x.left ra.derivation ra.equal ra.rule;
            second =
                compared s (Plain b h) x.right rb.derivation rb.equal rb.rule;
          },
          refl,
        )
        (subst (λ z. E z z) (ap type_of e) (L.itself (type_of c) f))
    plainly (negate at a) g h q u c f (da, x, e) =
        let ra = part_at (plain Truth) a g h u da (plainly a g h q) x in
        let ca : Deriv = convert (type_of ra.derivation) (plain Truth) ra.derivation in
        made (negate at a) h u c (row (plain Truth) (one ca)) _ _ e
        (ca, compared (plain Truth) (Plain a h) u ra.derivation ra.equal ra.rule, refl)
        (subst (λ z. E z z) (ap type_of e) (L.itself (type_of c) f))
    plainly (new at k) g h q u c f x = leaf (new at k) h u c f x
    plainly (send at a b) g h q u c f (da, db, k, t, x, p, w, e) =
        let ra = part_of a g h x.left da (plainly a g h q) x.first in
        let rb = part_of b g h x.right db (plainly b g h q) x.second in
        let is = L.base_types (type_of ra.derivation) k (subst (E (type_of ra.derivation)) p ra.equal) in
        let z = L.steps (type_of rb.derivation) (type_of db) t (Send k) (λ j y. cc y) rb.equal w in
        made (send at a b) h u c (row z.0 (two ra.derivation rb.derivation)) _ _ e (
          ra.derivation,
          rb.derivation,
          k,
          z.0,
          record {
            left = x.left;
            right = x.right;
            split = x.split;
            first = own a h x.left (type_of da) ra;
            second =
                own b h x.right (type_of db) rb;
          },
          is,
          z.1,
          refl,
        )
        z.2
    plainly (receive at a) g h q u c f (da, k, t, x, w, e) =
        let ra = part_of a g h u da (plainly a g h q) x in
        let z = L.steps (type_of ra.derivation) (type_of da) t (Receive k) (λ j y. cc y) ra.equal w in
        made (receive at a) h u c (row (type.pair (plain k) z.0) (one ra.derivation)) _ _ e
        (ra.derivation, k, z.0, own a h u (type_of da) ra, z.1, refl)
        (L.pair_of (plain k) z.0 (plain k) t (L.itself (plain k) (plain_formed m.vars k)) z.2)
    plainly (close at a) g h q u c f (da, t, x, w, e) =
        let ra = part_of a g h u da (plainly a g h q) x in
        let z = L.steps (type_of ra.derivation) (type_of da) t Close (λ j y. cc y) ra.equal w in
        made (close at a) h u c (row (plain Nothing) (one ra.derivation)) _ _ e
        (ra.derivation, z.0, own a h u (type_of da) ra, z.1, refl)
        (subst (λ z. E z z) (ap type_of e) (L.itself (type_of c) f))
    plainly (wait at a) g h q u c f (da, t, x, w, e) =
        let ra = part_of a g h u da (plainly a g h q) x in
        let z = L.steps (type_of ra.derivation) (type_of da) t Wait (λ j y. cc y) ra.equal w in
        made (wait at a) h u c (row (plain Nothing) (one ra.derivation)) _ _ e
        (ra.derivation, z.0, own a h u (type_of da) ra, z.1, refl)
        (subst (λ z. E z z) (ap type_of e) (L.itself (type_of c) f))
    plainly (select at l a) g h q u c f (da, t, x, w, e) =
        let ra = part_of a g h u da (plainly a g h q) x in
        let z = L.steps (type_of ra.derivation) (type_of da) t (Select l) (λ j y. cc y) ra.equal w in
        made (select at l a) h u c (row z.0 (one ra.derivation)) _ _ e
        (ra.derivation, z.0, own a h u (type_of da) ra, z.1, refl) z.2
    plainly (match_with at a bs) g h q u c f (da, ls, t, ds, x, i, l, e) =
        let ra = part_of a g h x.left da (plainly a g h q) x.first in
        let w = L.offers (type_of ra.derivation) (type_of da) ls ra.equal i in
        let r = plainly_arms (rest (type_of da)) (rest (type_of ra.derivation)) ra.equal bs g h q x.right t ds x.second in
        made (match_with at a bs) h u c (row r.0 (part ra.derivation r.1)) _ _ e (
          ra.derivation,
          w.0,
          r.0,
          r.1,
          record { left = x.left; right = x.right; split = x.split; first = own a h x.left (type_of da) ra; second = r.2 },
          w.1,
          record { distinct = l.distinct; same = λ y. ((λ z. (l.same y).0 ((w.2 y).0 z)), (λ z. (w.2 y).1 ((l.same y).1 z))) },
          refl,
        )
        r.3
    plainly (fork at a) g h q u c f (da, x, w, e) =
        let ra = part_of a g h u da (plainly a g h q) x in
        made (fork at a) h u c (row (plain Nothing) (one ra.derivation)) _ _ e
        (ra.derivation, own a h u (type_of da) ra, L.uses (type_of ra.derivation) (type_of da) _ ra.equal w, refl)
        (subst (λ z. E z z) (ap type_of e) (L.itself (type_of c) f))
    plainly (seq at a b) g h q u c f (da, db, x, w, e) =
        let ra = part_of a g h x.left da (plainly a g h q) x.first in
        let rb = part_of b g h x.right db (plainly b g h q) x.second in
        made (seq at a b) h u c (row (type_of rb.derivation) (two ra.derivation rb.derivation)) _ _ e (
          ra.derivation,
          rb.derivation,
          record {
            left = x.left;
            right = x.right;
            split = x.split;
            first = own a h x.left (type_of da) ra;
            second =
                own b h x.right (type_of db) rb;
          },
          L.uses (type_of ra.derivation) (type_of da) _ ra.equal w,
          refl,
        )
        rb.equal

    plainly_fields : (es : CoreList) (ts : List Tree) (g h : List Variable) → AllEqual E h g →
        (u : Vars) (ds : Derivs) → Fields m (converting E) es ts g u ds → (ds' : Derivs) × Fields m (comparing E) es ts h u ds'
    plainly_fields no_terms [] g h q u ds x = (none, (x.0, refl))
    plainly_fields no_terms (t ∷ ts) g h q u ds x = absurd x
    plainly_fields (term e es) [] g h q u ds x = absurd x
    plainly_fields (term e es) (t ∷ ts) g h q u ds (d, more, x, p) =
        let ra = part_at t e g h x.left d (plainly e g h q) x.first in
        let r = plainly_fields es ts g h q x.right more x.second in
        let ca : Deriv = convert (type_of ra.derivation) t ra.derivation in (
          part ca r.0,
          (
            ca,
            r.0,
            record {
              left = x.left;
              right = x.right;
              split = x.split;
              first =
                  compared t (Plain e h) x.left ra.derivation ra.equal ra.rule;
              second = r.1;
            },
            refl,
          ),
        )

    plainly_arms : (b b' : Binding) → SameBinding b' b → (bs : CoreArms) (g h : List Variable) → AllEqual E h g →
        (u : Vars) (t : Tree) (ds : Derivs) →
        Arms m (converting E) b bs g u t ds → (t' : Tree) × (ds' : Derivs) × Arms m (comparing E) b' bs h u t' ds' × E t' t
    plainly_arms b b' s no_arms g h q u t ds x = absurd x
    plainly_arms b b' s (arm l xs e bs) g h q u t ds (ts, vs, d, more, i, j, z0, n, x, p, y, z) =
        let w = bound b b' s l ts vs i j in
        let ra = part_of e (enter_all vs g) (enter_all w.variables h) (under_all vs u) d
        (plainly e (enter_all vs g) (enter_all w.variables h) (all_entered vs w.variables g h w.equal q)) x in
        let T : Tree = type_of ra.derivation in
        let first : E T t = subst (E T) p ra.equal in
        let r = plainly_further b b' s bs g h q u t T (L.back T t first) more y in (
          T,
          part ra.derivation r.0,
          (
            w.types,
            w.variables,
            ra.derivation,
            r.0,
            w.binds,
            w.are,
            all_any w.types,
            n ∙ same_length vs w.variables w.equal,
            subst (λ v. Over m.vars Bare (Plain e (enter_all w.variables h)) v ra.derivation)
                (same_under vs w.variables u w.equal) (own e (enter_all w.variables h) (under_all vs u) (type_of d) ra),
            refl,
            r.1,
            refl,
          ),
          first,
        )

    plainly_further : (b b' : Binding) → SameBinding b' b → (bs : CoreArms) (g h : List Variable) → AllEqual E h g →
        (u : Vars) (t t' : Tree) → E t t' → (ds : Derivs) →
        FurtherArms m (converting E) b bs g u t ds → (ds' : Derivs) × FurtherArms m (comparing E) b' bs h u t' ds'
    plainly_further b b' s no_arms g h q u t t' eq ds x = (none, refl)
    plainly_further b b' s (arm l xs e bs) g h q u t t' eq ds (ts, vs, d, more, i, j, z0, n, x, y, z) =
        let w = bound b b' s l ts vs i j in
        let ra = part_at t e (enter_all vs g) (enter_all w.variables h) (under_all vs u) d
        (plainly e (enter_all vs g) (enter_all w.variables h) (all_entered vs w.variables g h w.equal q)) x in
        let ca : Deriv = convert (type_of ra.derivation) t' ra.derivation in
        let r = plainly_further b b' s bs g h q u t t' eq more y in (
          part ca r.0,
          (
            w.types,
            w.variables,
            ca,
            r.0,
            w.binds,
            w.are,
            all_any w.types,
            n ∙ same_length vs w.variables w.equal,
            subst (λ v. At m.vars t' (Compared E) (Plain e (enter_all w.variables h)) v ca) (same_under vs w.variables u w.equal)
                (turned_to e (enter_all w.variables h) (under_all vs u) t t' ra eq),
            r.1,
            refl,
          ),
        )

  -- a derivation leads to a plain one
  pub derived_is_plain : (e : CoreTree) (g : List Variable) (u : Vars) (d : Deriv) → AllEqual E g g → Derives m E e g u d →
      HasPlain m E e g u (type_of d)
  derived_is_plain e g u d q x = part_of e g g u d (plainly e g g q) x
