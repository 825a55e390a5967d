-- Derivations of a module are those of each that has the same parts.
use Rattle.std.proofs.Common.{◌≡◌, ℕ, ◌<◌, true, List, [], ◌∷◌, ◌++◌, map, length, slice_get, Some, refl, sym, ap, subst}
use Rattle.std.specs.Prelude.{Contains, codes}
use Rattle.std.specs.Str.{bytes_eq}
use Rattle.fst_base.proofs.Alls.{all_weaker}
use Rattle.fst_types.specs.Tree.{Tree, plain}
use Rattle.fst_types.specs.declared.base.Base.TheVariants.{Bool as Truth}
use Rattle.fst_types.specs.declared.family.Family.{Family}
use Rattle.fst_types.specs.declared.family.Maker.{Maker}
use Rattle.fst_types.specs.declared.kind.Kind.{Kind}
use Rattle.fst_kinds.specs.WellFormed.{IsInstantiation}
use Rattle.fst_terms.specs.CoreTree.{CoreTree, local, global, int, bool, char, unit, pair, make, lambda, apply, let_in, split, if_else, case_of, operate, negate, new, send, receive, close, wait, select, match_with, fork, seq, CoreList, no_terms, term, CoreArms, no_arms, arm}
use Rattle.fst_terms.specs.declared.core_module.Module.{Module}
use Rattle.fst_terms.specs.declared.global.GlobalEntry.{GlobalEntry}
use Rattle.fst_arms.specs.Arms.{AreEachOnce, arm_labels}
use Rattle.fst_context.specs.Scope.{Variable, is_once}
use Rattle.fst_context.specs.Vars.{Vars, Both, no_vars, under}
use Rattle.fst_derivations.specs.Deriv.{Deriv, Derivs, type_of}
use Rattle.fst_derivations.specs.Parts.{AreAt, IsConversion, enter_all, under_all}
use Rattle.fst_derivations.specs.Rules.{Surroundings, Mode, Converted, converting, Over, At, Binding, fields, rest, Binds, Row, Fields, Arms, FurtherArms}
use Rattle.fst_derivations.specs.Laws.{Weaker}
use Rattle.fst_derivations.specs.Modules.Equation.{parameter, result}
use Rattle.fst_derivations.specs.Modules.{types_in, global_types, maker_types, family_types, IsPrintable, IsFormedAt, AreStandingFormed, AreFieldsFormed, AreMakersFormed, AreFamiliesFormed, AreGlobalsFormed, AreTypesFormed, ArePrintable, HavePrintableFields, AreFamiliesPrintable, HasMain, Equation, AreDerived, ArePlainlyDerived, HasDerivations, HasPlainDerivations}
use Rattle.fst_names.specs.Modules.{Global, family_parts, global_parts}
use Rattle.fst_names.specs.ResolvedModule.{AreSame}
use Rattle.fst_command.proofs.SameParts.{maker_parts, same_all, same_fold, same_maker, same_map, same_named, same_there}

-- ---- the types of a module

makers_formed : (types : List Tree) (os ps : List Maker) → map maker_parts os ≡ map maker_parts ps → AreMakersFormed types os →
    AreMakersFormed types ps
makers_formed types =
    same_all maker_parts (AreMakersFormed types) (λ o. AreFieldsFormed types o.fields.items) tt (λ o os h. h) (λ o os h i. (h, i))
    (λ o p e. subst (AreFieldsFormed types) (ap (λ z. z.1) e))

families_formed : (types : List Tree) (fs gs : List Family) → map family_parts fs ≡ map family_parts gs →
    AreFamiliesFormed types fs → AreFamiliesFormed types gs
families_formed types =
    same_all family_parts (AreFamiliesFormed types) (λ f. AreMakersFormed types f.makers.items) tt (λ f fs h. h)
    (λ f fs h i. (h, i))
    (λ f g e. makers_formed types f.makers.items g.makers.items (ap (λ z. z.1) e))

makers_printable : (types : List Tree) (os ps : List Maker) → map maker_parts os ≡ map maker_parts ps →
    HavePrintableFields types os → HavePrintableFields types ps
makers_printable types =
    same_all maker_parts (HavePrintableFields types) (λ o. ArePrintable types o.fields.items) tt (λ o os h. h)
    (λ o os h i. (h, i))
    (λ o p e. subst (ArePrintable types) (ap (λ z. z.1) e))

families_printable : (types : List Tree) (fs gs : List Family) → map family_parts fs ≡ map family_parts gs →
    AreFamiliesPrintable types fs → AreFamiliesPrintable types gs
families_printable types =
    same_all family_parts (AreFamiliesPrintable types) (λ f. HavePrintableFields types f.makers.items) tt (λ f fs h. h)
    (λ f fs h i. (h, i))
    (λ f g e. makers_printable types f.makers.items g.makers.items (ap (λ z. z.1) e))

-- the types that stand in a global
abbrev PartsFormed : List Tree → Global → Type 0
PartsFormed types z = IsFormedAt types z.its_kinds z.signature × AreStandingFormed types z.its_kinds (types_in z.body)

globals_formed : (types : List Tree) (gs hs : List GlobalEntry) → map global_parts gs ≡ map global_parts hs →
    AreGlobalsFormed types gs → AreGlobalsFormed types hs
globals_formed types =
    same_all global_parts (AreGlobalsFormed types) (λ g. PartsFormed types (global_parts g)) tt (λ g gs h. ((h.0, h.1), h.2))
    (λ g gs h i. (h.0, h.1, i))
    (λ g h e. subst (PartsFormed types) e)

-- what is asked of main
abbrev pub MainParts : List Tree → Global → Type 0
MainParts types z = bytes_eq z.name (codes "main") ≡ true → (z.its_kinds ≡ []) ×
    ((t : Tree) × (slice_get types z.signature ≡ Some t) × IsPrintable t)

has_main : (types : List Tree) (gs hs : List GlobalEntry) → map global_parts gs ≡ map global_parts hs → HasMain types gs →
    HasMain types hs
has_main types =
    same_all global_parts (HasMain types) (λ g. MainParts types (global_parts g)) tt (λ g gs h. h) (λ g gs h i. (h, i))
    (λ g h e. subst (MainParts types) e)

-- the numbers of types
pub same_global_types : (gs hs : List GlobalEntry) → map global_parts gs ≡ map global_parts hs → global_types gs ≡ global_types hs
same_global_types =
    same_fold global_parts global_types (λ g l. g.signature ∷ (map (λ p. p.0) (types_in g.body) ++ l)) (λ g gs. refl)
    (λ g h e l. λ i. (e i).signature ∷ (map (λ p. p.0) (types_in (e i).body) ++ l))

same_maker_types : (os ps : List Maker) → map maker_parts os ≡ map maker_parts ps → maker_types os ≡ maker_types ps
same_maker_types = same_fold maker_parts maker_types (λ o l. o.fields.items ++ l) (λ o os. refl) (λ o p e l. λ i. (e i).1 ++ l)

pub same_family_types : (fs gs : List Family) → map family_parts fs ≡ map family_parts gs → family_types fs ≡ family_types gs
same_family_types =
    same_fold family_parts family_types (λ f l. maker_types f.makers.items ++ l) (λ f fs. refl)
    (λ f g e l. ap (λ k. k ++ l) (same_maker_types f.makers.items g.makers.items (ap (λ z. z.1) e)))

module _ (m n : Module) (s : AreSame m n) where
  pub types_formed : AreTypesFormed m → AreTypesFormed n
  types_formed h = record {
    families = families_formed n.types.items m.families.items n.families.items s.families
        (subst (λ ts. AreFamiliesFormed ts m.families.items) s.types h.families);
    globals = globals_formed n.types.items m.globals.items n.globals.items s.globals
        (subst (λ ts. AreGlobalsFormed ts m.globals.items) s.types h.globals);
    others = subst (λ ks. (k : ℕ) → k < length n.types.items → (Contains ks k → ⊥) → IsFormedAt n.types.items [] k)
        (λ i. same_global_types m.globals.items n.globals.items s.globals i ++ same_family_types m.families.items n.families.items
        s.families i)
        (subst (λ ts. (k : ℕ) → k < length ts → (Contains (global_types m.globals.items ++ family_types m.families.items) k → ⊥) →
        IsFormedAt ts [] k) s.types h.others);
  }

  pub fields_printable : AreFamiliesPrintable m.types.items m.families.items → AreFamiliesPrintable n.types.items n.families.items
  fields_printable h = families_printable n.types.items m.families.items n.families.items s.families
      (subst (λ ts. AreFamiliesPrintable ts m.families.items) s.types h)

  main_same : HasMain m.types.items m.globals.items → HasMain n.types.items n.globals.items
  main_same h = has_main n.types.items m.globals.items n.globals.items s.globals
      (subst (λ ts. HasMain ts m.globals.items) s.types h)

-- ---- rows

-- bindings of arms with the same parts
pub data SameBinding : Binding → Binding → Type 0 where
  same_fields : {os ps : List Maker} → map maker_parts os ≡ map maker_parts ps → SameBinding (fields os) (fields ps)
  same_rest : {t : Tree} → SameBinding (rest t) (rest t)

-- two surroundings with the same parts
abbrev pub around : List Family → List GlobalEntry → List Tree → List Kind → Surroundings
around fs gs types vars = record { families = fs; globals = gs; types = types; vars = vars }

module _ (fs gs : List Family) (xs ys : List GlobalEntry) (families : map family_parts fs ≡ map family_parts gs)
    (globals : map global_parts xs ≡ map global_parts ys) (types : List Tree) (vars : List Kind) where
  abbrev M : Surroundings
  M = around fs xs types vars

  abbrev N : Surroundings
  N = around gs ys types vars

  pub binds_same : (B C : Binding) → SameBinding B C → (l : List ℕ) (ts : List Tree) → Binds M B l ts → Binds N C l ts
  binds_same _ _ (same_fields {os} {ps} e) l ts (o, h, at) =
      let p = same_named l os ps e o h in
      (p.0, p.1, subst (λ z. AreAt types z ts) (sym (ap (λ z. z.1) p.2)) at)
  binds_same _ _ same_rest l ts h = h

  module _ (S T : Mode) (w : Weaker S T) where
    over : (P Q : Vars → Deriv → Type 0) → ((u : Vars) (c : Deriv) → P u c → Q u c) →
        (u : Vars) (d : Deriv) → Over vars S.kept P u d → Over vars T.kept Q u d
    over P Q g u d x = record { core = x.core; stands = w.kept d x.core x.stands; rule = g u x.core x.rule; formed = x.formed }

    at_type : (t : Tree) (P Q : Vars → Deriv → Type 0) → ((u : Vars) (c : Deriv) → P u c → Q u c) →
        (u : Vars) (d : Deriv) → At vars t S.compared P u d → At vars t T.compared Q u d
    at_type t P Q g u d x = record {
      core = x.core;
      stands = w.compared d x.core x.stands;
      rule = g u x.core x.rule;
      formed =
          x.formed;
      wanted = x.wanted;
    }

    both : (P Q R O : Vars → Type 0) → ((u : Vars) → P u → R u) → ((u : Vars) → Q u → O u) → (u : Vars) → Both P Q u → Both R O u
    both P Q R O f g u x = record {
      left = x.left;
      right = x.right;
      split = x.split;
      first = f x.left x.first;
      second =
          g x.right x.second;
    }

    mutual
      pub row_same : (e : CoreTree) (g : List Variable) (u : Vars) (c : Deriv) → Row M S e g u c → Row N T e g u c
      row_same (local at k) g u c x = x
      row_same (global at k ks) g u c (f, t, args, i, j, a, h, o, e) =
          let y = same_there global_parts xs ys globals k f i in
          let z = subst (λ (z : Global). (slice_get types z.signature ≡ Some t) × IsInstantiation vars z.its_kinds args) (sym y.2)
          (j, h) in
          (y.0, t, args, y.1, z.0, a, z.1, o, e)
      row_same (int at k) g u c x = x
      row_same (bool at b) g u c x = x
      row_same (char at k) g u c x = x
      row_same (unit at) g u c x = x
      row_same (pair at a b) g u c (d, l, x, e) = (
        d,
        l,
        both _ _ _ _ (λ v. over _ _ (row_same a g) v d)
            (λ v. over _ _ (row_same b g) v l) u x,
        e,
      )
      row_same (make at k o es) g u c (f, ts, ds, i, a, x, e) =
          let y = same_maker fs gs families k o f i in
          (y.0, ts, ds, y.1, subst (λ z. AreAt types z ts) (sym (ap (λ z. z.1) y.2)) a, fields_same es ts g u ds x, e)
      row_same (lambda at uses k z a) g u c (t, n, d, p, h, r, o, x, e) =
          (t, n, d, p, h, w.bound t r, o, over _ _ (row_same a (record { type = t; uses = n } ∷ g)) (under (is_once n) u) d x, e)
      row_same (apply at a b) g u c (d, l, uses, s, t, x, p, e) =
          (d, l, uses, s, t, both _ _ _ _ (λ v. over _ _ (row_same a g) v d) (λ v. at_type s _ _ (row_same b g) v l) u x, p, e)
      row_same (let_in at z a b) g u c (d, l, n, x, h, e) = (
        d,
        l,
        n,
        both _ _ _ _ (λ v. over _ _ (row_same a g) v d)
            (λ v. over _ _ (row_same b (record { type = type_of d; uses = n } ∷ g)) (under (is_once n) v) l) u x,
        h,
        e,
      )
      row_same (split at y z a b) g u c (d, l, s, t, n, o, x, p, i, j, e) = (
        d,
        l,
        s,
        t,
        n,
        o,
        both _ _ _ _ (λ v. over _ _ (row_same a g) v d)
            (λ v. over _ _ (row_same b (record { type = t; uses = o } ∷ record { type = s; uses = n } ∷ g))
            (under (is_once o) (under (is_once n) v)) l) u x,
        p,
        i,
        j,
        e,
      )
      row_same (if_else at a b o) g u c (d, k, l, x, e) = (
        d,
        k,
        l,
        both _ _ _ _ (λ v. at_type (plain Truth) _ _ (row_same a g) v d)
            (λ v z. (over _ _ (row_same b g) v k z.0, at_type (type_of k) _ _ (row_same o g) v l z.1)) u x,
        e,
      )
      row_same (case_of at a bs) g u c (d, n, f, t, ds, x, p, i, l, e) =
          let y = same_there family_parts fs gs families n f i in
          let makers = sym (ap (λ z. z.1) y.2) in (
            d,
            n,
            y.0,
            t,
            ds,
            both _ _ _ _ (λ v. over _ _ (row_same a g) v d) (λ v. arms_same _ _ (same_fields makers) bs g v t ds) u x,
            p,
            y.1,
            subst (λ z. AreEachOnce z (arm_labels bs)) (same_map maker_parts (λ z. z.0) f.makers.items y.0.makers.items makers) l,
            e,
          )
      row_same (operate at o a b) g u c (d, l, s, t, i, x, e) =
          (d, l, s, t, i, both _ _ _ _ (λ v. at_type s _ _ (row_same a g) v d) (λ v. at_type s _ _ (row_same b g) v l) u x, e)
      row_same (negate at a) g u c (d, x, e) = (d, at_type (plain Truth) _ _ (row_same a g) u d x, e)
      row_same (new at k) g u c x = x
      row_same (send at a b) g u c (d, l, k, t, x, p, q, e) =
          (d, l, k, t, both _ _ _ _ (λ v. over _ _ (row_same a g) v d) (λ v. over _ _ (row_same b g) v l) u x, p, q, e)
      row_same (receive at a) g u c (d, k, t, x, p, e) = (d, k, t, over _ _ (row_same a g) u d x, p, e)
      row_same (close at a) g u c (d, t, x, p, e) = (d, t, over _ _ (row_same a g) u d x, p, e)
      row_same (wait at a) g u c (d, t, x, p, e) = (d, t, over _ _ (row_same a g) u d x, p, e)
      row_same (select at l a) g u c (d, t, x, p, e) = (d, t, over _ _ (row_same a g) u d x, p, e)
      row_same (match_with at a bs) g u c (d, ls, t, ds, x, i, l, e) =
          (d, ls, t, ds, both _ _ _ _ (λ v. over _ _ (row_same a g) v d) (λ v. arms_same _ _ same_rest bs g v t ds) u x, i, l, e)
      row_same (fork at a) g u c (d, x, h, e) = (d, over _ _ (row_same a g) u d x, h, e)
      row_same (seq at a b) g u c (d, l, x, h, e) =
          (d, l, both _ _ _ _ (λ v. over _ _ (row_same a g) v d) (λ v. over _ _ (row_same b g) v l) u x, h, e)

      pub fields_same : (es : CoreList) (ts : List Tree) (g : List Variable) (u : Vars) (ds : Derivs) → Fields M S es ts g u ds →
          Fields N T es ts g u ds
      fields_same no_terms [] g u ds x = x
      fields_same no_terms (t ∷ ts) g u ds x = absurd x
      fields_same (term e es) [] g u ds x = absurd x
      fields_same (term e es) (t ∷ ts) g u ds (d, more, x, p) =
          (d, more, both _ _ _ _ (λ v. at_type t _ _ (row_same e g) v d) (λ v. fields_same es ts g v more) u x, p)

      arms_same : (B C : Binding) → SameBinding B C →
          (bs : CoreArms) (g : List Variable) (u : Vars) (t : Tree) (ds : Derivs) → Arms M S B bs g u t ds →
          Arms N T C bs g u t ds
      arms_same B C b no_arms g u t ds x = absurd x
      arms_same B C b (arm l xs e bs) g u t ds (ts, vs, d, more, i, j, r, n, x, p, y, q) = (
        ts,
        vs,
        d,
        more,
        binds_same B C b l ts i,
        j,
        all_weaker S.bound T.bound w.bound ts r,
        n,
        over _ _ (row_same e (enter_all vs g)) (under_all vs u) d x,
        p,
        further_same B C b bs g u t more y,
        q,
      )

      further_same : (B C : Binding) → SameBinding B C →
          (bs : CoreArms) (g : List Variable) (u : Vars) (t : Tree) (ds : Derivs) → FurtherArms M S B bs g u t ds →
          FurtherArms N T C bs g u t ds
      further_same B C b no_arms g u t ds x = x
      further_same B C b (arm l xs e bs) g u t ds (ts, vs, d, more, i, j, r, n, x, y, q) = (
        ts,
        vs,
        d,
        more,
        binds_same B C b l ts i,
        j,
        all_weaker S.bound T.bound w.bound ts r,
        n,
        at_type t _ _ (row_same e (enter_all vs g)) (under_all vs u) d x,
        further_same B C b bs g u t more y,
        q,
      )

    pub at_same : (e : CoreTree) (t : Tree) (g : List Variable) (u : Vars) (d : Deriv) → At vars t S.compared (Row M S e g) u d →
        At vars t T.compared (Row N T e g) u d
    at_same e t g u d x = at_type t (Row M S e g) (Row N T e g) (row_same e g) u d x

    -- the derivation of an equation
    pub equation_same : {e : CoreTree} {t : Tree} {g : List Variable} {u : Vars} {d : Deriv} → Equation M S e t g u d →
        Equation N T e t g u d
    equation_same (parameter p has bound none x) = parameter p has (w.bound p.from bound) none (equation_same x)
    equation_same {e} {t} {g} {u} {d} (result apart x) = result apart (at_same e t g u d x)

-- ---- modules

-- the derivation of an equation, by the parts of its global
abbrev PartsDerived : List Family → List GlobalEntry → List Tree → (List Kind → Tree → Tree → Type 0) → Deriv → Global → Type 0
PartsDerived fs gs types E d z =
    (t : Tree) × (slice_get types z.signature ≡ Some t) ×
    At z.its_kinds t (Converted (E z.its_kinds)) (Row (around fs gs types z.its_kinds) (converting (E z.its_kinds)) z.body [])
    no_vars d

-- its plain derivation
abbrev pub PartsPlainlyDerived : List Family → List GlobalEntry → List Tree → (List Kind → Mode) → Deriv → Global → Type 0
PartsPlainlyDerived fs gs types S d z =
    (t : Tree) × (slice_get types z.signature ≡ Some t) ×
    Equation (around fs gs types z.its_kinds) (S z.its_kinds) z.body t [] no_vars d

module _ (m n : Module) (s : AreSame m n) where
  itself : (S : Mode) → Weaker S S
  itself S = record { kept = λ d c h. h; compared = λ d c h. h; bound = λ t h. h }

  derived_same : (E : List Kind → Tree → Tree → Type 0) (gs hs : List GlobalEntry) (ds : List Deriv) →
      map global_parts gs ≡ map global_parts hs → AreDerived m E gs ds → AreDerived n E hs ds
  derived_same E [] [] [] e h = tt
  derived_same E [] [] (d ∷ ds) e h = absurd h
  derived_same E [] (x ∷ hs) ds e h = absurd (cc e)
  derived_same E (g ∷ gs) [] ds e h = absurd (cc e)
  derived_same E (g ∷ gs) (x ∷ hs) [] e h = absurd h
  derived_same E (g ∷ gs) (x ∷ hs) (d ∷ ds) e h =
      let first : global_parts g ≡ global_parts x = cc in
      let tail : map global_parts gs ≡ map global_parts hs = cc in
      let mine = subst (λ types. PartsDerived m.families.items m.globals.items types E d (global_parts g)) s.types h.0 in
      let S = converting (E g.kinds.items) in
      let moved = at_same m.families.items n.families.items m.globals.items n.globals.items s.families s.globals n.types.items
      g.kinds.items S S (itself S) g.body mine.0 [] no_vars d mine.2 in (
        subst (PartsDerived n.families.items n.globals.items n.types.items E d) first (mine.0, mine.1, moved),
        derived_same E gs hs ds tail h.1,
      )

  -- a global of the one has its plain derivation in the other
  pub plain_one : (S T : List Kind → Mode) → ((vars : List Kind) → Weaker (S vars) (T vars)) →
      (g h : GlobalEntry) → global_parts g ≡ global_parts h → (d : Deriv) →
      PartsPlainlyDerived m.families.items m.globals.items m.types.items S d (global_parts g) →
      PartsPlainlyDerived n.families.items n.globals.items n.types.items T d (global_parts h)
  plain_one S T w g h first d x =
      let mine = subst (λ types. PartsPlainlyDerived m.families.items m.globals.items types S d (global_parts g)) s.types x in
      let moved = equation_same m.families.items n.families.items m.globals.items n.globals.items s.families s.globals
      n.types.items g.kinds.items (S g.kinds.items) (T g.kinds.items) (w g.kinds.items) mine.2 in
      subst (PartsPlainlyDerived n.families.items n.globals.items n.types.items T d) first (mine.0, mine.1, moved)

  plainly_same : (S T : List Kind → Mode) → ((vars : List Kind) → Weaker (S vars) (T vars)) →
      (gs hs : List GlobalEntry) (ds : List Deriv) → map global_parts gs ≡ map global_parts hs →
      ArePlainlyDerived m S gs ds → ArePlainlyDerived n T hs ds
  plainly_same S T w [] [] [] e h = tt
  plainly_same S T w [] [] (d ∷ ds) e h = absurd h
  plainly_same S T w [] (x ∷ hs) ds e h = absurd (cc e)
  plainly_same S T w (g ∷ gs) [] ds e h = absurd (cc e)
  plainly_same S T w (g ∷ gs) (x ∷ hs) [] e h = absurd h
  plainly_same S T w (g ∷ gs) (x ∷ hs) (d ∷ ds) e h =
      let first : global_parts g ≡ global_parts x = cc in
      let tail : map global_parts gs ≡ map global_parts hs = cc in
      (plain_one S T w g x first d h.0, plainly_same S T w gs hs ds tail h.1)

  -- the derivations of a module
  pub derivations_same : (ds : List Deriv) → HasDerivations m ds → HasDerivations n ds
  derivations_same ds h = record {
    types = types_formed m n s h.types;
    fields = fields_printable m n s h.fields;
    main = main_same m n s h.main;
    equations = derived_same IsConversion m.globals.items n.globals.items ds s.globals h.equations;
  }

  -- and its plain ones
  pub plain_derivations_same : (S T : List Kind → Mode) → ((vars : List Kind) → Weaker (S vars) (T vars)) →
      (ds : List Deriv) → HasPlainDerivations m S ds → HasPlainDerivations n T ds
  plain_derivations_same S T w ds h = record {
    types = types_formed m n s h.types;
    fields = fields_printable m n s h.fields;
    main = main_same m n s h.main;
    equations = plainly_same S T w m.globals.items n.globals.items ds s.globals h.equations;
  }
