-- What has to hold before arms are checked.
use Rattle.std.proofs.Common.{◌≡◌, ◌∙◌, ◌+◌, ℕ, suc, List, [], ◌∷◌, Option, Some, None, length, map, slice_get, refl, sym, ap, subst, arith}
use Rattle.std.specs.Prelude.{Contains, IsSome}
use Rattle.std.specs.List.{IsDistinct}
use Rattle.std.specs.Str.{bytes_eq}
use Rattle.fst_types.specs.Tree.{Tree}
use Rattle.fst_types.specs.declared.family.Family.{Family}
use Rattle.fst_types.specs.declared.family.Maker.{Maker}
use Rattle.fst_types.specs.declared.kind.Kind.{Kind}
use Rattle.fst_types.specs.declared.label.Label.TheVariants.{Offer}
use Rattle.fst_lts.specs.Step.{labels, step}
use Rattle.fst_lts.proofs.Laws.{labels_are_moves}
use Rattle.fst_terms.specs.CoreTree.{CoreTree, CoreArms, no_arms, arm, case_of, match_with}
use Rattle.fst_terms.specs.InRange.{AreCasesInRange, AreMatchesInRange, HasFields, IsInRange, makers}
use Rattle.fst_context.specs.Scope.{Scope, Variable}
use Rattle.fst_arms.specs.Arms.{arm_labels, AreEachOnce}
use Rattle.fst_derivations.specs.Deriv.{Deriv}
use Rattle.fst_derivations.specs.Modules.{AreFieldsFormed, AreStandingFormed, types_in, types_in_arms}
use Rattle.fst_derivations.specs.Parts.{AreAt, AreVariables, HasUse, IsFormed, IsOffering, enter_all}
use Rattle.fst_derivations.specs.Rules.{fields, rest}
use Rattle.fst_premises.specs.Scenes.{AreFormed, AreHeld, IsReady, IsSetUp, bounds}
use Rattle.fst_premises.proofs.Laws.{closed_formed, numbers_long}
use Rattle.fst_typing.specs.Scenes.{AreArmsReady, IsArmReady}
use Rattle.fst_premises.specs.Checks.{Check, IsInSize, AreInSize}
use Rattle.fst_typing.specs.Typed.{IsTyped}
use Rattle.fst_typing.proofs.Containing.{contains_first, contains_later, mapped_contains}
use Rattle.fst_typing.proofs.Formed.{moved_formed, moving_session}
use Rattle.fst_typing.proofs.Makers.{field_types, formed_named}
use Rattle.fst_typing.proofs.Named.{contained_named, family_named}
use Rattle.fst_typing.proofs.Ready.{standing_parts}

-- types of formed fields are formed over any variables
pub types_formed : (vars : List Kind) (types : List Tree) (ks : List ℕ) (ts : List Tree) → AreFieldsFormed types ks →
    AreAt types ks ts → AreFormed vars ts
types_formed vars types [] [] h a = tt
types_formed vars types [] (t ∷ ts) h a = absurd a
types_formed vars types (k ∷ ks) [] h a = absurd a
types_formed vars types (k ∷ ks) (t ∷ ts) h a =
    let same : h.0.0 ≡ t = let both : Some h.0.0 ≡ Some t = sym h.0.1 ∙ a.0 in cc in
    (closed_formed vars t (subst (IsFormed []) same h.0.2), types_formed vars types ks ts h.1 a.1)

variables_long : (vars : List Kind) (ts : List Tree) (vs : List Variable) → AreVariables vars ts vs → length vs ≡ length ts
variables_long vars [] [] h = refl
variables_long vars [] (v ∷ vs) h = absurd h
variables_long vars (t ∷ ts) [] h = absurd h
variables_long vars (t ∷ ts) (v ∷ vs) h = ap suc (variables_long vars ts vs h.2)

pub enter_length : (vs g : List Variable) → length (enter_all vs g) ≡ length vs + length g
enter_length [] g = omega arith
enter_length (v ∷ vs) g = omega (arith, enter_length vs (v ∷ g))

enter_held : (vars : List Kind) (ts : List Tree) (vs g : List Variable) → AreVariables vars ts vs → AreInSize ts →
    AreHeld vars g → AreHeld vars (enter_all vs g)
enter_held vars [] [] g a m h = h
enter_held vars [] (v ∷ vs) g a m h = absurd a
enter_held vars (t ∷ ts) [] g a m h = absurd a
enter_held vars (t ∷ ts) (v ∷ vs) g a m h = enter_held vars ts vs (v ∷ g) a.2 m.1
    (subst (λ o. HasUse vars o v.uses) (sym a.0) a.1, subst IsInSize (sym a.0) m.0, h)

module _ (c : Check) where
  abbrev V : List Kind
  V = c.surroundings.vars

  abbrev T : List Tree
  T = c.surroundings.types

  pub case_arms_ready : (n : ℕ) (g : Family) (bs : CoreArms) (v : List Variable) → IsSetUp c →
      IsDistinct bytes_eq (map (λ (o : Maker). o.name) (makers c.surroundings.families)) →
      slice_get c.surroundings.families n ≡ Some g →
      ((x : List ℕ) → Contains (arm_labels bs) x → Contains (map (λ (o : Maker). o.name) g.makers.items) x) →
      AreCasesInRange (bounds c) (length v) bs → AreStandingFormed T V (types_in_arms bs) → AreHeld V v →
      AreArmsReady c (fields g.makers.items) bs v
  case_arms_ready n g no_arms v s d e h r f u = tt
  case_arms_ready n g (arm l xs t bs) v s d e h r f u =
      let parts = standing_parts T V (types_in t) (types_in_arms bs) f in
      let named = contained_named g.makers.items l (h l (contains_first l (arm_labels bs))) in
      let formed = formed_named T g.makers.items l named.0 (s.fields n g e) named.1 in
      let types = field_types T named.0.fields.items formed in
      let whole = family_named c.surroundings.families n g l named.0 d e named.1 in
      let many : length named.0.fields.items ≡ length xs = subst (λ m. HasFields m (length xs)) whole r.0 in
      let long : length types.0 ≡ length named.0.fields.items = numbers_long T named.0.fields.items types.0 types.1 in (
        record {
          types = types.0;
          binds = (named.0, named.1, types.1);
          formed = types_formed V T named.0.fields.items types.0 formed types.1;
          long = sym (long ∙ many);
          body = λ m vs a.
              let same : length xs + length v ≡ length (enter_all vs v) =
              omega (arith, enter_length vs v, variables_long V types.0 vs a, long, many) in
              record {
                range = subst (λ m. IsInRange (bounds c) m t) same r.1;
                formed = parts.0;
                held =
                    enter_held V types.0 vs v a m u;
              };
        },
        case_arms_ready n g bs v s d e (λ x y. h x (contains_later l x (arm_labels bs) y)) r.2 parts.1 u,
      )

  pub case_ready : (at : ℕ) (a : CoreTree) (bs : CoreArms) (d : Deriv) (r s : Scope) (n : ℕ) (g : Family) → IsSetUp c →
      IsDistinct bytes_eq (map (λ (o : Maker). o.name) (makers c.surroundings.families)) →
      slice_get c.surroundings.families n ≡ Some g →
      AreEachOnce (map (λ (o : Maker). o.name) g.makers.items) (arm_labels bs) → IsReady c (case_of at a bs) r.variables →
      IsTyped c r s a d → AreArmsReady c (fields g.makers.items) bs s.variables
  case_ready at a bs d r s n g u i e o h y =
      let parts = standing_parts T V (types_in a) (types_in_arms bs) h.formed in
      subst (λ v. AreArmsReady c (fields g.makers.items) bs v) (sym (ap (λ z. z.variables) y.rest))
      (case_arms_ready n g bs r.variables u i e (λ x z. (o.same x).1 z) h.range.2 parts.1 h.held)

  pub match_arms_ready : (t : Tree) (ls : List (List ℕ)) (bs : CoreArms) (v : List Variable) → IsFormed V t → IsOffering t ls →
      ((x : List ℕ) → Contains (arm_labels bs) x → Contains ls x) →
      AreMatchesInRange (bounds c) (length v) bs → AreStandingFormed T V (types_in_arms bs) → AreHeld V v →
      AreArmsReady c (rest t) bs v
  match_arms_ready t ls no_arms v i o h r f u = tt
  match_arms_ready t ls (arm l xs e bs) v i o h r f u =
      let parts = standing_parts T V (types_in e) (types_in_arms bs) f in
      let there : Contains (labels t) (Offer l) = subst
      (λ z. Contains z (Offer l)) (sym o.labels) (mapped_contains Offer ls l (h l (contains_first l (arm_labels bs)))) in (
        one (step t (Offer l)) refl ((labels_are_moves t (Offer l)).0 there) parts.0,
        match_arms_ready t ls bs v i o
            (λ x y. h x (contains_later l x (arm_labels bs) y)) r.2 parts.1 u,
      )
    where
      one : (q : Option Tree) → step t (Offer l) ≡ q → IsSome q → AreStandingFormed T V (types_in e) →
          IsArmReady c (rest t) l xs e v
      one None j k p = absurd (cc k)
      one (Some next) j k p = record {
        types = next ∷ [];
        binds = (next, j, refl);
        formed = (moved_formed V t next (Offer l) (moving_session V t i.0 (Offer l) next i.1 (λ m z. cc z) j) j, tt);
        long = r.0;
        body = λ m vs a.
            let same : suc (length v) ≡ length (enter_all vs v) =
            omega (arith, enter_length vs v, variables_long V (next ∷ []) vs a) in
            record {
              range = subst (λ m. IsInRange (bounds c) m e) same r.1;
              formed = p;
              held =
                  enter_held V (next ∷ []) vs v a m u;
            };
      }

  pub match_ready : (at : ℕ) (a : CoreTree) (bs : CoreArms) (d : Deriv) (r s : Scope) (t : Tree) (ls : List (List ℕ)) →
      IsFormed V t → IsOffering t ls → AreEachOnce ls (arm_labels bs) → IsReady c (match_with at a bs) r.variables →
      IsTyped c r s a d →
      AreArmsReady c (rest t) bs s.variables
  match_ready at a bs d r s t ls i o e h y =
      let parts = standing_parts T V (types_in a) (types_in_arms bs) h.formed in
      subst (λ v. AreArmsReady c (rest t) bs v) (sym (ap (λ z. z.variables) y.rest))
      (match_arms_ready t ls bs r.variables i o (λ x z. (e.same x).1 z) h.range.2 parts.1 h.held)

  -- what a `case` and a `match` look at is ready
  pub case_first_ready : {at : ℕ} {a : CoreTree} {bs : CoreArms} {g : List Variable} → IsReady c (case_of at a bs) g →
      IsReady c a g
  case_first_ready {at} {a} {bs} {g} h = record {
    range = h.range.1;
    formed =
        (standing_parts T V (types_in a) (types_in_arms bs) h.formed).0;
    held = h.held;
  }

  pub match_first_ready : {at : ℕ} {a : CoreTree} {bs : CoreArms} {g : List Variable} → IsReady c (match_with at a bs) g →
      IsReady c a g
  match_first_ready {at} {a} {bs} {g} h = record {
    range = h.range.1;
    formed =
        (standing_parts T V (types_in a) (types_in_arms bs) h.formed).0;
    held = h.held;
  }
