-- A `case` and a `match`: what an arm is checked with, and the term behind its row of arms.
use Rattle.std.proofs.Common.{◌≡◌, ◌∙◌, ◌<◌, ℕ, List, [], ◌∷◌, Some, get_or, length, map, slice_get, sym, ap, subst, arith}
use Rattle.std.specs.Prelude.{slice_index}
use Rattle.std.proofs.lemmas.Option.{slice_get-get_or}
use Rattle.fst_types.specs.Tree.{Tree, named}
use Rattle.fst_types.specs.declared.family.Family.{Family}
use Rattle.fst_types.specs.declared.family.Maker.{Maker}
use Rattle.fst_types.specs.declared.kind.Kind.{Kind}
use Rattle.fst_terms.specs.CoreTree.{CoreTree, CoreArms, case_of, match_with}
use Rattle.fst_terms.specs.InRange.{HasCoreArm, maker_named}
use Rattle.fst_terms.specs.ModelCoreView.{core_arms_of}
use Rattle.fst_terms.specs.declared.binder.Binder.{Binder}
use Rattle.fst_terms.specs.declared.core_term.Arm.{Arm}
use Rattle.fst_arms.specs.Arms.{arm_labels, AreEachOnce, AreMakerNumbers}
use Rattle.fst_context.specs.Scope.{Scope, Variable, Takes}
use Rattle.fst_context.specs.Vars.{Vars, Both}
use Rattle.fst_context.proofs.Laws.{takes_as, takes_both}
use Rattle.fst_derivations.specs.Deriv.{Deriv, type_of}
use Rattle.fst_derivations.specs.Parts.{AreAt, AreVariables, IsFormed, IsOffering, enter_all}
use Rattle.fst_derivations.specs.Rules.{Arms, Binds, fields, rest}
use Rattle.fst_premises.specs.declared.choices.Constructors.{Constructors}
use Rattle.fst_premises.specs.Scenes.{AreFormed, IsCase, IsReady}
use Rattle.fst_premises.proofs.Laws.{numbers_long}
use Rattle.fst_typing.specs.Scenes.{AreArmsTyped, IsArmReady}
use Rattle.fst_premises.specs.Checks.{Check, IsInSize, AreInSize}
use Rattle.fst_typing.specs.Typed.{IsPlain, IsTyped, checking}
use Rattle.fst_typing.proofs.Forms.{over, same_variables}

pub some_arms : (arms : List Arm) → HasCoreArm (core_arms_of arms) → 0 < length arms
some_arms [] h = absurd h
some_arms (a ∷ arms) h = omega arith

-- the only name that an arm binds
pub one_binder : (xs : List Binder) (b : Binder) → length xs ≡ 1 → b ≡ get_or xs 0 b → xs ≡ b ∷ []
one_binder [] b l e = absurd (omega (arith, l))
one_binder (x ∷ []) b l e = ap (λ y. y ∷ []) (sym e)
one_binder (x ∷ y ∷ xs) b l e = absurd (omega (arith, l))

pub case_numbered : (families : List Family) (t : Tree) (arms : List Arm) (o : Constructors) (ns : List ℕ) (k : ℕ) (b : Arm) →
    IsCase families t arms o → ns ≡ o.numbers.items → k < length arms → b ≡ get_or arms k b →
    (k < length ns) × (slice_index ns k < length o.makers.now) ×
    (maker_named b.label o.makers.now ≡ slice_get o.makers.now (slice_index ns k))
case_numbered families t arms o ns k b i q l e =
    let makers = subst (λ ms. AreMakerNumbers ms arms o.numbers.items) (sym i.makers) i.numbers in
    let numbers = subst (λ z. AreMakerNumbers o.makers.now arms z) (sym q) makers in
    (omega (arith, numbers.as_many, l), numbers.within k l, numbers.named k b (slice_get-get_or arms k b l ∙ ap Some (sym e)))

module _ (c : Check) where
  abbrev V : List Kind
  V = c.surroundings.vars

  abbrev T : List Tree
  T = c.surroundings.types

  -- what an arm of a `case` is checked with, by the numbers of its constructor's fields
  pub record FieldsArm (ms : List Maker) (ks : List ℕ) (l : List ℕ) (xs : List Binder) (e : CoreTree)
      (g : List Variable) : Type 0 where
    pub types : List Tree
    pub at : AreAt T ks types
    pub binds : Binds c.surroundings (fields ms) l types
    pub formed : AreFormed V types
    pub long : length xs ≡ length ks
    pub body : AreInSize types → (vs : List Variable) → AreVariables V types vs → IsReady c e (enter_all vs g)

  pub fields_arm : (ms : List Maker) (k : ℕ) (o : Maker) (ks : List ℕ) (l : List ℕ) (xs : List Binder) (e : CoreTree)
      (g : List Variable) → IsArmReady c (fields ms) l xs e g → k < length ms →
      maker_named l ms ≡ slice_get ms k → o ≡ get_or ms k o → ks ≡ o.fields.items → FieldsArm ms ks l xs e g
  fields_arm ms k o ks l xs e g h b n i q =
      let there : slice_get ms k ≡ Some o = slice_get-get_or ms k o b ∙ ap Some (sym i) in
      let same : h.binds.0 ≡ o = let both : Some h.binds.0 ≡ Some o = sym h.binds.1 ∙ n ∙ there in cc in
      let numbers : AreAt T ks h.types = subst (λ z. AreAt T z h.types)
      (sym (q ∙ ap (λ (p : Maker). p.fields.items) (sym same))) h.binds.2 in
      record {
        types = h.types;
        at = numbers;
        binds = h.binds;
        formed = h.formed;
        long = h.long
            ∙ numbers_long T ks h.types numbers;
        body = h.body;
      }

  pub case_typed : (at : ℕ) (a : CoreTree) (bs : CoreArms) (d w : Deriv) (r s z : Scope) (n : ℕ) (g : Family) →
      IsTyped c r s a d → type_of d ≡ named n → slice_get c.surroundings.families n ≡ Some g →
      AreEachOnce (map (λ (o : Maker). o.name) g.makers.items) (arm_labels bs) →
      AreArmsTyped c (fields g.makers.items) bs s z d w → IsTyped c r z (case_of at a bs) w
  case_typed at a bs d w r s z n g x t i o y =
      let A : List Variable → Vars → Type 0 = λ v u. Arms c.surroundings (checking c)
      (fields g.makers.items) bs v u y.type y.parts in
      let arms : Takes (A r.variables) s z = subst
      (λ v. Takes (A v) s z) (same_variables c (IsPlain c a r.variables d) r s x) y.takes in
      takes_as (Both (IsPlain c a r.variables d) (A r.variables)) (IsPlain c (case_of at a bs) r.variables w) r z
      (λ u j. record {
        rule = (
          d,
          n,
          g,
          y.type,
          y.parts,
          record {
            left = j.left;
            right = j.right;
            split = j.split;
            first =
                over c a r.variables d j.left j.first;
            second = j.second;
          },
          t,
          i,
          o,
          y.is,
        );
        formed = subst (λ v. IsFormed V (type_of v)) (sym y.is) y.formed;
        small = subst (λ v. IsInSize (type_of v)) (sym y.is) y.small;
      })
      (takes_both (IsPlain c a r.variables d) (A r.variables) r s z x arms)

  pub match_typed : (at : ℕ) (a : CoreTree) (bs : CoreArms) (d w : Deriv) (r s z : Scope) (ls : List (List ℕ)) →
      IsTyped c r s a d → IsOffering (type_of d) ls → AreEachOnce ls (arm_labels bs) →
      AreArmsTyped c (rest (type_of d)) bs s z d w → IsTyped c r z (match_with at a bs) w
  match_typed at a bs d w r s z ls x i o y =
      let A : List Variable → Vars → Type 0 = λ v u. Arms c.surroundings (checking c) (rest (type_of d)) bs v u y.type y.parts in
      let arms : Takes (A r.variables) s z = subst
      (λ v. Takes (A v) s z) (same_variables c (IsPlain c a r.variables d) r s x) y.takes in
      takes_as (Both (IsPlain c a r.variables d) (A r.variables)) (IsPlain c (match_with at a bs) r.variables w) r z
      (λ u j. record {
        rule = (
          d,
          ls,
          y.type,
          y.parts,
          record {
            left = j.left;
            right = j.right;
            split = j.split;
            first =
                over c a r.variables d j.left j.first;
            second = j.second;
          },
          i,
          o,
          y.is,
        );
        formed = subst (λ v. IsFormed V (type_of v)) (sym y.is) y.formed;
        small = subst (λ v. IsInSize (type_of v)) (sym y.is) y.small;
      })
      (takes_both (IsPlain c a r.variables d) (A r.variables) r s z x arms)
