-- The derivations of a module's globals.
use Rattle.std.proofs.Common.{◌≡◌, ◌∙◌, ◌↔◌, suc, Bool, true, false, List, [], ◌∷◌, length, map, Some, slice_get, refl, sym, ap, subst}
use Rattle.std.proofs.lemmas.Option.{same_Some}
use Rattle.fst_types.specs.Tree.{Tree}
use Rattle.fst_types.specs.declared.kind.Kind.{Kind}
use Rattle.fst_terms.specs.CoreTree.{CoreTree}
use Rattle.fst_terms.specs.declared.core_module.Module.{Module}
use Rattle.fst_terms.specs.declared.global.GlobalEntry.{GlobalEntry}
use Rattle.fst_context.specs.Vars.{no_vars}
use Rattle.fst_context.specs.Scope.{Scope, empty, without}
use Rattle.fst_derivations.specs.Deriv.{Deriv, deriv_of, type_of}
use Rattle.fst_derivations.specs.declared.derivation.Derivation.{Derivation}
use Rattle.fst_rules.specs.Levels.{IsDerived}
use Rattle.fst_derivations.specs.Modules.{surroundings, AreDerived}
use Rattle.fst_derivations.specs.Parts.{IsAnyConversion}
use Rattle.fst_derivations.specs.Rules.{Surroundings}
use Rattle.fst_fits.specs.Tests.{same_tree}
use Rattle.fst_rules.specs.Walks.{came, walk_of}
use Rattle.fst_fits.proofs.Laws.{tree_same, tree_itself}
use Rattle.fst_rules.proofs.Walked.{Conversions, Rule, Part, at_over, over_at}
use Rattle.fst_rules.proofs.WalkedTerms.{derived}

nothing_used : (b : Bool) → (b ≡ true → false ≡ true) → b ≡ false
nothing_used false f = refl
nothing_used true f = sym (f refl)

-- in no context a walk comes to its end exactly where the tree is a derivation without linear variables
pub closed_walk : (m : Surroundings) (e : CoreTree) (d : Deriv) (b : Bool) (s r : Scope) → s ≡ empty →
    walk_of m e d s ≡ came b r → (b ≡ true) ↔ Part m e [] d no_vars
closed_walk m e d b s r is h = (
  (λ on.
      let t = (derived m e [] d).sound empty r refl (ap (walk_of m e d) (sym is) ∙ h ∙ ap (λ c. came c r) on) in
      let none : t.used ≡ no_vars = λ i k. nothing_used (t.used k) (t.within k) i in
      subst (Part m e [] d) none t.fact),
  (λ x. ended b (sym h ∙ ap (walk_of m e d) is ∙ (derived m e [] d).complete empty no_vars refl x (λ k z. absurd (cc z)))),
)
  where
    ended : (c : Bool) → came c r ≡ Some (without no_vars empty) → c ≡ true
    ended true z = refl
    ended false z = absurd (cc z)

pub global_derived : (m : Module) (g : GlobalEntry) (d : Deriv) (t : Tree) (b c : Bool) (s r : Scope) →
    Some t ≡ slice_get m.types.items g.signature → c ≡ same_tree (type_of d) t → c ≡ true →
    s ≡ empty → walk_of (surroundings m g.kinds.items) g.body d s ≡ came b r → (b ≡ true) ↔ IsDerived m g d
global_derived m g d t b c s r there fits on is h =
    let n = surroundings m g.kinds.items in
    let w = closed_walk n g.body d b s r is h in (
      (λ f. (
        t,
        sym there,
        over_at g.kinds.items t (Conversions n) (Rule n g.body []) no_vars d (w.0 f)
            (tree_same (type_of d) t (sym fits ∙ on)),
      )),
      (λ (t', p, x). w.1 (at_over g.kinds.items t' (Conversions n) (Rule n g.body []) no_vars d x)),
    )

pub wrong_type : (m : Module) (g : GlobalEntry) (d : Deriv) (t : Tree) (c : Bool) → Some t ≡ slice_get m.types.items g.signature →
    c ≡ same_tree (type_of d) t → c ≡ false → (false ≡ true) ↔ IsDerived m g d
wrong_type m g d t c there fits off = (
  (λ f. absurd (cc f)),
  (λ (t', p, x).
      let same : t' ≡ t = same_Some t' t (sym p ∙ sym there) in
      let z = sym off ∙ fits ∙ tree_itself (type_of d) t (x.wanted ∙ same) in absurd (cc z)),
)

as_many : (m : Module) (E : List Kind → Tree → Tree → Type 0) (gs : List GlobalEntry) (ds : List Derivation) →
    AreDerived m E gs (map deriv_of ds) → length gs ≡ length ds
as_many m E [] [] x = refl
as_many m E [] (d ∷ ds) x = absurd x
as_many m E (g ∷ gs) [] x = absurd x
as_many m E (g ∷ gs) (d ∷ ds) x = ap suc (as_many m E gs ds x.1)

pub wrong_count : (m : Module) (gs : List GlobalEntry) (ds : List Derivation) → (length gs ≡ length ds → ⊥) →
    (false ≡ true) ↔ AreDerived m IsAnyConversion gs (map deriv_of ds)
wrong_count m gs ds f = ((λ h. absurd (cc h)), (λ x. absurd (f (as_many m IsAnyConversion gs ds x))))
