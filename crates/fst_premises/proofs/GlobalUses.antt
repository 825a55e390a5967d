-- Uses of globals.
use Rattle.std.proofs.Common.{◌≡◌, ◌∙◌, ℕ, List, Some, ap, refl, slice_get, subst, sym}
use Rattle.std.proofs.lemmas.Option.{same_Some}
use Rattle.fst_types.specs.Tree.{Tree}
use Rattle.fst_types.specs.Instance.{instantiated}
use Rattle.fst_types.specs.declared.kind.Kind.{Kind}
use Rattle.fst_kinds.specs.WellFormed.{IsInstance, IsInstantiation, IsWellFormed}
use Rattle.fst_terms.specs.CoreTree.{global}
use Rattle.fst_terms.specs.declared.global.GlobalEntry.{GlobalEntry}
use Rattle.fst_context.specs.Scope.{Scope}
use Rattle.fst_derivations.specs.Deriv.{Deriv, none, row, type_of}
use Rattle.fst_derivations.specs.Modules.{IsFormedAt}
use Rattle.fst_derivations.specs.Parts.{AreAt, IsFormed}
use Rattle.fst_premises.specs.Checks.{Check, IsInSize, IsPlainBy, IsTypedAlone}
use Rattle.fst_context.proofs.Laws.{takes_none}

-- an instance of a global's type is the type of its use
pub global_typed : (c : Check) (at k : ℕ) (ks : List ℕ) (s : Scope) (w : Deriv) (g : GlobalEntry) (t i : Tree)
    (args : List Tree) →
    ((outer vars : List Kind) (bs : List Tree) (r : Tree) (j : Kind) → IsInstantiation outer vars bs → IsWellFormed vars r j →
    IsInstance outer j (instantiated bs r)) →
    slice_get c.surroundings.globals k ≡ Some g → IsFormedAt c.surroundings.types g.kinds.items g.signature →
    slice_get c.surroundings.types g.signature ≡ Some t → AreAt c.surroundings.types ks args →
    IsInstantiation c.surroundings.vars g.kinds.items args → i ≡ instantiated args t → IsInSize i → w ≡ row i none →
    IsTypedAlone c s s (global at k ks) w
global_typed c at k ks s w g t i args law e f h a b j small q =
    let is : w ≡ row (instantiated args t) none = subst (λ o. w ≡ row o none) j q in
    let same : f.0 ≡ t = same_Some f.0 t (sym f.1 ∙ h) in
    let formed : IsFormed g.kinds.items t = subst (IsFormed g.kinds.items) same f.2 in
    let instance = law c.surroundings.vars g.kinds.items args t formed.0 b formed.1 in
    takes_none (IsPlainBy (λ _ _. ⊥) c (global at k ks) s.variables w) s
    (record {
      rule = (g, t, args, e, h, a, b, refl, is);
      formed = subst
          (λ d. IsFormed c.surroundings.vars (type_of d)) (sym is) (instance.kind, instance.well_formed);
      small =
          subst IsInSize (sym (ap type_of q)) small;
    })
