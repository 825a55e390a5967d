-- New channels.
use Rattle.std.proofs.Common.{◌≡◌, ◌∙◌, ◌&&◌, ℕ, true, [], Some, slice_get, refl, sym, ap, subst}
use Rattle.fst_types.specs.Tree as type
use Rattle.fst_types.specs.Tree.{Tree}
use Rattle.fst_types.specs.declared.kind.Kind.{Kind}
use Rattle.fst_types.specs.declared.kind.Prekind.{Prekind}
use Rattle.fst_types.specs.declared.kind.Prekind.TheVariants.{Session, Top}
use Rattle.fst_types.specs.declared.kind.Use.{Use}
use Rattle.fst_types.specs.declared.kind.Use.TheVariants.{Once}
use Rattle.fst_kinds.specs.Kinds.{prekind_below, session, subkind, use_below}
use Rattle.fst_kinds.specs.WellFormed.{IsSession, IsWellFormed}
use Rattle.fst_kinds.proofs.Laws.{session_of}
use Rattle.fst_lts.specs.Dual.{dual}
use Rattle.fst_terms.specs.CoreTree.{new}
use Rattle.fst_context.specs.Scope.{Scope}
use Rattle.fst_derivations.specs.Deriv.{Deriv, none, row, type_of}
use Rattle.fst_derivations.specs.Parts.{IsFormed}
use Rattle.fst_premises.specs.Checks.{Check, IsInSize, IsPlainBy, IsTypedAlone}
use Rattle.fst_lts.proofs.Laws.{dual_formed}
use Rattle.fst_premises.proofs.Formed.{closed_formed, pair_of_formed}
use Rattle.fst_context.proofs.Laws.{takes_none}

session_prekind : (p : Prekind) (u : Use) → (prekind_below p Session && use_below u Once) ≡ true → p ≡ Session
session_prekind Session u h = refl
session_prekind Top u h = absurd (cc h)

-- a closed type of a kind below 1S is a session type
pub session_below : (t : Tree) (k : Kind) → IsWellFormed [] t k → subkind k (session Once) ≡ true → IsSession [] t
session_below t k w h = (k.uses, subst (IsWellFormed [] t) (session_of k (session_prekind k.prekind k.uses h)) w)

pub channel_typed : (c : Check) (at k : ℕ) (s : Scope) (w : Deriv) (t l : Tree) → slice_get c.surroundings.types k ≡ Some l →
    IsSession [] l → t ≡ type.pair l (dual l) → IsInSize t → w ≡ row t none → IsTypedAlone c s s (new at k) w
channel_typed c at k s w t l g p e small q =
    let is : w ≡ row (type.pair l (dual l)) none = q ∙ ap (λ o. row o none) e in
    let left : IsFormed c.surroundings.vars l = closed_formed c.surroundings.vars l (session p.0, p.1) in
    let right : IsFormed c.surroundings.vars (dual l) =
    closed_formed c.surroundings.vars (dual l) (session p.0, dual_formed [] l (session p.0) p.1) in
    takes_none (IsPlainBy (λ _ _. ⊥) c (new at k) s.variables w) s
    (record {
      rule = (l, g, p, refl, is);
      formed = subst
          (λ d. IsFormed c.surroundings.vars (type_of d)) (sym is) (pair_of_formed c.surroundings.vars l (dual l) left right);
      small = subst IsInSize (sym (ap type_of q)) small;
    })
