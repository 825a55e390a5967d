-- Terms without parts.
use Rattle.std.proofs.Common.{◌≡◌, ℕ, ℤ, Bool, refl, subst, sym}
use Rattle.std.specs.Prelude.{Result, IfOk}
use Rattle.std.proofs.lemmas.Result.{IfOk-weaker}
use Rattle.fst_types.specs.Tree.{plain}
use Rattle.fst_types.specs.declared.base.Base.{Base}
use Rattle.fst_types.specs.declared.base.Base.TheVariants.{Int, Bool as Truth, Char, Unit as Nothing}
use Rattle.fst_terms.specs.CoreTree.{CoreTree, int, bool, char, unit}
use Rattle.fst_context.specs.Scope.{Scope}
use Rattle.fst_context.specs.Vars.{Vars}
use Rattle.fst_context.proofs.Laws.{takes_as}
use Rattle.fst_derivations.specs.Deriv.{Deriv, none, row, type_of}
use Rattle.fst_derivations.specs.Parts.{IsFormed}
use Rattle.fst_derivations.specs.Rules.{Row, within}
use Rattle.fst_premises.specs.Checks.{Check, IsInSize, IsPlainBy, IsTypedAlone}
use Rattle.fst_typing.specs.Typed.{IsPlain, IsTyped, checking}
use Rattle.fst_typing.proofs.Formed.{base_small}
use Rattle.fst_typing.proofs.Forms.{base_formed, typed_leaf}

-- its row has a well-formed type
plain_formed : (c : Check) (b : Base) (w : Deriv) → w ≡ row (plain b) none → IsFormed c.surroundings.vars (type_of w)
plain_formed c b w is = subst (λ d. IsFormed c.surroundings.vars (type_of d)) (sym is) (base_formed c b)

-- which is within its size
plain_small : (b : Base) (w : Deriv) → w ≡ row (plain b) none → IsInSize (type_of w)
plain_small b w is = subst (λ d. IsInSize (type_of d)) (sym is) (base_small b)

pub int_typed : (c : Check) (at : ℕ) (n : ℤ) (s : Scope) (w : Deriv) → w ≡ row (plain Int) none → IsTyped c s s (int at n) w
int_typed c at n s w is = typed_leaf c s (int at n) w
    (record { rule = (refl, is); formed = plain_formed c Int w is; small = plain_small Int w is })

pub bool_typed : (c : Check) (at : ℕ) (n : Bool) (s : Scope) (w : Deriv) → w ≡ row (plain Truth) none →
    IsTyped c s s (bool at n) w
bool_typed c at n s w is = typed_leaf c s (bool at n) w
    (record { rule = (refl, is); formed = plain_formed c Truth w is; small = plain_small Truth w is })

pub char_typed : (c : Check) (at : ℕ) (n : ℕ) (s : Scope) (w : Deriv) → w ≡ row (plain Char) none → IsTyped c s s (char at n) w
char_typed c at n s w is = typed_leaf c s (char at n) w
    (record { rule = (refl, is); formed = plain_formed c Char w is; small = plain_small Char w is })

pub unit_typed : (c : Check) (at : ℕ) (s : Scope) (w : Deriv) → w ≡ row (plain Nothing) none → IsTyped c s s (unit at) w
unit_typed c at s w is = typed_leaf c s (unit at) w
    (record { rule = (refl, is); formed = plain_formed c Nothing w is; small = plain_small Nothing w is })

-- what has its plain derivation where no types are compared has it, where the row of the term asks for no comparison
pub alone_typed : {A F : Type 0} (c : Check) (e : CoreTree) (r s : Scope) (o : Result A F) (g : A → Deriv) →
    ((u : Vars) (d : Deriv) → Row c.surroundings (within IsInSize (λ _ _. ⊥)) e r.variables u d →
    Row c.surroundings (checking c) e r.variables u d) →
    IfOk o (λ d. IsTypedAlone c r s e (g d)) → IfOk o (λ d. IsTyped c r s e (g d))
alone_typed c e r s o g f = IfOk-weaker o (λ d. IsTypedAlone c r s e (g d)) (λ d. IsTyped c r s e (g d))
    (λ d x. takes_as (IsPlainBy (λ _ _. ⊥) c e r.variables (g d)) (IsPlain c e r.variables (g d)) r s
    (λ u p. record { rule = f u (g d) p.rule; formed = p.formed; small = p.small }) x)
