-- How often values of function types, of pair types and of printable types may be used.
use Rattle.std.proofs.Common.{◌≡◌, [], false, refl, sym, ap, ◌∙◌}
use Rattle.std.proofs.lemmas.Bool.{true≢false}
use Rattle.fst_types.specs.Tree.{Tree, arrow, pair}
use Rattle.fst_types.specs.declared.kind.Kind.{Kind}
use Rattle.fst_types.specs.declared.kind.Use.{Use}
use Rattle.fst_types.specs.declared.kind.Use.TheVariants.{Many, Once}
use Rattle.fst_kinds.specs.Kinds.{join}
use Rattle.fst_context.specs.Scope.{is_once}
use Rattle.fst_derivations.specs.Parts.{IsFormed, HasUse}
use Rattle.fst_derivations.specs.Modules.{IsPrintable, base_types, data_types, pairs}
use Rattle.fst_safety.proofs.Equals.{pair_parts, has_one_use}

-- a use that isn't once is often
pub often : (u : Use) → is_once u ≡ false → u ≡ Many
often Many q = refl
often Once q = absurd (true≢false q)

-- values of a function type are used as its arrow says
pub arrow_use : {u v : Use} {s r : Tree} → HasUse [] (arrow u s r) v → v ≡ u
arrow_use h = sym h.is ∙ ap (λ (k : Kind). k.uses) h.formed.kinded.2

join_many : (u v : Use) → join u v ≡ Many → (u ≡ Many) × (v ≡ Many)
join_many Many v q = (refl, q)
join_many Once v q = absurd (once_many q)
  where
    once_many : Once ≡ Many → ⊥
    once_many q = cc

-- where pairs may be copied, so may their parts
pub pair_many : {s r : Tree} → HasUse [] (pair s r) Many → HasUse [] s Many × HasUse [] r Many
pair_many h =
    let w = h.formed.kinded in
    let p = pair_parts (h.kind, h.formed) in
    let q = join_many w.0.uses w.1.uses (sym (ap (λ (k : Kind). k.uses) w.4) ∙ h.is) in
    (record { kind = p.0.0; formed = p.0.1; is = q.0 }, record { kind = p.1.0; formed = p.1.1; is = q.1 })

-- what can be printed may be copied
pub printable_many : (t : Tree) → IsPrintable t → IsFormed [] t → HasUse [] t Many
printable_many t base_types f = record { kind = f.0; formed = f.1; is = ap (λ (k : Kind). k.uses) f.1.kinded }
printable_many t data_types f = record { kind = f.0; formed = f.1; is = ap (λ (k : Kind). k.uses) f.1.kinded }
printable_many t (pairs {s} {t = o} a b) f =
    let p = pair_parts f in
    let i = has_one_use (record { kind = p.0.0; formed = p.0.1; is = refl }) (printable_many s a p.0) in
    let j = has_one_use (record { kind = p.1.0; formed = p.1.1; is = refl }) (printable_many o b p.1) in
    record { kind = f.0; formed = f.1; is = ap (λ (k : Kind). k.uses) f.1.kinded.4 ∙ (λ x. join (i x) (j x)) }
