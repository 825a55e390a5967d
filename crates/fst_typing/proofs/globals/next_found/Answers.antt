use Rattle.std.proofs.Common.{◌≡◌, ◌++◌, ◌∷◌, [], List, Vec, Global, Option, ap, map, refl, subst, sym}
use Rattle.fst_terms.specs.declared.global.GlobalEntry.{GlobalEntry}
use Rattle.fst_derivations.specs.Deriv.{Deriv, deriv_of}
use Rattle.fst_derivations.specs.declared.derivation.Derivation.{Derivation}
use Rattle.fst_typing.specs.Checked.{IsFoundOf}
use Rattle.fst_typing.specs.declared.globals.Found.{Found}
use Rattle.fst_typing.specs.declared.globals.Refused.{Refused}
use Rattle.fst_typing.proofs.EquationLaws.{both_ok}
use Rattle.fst_typing.proofs.Founds.{behind_earlier, behind_kept, found_accepted, found_refused}
use Rattle.fst_typing.proofs.globals.next_found.Goals as goal

pub returns-then-is_behind : goal.returns-then-is_behind
returns-then-is_behind c = λ gs h. behind_kept c.args.m.now c.args.budget gs
    (map deriv_of c.args.found.derivations.items) c.args.found.refused c.args.global.now c.if-is_behind.ensures h

pub returns-in-Ok : goal.returns-in-Ok
returns-in-Ok c =
    let m = c.args.m.now in
    let old = map deriv_of c.args.found.derivations.items in
    let more = old ++ deriv_of c.in-Ok.derivation ∷ [] in
    both_ok c.with_derivation.result (λ (o : Found). o.refused ≡ c.args.found.refused)
    (λ (o : Found). map deriv_of o.derivations.items ≡ more)
    (λ (o : Found). (gs : List GlobalEntry) → IsFoundOf m c.args.budget gs old c.args.found.refused →
    IsFoundOf m c.args.budget (gs ++ c.args.global.now ∷ []) (map deriv_of o.derivations.items) o.refused)
    (λ o e f gs h. subst (λ (ds : List Deriv). IsFoundOf m c.args.budget (gs ++ c.args.global.now ∷ []) ds o.refused) (sym f)
    (subst (λ (r : Option Refused). IsFoundOf m c.args.budget (gs ++ c.args.global.now ∷ []) more r) (sym e)
    (found_accepted m c.args.budget gs old c.args.found.refused c.args.global.now
    (deriv_of c.in-Ok.derivation) h c.in-Ok.ensures.main c.in-Ok.ensures.derived)))
    c.with_derivation.ensures.refused c.with_derivation.ensures.derivations

pub returns-in-Err : goal.returns-in-Err
returns-in-Err c = λ gs h.
    let m = c.args.m.now in
    let old = map deriv_of c.args.found.derivations.items in
    let first : Refused = record { at = c.args.global.now.at; fault = c.in-Err.fault } in
    let found = found_refused m c.args.budget gs old c.args.found.refused first c.args.global.now h
    (behind_earlier m c.args.budget c.args.found.refused c.args.global.now c.if-is_behind.ensures) refl
    c.in-Err.ensures.refused in
    let same = ap (λ (v : Vec Derivation Global). map deriv_of v.items) c.with_refusal.ensures.derivations in
    subst (λ (ds : List Deriv). IsFoundOf m c.args.budget (gs ++ c.args.global.now ∷ []) ds c.with_refusal.result.refused)
    (sym same)
    (subst (λ (r : Option Refused). IsFoundOf m c.args.budget (gs ++ c.args.global.now ∷ []) old r)
    (sym c.with_refusal.ensures.refused) found)
