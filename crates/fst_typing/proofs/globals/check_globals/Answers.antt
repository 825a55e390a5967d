use Rattle.std.proofs.Common.{◌≡◌, ◌≤◌, ◌<◌, List, [], None, Option, ap, arith, get_or, length, map, refl, subst, sym}
use Rattle.std.proofs.lemmas.Option.{slice_get_read}
use Rattle.fst_terms.specs.declared.global.GlobalEntry.{GlobalEntry}
use Rattle.fst_derivations.specs.Deriv.{deriv_of}
use Rattle.fst_derivations.specs.declared.derivation.Derivation.{Derivation}
use Rattle.fst_typing.specs.Checked.{IsFoundOf}
use Rattle.fst_typing.specs.declared.globals.Refused.{Refused}
use Rattle.fst_typing.proofs.Founds.{found_all, found_end, found_first, found_none}
use Rattle.fst_typing.proofs.globals.check_globals.Goals as goal

pub loop-global-init : goal.loop-global-init
loop-global-init c = subst (λ (ds : List Derivation). IsFoundOf c.args.m.now c.args.budget [] (map deriv_of ds) None)
    (sym c.new.ensures.items) (found_none c.args.m.now c.args.budget)

pub next_found-requires-clause-there : goal.next_found-requires-clause-there
next_found-requires-clause-there c =
    let gs = c.args.m.now.globals.items in
    let i = c.loop-global.global-index in
    let lt : i < length gs = omega (arith, ap (λ (xs : List GlobalEntry). length xs) c.deref-global-items.ensures.value) in (
      i,
      slice_get_read gs (length gs) i c.global-item.result refl lt
          (subst (λ (xs : List GlobalEntry). c.global-item.result ≡ get_or xs i c.global-item.result)
          c.deref-global-items.ensures.value c.global-item.is),
    )

pub returns-in-None-clause-main : goal.returns-in-None-clause-main
returns-in-None-clause-main c =
    let gs = c.args.m.now.globals.items in
    let ds = map deriv_of c.loop-global.found.derivations.items in
    let past : length gs ≤ c.loop-global.global-index =
    omega (arith, ap (λ (xs : List GlobalEntry). length xs) c.deref-global-items.ensures.value) in
    let all = found_end c.args.m.now c.args.budget c.loop-global.global-index gs ds c.loop-global.found.refused past
    c.loop-global.invariant in
    (found_all c.args.m.now c.args.budget gs ds (subst
    (λ (o : Option Refused). IsFoundOf c.args.m.now c.args.budget gs ds o) c.in-None.is all)).1

pub returns-in-None-clause-derived : goal.returns-in-None-clause-derived
returns-in-None-clause-derived c =
    let gs = c.args.m.now.globals.items in
    let ds = map deriv_of c.loop-global.found.derivations.items in
    let past : length gs ≤ c.loop-global.global-index =
    omega (arith, ap (λ (xs : List GlobalEntry). length xs) c.deref-global-items.ensures.value) in
    let all = found_end c.args.m.now c.args.budget c.loop-global.global-index gs ds c.loop-global.found.refused past
    c.loop-global.invariant in
    (found_all c.args.m.now c.args.budget gs ds (subst
    (λ (o : Option Refused). IsFoundOf c.args.m.now c.args.budget gs ds o) c.in-None.is all)).0

pub returns-in-Some-clause-refused : goal.returns-in-Some-clause-refused
returns-in-Some-clause-refused c =
    let gs = c.args.m.now.globals.items in
    let ds = map deriv_of c.loop-global.found.derivations.items in
    let past : length gs ≤ c.loop-global.global-index =
    omega (arith, ap (λ (xs : List GlobalEntry). length xs) c.deref-global-items.ensures.value) in
    let all = found_end c.args.m.now c.args.budget c.loop-global.global-index gs ds c.loop-global.found.refused past
    c.loop-global.invariant in
    found_first c.args.m.now c.args.budget gs ds c.in-Some.first
    (subst (λ (o : Option Refused). IsFoundOf c.args.m.now c.args.budget gs ds o) c.in-Some.is all)
