use Rattle.std.proofs.Common.{◌∙◌, Some, refl, ap, sym, slice_index_or, arith}
use Rattle.std.proofs.lemmas.Grind.{common_steps}
use Rattle.fst_names.specs.Parts.{equation_part}
use Rattle.fst_names.proofs.GlobalLaws.{number_low, type_low, its_type, its_arrows, global_is, parameters_are}
use Rattle.fst_names.proofs.globals.add_global.Goals as goal

pub bounds-signatures-k : goal.bounds-signatures-k
bounds-signatures-k g c =
    let at = sym c.number_of.ensures.number ∙ c.in-Some.is in
    number_low g.ds c.args.declarations.now c.requires.0
    (equation_part c.args.part) c.requires.1.0 c.args.list.now c.requires.1.1.1 c.in-Some.k at c.in-Some.ensures.within
    c.args.signatures.now c.requires.1.1.0

pub index-requires : goal.index-requires
index-requires g c =
    let at = sym c.number_of.ensures.number ∙ c.in-Some.is in
    let low = type_low g.ds c.args.declarations.now c.requires.0
    (equation_part c.args.part) c.requires.1.0 c.args.list.now c.requires.1.1.1 c.in-Some.k at c.in-Some.ensures.within
    c.args.signatures.now c.requires.1.1.0 in
    omega (arith, low, c.args.list.now.types.ok.0)

pub add_functions-requires : goal.add_functions-requires
add_functions-requires g c =
    let at = sym c.number_of.ensures.number ∙ c.in-Some.is in
    let is = its_type g.ds c.args.declarations.now c.requires.0
    (equation_part c.args.part) c.requires.1.0 c.args.list.now c.requires.1.1.1 c.in-Some.k at c.in-Some.ensures.within
    c.args.signatures.now c.index.result.now c.requires.1.1.0 c.index.ensures
    ∙ ap Some (sym c.in_ok-its_type-in-Some.ensures) in
    its_arrows g.ds c.args.declarations.now c.requires.0
    (equation_part c.args.part) c.requires.1.0 c.args.list.now c.requires.1.1.1 c.in-Some.k at c.in-Some.ensures.within
    c.in_ok-its_type-in-Some.its_type is

pub returns-clause-global : goal.returns-clause-global
returns-clause-global g c =
    let at = sym c.number_of.ensures.number ∙ c.in-Some.is in
    let is = its_type g.ds c.args.declarations.now c.requires.0
    (equation_part c.args.part) c.requires.1.0 c.args.list.now c.requires.1.1.1 c.in-Some.k at c.in-Some.ensures.within
    c.args.signatures.now c.index.result.now c.requires.1.1.0 c.index.ensures
    ∙ ap Some (sym c.in_ok-its_type-in-Some.ensures) in
    global_is g.ds c.args.declarations.now c.requires.0
    (equation_part c.args.part) c.requires.1.0 c.args.list.now c.requires.1.1.1 c.in-Some.k at c.in-Some.ensures.within
    c.args.signatures.now c.index-entry.result.now c.in_ok-its_type-in-Some.its_type
    (record {
      name = c.in_ok-copy-in-Some.field-0;
      at = c.args.part.binder.now.at;
      kinds = c.in_ok-kinds-in-Some.kinds;
      signature = slice_index_or c.args.signatures.now c.in-Some.k 0;
      signature_at = c.place-signature_at.result;
      body =
          c.into_inner.result;
    })
    c.requires.1.1.0 c.index-entry.ensures is c.in_ok-copy-in-Some.ensures refl c.in_ok-kinds-in-Some.ensures refl
    c.place-signature_at.ensures
    (c.into_inner.ensures ∙ c.in_ok-body-in-Some.ensures.term)

pub returns-clause-list : goal.returns-clause-list
returns-clause-list g c =
    let at = sym c.number_of.ensures.number ∙ c.in-Some.is in
    let is = its_type g.ds c.args.declarations.now c.requires.0
    (equation_part c.args.part) c.requires.1.0 c.args.list.now c.requires.1.1.1 c.in-Some.k at c.in-Some.ensures.within
    c.args.signatures.now c.index.result.now c.requires.1.1.0 c.index.ensures
    ∙ ap Some (sym c.in_ok-its_type-in-Some.ensures) in
    parameters_are g.ds c.args.declarations.now c.requires.0
    (equation_part c.args.part) c.requires.1.0 c.args.list.now c.requires.1.1.1 c.in-Some.k at c.in-Some.ensures.within
    c.index-entry.result.now c.in_ok-its_type-in-Some.its_type c.place-signature_at.result c.add_functions.new.list
    c.index-entry.ensures is c.place-signature_at.ensures
    c.in_ok-body-in-Some.ensures.list

pub offset_bounds-signatures-k : goal.offset_bounds-signatures-k
offset_bounds-signatures-k g c =
    let at = sym c.number_of.ensures.number ∙ c.in-Some.is in
    let low = number_low g.ds c.args.declarations.now c.requires.0
    (equation_part c.args.part) c.requires.1.0 c.args.list.now c.requires.1.1.1 c.in-Some.k at c.in-Some.ensures.within
    c.args.signatures.now c.requires.1.1.0 in
    grind (arith, common_steps, low)
