use Rattle.std.proofs.Common.{◌∙◌, map}
use Rattle.fst_terms.specs.ModuleTree.{decl_tree}
use Rattle.fst_scopes.specs.Graph.{final_trees}
use Rattle.fst_scopes.specs.Twice.{twice}
use Rattle.fst_scopes.proofs.Laws.{measures_long}
use Rattle.fst_term_faults.proofs.Laws.{both_noted}
use Rattle.fst_declarations.specs.Collected.{twice_for_terms}
use Rattle.fst_declarations.specs.ModuleNames.{type_names}
use Rattle.fst_declarations.proofs.DeclarationLaws.{scopes_long, looped_long}
use Rattle.fst_declarations.proofs.collect.declarations_of.Goals as goal

pub scopes_of-requires : goal.scopes_of-requires
scopes_of-requires c =
    let a = c.in_ok-types.aliases in
    rw c.deref.ensures.value (measures_long c.in_ok-types.types a.looped.items a.order.items a.measures.items
    c.in_ok-types.ensures.tables.measured)

pub invariant_of-result : goal.invariant_of-result
invariant_of-result c =
    let a = c.in_ok-types.aliases in
    let types = c.in_ok-types.types in
    let trees = final_trees types a.looped.items a.order.items in
    let signatures = c.in_ok-makers.field-0.signatures in
    record {
      measured = c.in_ok-types.ensures.tables.measured;
      told = looped_long types a.looped.items a.order.items c.in_ok-types.ensures.tables.order;
      none = c.new.ensures;
      paired = scopes_long types trees signatures.entries.items c.in_ok-scopes.scopes.items
          (c.in_ok-scopes.ensures trees (rw c.deref.ensures.value c.in_ok-types.ensures.tables.measured)) ∙ signatures.paired;
    }

pub returns-clause-declarations : goal.returns-clause-declarations
returns-clause-declarations c =
    let a = c.in_ok-types.aliases in
    let types = c.in_ok-types.ensures.tables in
    let terms = c.in_ok-makers.ensures.tables in
    record {
      types = types.types_are;
      type_names_are = types.names_are;
      makers = terms.makers_are;
      signatures = terms.signatures_are;
      equations = terms.equations_are;
      global_names = terms.globals_are;
      scopes = c.in_ok-scopes.ensures (final_trees c.in_ok-types.types a.looped.items a.order.items)
          (rw c.deref.ensures.value types.measured);
      known = types.known;
      order = types.order;
    }

pub returns-clause-twice : goal.returns-clause-twice
returns-clause-twice c =
    let ds = map decl_tree c.args.decls.now in
    both_noted (twice (type_names ds)) (twice_for_terms ds) c.args.least.now c.type_tables.new.least c.term_tables.new.least
    c.in_ok-types.ensures.twice c.in_ok-makers.ensures.twice
