use Rattle.std.proofs.Common.{◌++◌, map}
use Rattle.fst_terms.specs.ModuleTree.{decl_tree}
use Rattle.fst_scopes.specs.Twice.{twice}
use Rattle.fst_term_faults.proofs.Laws.{both_noted}
use Rattle.fst_declarations.specs.ModuleNames.{equation_names, makers, signature_names}
use Rattle.fst_declarations.proofs.collect.term_tables.Goals as goal

pub returns-clause-tables : goal.returns-clause-tables
returns-clause-tables c = record {
  makers_are = c.in_ok-makers.ensures.makers;
  signatures_are = c.in_ok-signatures.ensures.signatures;
  equations_are = c.in_ok-equations.ensures.names;
  globals_are = c.in_ok-globals.ensures;
}

pub returns-clause-twice : goal.returns-clause-twice
returns-clause-twice c =
    let ds = map decl_tree c.args.decls.now in
    let equations = twice (equation_names ds) in
    both_noted (twice (map (λ m. m.name) (makers ds)))
    (twice (signature_names ds) ++ equations) c.args.least.now c.makers_of.new.least c.equations_of.new.least
    c.in_ok-makers.ensures.twice
    (both_noted (twice (signature_names ds)) equations c.makers_of.new.least c.signatures_of.new.least c.equations_of.new.least
    c.in_ok-signatures.ensures.twice c.in_ok-equations.ensures.twice)
