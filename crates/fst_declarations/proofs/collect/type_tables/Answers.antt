use Rattle.fst_declarations.proofs.collect.type_tables.Goals as goal

pub returns-clause-tables : goal.returns-clause-tables
returns-clause-tables c = record {
  types_are = c.in_ok-types.ensures.types;
  names_are = c.in_ok-types.ensures.names;
  measured = c.in_ok-aliases.ensures.measures;
  known = c.in_ok-aliases.ensures.known;
  order = c.in_ok-aliases.ensures.order;
}
