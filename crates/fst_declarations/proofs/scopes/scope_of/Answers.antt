use Rattle.fst_declarations.proofs.scopes.scope_of.Goals as goal

pub returns : goal.returns
returns c = λ trees are. record {
  vars = c.in_ok-vars.ensures.names;
  arrows_are = c.arrows_of-arrows.ensures trees are;
}
