-- The variables of a signature that a type has.
use Rattle.std.proofs.Common.{◌≤◌, ℕ, arith}
use Rattle.fst_types.specs.Tree.{Tree, skip, send, receive, close, wait, select, offer, seq, rec, back, var, plain, arrow, pair, named, Branches, none, branch}
use Rattle.fst_types.specs.Variables.{HasVariablesBelow, HaveVariablesBelow}

mutual
  -- a type with variables below n has variables below a later m
  pub variables_wider : (n m : ℕ) (t : Tree) → n ≤ m → HasVariablesBelow n t → HasVariablesBelow m t
  variables_wider n m skip le h = tt
  variables_wider n m (send b) le h = tt
  variables_wider n m (receive b) le h = tt
  variables_wider n m close le h = tt
  variables_wider n m wait le h = tt
  variables_wider n m (select bs) le h = all_variables_wider n m bs le h
  variables_wider n m (offer bs) le h = all_variables_wider n m bs le h
  variables_wider n m (seq s r) le h = (variables_wider n m s le h.0, variables_wider n m r le h.1)
  variables_wider n m (rec s) le h = variables_wider n m s le h
  variables_wider n m (back k) le h = tt
  variables_wider n m (var k) le h = omega (arith, le, h)
  variables_wider n m (plain b) le h = tt
  variables_wider n m (arrow u s r) le h = (variables_wider n m s le h.0, variables_wider n m r le h.1)
  variables_wider n m (pair s r) le h = (variables_wider n m s le h.0, variables_wider n m r le h.1)
  variables_wider n m (named k) le h = tt

  all_variables_wider : (n m : ℕ) (bs : Branches) → n ≤ m → HaveVariablesBelow n bs → HaveVariablesBelow m bs
  all_variables_wider n m none le h = tt
  all_variables_wider n m (branch l s bs) le h = (variables_wider n m s le h.0, all_variables_wider n m bs le h.1)
