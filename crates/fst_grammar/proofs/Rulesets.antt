-- Lemmas by what they are used for.
use Rattle.fst_types.proofs.Laws.{height_at}
use Rattle.fst_parts.proofs.Laws.{branches_at}
use Rattle.fst_grammar.proofs.BinderLaws.{binder_read, binder_past}
use Rattle.fst_grammar.proofs.HeadLaws.{led, own_row, like_row}
use Rattle.fst_grammar.proofs.TableLaws.{with_append}

-- the parts of one branch after those of another
pub ruleset parts_of_branches = (height_at, with_append, branches_at)

-- the way from an equation to rules
pub ruleset heads = (led, own_row, like_row)

-- the places of binders
pub ruleset binders = (binder_read, binder_past)
