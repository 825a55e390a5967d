-- The other side of a type (Thiemann, Vasconcelos, ICFP 2016, for context-free session types).
use Rattle.fst_types.specs.Tree.{Tree, skip, send, receive, close, wait, select, offer, seq, rec, back, var, plain, arrow, pair, named, Branches, none, branch}
use Rattle.fst_types.specs.declared.label.Label.{Label}
use Rattle.fst_types.specs.declared.label.Label.TheVariants.{Send, Receive, Select, Offer, Close, Wait, Var}
use Rattle.fst_types.specs.declared.ty.Branch.{Branch}

abbrev mutual
  -- `!` and `?` change places, `+` and `&`, and Close and Wait, and all else stays (Thiemann, Vasconcelos, ICFP 2016)
  pub dual : Tree → Tree
  dual skip = skip
  dual (send b) = receive b
  dual (receive b) = send b
  dual close = wait
  dual wait = close
  dual (select bs) = offer (dual_all bs)
  dual (offer bs) = select (dual_all bs)
  dual (seq s r) = seq (dual s) (dual r)
  dual (rec s) = rec (dual s)
  dual (back k) = back k
  dual (var k) = var k
  dual (plain b) = plain b
  dual (arrow u s r) = arrow u (dual s) (dual r)
  dual (pair s r) = pair (dual s) (dual r)
  dual (named k) = named k

  -- the same branches, each going on as the dual of its type (Thiemann, Vasconcelos, ICFP 2016)
  pub dual_all : Branches → Branches
  dual_all none = none
  dual_all (branch l s bs) = branch l (dual s) (dual_all bs)

-- the label by which the other side moves: a send meets a receive, a selection an offer, a closing a wait (Thiemann, Vasconcelos, ICFP 2016)
abbrev pub dual_label : Label → Label
dual_label (Send b) = Receive b
dual_label (Receive b) = Send b
dual_label (Select l) = Offer l
dual_label (Offer l) = Select l
dual_label Close = Wait
dual_label Wait = Close
dual_label (Var k) = Var k

-- a branch under the same label, going on as the dual of its type
abbrev pub dual_branch : Branch → Branch
dual_branch b = record { label = b.label; body = dual b.body }
