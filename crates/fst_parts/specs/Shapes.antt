-- Trees as trees of few forms of node.
use Rattle.std.specs.Prelude.{ℕ, List}
use Rattle.fst_types.specs.declared.kind.Use.TheVariants.{Many, Once}
use Rattle.fst_types.specs.Tree.{Tree, skip, send, receive, close, wait, select, offer, seq, rec, back, var, plain, arrow, pair, named, Branches, none, branch}
use Rattle.fst_types.specs.Order.{base_number}
use Rattle.fst_parts.specs.declared.forms.Form.{Form}
use Rattle.fst_parts.specs.declared.forms.Form.TheVariants as forms

-- nothing, a node by its form and what it holds or its parts, or a branch and those behind it
pub data Shape : Type 0 where
  end : Shape
  leaf : Form → ℕ → Shape
  wrap : Form → Shape → Shape
  fork : Form → Shape → Shape → Shape
  link : List ℕ → Shape → Shape → Shape

abbrev mutual
  -- the shape of a tree
  pub shape_of : Tree → Shape
  shape_of skip = end
  shape_of (send b) = leaf forms.Send (base_number b)
  shape_of (receive b) = leaf forms.Receive (base_number b)
  shape_of close = leaf forms.Close 0
  shape_of wait = leaf forms.Wait 0
  shape_of (select cs) = wrap forms.Select (shape_of_all cs)
  shape_of (offer cs) = wrap forms.Offer (shape_of_all cs)
  shape_of (seq s r) = fork forms.Seq (shape_of s) (shape_of r)
  shape_of (rec s) = wrap forms.Rec (shape_of s)
  shape_of (back k) = leaf forms.Back k
  shape_of (var k) = leaf forms.Var k
  shape_of (plain b) = leaf forms.Plain (base_number b)
  shape_of (arrow Many s r) = fork forms.Many (shape_of s) (shape_of r)
  shape_of (arrow Once s r) = fork forms.Once (shape_of s) (shape_of r)
  shape_of (pair s r) = fork forms.Pair (shape_of s) (shape_of r)
  shape_of (named k) = leaf forms.Named k

  -- the shape of branches
  pub shape_of_all : Branches → Shape
  shape_of_all none = end
  shape_of_all (branch l s cs) = link l (shape_of s) (shape_of_all cs)
