-- A tree by its shape.
use Rattle.std.proofs.Common.{◌≡◌, ◌∙◌, refl, sym, ap}
use base.Stored.{Gv, gnil, gnum, gcons}
use Rattle.fst_types.specs.declared.base.Base.{Base}
use Rattle.fst_types.specs.declared.base.Base.TheVariants.{Int, Bool as Truth, Char, Unit as Nothing}
use Rattle.fst_types.specs.declared.kind.Use.TheVariants.{Many, Once}
use Rattle.fst_types.specs.Tree.{Tree, skip, send, receive, close, wait, select, offer, seq, rec, back, var, plain, arrow, pair, named, Branches, none, branch}
use Rattle.fst_types.specs.ModelCode.{code_of, code_of_all, name_code, base_code, tree_code}
use Rattle.fst_types.specs.Order.{base_number}
use Rattle.fst_parts.specs.declared.forms.Form.TheVariants as forms
use Rattle.fst_parts.specs.Keys.{form_number}
use Rattle.fst_parts.specs.Shapes.{Shape, end, leaf, wrap, fork, link, shape_of, shape_of_all}

-- the code of a shape
abbrev code_by : Shape → Gv
code_by end = gnil
code_by (leaf forms.Close holds) = gcons (gnum 13) (gcons gnil gnil)
code_by (leaf forms.Wait holds) = gcons (gnum 14) (gcons gnil gnil)
code_by (leaf form holds) = gcons (gnum (form_number form)) (gcons (gnum holds) gnil)
code_by (wrap form x) = gcons (gnum (form_number form)) (gcons (code_by x) gnil)
code_by (fork form x y) = gcons (gnum (form_number form)) (gcons (code_by x) (code_by y))
code_by (link l x y) = gcons (name_code l) (gcons (code_by x) (code_by y))

base_is : (b : Base) → gnum (base_number b) ≡ base_code b
base_is Int = refl
base_is Truth = refl
base_is Char = refl
base_is Nothing = refl

mutual
  -- it is the code of the tree
  code_is : (t : Tree) → code_by (shape_of t) ≡ code_of t
  code_is skip = refl
  code_is (send b) = ap (λ c. gcons (gnum 0) (gcons c gnil)) (base_is b)
  code_is (receive b) = ap (λ c. gcons (gnum 1) (gcons c gnil)) (base_is b)
  code_is close = refl
  code_is wait = refl
  code_is (select cs) = ap (λ c. gcons (gnum 2) (gcons c gnil)) (code_is_all cs)
  code_is (offer cs) = ap (λ c. gcons (gnum 3) (gcons c gnil)) (code_is_all cs)
  code_is (seq s r) = λ i. gcons (gnum 4) (gcons (code_is s i) (code_is r i))
  code_is (rec s) = ap (λ c. gcons (gnum 5) (gcons c gnil)) (code_is s)
  code_is (back k) = refl
  code_is (var k) = refl
  code_is (plain b) = ap (λ c. gcons (gnum 8) (gcons c gnil)) (base_is b)
  code_is (arrow Many s r) = λ i. gcons (gnum 9) (gcons (code_is s i) (code_is r i))
  code_is (arrow Once s r) = λ i. gcons (gnum 10) (gcons (code_is s i) (code_is r i))
  code_is (pair s r) = λ i. gcons (gnum 11) (gcons (code_is s i) (code_is r i))
  code_is (named k) = refl

  code_is_all : (cs : Branches) → code_by (shape_of_all cs) ≡ code_of_all cs
  code_is_all none = refl
  code_is_all (branch l s cs) = λ i. gcons (name_code l) (gcons (code_is s i) (code_is_all cs i))

-- trees of one shape are one
pub same_shape : (s t : Tree) → shape_of s ≡ shape_of t → s ≡ t
same_shape s t e = tree_code.inj s t (sym (code_is s) ∙ ap code_by e ∙ code_is t)
