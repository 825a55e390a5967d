-- The order of labels, and types whose branches stand in it.
use Rattle.std.specs.Prelude.{◌≡◌, ◌≢◌, ℕ, List, [], Bool, ⊤}
use Rattle.std.specs.declared.cmp.Ordering.{Ordering}
use Rattle.std.specs.declared.cmp.Ordering.TheVariants.{Less, Greater}
use Rattle.std.specs.Ordering.{nat_cmp, ordering_then, is_eq}
use Rattle.std.specs.Cmp.Lexicographic.{slice_cmp}
use Rattle.fst_types.specs.declared.base.Base.{Base}
use Rattle.fst_types.specs.declared.base.Base.TheVariants.{Int, Bool as Truth, Char, Unit as Nothing}
use Rattle.fst_types.specs.declared.label.Label.{Label}
use Rattle.fst_types.specs.declared.label.Label.TheVariants.{Send, Receive, Select, Offer, Close, Wait, Var}
use Rattle.fst_types.specs.Tree.{Tree, skip, send, receive, close, wait, select, offer, seq, rec, back, var, plain, arrow, pair, named, Branches, none, branch}

-- the place of a base type in the order of payloads
abbrev pub base_number : Base → ℕ
base_number Int = 0
base_number Truth = 1
base_number Char = 2
base_number Nothing = 3

-- the place of a label's form in the order of labels
abbrev pub label_rank : Label → ℕ
label_rank (Send b) = 0
label_rank (Receive b) = 1
label_rank (Select l) = 2
label_rank (Offer l) = 3
label_rank Close = 4
label_rank Wait = 5
label_rank (Var k) = 6

-- a payload by its place, a variable by its number, and 0 for the other labels
abbrev pub label_number : Label → ℕ
label_number (Send b) = base_number b
label_number (Receive b) = base_number b
label_number (Select l) = 0
label_number (Offer l) = 0
label_number Close = 0
label_number Wait = 0
label_number (Var k) = k

-- the bytes of a choice's label, and none for the other labels
abbrev pub label_text : Label → List ℕ
label_text (Send b) = []
label_text (Receive b) = []
label_text (Select l) = l
label_text (Offer l) = l
label_text Close = []
label_text Wait = []
label_text (Var k) = []

-- how two labels stand: by their form, then their number, then their bytes
abbrev pub label_cmp : Label → Label → Ordering
label_cmp a b =
    ordering_then (ordering_then (nat_cmp (label_rank a) (label_rank b))
    (nat_cmp (label_number a) (label_number b)))
    (slice_cmp nat_cmp (label_text a) (label_text b))

-- whether two labels are one, as a test
abbrev pub same_label : Label → Label → Bool
same_label a b = is_eq (label_cmp a b)

-- there is at least one branch, and each label comes before the next one in byte order
abbrev pub AreRising : Branches → Type 0
AreRising none = ⊥
AreRising (branch l t none) = ⊤
AreRising (branch l t (branch m u bs)) = (slice_cmp nat_cmp l m ≡ Less) × AreRising (branch m u bs)

-- there is at least one branch, and no label comes after the next one in byte order
abbrev pub AreSorted : Branches → Type 0
AreSorted none = ⊥
AreSorted (branch l t none) = ⊤
AreSorted (branch l t (branch m u bs)) =
    (slice_cmp nat_cmp l m ≢ Greater) × AreSorted (branch m u bs)

abbrev mutual
  -- the branches of each choice in the tree are as P says
  pub EachChoice : (Branches → Type 0) → Tree → Type 0
  EachChoice P skip = ⊤
  EachChoice P (send b) = ⊤
  EachChoice P (receive b) = ⊤
  EachChoice P close = ⊤
  EachChoice P wait = ⊤
  EachChoice P (select bs) = P bs × EachChoiceBelow P bs
  EachChoice P (offer bs) = P bs × EachChoiceBelow P bs
  EachChoice P (seq s t) = EachChoice P s × EachChoice P t
  EachChoice P (rec t) = EachChoice P t
  EachChoice P (back k) = ⊤
  EachChoice P (var k) = ⊤
  EachChoice P (plain b) = ⊤
  EachChoice P (arrow u s t) = EachChoice P s × EachChoice P t
  EachChoice P (pair s t) = EachChoice P s × EachChoice P t
  EachChoice P (named k) = ⊤

  -- the same in the type of each branch
  pub EachChoiceBelow : (Branches → Type 0) → Branches → Type 0
  EachChoiceBelow P none = ⊤
  EachChoiceBelow P (branch l t bs) = EachChoice P t × EachChoiceBelow P bs

-- each choice has a branch, and its labels rise: no label stands twice
abbrev pub IsOrdered : Tree → Type 0
IsOrdered t = EachChoice AreRising t

-- the type of each branch is ordered
abbrev pub AllOrdered : Branches → Type 0
AllOrdered bs = EachChoiceBelow AreRising bs

-- each choice has a branch, and its labels stand in byte order: one may stand twice
abbrev pub IsSorted : Tree → Type 0
IsSorted t = EachChoice AreSorted t
