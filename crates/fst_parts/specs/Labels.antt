-- The labels of types.
use Rattle.std.specs.Prelude.{ℕ, suc, List, [], ◌∷◌, ◌++◌, Bool, true, false, Contains, ◌↔◌, if◌then◌else◌}
use Rattle.std.specs.List.{filter}
use Rattle.fst_types.specs.Tree.{Tree, skip, send, receive, close, wait, select, offer, seq, rec, back, var, plain, arrow, pair, named, Branches, none, branch}
use Rattle.fst_types.specs.Order.{same_label, label_cmp}
use Rattle.fst_types.specs.declared.label.Label.{Label}
use Rattle.fst_types.specs.declared.label.Label.TheVariants.{Send, Receive, Select, Offer, Close, Wait, Var}
use Rattle.fst_base.specs.Order.{IsRising}

abbrev mutual
  -- the labels of the messages, variables and branches in a type, and Close and Wait where they stand, in preorder
  pub labels_in : Tree → List Label
  labels_in skip = []
  labels_in (send b) = Send b ∷ []
  labels_in (receive b) = Receive b ∷ []
  labels_in close = Close ∷ []
  labels_in wait = Wait ∷ []
  labels_in (select cs) = branch_labels Select cs
  labels_in (offer cs) = branch_labels Offer cs
  labels_in (seq s r) = labels_in s ++ labels_in r
  labels_in (rec s) = labels_in s
  labels_in (back k) = []
  labels_in (var k) = Var k ∷ []
  labels_in (plain b) = []
  labels_in (arrow u s r) = []
  labels_in (pair s r) = []
  labels_in (named k) = []

  -- the labels of the branches, each before those in its type
  pub branch_labels : (List ℕ → Label) → Branches → List Label
  branch_labels make none = []
  branch_labels make (branch l s cs) = make l ∷ (labels_in s ++ branch_labels make cs)

-- the labels of the two types, each once, in label order
abbrev pub AreLetters : Tree → Tree → List Label → Type 0
AreLetters s r letters = IsRising label_cmp letters ×
    ((a : Label) → Contains letters a ↔ Contains (labels_in s ++ labels_in r) a)

-- the label of a message or variable, or Close or Wait
abbrev pub is_name : Label → Bool
is_name (Send b) = true
is_name (Receive b) = true
is_name (Select l) = false
is_name (Offer l) = false
is_name Close = true
is_name Wait = true
is_name (Var k) = true

-- the labels of messages and variables, and Close and Wait, among these
abbrev pub names : List Label → List Label
names letters = filter is_name letters

-- the place of a label among these, or their number where it isn't there
abbrev pub label_position : List Label → Label → ℕ
label_position [] a = 0
label_position (l ∷ ls) a = if same_label a l then 0 else suc (label_position ls a)
