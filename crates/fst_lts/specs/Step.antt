-- How a type moves: when no move is left, by which labels it moves, and the type after a label
-- (Almeida, Mordido, Vasconcelos, TACAS 2020).
use Rattle.std.specs.Prelude.{ℕ, List, [], ◌∷◌, Bool, true, false, ◌&&◌, Option, Some, None, option_map, if◌then◌else◌}
use Rattle.fst_types.specs.Tree.{Tree, skip, send, receive, close, wait, select, offer, seq, rec, back, var, plain, arrow, pair, named, Branches, none, branch}
use Rattle.fst_types.specs.declared.label.Label.{Label}
use Rattle.fst_types.specs.declared.label.Label.TheVariants.{Send, Receive, Select, Offer, Close, Wait, Var}
use Rattle.fst_types.specs.Order.{same_label}
use Rattle.fst_types.specs.Substitution.{substitute}

-- no move is left
abbrev pub terminated : Tree → Bool
terminated skip = true
terminated (send b) = false
terminated (receive b) = false
terminated close = false
terminated wait = false
terminated (select bs) = false
terminated (offer bs) = false
terminated (seq s r) = terminated s && terminated r
terminated (rec s) = terminated s
terminated (back k) = false
terminated (var k) = false
terminated (plain b) = false
terminated (arrow u s r) = false
terminated (pair s r) = false
terminated (named k) = false

-- the branch that a label leads to
abbrev pub branch_at : (List ℕ → Label) → Branches → Label → Option Tree
branch_at make none a = None
branch_at make (branch l s bs) a = if same_label a (make l) then Some s else branch_at make bs a

-- a label by which a protocol ends
abbrev pub is_end : Label → Bool
is_end (Send b) = false
is_end (Receive b) = false
is_end (Select l) = false
is_end (Offer l) = false
is_end Close = true
is_end Wait = true
is_end (Var k) = false

-- what is left after a label by which t was reached, with r behind it: behind an end nothing is
abbrev pub followed : Label → Tree → Tree → Tree
followed a r t = if is_end a then skip else seq t r

-- the type after a label, where env has what the binders around the type stand for; a `rec` stands for itself in its body
abbrev pub step_in : List (Option Tree) → Tree → Label → Option Tree
step_in env skip a = None
step_in env (send b) a = if same_label a (Send b) then Some skip else None
step_in env (receive b) a = if same_label a (Receive b) then Some skip else None
step_in env close a = if same_label a Close then Some skip else None
step_in env wait a = if same_label a Wait then Some skip else None
step_in env (select bs) a = option_map (substitute env) (branch_at Select bs a)
step_in env (offer bs) a = option_map (substitute env) (branch_at Offer bs a)
step_in env (seq s r) a =
    if terminated s then step_in env r a else option_map
    (followed a (substitute env r)) (step_in env s a)
step_in env (rec s) a = step_in (Some (substitute env (rec s)) ∷ env) s a
step_in env (back k) a = None
step_in env (var k) a = if same_label a (Var k) then Some skip else None
step_in env (plain b) a = None
step_in env (arrow u s r) a = None
step_in env (pair s r) a = None
step_in env (named k) a = None

-- the type after a label, if the type moves by it
abbrev pub step : Tree → Label → Option Tree
step s a = step_in [] s a

-- the labels of the branches of a choice
abbrev pub choice_labels : (List ℕ → Label) → Branches → List Label
choice_labels make none = []
choice_labels make (branch l s bs) = make l ∷ choice_labels make bs

-- the labels by which a type moves, those of a choice in the order of its branches
abbrev pub labels : Tree → List Label
labels skip = []
labels (send b) = Send b ∷ []
labels (receive b) = Receive b ∷ []
labels close = Close ∷ []
labels wait = Wait ∷ []
labels (select bs) = choice_labels Select bs
labels (offer bs) = choice_labels Offer bs
labels (seq s r) = if terminated s then labels r else labels s
labels (rec s) = labels s
labels (back k) = []
labels (var k) = Var k ∷ []
labels (plain b) = []
labels (arrow u s r) = []
labels (pair s r) = []
labels (named k) = []
