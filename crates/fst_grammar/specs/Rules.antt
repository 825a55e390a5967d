-- The rules of non-terminals (Almeida, Mordido, Vasconcelos, TACAS 2020).
use Rattle.std.specs.Prelude.{◌≡◌, ℕ, ◌+◌, List, [], ◌∷◌, ◌++◌, false, if◌then◌else◌, ⊤}
use Rattle.fst_types.specs.Tree.{Tree, skip, send, receive, close, wait, select, offer, seq, rec, back, var, plain, arrow, pair, named, Branches, none, branch}
use Rattle.fst_types.specs.Size.{nodes}
use Rattle.fst_types.specs.declared.label.Label.{Label}
use Rattle.fst_types.specs.declared.label.Label.TheVariants.{Send, Receive, Select, Offer, Close, Wait, Var}
use Rattle.fst_lts.specs.Step.{terminated, is_end}
use Rattle.fst_words.specs.declared.rules.Rule.{Rule}
use Rattle.fst_words.specs.Words.{Productions, row_of}
use Rattle.fst_parts.specs.Place.{Place, place_past, own_place, body_place}
use Rattle.fst_grammar.specs.Word.{Numbers, node_at, word}
use Rattle.fst_parts.specs.Labels.{label_position}

-- the rules with more behind each word
abbrev pub rules_before : List ℕ → List Rule → List Rule
rules_before d [] = []
rules_before d (r ∷ rules) = record { letter = r.letter; word = r.word ++ d } ∷ rules_before d rules

-- the rules of a word: those of its first non-terminal, with the rest behind
abbrev pub word_rules : Productions → List ℕ → List Rule
word_rules rows [] = []
word_rules rows (z ∷ d) = rules_before d (row_of rows z)

-- the dead non-terminal behind an end, and else the empty word
abbrev pub name_word : Numbers → Label → List ℕ
name_word n a = if is_end a then n.dead ∷ [] else []

-- a message or variable has its label and the empty word; Close and Wait have their label and the dead non-terminal
abbrev pub name_rules : Numbers → List Label → Label → List Rule
name_rules n letters a =
    record { letter = label_position letters a; word = name_word n a } ∷ []

-- a choice has, per label, the word of the branch
abbrev pub branch_rules : Numbers → List Label → (List ℕ → Label) → Place → Branches → List Rule
branch_rules n letters make p none = []
branch_rules n letters make p (branch l s cs) =
    record { letter = label_position letters (make l); word = word n (place_past p 1) s }
    ∷ branch_rules n letters make (place_past p (1 + nodes s)) cs

-- the non-terminals of all that stands in a type have these rules: a `rec` those of its body's word; a type of values has none
abbrev mutual
  pub HasRows : Numbers → List Label → Productions → Place → Tree → Type 0
  HasRows n letters rows p skip = ⊤
  HasRows n letters rows p (send b) =
      row_of rows (n.name (Send b)) ≡ name_rules n letters (Send b)
  HasRows n letters rows p (receive b) =
      row_of rows (n.name (Receive b)) ≡ name_rules n letters (Receive b)
  HasRows n letters rows p close = row_of rows (n.name Close) ≡ name_rules n letters Close
  HasRows n letters rows p wait = row_of rows (n.name Wait) ≡ name_rules n letters Wait
  HasRows n letters rows p (select cs) =
      (row_of rows (node_at n (own_place p (select cs))) ≡ branch_rules n letters Select
      (place_past (own_place p (select cs)) 1) cs)
      × HaveRows n letters rows (place_past (own_place p (select cs)) 1) cs
  HasRows n letters rows p (offer cs) =
      (row_of rows (node_at n (own_place p (offer cs))) ≡ branch_rules n letters Offer
      (place_past (own_place p (offer cs)) 1) cs)
      × HaveRows n letters rows (place_past (own_place p (offer cs)) 1) cs
  HasRows n letters rows p (seq s r) = HasRows n letters rows (place_past p 1) s ×
      HasRows n letters rows (place_past p (1 + nodes s)) r
  HasRows n letters rows p (rec s) =
      terminated s ≡ false →
      ((row_of rows (node_at n (own_place p (rec s))) ≡ word_rules rows
      (word n (body_place (own_place p (rec s))) s))
      × HasRows n letters rows (body_place (own_place p (rec s))) s)
  HasRows n letters rows p (back k) = ⊤
  HasRows n letters rows p (var k) = row_of rows (n.name (Var k)) ≡ name_rules n letters (Var k)
  HasRows n letters rows p (plain b) = ⊥
  HasRows n letters rows p (arrow u s r) = ⊥
  HasRows n letters rows p (pair s r) = ⊥
  HasRows n letters rows p (named k) = ⊥

  -- those in each branch
  pub HaveRows : Numbers → List Label → Productions → Place → Branches → Type 0
  HaveRows n letters rows p none = ⊤
  HaveRows n letters rows p (branch l s cs) = HasRows n letters rows (place_past p 1) s ×
      HaveRows n letters rows (place_past p (1 + nodes s)) cs
