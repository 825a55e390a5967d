-- Grammars by the labels of their rules.
use Rattle.std.proofs.Common.{◌≡◌, ℕ, ◌+◌, List, [], ◌∷◌, ◌++◌, false, Option, Some, None}
use Rattle.std.specs.Prelude.{option_map, if◌then◌else◌, ⊤}
use Rattle.fst_types.specs.Tree.{Tree, skip, send, receive, close, wait, select, offer, seq, rec, back, var, plain, arrow, pair, named, Branches, none, branch}
use Rattle.fst_types.specs.Size.{nodes}
use Rattle.fst_types.specs.Order.{same_label}
use Rattle.fst_types.specs.declared.label.Label.{Label}
use Rattle.fst_types.specs.declared.label.Label.TheVariants.{Send, Receive, Select, Offer, Close, Wait, Var}
use Rattle.fst_lts.specs.Step.{terminated}
use Rattle.fst_parts.specs.Place.{Place, place_past, own_place, body_place}
use Rattle.fst_grammar.specs.Word.{Numbers, node_at, word}
use Rattle.fst_grammar.specs.Rules.{name_word}

-- the rule of a non-terminal for a label
abbrev pub Rule : Type 0
Rule = ℕ → Label → Option (List ℕ)

-- the word after a label: the first non-terminal gives way to the word of its rule
abbrev pub move : Rule → List ℕ → Label → Option (List ℕ)
move rule [] a = None
move rule (n ∷ w) a = option_map (λ v. v ++ w) (rule n a)

-- the word of the branch of a label
abbrev pub branch_word : Numbers → (List ℕ → Label) → Place → Branches → Label → Option (List ℕ)
branch_word n make p none a = None
branch_word n make p (branch l s cs) a =
    if same_label a (make l) then Some (word n (place_past p 1) s) else branch_word n make (place_past p (1 + nodes s)) cs a

-- a message or variable has its label and the empty word; Close and Wait have their label and the dead non-terminal
abbrev pub IsName : Numbers → Rule → Label → Type 0
IsName n rule l = (a : Label) → rule (n.name l) a ≡ (if same_label a l then Some (name_word n l) else None)

-- a choice has, per label, the word of the branch
abbrev pub IsChoice : Numbers → Rule → (List ℕ → Label) → Place → Branches → Type 0
IsChoice n rule make p cs = (a : Label) → rule (node_at n p) a ≡ branch_word n make (place_past p 1) cs a

-- rec x. S has the rules of the word of S: of its first non-terminal, with the rest behind
abbrev pub IsRec : Numbers → Rule → Place → Tree → Type 0
IsRec n rule p s = (a : Label) → rule (node_at n p) a ≡ move rule (word n (body_place p) s) a

-- each non-terminal within the part has its rules
abbrev mutual
  pub HasRules : Numbers → Rule → Place → Tree → Type 0
  HasRules n rule p skip = ⊤
  HasRules n rule p (send b) = IsName n rule (Send b)
  HasRules n rule p (receive b) = IsName n rule (Receive b)
  HasRules n rule p close = IsName n rule Close
  HasRules n rule p wait = IsName n rule Wait
  HasRules n rule p (select cs) = IsChoice n rule Select (own_place p (select cs)) cs ×
      HaveRules n rule (place_past (own_place p (select cs)) 1) cs
  HasRules n rule p (offer cs) = IsChoice n rule Offer (own_place p (offer cs)) cs ×
      HaveRules n rule (place_past (own_place p (offer cs)) 1) cs
  HasRules n rule p (seq s r) = HasRules n rule (place_past p 1) s × HasRules n rule (place_past p (1 + nodes s)) r
  HasRules n rule p (rec s) =
      terminated s ≡ false → (IsRec n rule (own_place p (rec s)) s × HasRules n rule (body_place (own_place p (rec s))) s)
  HasRules n rule p (back k) = ⊤
  HasRules n rule p (var k) = IsName n rule (Var k)
  HasRules n rule p (plain b) = ⊥
  HasRules n rule p (arrow u s r) = ⊥
  HasRules n rule p (pair s r) = ⊥
  HasRules n rule p (named k) = ⊥

  pub HaveRules : Numbers → Rule → Place → Branches → Type 0
  HaveRules n rule p none = ⊤
  HaveRules n rule p (branch l s cs) = HasRules n rule (place_past p 1) s × HaveRules n rule (place_past p (1 + nodes s)) cs
