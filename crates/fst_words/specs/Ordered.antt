-- The rules of one non-terminal in the order of their letters.
use Rattle.std.specs.Prelude.{ℕ, ◌<◌, List, [], ◌∷◌, ⊤}
use Rattle.fst_words.specs.declared.rules.Rule.{Rule}

-- the first rule's letter, if there is a rule, is above this one
abbrev pub IsAbove : ℕ → List Rule → Type 0
IsAbove a [] = ⊤
IsAbove a (r ∷ rules) = a < r.letter

-- at most one rule for each letter, in the order of the letters
abbrev pub AreOrdered : List Rule → Type 0
AreOrdered [] = ⊤
AreOrdered (r ∷ rules) = IsAbove r.letter rules × AreOrdered rules
