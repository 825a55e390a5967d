-- Simple grammars: how words move by letters (Almeida, Mordido, Vasconcelos, TACAS 2020).
use Rattle.std.specs.Prelude.{ℕ, suc, ◌≢◌, ◌<◌, ◌==◌, List, [], ◌∷◌, ◌++◌, length, Option, Some, None, if◌then◌else◌, slice_index_or, All, option_and_then, option_map}
use Rattle.fst_types.specs.declared.label.Label.{Label}
use Rattle.fst_types.specs.Order.{same_label}
use Rattle.fst_base.specs.Agreement.{residual}
use Rattle.fst_words.specs.declared.rules.Rule.{Rule}

-- the rules of each non-terminal
abbrev pub Productions : Type 0
Productions = List (List Rule)

-- the word of the first rule with this letter, if there is one
abbrev pub rule_of : List Rule → ℕ → Option (List ℕ)
rule_of [] a = None
rule_of (r ∷ rules) a = if r.letter == a then Some r.word else rule_of rules a

-- the rules of a non-terminal: none where the grammar doesn't have it
abbrev pub row_of : Productions → ℕ → List Rule
row_of rows n = slice_index_or rows n []

-- the rules by which a word moves, those of its first non-terminal
abbrev pub first_row : Productions → List ℕ → List Rule
first_row rows [] = []
first_row rows (n ∷ w) = row_of rows n

-- the word after a letter: the word of the first non-terminal's rule takes its place, so that nothing moves behind
-- a non-terminal without rules
abbrev pub step : Productions → List ℕ → ℕ → Option (List ℕ)
step rows [] a = None
step rows (n ∷ w) a = option_map (λ v. v ++ w) (rule_of (row_of rows n) a)

-- the number of a label among the letters
abbrev pub letter_of : List Label → Label → Option ℕ
letter_of [] a = None
letter_of (b ∷ letters) a = if same_label a b then Some 0 else option_map suc (letter_of letters a)

-- the word after a label
abbrev pub label_step : List Label → Productions → List ℕ → Label → Option (List ℕ)
label_step letters rows w a = option_and_then (step rows w) (letter_of letters a)

-- the numbers of a word are below n
abbrev pub WordBelow : ℕ → List ℕ → Type 0
WordBelow n w = All (λ k. k < n) w

-- each non-terminal in a rule's word is one of the grammar's
abbrev pub InRange : Productions → Type 0
InRange rows = All (λ rules. All (λ r. WordBelow (length rows) r.word) rules) rows

-- each of the first n non-terminals has a rule
abbrev pub EachHasRule : ℕ → Productions → Type 0
EachHasRule n rows = (m : ℕ) → m < n → row_of rows m ≢ []

-- each rule's letter is below n
abbrev pub LettersBelow : ℕ → Productions → Type 0
LettersBelow n rows = All (λ rules. All (λ r. r.letter < n) rules) rows

-- what a word has become after a trace of letters, if it performs it
abbrev pub after : Productions → List ℕ → List ℕ → Option (List ℕ)
after rows w s = residual (step rows) w s
