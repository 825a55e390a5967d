-- The rules of non-terminals by equations.
use Rattle.std.specs.Prelude.{◌≡◌, ◌<◌, ◌≤◌, All, ℕ, List, [], ◌∷◌, ◌++◌, map, length, slice_get, take, reverse, Some, if◌then◌else◌}
use Rattle.fst_types.specs.Tree.{Tree, skip, send, receive, close, wait, select, offer, seq, rec, back, var, plain, arrow, pair, named}
use Rattle.fst_types.specs.declared.label.Label.{Label}
use Rattle.fst_types.specs.declared.label.Label.TheVariants.{Select, Offer}
use Rattle.fst_words.specs.declared.rules.Rule.{Rule}
use Rattle.fst_words.specs.Ordered.{AreOrdered}
use Rattle.fst_words.specs.Words.{Productions, row_of, WordBelow}
use Rattle.fst_parts.specs.Place.{Place, place_past, body_place}
use Rattle.fst_grammar.specs.Word.{Numbers, word}
use Rattle.fst_parts.specs.Labels.{names}
use Rattle.fst_parts.specs.Once.{Part}
use Rattle.fst_grammar.specs.Parts.{numbers_by, has_end}
use Rattle.fst_grammar.specs.Rules.{name_rules, branch_rules, word_rules}

-- what a non-terminal's rules are: these, or those of a word
pub data Equation : Type 0 where
  own : List Rule → Equation
  like : List ℕ → Equation

-- the rules by an equation
abbrev pub rules_by : Productions → Equation → List Rule
rules_by rows (own rules) = rules
rules_by rows (like w) = word_rules rows w

-- each non-terminal has the rules of its equation
pub record Solves (rows : Productions) (equations : List Equation) : Type 0 where
  pub count : length rows ≡ length equations
  pub each : (m : ℕ) (e : Equation) → slice_get equations m ≡ Some e →
      row_of rows m ≡ rules_by rows e

-- the equation of a choice or `rec` at its own place
abbrev pub equation_at : Numbers → List Label → Place → Tree → Equation
equation_at n letters p skip = own []
equation_at n letters p (send b) = own []
equation_at n letters p (receive b) = own []
equation_at n letters p close = own []
equation_at n letters p wait = own []
equation_at n letters p (select cs) = own (branch_rules n letters Select (place_past p 1) cs)
equation_at n letters p (offer cs) = own (branch_rules n letters Offer (place_past p 1) cs)
equation_at n letters p (seq s r) = own []
equation_at n letters p (rec s) = like (word n (body_place p) s)
equation_at n letters p (back k) = own []
equation_at n letters p (var k) = own []
equation_at n letters p (plain b) = own []
equation_at n letters p (arrow u s r) = own []
equation_at n letters p (pair s r) = own []
equation_at n letters p (named k) = own []

-- the equation of a choice or `rec` at the place where it stands
abbrev pub part_equation : Numbers → List Label → Part → Equation
part_equation n letters e = equation_at n letters e.place e.type

-- the equations of all non-terminals but the dead one
abbrev pub live_equations : List Label → List Part → List Equation
live_equations letters found =
    map (λ a. own (name_rules (numbers_by letters found) letters a)) (names letters) ++ map
    (part_equation (numbers_by letters found) letters) found

-- the equation of the dead non-terminal, where there is one
abbrev pub dead_equations : List Label → List Equation
dead_equations letters = if has_end letters then own [] ∷ [] else []

-- the equations of all non-terminals
abbrev pub equations_by : List Label → List Part → List Equation
equations_by letters found = live_equations letters found ++ dead_equations letters

-- a word begins with a non-terminal of a smaller rank
pub record BeginsLower (rank : ℕ → ℕ) (equations : List Equation) (m : ℕ)
    (w : List ℕ) : Type 0 where
  pub first : ℕ
  pub rest : List ℕ
  pub is : w ≡ first ∷ rest
  pub within : first < length equations
  pub lower : rank first < rank m

-- each word of an equation begins with a non-terminal of a smaller rank, and no rank is over the bound
pub record IsGrounded (rank : ℕ → ℕ) (bound : ℕ) (equations : List Equation) : Type 0 where
  pub begins : (m : ℕ) (w : List ℕ) → slice_get equations m ≡ Some (like w) →
      BeginsLower rank equations m w
  pub most : (m : ℕ) → rank m ≤ bound

-- the rules are in letter order, with words and letters of the grammar
pub record AreFine (total letters : ℕ) (rules : List Rule) : Type 0 where
  pub words : All (λ (r : Rule). WordBelow total r.word) rules
  pub below : All (λ (r : Rule). r.letter < letters) rules
  pub ordered : AreOrdered rules

-- the rules or the word of an equation are those of the grammar
abbrev pub IsFine : ℕ → ℕ → Equation → Type 0
IsFine total letters (own rules) = AreFine total letters rules
IsFine total letters (like w) = WordBelow total w

-- a bound on how many equations stand behind one another, in types within the limit
abbrev pub most_rank : ℕ
most_rank = 16781312

-- the equations are grounded by some ranks
pub record HasRanks (equations : List Equation) : Type 0 where
  pub rank : ℕ → ℕ
  pub grounded : IsGrounded rank most_rank equations

-- the equations have a solution whose rules are in letter order
pub record HasOrderedRows (equations : List Equation) : Type 0 where
  pub rows : Productions
  pub solves : Solves rows equations
  pub ordered : All AreOrdered rows

-- the rows of the last non-terminals, the last one's first
abbrev pub AreLast : Productions → Productions → Type 0
AreLast rows known = known ≡ take (length known) (reverse rows)

-- from a non-terminal it is at most so many equations to rules
pub record Leads (equations : List Equation) (z left : ℕ) : Type 0 where
  pub rank : ℕ → ℕ
  pub grounded : IsGrounded rank most_rank equations
  pub near : rank z ≤ left
