-- What stands behind the letters of Close and Wait.
use Rattle.std.specs.Prelude.{◌≡◌, ℕ, ◌≤◌, List, [], ◌∷◌, true, false, Some, None, slice_get}
use Rattle.fst_base.specs.Limits.{most_nodes}
use Rattle.fst_types.specs.Tree.{Tree}
use Rattle.fst_types.specs.Size.{nodes}
use Rattle.fst_types.specs.declared.kind.Kind.{Kind}
use Rattle.fst_types.specs.declared.label.Label.{Label}
use Rattle.fst_kinds.specs.WellFormed.{IsSession}
use Rattle.fst_lts.specs.Step.{is_end}
use Rattle.fst_words.specs.Words.{Productions, row_of, rule_of, step, after, WordBelow}
use Rattle.fst_grammar.specs.Translation.{IsGrammar, IsTranslation, numbers_of}

-- the word's first non-terminal is this one
abbrev pub BeginsWith : ℕ → List ℕ → Type 0
BeginsWith z w = (d : List ℕ) × (w ≡ z ∷ d)

-- a rule's word by its letter: behind Close and Wait it begins with the dead non-terminal, and behind each other label it has none
-- but those in front of the dead one
pub record StandsBehind (letters : List Label) (dead : ℕ) (a : ℕ) (w : List ℕ) : Type 0 where
  pub label : Label
  pub at : slice_get letters a ≡ Some label
  pub stops : is_end label ≡ true → BeginsWith dead w
  pub goes : is_end label ≡ false → WordBelow dead w

-- each rule's word is as its letter says, so that a trace stops at Close and Wait
abbrev pub StopsAtEnds : List Label → Productions → ℕ → Type 0
StopsAtEnds letters rows dead =
    (n a : ℕ) (w : List ℕ) → rule_of (row_of rows n) a ≡ Some w → StandsBehind letters dead a w

-- where a trace leaves nothing of the first word, it leaves nothing of the second either, or what performs a letter
abbrev pub EndsWith : Productions → List ℕ → List ℕ → Type 0
EndsWith rows u v =
    (t y : List ℕ) → after rows u t ≡ Some [] → after rows v t ≡ Some y →
    ((a : ℕ) → step rows y a ≡ None) → y ≡ []

-- the grammar of two session types within the limit on nodes stops at Close and Wait
abbrev pub GrammarStopsAtEnds : Type 0
GrammarStopsAtEnds =
    (vars others : List Kind) (s r : Tree) → IsSession vars s → IsSession others r →
    nodes s ≤ most_nodes → nodes r ≤ most_nodes →
    (letters : List Label) (rows : Productions) → IsGrammar s r letters rows →
    StopsAtEnds letters rows (numbers_of letters s r).dead

-- where one trace leaves of the words of two session types within the limit on nodes what performs the same letters, both are
-- empty or neither is
abbrev pub EndsLaw : Type 0
EndsLaw =
    (vars others : List Kind) (s r : Tree) → IsSession vars s → IsSession others r →
    nodes s ≤ most_nodes → nodes r ≤ most_nodes →
    (letters : List Label) (rows : Productions) (u v : List ℕ) →
    IsTranslation s r letters rows u v → EndsWith rows u v × EndsWith rows v u
