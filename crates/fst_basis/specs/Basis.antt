-- Bases (Caucal, 1990; Christensen, Hüttel, Stirling, 1995): pairs of words, with chains which show that the two words of each
-- perform the same traces.
use Rattle.std.specs.Prelude.{◌≡◌, ◌≢◌, ◌↔◌, ℕ, ◌&&◌, ◌==◌, List, [], ◌∷◌, ◌++◌, length, take, drop, Some, IsSome, Bool, true, false, All, ⊤}
use Rattle.fst_base.specs.Agreement.{HaveSameTraces}
use Rattle.fst_words.specs.declared.rules.Rule.{Rule}
use Rattle.fst_words.specs.Words.{Productions, step, InRange, LettersBelow, WordBelow, first_row}
use Rattle.fst_words.specs.Marks.{IsUnnormedSet}
use Rattle.fst_basis.specs.declared.proof.Pair.{Pair}
use Rattle.fst_basis.specs.declared.proof.Chain.{Chain}
use Rattle.fst_basis.specs.declared.proof.Rewrite.{Rewrite}
use Rattle.fst_basis.specs.declared.proof.Rewrite.TheVariants.{Forth, Back, Cut, Grow}
use Rattle.fst_basis.specs.Rewrites.{chained}

-- the rules have the same letters, one after the other
abbrev pub same_letters : List Rule → List Rule → Bool
same_letters [] [] = true
same_letters [] (q ∷ qs) = false
same_letters (r ∷ rs) [] = false
same_letters (r ∷ rs) (q ∷ qs) = (r.letter == q.letter) && same_letters rs qs

-- both words have a non-terminal, and they perform the same letters
pub record IsPair (rows : Productions) (b : Pair) : Type 0 where
  pub left : b.left ≢ []
  pub right : b.right ≢ []
  pub letters : (a : ℕ) → IsSome (step rows b.left a) ↔ IsSome (step rows b.right a)

-- the chain joins the word of the rule, with t behind it, to what w becomes by the rule's letter
abbrev pub IsJoined : Productions → List Bool → List Pair → List ℕ → List ℕ → Rule → Chain → Type 0
IsJoined rows marks basis t w r c = (x : List ℕ) × (step rows w r.letter ≡ Some x) ×
    (chained marks basis c.steps.items (r.word ++ t) ≡ Some x)

-- so it is for each of the rules, by a chain of its own
abbrev pub AreJoinedByRules : Productions → List Bool → List Pair → List ℕ → List ℕ → List Rule →
    List Chain → Type 0
AreJoinedByRules rows marks basis t w [] [] = ⊤
AreJoinedByRules rows marks basis t w [] (c ∷ cs) = ⊥
AreJoinedByRules rows marks basis t w (r ∷ rs) [] = ⊥
AreJoinedByRules rows marks basis t w (r ∷ rs) (c ∷ cs) = IsJoined rows marks basis t w r c ×
    AreJoinedByRules rows marks basis t w rs cs

-- pair by pair and letter by letter, a chain joins what the two words become by the letter, and there is no further chain
abbrev pub AreJoined : Productions → List Bool → List Pair → List Pair → List Chain → Type 0
AreJoined rows marks basis [] cs = cs ≡ []
AreJoined rows marks basis (b ∷ bs) cs =
    AreJoinedByRules rows marks basis (drop 1 b.left) b.right (first_row rows b.left)
    (take (length (first_row rows b.left)) cs)
    × AreJoined rows marks basis bs (drop (length (first_row rows b.left)) cs)

-- the marks are those of an unnormed set, the two words of each pair perform the same letters, and chains join what they become
pub record IsBasis (rows : Productions) (marks : List Bool) (basis : List Pair)
    (cs : List Chain) : Type 0 where
  pub set : IsUnnormedSet rows marks
  pub pairs : All (IsPair rows) basis
  pub joined : AreJoined rows marks basis basis cs

-- the numbers of both words are below n
pub record IsPairBelow (n : ℕ) (b : Pair) : Type 0 where
  pub left : WordBelow n b.left
  pub right : WordBelow n b.right

-- the numbers of the word that a rewrite cuts or puts there are below n
abbrev pub IsRewriteBelow : ℕ → Rewrite → Type 0
IsRewriteBelow n (Forth at pair) = ⊤
IsRewriteBelow n (Back at pair) = ⊤
IsRewriteBelow n (Cut at tail) = WordBelow n tail
IsRewriteBelow n (Grow at tail) = WordBelow n tail

-- so it is for each rewrite of the chain
abbrev pub IsChainBelow : ℕ → Chain → Type 0
IsChainBelow n c = All (IsRewriteBelow n) c.steps.items

-- the rewrites exchange words of pairs alone: they neither cut anything off nor put anything behind a word
abbrev pub AreExchanges : List Rewrite → Type 0
AreExchanges steps = (n : ℕ) → All (IsRewriteBelow n) steps

-- the rules have the grammar's letters alone, of which there are n, there is a mark for each non-terminal, and all words, those of
-- the rewrites too, have the grammar's non-terminals alone
pub record IsWithin (n : ℕ) (rows : Productions) (marks : List Bool) (u v : List ℕ)
    (basis : List Pair) (cs : List Chain) : Type 0 where
  pub letters : LettersBelow n rows
  pub rules : InRange rows
  pub count : length marks ≡ length rows
  pub left : WordBelow (length rows) u
  pub right : WordBelow (length rows) v
  pub pairs : All (IsPairBelow (length rows)) basis
  pub chains : All (IsChainBelow (length rows)) cs

-- the first chain joins the two words, by a basis for which there are the others
abbrev pub Joins : Productions → List Bool → List ℕ → List ℕ → List Pair → List Chain → Type 0
Joins rows marks u v basis [] = ⊥
Joins rows marks u v basis (c ∷ cs) = IsBasis rows marks basis cs ×
    (chained marks basis c.steps.items u ≡ Some v)

-- pairs with chains that show that two words perform the same traces
abbrev pub IsProof : ℕ → Productions → List Bool → List ℕ → List ℕ → List Pair → List Chain → Type 0
IsProof n rows marks u v basis cs = IsWithin n rows marks u v basis cs ×
    Joins rows marks u v basis cs

-- words that rewrites of a basis join perform the same traces
abbrev pub RewriteLaw : Type 0
RewriteLaw = (rows : Productions) (marks : List Bool) (basis : List Pair) (cs : List Chain) →
    IsBasis rows marks basis cs →
    (chain : List Rewrite) (u v : List ℕ) → chained marks basis chain u ≡ Some v →
    HaveSameTraces (step rows) (step rows) u v
