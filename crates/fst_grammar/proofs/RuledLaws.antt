-- Each non-terminal but the dead one has a rule: each choice has a branch, and each `rec` comes to one.
use Rattle.std.proofs.Common.{◌≡◌, ◌≢◌, ◌∙◌, ◌<◌, refl, sym, ap, arith, ℕ, zero, suc, List, [], ◌∷◌, ◌++◌, length, Some, map}
use Rattle.std.specs.Prelude.{All, slice_get}
use Rattle.std.proofs.lemmas.List.Elements.{All-cons, All-head}
use Rattle.fst_types.specs.Tree.{Branches, none, branch}
use Rattle.fst_types.specs.Order.{AreRising}
use Rattle.fst_types.specs.declared.label.Label.{Label}
use Rattle.fst_words.specs.declared.rules.Rule.{Rule}
use Rattle.fst_words.specs.Words.{Productions, row_of, WordBelow, EachHasRule}
use Rattle.fst_parts.specs.Place.{Place}
use Rattle.fst_grammar.specs.Word.{Numbers}
use Rattle.fst_grammar.specs.Rules.{rules_before, name_rules, branch_rules}
use Rattle.fst_grammar.specs.Equations.{Equation, own, like, rules_by, Solves, IsGrounded}
use Rattle.fst_base.proofs.Lists.{get_there}
use Rattle.fst_grammar.proofs.SolveLaws.{all_get}
use Rattle.fst_grammar.proofs.EquationLaws.{get_front}

-- an equation by rules has a rule, and one by a word has one of the first non-terminals alone
abbrev pub HasRule : ℕ → Equation → Type 0
HasRule live (own rules) = rules ≢ []
HasRule live (like w) = WordBelow live w

pub names_ruled : (live : ℕ) (n : Numbers) (letters xs : List Label) → All (HasRule live)
    (map (λ a. own (name_rules n letters a)) xs)
names_ruled live n letters [] = λ i e lt. absurd (omega arith)
names_ruled live n letters (x ∷ xs) =
    All-cons (HasRule live) (own (name_rules n letters x)) (map (λ a. own (name_rules n letters a)) xs)
    (λ e. absurd (cc e)) (names_ruled live n letters xs)

pub branches_ruled : (n : Numbers) (letters : List Label) (make : List ℕ → Label) (p : Place) (cs : Branches) → AreRising cs →
    branch_rules n letters make p cs ≢ []
branches_ruled n letters make p none r = absurd r
branches_ruled n letters make p (branch l s cs) r = λ e. absurd (cc e)

-- rules with more behind each word are there where they were
carried_some : (d : List ℕ) (rules : List Rule) → rules ≢ [] → rules_before d rules ≢ []
carried_some d [] h = absurd (h refl)
carried_some d (r ∷ rules) h = λ e. absurd (cc e)

module _ (equations others : List Equation) (rank : ℕ → ℕ) (bound : ℕ) (grounded : IsGrounded rank bound (equations ++ others))
    (ruled : All (HasRule (length equations)) equations) (rows : Productions) (solved : Solves rows (equations ++ others)) where
  row_ruled : (fuel m : ℕ) → rank m < fuel → m < length equations → row_of rows m ≢ []
  row_ruled zero m lt there = absurd (omega arith)
  row_ruled (suc fuel) m lt there =
      let e = get_there equations m there in
      let here = pick (λ z. row_ruled fuel z) e.0 e.1 in
      λ none. here (sym (solved.each m e.0 (get_front equations others m e.0 e.1)) ∙ none)
    where
      pick : ((z : ℕ) → rank z < fuel → z < length equations → row_of rows z ≢ []) →
          (e : Equation) → slice_get equations m ≡ Some e → rules_by rows e ≢ []
      pick next (own rules) is = all_get (HasRule (length equations)) equations m (own rules) ruled is
      pick next (like []) is = let g = grounded.begins m [] (get_front equations others m (like []) is) in absurd (cc g.is)
      pick next (like (z ∷ d)) is =
          let g = grounded.begins m (z ∷ d) (get_front equations others m (like (z ∷ d)) is) in
          let same : g.first ≡ z = cc in
          let within = All-head (λ k. k < length equations) z d (all_get (HasRule (length equations)) equations m
          (like (z ∷ d)) ruled is) in
          let up : rank g.first < rank m = g.lower in
          let at : rank g.first ≡ rank z = ap rank same in
          carried_some d (row_of rows z) (next z (omega arith) within)

  -- rows that solve grounded equations have a rule for each of these
  pub each_ruled : EachHasRule (length equations) rows
  each_ruled m lt = row_ruled (suc bound) m (let le = grounded.most m in omega arith) lt
