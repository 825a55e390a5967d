-- Grounded equations have a solution.
use Rattle.std.proofs.Common.{◌≡◌, ◌∙◌, ◌<◌, ◌≤◌, refl, sym, ap, subst, arith, ℕ, zero, suc, List, [], ◌∷◌, length, Option, Some, None, map}
use Rattle.std.specs.Prelude.{All, slice_get}
use Rattle.std.proofs.lemmas.List.Elements.{All-cons, All-head, All-tail, All-append}
use Rattle.fst_base.proofs.Lists.{get_there}
use Rattle.fst_words.specs.declared.rules.Rule.{Rule}
use Rattle.fst_words.specs.Words.{Productions, row_of, WordBelow}
use Rattle.fst_words.specs.Ordered.{AreOrdered}
use Rattle.fst_grammar.specs.Rules.{rules_before}
use Rattle.fst_grammar.specs.Equations.{Equation, own, like, rules_by, Solves, IsGrounded, AreFine, IsFine}
use Rattle.std.proofs.lemmas.List.{length-map}
use Rattle.std.proofs.lemmas.Option.{get_or_from_slice_get, slice_get_within}

-- the rules by an equation, where others have the rules that f says
abbrev rules_with : (ℕ → List Rule) → Equation → List Rule
rules_with f (own rules) = rules
rules_with f (like []) = []
rules_with f (like (z ∷ d)) = rules_before d (f z)

abbrev rules_there : (ℕ → List Rule) → Option Equation → List Rule
rules_there f None = []
rules_there f (Some e) = rules_with f e

-- the rules of a non-terminal, by at most so many equations
abbrev solved : List Equation → ℕ → ℕ → List Rule
solved equations zero m = []
solved equations (suc fuel) m = rules_there (solved equations fuel) (slice_get equations m)

-- the solution of equations
abbrev pub solution : ℕ → List Equation → Productions
solution fuel equations = map (rules_with (solved equations fuel)) equations

row_map : (f : Equation → List Rule) (es : List Equation) (m : ℕ) →
    (e : Equation) → slice_get es m ≡ Some e → row_of (map f es) m ≡ f e
row_map f [] m e g = absurd (cc g)
row_map f (x ∷ es) zero e g =
    let is : x ≡ e = cc in
    ap f is
row_map f (x ∷ es) (suc m) e g = row_map f es m e g

module _ (equations : List Equation) (rank : ℕ → ℕ) (bound : ℕ) (grounded : IsGrounded rank bound equations) where
  -- more equations than the rank give no other rules
  stable : (fuel m : ℕ) → rank m < fuel → solved equations fuel m ≡ solved equations (suc fuel) m
  stable zero m lt = absurd (omega arith)
  stable (suc fuel) m lt = pick (λ z h. stable fuel z h) (slice_get equations m) refl
    where
      pick : ((z : ℕ) → rank z < fuel → solved equations fuel z ≡ solved equations (suc fuel) z) →
          (o : Option Equation) → slice_get equations m ≡ o →
          rules_there (solved equations fuel) o ≡ rules_there (solved equations (suc fuel)) o
      pick next None is = refl
      pick next (Some (own rules)) is = refl
      pick next (Some (like [])) is = refl
      pick next (Some (like (z ∷ d))) is =
          let g = grounded.begins m (z ∷ d) is in
          let same : g.first ≡ z = cc in
          let up : rank g.first < rank m = g.lower in
          let at : rank g.first ≡ rank z = ap rank same in
          ap (rules_before d) (next z (omega arith))

  -- the solution solves the equations
  pub solves : Solves (solution bound equations) equations
  solves = record { count = length-map equations (rules_with (solved equations bound)); each = λ m e g. at m e g }
    where
      other : (z : ℕ) → z < length equations → rank z < bound → solved equations bound z ≡ row_of (solution bound equations) z
      other z lt le =
          let e = get_there equations z lt in
          stable bound z le ∙ ap (rules_there (solved equations bound)) e.1
          ∙ sym (row_map (rules_with (solved equations bound)) equations z e.0 e.1)

      at : (m : ℕ) (e : Equation) → slice_get equations m ≡ Some e →
          row_of (solution bound equations) m ≡ rules_by (solution bound equations) e
      at m (own rules) g = row_map (rules_with (solved equations bound)) equations m (own rules) g
      at m (like []) g = row_map (rules_with (solved equations bound)) equations m (like []) g
      at m (like (z ∷ d)) g =
          let h = grounded.begins m (z ∷ d) g in
          let same : h.first ≡ z = cc in
          let lt : h.first < length equations = h.within in
          let up : rank h.first < rank m = h.lower in
          let le : rank m ≤ bound = grounded.most m in
          let is : rank h.first ≡ rank z = ap rank same in
          row_map (rules_with (solved equations bound)) equations m (like (z ∷ d)) g
          ∙ ap (rules_before d) (other z (omega arith) (omega arith))

-- fine equations have fine rules

carried_words : (total : ℕ) (d : List ℕ) → WordBelow total d →
    (rules : List Rule) → All (λ (r : Rule). WordBelow total r.word) rules → All
    (λ (r : Rule). WordBelow total r.word) (rules_before d rules)
carried_words total d b [] h = λ i e lt. absurd (omega arith)
carried_words total d b (r ∷ rules) h =
    All-cons (λ (q : Rule). WordBelow total q.word) _ (rules_before d rules)
    (All-append (λ k. k < total) r.word d (All-head (λ (q : Rule). WordBelow total q.word) r rules h) b)
    (carried_words total d b rules (All-tail (λ (q : Rule). WordBelow total q.word) r rules h))

carried_letters : (few : ℕ) (d : List ℕ) (rules : List Rule) → All (λ (r : Rule). r.letter < few) rules → All
    (λ (r : Rule). r.letter < few) (rules_before d rules)
carried_letters few d [] h = λ i e lt. absurd (omega arith)
carried_letters few d (r ∷ rules) h =
    All-cons (λ (q : Rule). q.letter < few) _ (rules_before d rules) (All-head (λ (q : Rule). q.letter < few) r rules h)
    (carried_letters few d rules (All-tail (λ (q : Rule). q.letter < few) r rules h))

pub carried_ordered : (d : List ℕ) (rules : List Rule) → AreOrdered rules → AreOrdered (rules_before d rules)
carried_ordered d [] h = tt
carried_ordered d (r ∷ []) h = (tt, tt)
carried_ordered d (r ∷ (q ∷ rules)) h = (h.0, carried_ordered d (q ∷ rules) h.1)

pub none_fine : (total few : ℕ) → AreFine total few []
none_fine total few = record { words = λ i e lt. absurd (omega arith); below = λ i e lt. absurd (omega arith); ordered = tt }

fine_with : (total few : ℕ) (f : ℕ → List Rule) → ((m : ℕ) → AreFine total few (f m)) →
    (e : Equation) → IsFine total few e → AreFine total few (rules_with f e)
fine_with total few f h (own rules) k = k
fine_with total few f h (like []) k = none_fine total few
fine_with total few f h (like (z ∷ d)) k =
    let rest = All-tail (λ x. x < total) z d k in
    let g = h z in
    record {
      words = carried_words total d rest (f z) g.words;
      below = carried_letters few d (f z) g.below;
      ordered =
          carried_ordered d (f z) g.ordered;
    }

-- what holds of all items holds of each
pub all_get : {A : Type 0} (P : A → Type 0) (xs : List A) (k : ℕ) (x : A) → All P xs → slice_get xs k ≡ Some x → P x
all_get P xs k x h g = subst P (get_or_from_slice_get xs k x x g) (h k x (slice_get_within xs k x g))

module _ (total few : ℕ) (equations : List Equation) (fine : All (IsFine total few) equations) where
  solved_fine : (fuel m : ℕ) → AreFine total few (solved equations fuel m)
  solved_fine zero m = none_fine total few
  solved_fine (suc fuel) m = there (solved_fine fuel) (slice_get equations m) refl
    where
      there : ((z : ℕ) → AreFine total few (solved equations fuel z)) →
          (o : Option Equation) → slice_get equations m ≡ o → AreFine total few (rules_there (solved equations fuel) o)
      there h None is = none_fine total few
      there h (Some e) is = fine_with total few (solved equations fuel) h e (all_get (IsFine total few) equations m e fine is)

  fine_map : (f : Equation → List Rule) → ((e : Equation) → IsFine total few e → AreFine total few (f e)) →
      (es : List Equation) → All (IsFine total few) es → All (AreFine total few) (map f es)
  fine_map f h [] k = λ i e lt. absurd (omega arith)
  fine_map f h (e ∷ es) k =
      All-cons (AreFine total few) (f e) (map f es) (h e (All-head (IsFine total few) e es k))
      (fine_map f h es (All-tail (IsFine total few) e es k))

  -- the rules of the solution are in order, with words and letters of the grammar
  pub solution_fine : (bound : ℕ) → All (AreFine total few) (solution bound equations)
  solution_fine bound = fine_map (rules_with (solved equations bound))
      (fine_with total few (solved equations bound) (solved_fine bound)) equations fine
