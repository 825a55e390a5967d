-- What the faults of a term go by of what is in scope.
use Rattle.std.proofs.Common.{◌≡◌, ℕ, List, [], ◌∷◌, ◌++◌, Option, Some, None, length, refl, ap}
use Rattle.fst_types.specs.WrittenTree.{WrittenTree}
use Rattle.fst_terms.specs.Naming.{is_there, or_else, place_of}
use Rattle.fst_terms.specs.TermTree.{TermTree, named, int, bool, char, unit, pair, make, lambda, apply, let_in, split, if_else, case_of, operate, negate, new, send, receive, close, wait, select, match_with, fork, seq, TermList, no_terms, term, TermArms, no_arms, arm}
use Rattle.fst_scopes.specs.Faults.{is_among, type_faults, unless_there}
use Rattle.fst_term_faults.specs.TermFaults.{Surroundings, types_faults, name_faults, maker_faults, terms_length, within, term_faults, terms_faults, cases_faults, matches_faults}

-- the same names stand for globals, the constructors have as many fields, and types have the same faults
pub record AreAlike (s t : Surroundings) : Type 0 where
  pub globals : (x : List ℕ) → is_among s.globals x ≡ is_among t.globals x
  pub makers : (x : List ℕ) → s.makers x ≡ t.makers x
  pub types : (w : WrittenTree) → type_faults s.types w ≡ type_faults t.types w
  pub closed : (w : WrittenTree) → type_faults s.closed w ≡ type_faults t.closed w

unless_alike : (at : ℕ) (x : List ℕ) (o p : Option ℕ) → is_there o ≡ is_there p → unless_there at x o ≡ unless_there at x p
unless_alike at x None None e = refl
unless_alike at x (Some a) (Some b) e = refl
unless_alike at x None (Some b) e = absurd (cc e)
unless_alike at x (Some a) None e = absurd (cc e)

or_alike : (l o p : Option ℕ) → is_there o ≡ is_there p → is_there (or_else l o) ≡ is_there (or_else l p)
or_alike (Some a) o p e = refl
or_alike None o p e = e

name_alike : (xs gs hs : List (List ℕ)) (at : ℕ) (x : List ℕ) (ws : List WrittenTree) → is_among gs x ≡ is_among hs x →
    name_faults xs gs at x ws ≡ name_faults xs hs at x ws
name_alike xs gs hs at x [] e = unless_alike at x (or_else (place_of xs x) (place_of gs x))
    (or_else (place_of xs x) (place_of hs x)) (or_alike (place_of xs x) (place_of gs x) (place_of hs x) e)
name_alike xs gs hs at x (w ∷ ws) e = unless_alike at x (place_of gs x) (place_of hs x) e

module _ (s t : Surroundings) (alike : AreAlike s t) where
  types_alike : (ws : List WrittenTree) → types_faults s.types ws ≡ types_faults t.types ws
  types_alike [] = refl
  types_alike (w ∷ ws) = λ i. alike.types w i ++ types_alike ws i

  maker_alike : (at : ℕ) (x : List ℕ) (got : ℕ) → maker_faults at x got (s.makers x) ≡ maker_faults at x got (t.makers x)
  maker_alike at x got = ap (maker_faults at x got) (alike.makers x)

  mutual
    -- where what is in scope is alike, a term has the same faults
    pub same_term_faults : (xs : List (List ℕ)) (u : TermTree) → term_faults s xs u ≡ term_faults t xs u
    same_term_faults xs (named at x ws) = λ i. name_alike xs s.globals t.globals at x ws (alike.globals x) i ++ types_alike ws i
    same_term_faults xs (int at n) = refl
    same_term_faults xs (bool at b) = refl
    same_term_faults xs (char at c) = refl
    same_term_faults xs (unit at) = refl
    same_term_faults xs (pair at u v) = λ i. same_term_faults xs u i ++ same_term_faults xs v i
    same_term_faults xs (make at x ts) = λ i. maker_alike at x (terms_length ts) i ++ same_terms_faults xs ts i
    same_term_faults xs (lambda at m w x u) = λ i. alike.types w i ++ same_term_faults (x.name ∷ xs) u i
    same_term_faults xs (apply at u v) = λ i. same_term_faults xs u i ++ same_term_faults xs v i
    same_term_faults xs (let_in at x u v) = λ i. same_term_faults xs u i ++ same_term_faults (x.name ∷ xs) v i
    same_term_faults xs (split at x y u v) = λ i. same_term_faults xs u i ++ same_term_faults (y.name ∷ x.name ∷ xs) v i
    same_term_faults xs (if_else at u v w) = λ i. same_term_faults xs u i ++ (same_term_faults xs v i ++ same_term_faults xs w i)
    same_term_faults xs (case_of at u bs) = λ i. same_term_faults xs u i ++ same_cases_faults xs bs i
    same_term_faults xs (operate at o u v) = λ i. same_term_faults xs u i ++ same_term_faults xs v i
    same_term_faults xs (negate at u) = same_term_faults xs u
    same_term_faults xs (new at w) = alike.closed w
    same_term_faults xs (send at u v) = λ i. same_term_faults xs u i ++ same_term_faults xs v i
    same_term_faults xs (receive at u) = same_term_faults xs u
    same_term_faults xs (close at u) = same_term_faults xs u
    same_term_faults xs (wait at u) = same_term_faults xs u
    same_term_faults xs (select at l u) = same_term_faults xs u
    same_term_faults xs (match_with at u bs) = λ i. same_term_faults xs u i ++ same_matches_faults xs bs i
    same_term_faults xs (fork at u) = same_term_faults xs u
    same_term_faults xs (seq at u v) = λ i. same_term_faults xs u i ++ same_term_faults xs v i

    same_terms_faults : (xs : List (List ℕ)) (us : TermList) → terms_faults s xs us ≡ terms_faults t xs us
    same_terms_faults xs no_terms = refl
    same_terms_faults xs (term u us) = λ i. same_term_faults xs u i ++ same_terms_faults xs us i

    same_cases_faults : (xs : List (List ℕ)) (bs : TermArms) → cases_faults s xs bs ≡ cases_faults t xs bs
    same_cases_faults xs no_arms = refl
    same_cases_faults xs (arm l ys u bs) = λ i. maker_alike l.at l.name
        (length ys) i ++ (same_term_faults (within ys xs) u i ++ same_cases_faults xs bs i)

    same_matches_faults : (xs : List (List ℕ)) (bs : TermArms) → matches_faults s xs bs ≡ matches_faults t xs bs
    same_matches_faults xs no_arms = refl
    same_matches_faults xs (arm l ys u bs) = λ i. same_term_faults (within ys xs) u i ++ same_matches_faults xs bs i
