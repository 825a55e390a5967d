-- The texts of cases and matches with their arms.
use Rattle.std.proofs.Common.{◌≡◌, ℕ, List, [], ◌∷◌, ◌++◌, refl, append_assoc}
use Rattle.std.specs.Prelude.{codes}
use Rattle.std.specs.Str.{byte}
use Rattle.std.proofs.lemmas.List.{append-nil}
use Rattle.fst_terms.specs.declared.binder.Binder.{Binder}
use Rattle.fst_terms.specs.TermTree as term
use Rattle.fst_terms.specs.TermTree.{TermTree, TermArms, no_arms, arm}
use Rattle.fst_reading.specs.Lexeme.{Lexeme, Is, IsUpper}
use Rattle.fst_module_grammar.specs.Grammar as grammar
use Rattle.fst_module_grammar.specs.Grammar.{bound, IsExpr, AreCases, AreMatches}
use Rattle.fst_type_print.specs.Texts.{in_braces}
use Rattle.fst_print.specs.ModuleTexts.{names_text}
use Rattle.fst_roundtrip.proofs.Showable.{IsLowerName, IsUpperName, AreLowerNames}
use Rattle.fst_roundtrip.proofs.Spelled.{Reads, Any, EndsName, One, one, Two, two, so, both, sign, lower_name, upper_name, spaced, arrow_sign}
use Rattle.fst_roundtrip.proofs.ShownWords.{Shown, blank_before, word_blank}
use Rattle.fst_roundtrip.proofs.ShownRows.{ShownNames, names_behind}
use Rattle.fst_roundtrip.proofs.ShownRanks.{ShownTerm}
use Rattle.fst_roundtrip.proofs.ShownForms.{Bound, inner_word}
use Rattle.fst_roundtrip.specs.Unplaced.{unplaced_arms}

-- lexemes that are the arms of a case, and of a match
abbrev pub ShownCases : TermArms → List Lexeme → Type 0
ShownCases arms = Shown AreCases unplaced_arms arms

abbrev pub ShownMatches : TermArms → List Lexeme → Type 0
ShownMatches arms = Shown AreMatches unplaced_arms arms

-- an upper name that is bound
abbrev pub UpperBound : Binder → List Lexeme → Type 0
UpperBound l = One (λ k. IsUpper k × (k.text ≡ l.name))

-- an arrow, with a term behind it
abbrev Arm : (List Lexeme → Type 0) → TermTree → List Lexeme → Type 0
Arm Front t = Two (Two Front (One (Is (codes "->")))) (ShownTerm IsExpr t)

arm_shown : {P : List Lexeme → Type 0} (front a : List ℕ) (t : TermTree) → Reads EndsName front P →
    Reads EndsName a (ShownTerm IsExpr t) → Reads EndsName (front ++ codes " -> " ++ a) (Arm P t)
arm_shown front a t l r = both (front ++ codes " -> ") a
    (λ rest q. tt) (both front (codes " -> ") (λ rest q. refl) l (blank_before {Q = Any} (codes "-> ") arrow_sign)) r

-- an arm with a comma and other arms behind it
commaed : {P S : List Lexeme → Type 0} (text more : List ℕ) → Reads EndsName text P → Reads EndsName more S →
    Reads EndsName (text ++ (codes ", " ++ more)) (Two P (Two (One (Is (codes ","))) S))
commaed text more l r = both text (codes ", " ++ more)
    (λ rest q. refl) l (both (codes ", ") more (λ rest q. tt) (spaced {Q = Any} (byte ",") refl (λ c. refl)) r)

abbrev CaseFront : Binder → List Binder → List Lexeme → Type 0
CaseFront l xs = Two (UpperBound l) (ShownNames xs)

case_arm : (l : Binder) (xs : List Binder) (a : List ℕ) (t : TermTree) → IsUpperName l.name → AreLowerNames xs →
    Reads EndsName a (ShownTerm IsExpr t) →
    Reads EndsName (l.name ++ names_text xs ++ codes " -> " ++ a) (Arm (CaseFront l xs) t)
case_arm l xs a t upper names r = arm_shown (l.name ++ names_text xs) a t
    (names_behind l.name xs names (upper_name l.name upper)) r

pub last_case_shown : (l : Binder) (xs : List Binder) (a : List ℕ) (t : TermTree) → IsUpperName l.name → AreLowerNames xs →
    Reads EndsName a (ShownTerm IsExpr t) →
    Reads EndsName ((l.name ++ names_text xs ++ codes " -> " ++ a) ++ []) (ShownCases (arm l xs t no_arms))
last_case_shown l xs a t upper names r = rw (append-nil (l.name ++ names_text xs ++ codes " -> " ++ a))
    (so (l.name ++ names_text xs ++ codes " -> " ++ a) stands (case_arm l xs a t upper names r))
  where
    stands : (ts : List Lexeme) → Arm (CaseFront l xs) t ts → ShownCases (arm l xs t no_arms) ts
    stands _ (two _ ts (two _ _ (two _ ns (one k name) binders) (one d arrow)) x) = record {
      wrote = arm (bound k) binders.wrote x.wrote no_arms;
      form = grammar.last_case k d ns ts ((k ∷ ns ++ d ∷ []) ++ ts) binders.wrote x.wrote name.0 binders.form arrow x.form
          (simp append_assoc);
      same = λ i. arm (record { name = name.1 i; at = 0 }) (binders.same i) (x.same i) no_arms;
    }

pub further_case_shown : (l : Binder) (xs : List Binder) (a more : List ℕ) (t : TermTree) (arms : TermArms) → IsUpperName l.name →
    AreLowerNames xs → Reads EndsName a (ShownTerm IsExpr t) → Reads EndsName more (ShownCases arms) →
    Reads EndsName ((l.name ++ names_text xs ++ codes " -> " ++ a) ++ (codes ", " ++ more)) (ShownCases (arm l xs t arms))
further_case_shown l xs a more t arms upper names r others =
    so ((l.name ++ names_text xs ++ codes " -> " ++ a) ++ (codes ", " ++ more)) stands
    (commaed (l.name ++ names_text xs ++ codes " -> " ++ a) more (case_arm l xs a t upper names r) others)
  where
    stands : (ts : List Lexeme) → Two (Arm (CaseFront l xs) t) (Two (One (Is (codes ","))) (ShownCases arms)) ts →
        ShownCases (arm l xs t arms) ts
    stands _ (two _ _ (two _ ts (two _ _ (two _ ns (one k name) binders) (one d arrow)) x) (two _ us (one m comma) y)) = record {
      wrote = arm (bound k) binders.wrote x.wrote y.wrote;
      form = grammar.further_case k d m ns ts us (((k ∷ ns ++ d ∷ []) ++ ts) ++ m ∷ us) binders.wrote x.wrote y.wrote name.0
          binders.form arrow x.form comma y.form (simp append_assoc);
      same = λ i. arm (record { name = name.1 i; at = 0 }) (binders.same i) (x.same i) (y.same i);
    }

abbrev MatchFront : Binder → Binder → List Lexeme → Type 0
MatchFront l x = Two (UpperBound l) (Bound x)

match_arm : (l x : Binder) (a : List ℕ) (t : TermTree) → IsUpperName l.name → IsLowerName x.name →
    Reads EndsName a (ShownTerm IsExpr t) →
    Reads EndsName (l.name ++ names_text (x ∷ []) ++ codes " -> " ++ a) (Arm (MatchFront l x) t)
match_arm l x a t upper lower r =
    rw (append-nil x.name)
    (arm_shown (l.name ++ (codes " " ++ x.name)) a t
    (both l.name (codes " " ++ x.name) (λ rest q. refl) (upper_name l.name upper)
    (blank_before x.name (lower_name x.name lower))) r)

pub last_match_shown : (l x : Binder) (a : List ℕ) (t : TermTree) → IsUpperName l.name → IsLowerName x.name →
    Reads EndsName a (ShownTerm IsExpr t) →
    Reads EndsName ((l.name ++ names_text (x ∷ []) ++ codes " -> " ++ a) ++ []) (ShownMatches (arm l (x ∷ []) t no_arms))
last_match_shown l x a t upper lower r =
    rw (append-nil (l.name ++ names_text (x ∷ []) ++ codes " -> " ++ a))
    (so (l.name ++ names_text (x ∷ []) ++ codes " -> " ++ a) stands (match_arm l x a t upper lower r))
  where
    stands : (ts : List Lexeme) → Arm (MatchFront l x) t ts → ShownMatches (arm l (x ∷ []) t no_arms) ts
    stands _ (two _ ts (two _ _ (two _ _ (one k name) (one y h)) (one d arrow)) u) = record {
      wrote = arm (bound k) (bound y ∷ []) u.wrote no_arms;
      form = grammar.last_match k y d ts u.wrote name.0 h.0 arrow u.form;
      same = λ i. arm (record { name = name.1 i; at = 0 }) (record { name = h.1 i; at = 0 } ∷ []) (u.same i) no_arms;
    }

pub further_match_shown : (l x : Binder) (a more : List ℕ) (t : TermTree) (arms : TermArms) → IsUpperName l.name →
    IsLowerName x.name → Reads EndsName a (ShownTerm IsExpr t) → Reads EndsName more (ShownMatches arms) →
    Reads EndsName ((l.name ++ names_text (x ∷ []) ++ codes " -> " ++ a) ++ (codes ", " ++ more))
    (ShownMatches (arm l (x ∷ []) t arms))
further_match_shown l x a more t arms upper lower r others =
    so ((l.name ++ names_text (x ∷ []) ++ codes " -> " ++ a) ++ (codes ", " ++ more)) stands
    (commaed (l.name ++ names_text (x ∷ []) ++ codes " -> " ++ a) more (match_arm l x a t upper lower r) others)
  where
    stands : (ts : List Lexeme) → Two (Arm (MatchFront l x) t) (Two (One (Is (codes ","))) (ShownMatches arms)) ts →
        ShownMatches (arm l (x ∷ []) t arms) ts
    stands _ (two _ _ (two _ ts (two _ _ (two _ _ (one k name) (one y h)) (one d arrow)) u) (two _ us (one m comma) v)) = record {
      wrote = arm (bound k) (bound y ∷ []) u.wrote v.wrote;
      form = grammar.further_match k y d m ts us (k ∷ y ∷ d ∷ ts ++ m ∷ us) u.wrote v.wrote name.0 h.0 arrow u.form comma v.form
          refl;
      same = λ i. arm (record { name = name.1 i; at = 0 }) (record { name = h.1 i; at = 0 } ∷ []) (u.same i) (v.same i);
    }

-- arms between braces
braced : {P : List Lexeme → Type 0} (text : List ℕ) → Reads EndsName text P →
    Reads EndsName (in_braces text) (Two (Two (One (Is (codes "{"))) P) (One (Is (codes "}"))))
braced text r = both (codes "{" ++ text) (codes "}")
    (λ rest q. refl) (both (codes "{") text (λ rest q. tt) (sign {Q = Any} (byte "{") refl (λ c. refl)) r)
    (sign (byte "}") refl (λ c. refl))

pub case_shown : (at : ℕ) (a arms_text : List ℕ) (t : TermTree) (arms : TermArms) → Reads EndsName a (ShownTerm IsExpr t) →
    Reads EndsName arms_text (ShownCases arms) →
    Reads EndsName (codes "case " ++ a ++ codes " of " ++ in_braces arms_text) (ShownTerm IsExpr (term.case_of at t arms))
case_shown at a arms_text t arms l r =
    so (codes "case " ++ a ++ codes " of " ++ in_braces arms_text) stands
    (both (codes "case " ++ a ++ codes " of ") (in_braces arms_text) (λ rest q. tt)
    (both (codes "case " ++ a) (codes " of ") (λ rest q. refl)
    (both (codes "case ") a (λ rest q. tt) (word_blank {Q = Any} (codes "case") refl) l)
    (inner_word {Q = Any} (codes "of") refl))
    (braced arms_text r))
  where
    stands : (ts : List Lexeme) → Two (Two (Two (One (Is (codes "case"))) (ShownTerm IsExpr t)) (One (Is (codes "of"))))
        (Two (Two (One (Is (codes "{"))) (ShownCases arms)) (One (Is (codes "}")))) ts →
        ShownTerm IsExpr (term.case_of at t arms) ts
    stands _ (two _ _ (two _ _ (two _ ts (one k is) x) (one f is')) (two _ _ (two _ us (one o opens) y) (one c closes))) =
        record {
          wrote = term.case_of k.at x.wrote y.wrote;
          form = grammar.case_of k f o c ts us (k ∷ (ts ++ f ∷ []) ++ (o ∷ us ++ c ∷ [])) x.wrote y.wrote is x.form is' opens
              y.form
              closes (simp append_assoc);
          same = λ i. term.case_of 0 (x.same i) (y.same i);
        }

pub match_shown : (at : ℕ) (a arms_text : List ℕ) (t : TermTree) (arms : TermArms) → Reads EndsName a (ShownTerm IsExpr t) →
    Reads EndsName arms_text (ShownMatches arms) →
    Reads EndsName (codes "match " ++ a ++ codes " with " ++ in_braces arms_text) (ShownTerm IsExpr (term.match_with at t arms))
match_shown at a arms_text t arms l r =
    so (codes "match " ++ a ++ codes " with " ++ in_braces arms_text) stands
    (both (codes "match " ++ a ++ codes " with ") (in_braces arms_text) (λ rest q. tt)
    (both (codes "match " ++ a) (codes " with ") (λ rest q. refl)
    (both (codes "match ") a (λ rest q. tt) (word_blank {Q = Any} (codes "match") refl) l)
    (inner_word {Q = Any} (codes "with") refl))
    (braced arms_text r))
  where
    stands : (ts : List Lexeme) → Two (Two (Two (One (Is (codes "match"))) (ShownTerm IsExpr t)) (One (Is (codes "with"))))
        (Two (Two (One (Is (codes "{"))) (ShownMatches arms)) (One (Is (codes "}")))) ts →
        ShownTerm IsExpr (term.match_with at t arms) ts
    stands _ (two _ _ (two _ _ (two _ ts (one k is) x) (one f is')) (two _ _ (two _ us (one o opens) y) (one c closes))) =
        record {
          wrote = term.match_with k.at x.wrote y.wrote;
          form = grammar.match_with k f o c ts us (k ∷ (ts ++ f ∷ []) ++ (o ∷ us ++ c ∷ [])) x.wrote y.wrote is x.form is' opens
              y.form closes (simp append_assoc);
          same = λ i. term.match_with 0 (x.same i) (y.same i);
        }
