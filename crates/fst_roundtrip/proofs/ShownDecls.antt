-- The text of a declaration is read as the same declaration at other places.
use Rattle.std.proofs.Common.{◌≡◌, true, ℕ, List, [], ◌∷◌, ◌++◌, map, refl, append_assoc}
use Rattle.std.specs.Prelude.{codes}
use Rattle.std.specs.Str.{byte}
use Rattle.fst_types.specs.declared.kind.Kind.{Kind}
use Rattle.fst_types.specs.WrittenTree.{WrittenTree}
use Rattle.fst_lexer.specs.declared.token.TokenKind.{TokenKind}
use Rattle.fst_lexer.specs.declared.token.TokenKind.TheVariants as kind
use Rattle.fst_lexer.specs.Spelling.{IsWordOf, ends_before}
use Rattle.fst_terms.specs.declared.binder.Binder.{Binder}
use Rattle.fst_terms.specs.TermTree.{TermTree}
use Rattle.fst_terms.specs.ModuleTree.{Maker, Declared, family, alias, signature, equation}
use Rattle.fst_reading.specs.Lexeme.{Lexeme, Is}
use Rattle.fst_type_syntax.specs.Grammar.{IsType}
use Rattle.fst_module_grammar.specs.Grammar as grammar
use Rattle.fst_module_grammar.specs.Grammar.{bound, IsDecl, IsExpr}
use Rattle.fst_type_print.specs.Texts.{joined_text}
use Rattle.fst_type_print.specs.WrittenTexts.{written_text}
use Rattle.fst_print.specs.ModuleTexts.{names_text, term_text, maker_text, binder_kind_text, binders_text, decl_text}
use Rattle.fst_roundtrip.proofs.Showable.{IsUpperName, IsShowableDecl}
use Rattle.fst_roundtrip.proofs.Spelled.{Reads, Any, EndsName, One, one, Two, two, so, both, upper_name, spaced}
use Rattle.fst_roundtrip.proofs.ShownWords.{Shown, blank_before, sign_blank, word_blank}
use Rattle.fst_roundtrip.proofs.ShownTypes.{ShownType, type_shown}
use Rattle.fst_roundtrip.proofs.ShownRows.{ShownNames, names_shown}
use Rattle.fst_roundtrip.proofs.ShownRanks.{ShownTerm}
use Rattle.fst_roundtrip.proofs.ShownForms.{equals}
use Rattle.fst_roundtrip.proofs.ShownTerms.{term_shown}
use Rattle.fst_roundtrip.proofs.ShownArms.{UpperBound}
use Rattle.fst_roundtrip.proofs.ShownBinders.{ShownBinders, binders_shown}
use Rattle.fst_roundtrip.proofs.ShownMakers.{ShownMakers, makers_shown}
use Rattle.fst_roundtrip.specs.Unplaced.{unplaced_decl}

-- the word that a declaration begins with, its kind, and the text behind it
abbrev pub decl_first : Declared → List ℕ
decl_first (family x makers) = codes "data"
decl_first (alias x t) = codes "type"
decl_first (signature x bs t) = x.name
decl_first (equation x xs t) = x.name

abbrev pub decl_kind : Declared → TokenKind
decl_kind (family x makers) = kind.Reserved
decl_kind (alias x t) = kind.Reserved
decl_kind (signature x bs t) = kind.Lower
decl_kind (equation x xs t) = kind.Lower

abbrev pub decl_rest : Declared → List ℕ
decl_rest (family x makers) = codes " " ++ x.name ++ codes " = " ++ joined_text (codes " | ") (map maker_text makers)
decl_rest (alias x t) = codes " " ++ x.name ++ codes " = " ++ written_text t
decl_rest (signature x bs t) = codes " : " ++ binders_text bs ++ written_text t
decl_rest (equation x xs t) = names_text xs ++ codes " = " ++ term_text t

pub decl_parts : (d : Declared) → decl_text d ≡ decl_first d ++ decl_rest d
decl_parts (family x makers) = refl
decl_parts (alias x t) = refl
decl_parts (signature x bs t) = simp append_assoc
decl_parts (equation x xs t) = simp append_assoc

-- this word is one, and what is behind it ends it
pub first_word : (d : Declared) → IsShowableDecl d → IsWordOf (decl_kind d) (decl_first d)
first_word (family x makers) h = refl
first_word (alias x t) h = refl
first_word (signature x bs t) h = h.0
first_word (equation x xs t) h = h.0

pub rest_ends_name : (d : Declared) (more : List ℕ) → EndsName (decl_rest d ++ more)
rest_ends_name (family x makers) more = refl
rest_ends_name (alias x t) more = refl
rest_ends_name (signature x bs t) more = refl
rest_ends_name (equation x [] t) more = refl
rest_ends_name (equation x (y ∷ ys) t) more = refl

pub first_ends : (d : Declared) (more : List ℕ) → ends_before (decl_kind d) (decl_first d) (decl_rest d ++ more) ≡ true
first_ends (family x makers) more = rest_ends_name (family x makers) more
first_ends (alias x t) more = rest_ends_name (alias x t) more
first_ends (signature x bs t) more = rest_ends_name (signature x bs t) more
first_ends (equation x xs t) more = rest_ends_name (equation x xs t) more

-- lexemes that are this declaration behind its first word
abbrev pub ShownDecl : Declared → List Lexeme → Type 0
ShownDecl d ts = (k : Lexeme) → k.kind ≡ decl_kind d → k.text ≡ decl_first d → Shown
    (λ us e. IsDecl (k ∷ us) e) unplaced_decl d ts

-- a name and an equals sign, with what it stands for behind it
abbrev Stands : Binder → (List Lexeme → Type 0) → List Lexeme → Type 0
Stands x P = Two (Two (UpperBound x) (One (Is (codes "=")))) P

equated : {P : List Lexeme → Type 0} (x : Binder) (text : List ℕ) → IsUpperName x.name → Reads EndsName text P →
    Reads EndsName (codes " " ++ x.name ++ codes " = " ++ text) (Stands x P)
equated x text upper r = both (codes " " ++ x.name ++ codes " = ") text
    (λ rest q. tt) (both (codes " " ++ x.name) (codes " = ")
    (λ rest q. refl) (blank_before x.name (upper_name x.name upper)) (equals {Q = Any})) r

family_shown : (x : Binder) (m : Maker) (ms : List Maker) → IsShowableDecl (family x (m ∷ ms)) →
    Reads EndsName (decl_rest (family x (m ∷ ms))) (ShownDecl (family x (m ∷ ms)))
family_shown x m ms h = so (decl_rest (family x (m ∷ ms))) stands
    (equated x (joined_text (codes " | ") (map maker_text (m ∷ ms))) h.0 (makers_shown m ms h.1.0 h.1.1))
  where
    stands : (ts : List Lexeme) → Stands x (ShownMakers (m ∷ ms)) ts → ShownDecl (family x (m ∷ ms)) ts
    stands _ (two _ ts (two _ _ (one y name) (one e is)) inner) k same_kind same_text = record {
      wrote = family (bound y) inner.wrote;
      form = grammar.family k y e ts inner.wrote (rw (same_kind, same_text) refl) name.0 is inner.form;
      same = λ i. family (record { name = name.1 i; at = 0 }) (inner.same i);
    }

alias_shown : (x : Binder) (t : WrittenTree) → IsShowableDecl (alias x t) →
    Reads EndsName (decl_rest (alias x t)) (ShownDecl (alias x t))
alias_shown x t h = so (decl_rest (alias x t)) stands (equated x (written_text t) h.0 (type_shown t h.1))
  where
    stands : (ts : List Lexeme) → Stands x (ShownType IsType t) ts → ShownDecl (alias x t) ts
    stands _ (two _ ts (two _ _ (one y name) (one e is)) inner) k same_kind same_text = record {
      wrote = alias (bound y) inner.wrote;
      form = grammar.alias k y e ts inner.wrote (rw (same_kind, same_text) refl) name.0 is inner.form;
      same = λ i. alias (record { name = name.1 i; at = 0 }) (inner.same i);
    }

colon : {Q : List ℕ → Type 0} → Reads Q (codes " : ") (One (Is (codes ":")))
colon = blank_before (codes ": ") (sign_blank (codes ":") refl (λ rest. refl))

closed_shown : (x : Binder) (t : WrittenTree) → IsShowableDecl (signature x [] t) →
    Reads EndsName (decl_rest (signature x [] t)) (ShownDecl (signature x [] t))
closed_shown x t h = so (codes " : " ++ written_text t) stands
    (both (codes " : ") (written_text t) (λ rest q. tt) (colon {Q = Any}) (type_shown t h.2))
  where
    stands : (ts : List Lexeme) → Two (One (Is (codes ":"))) (ShownType IsType t) ts → ShownDecl (signature x [] t) ts
    stands _ (two _ ts (one c is) inner) k same_kind same_text = record {
      wrote = signature (bound k) [] inner.wrote;
      form = grammar.signature k c ts inner.wrote same_kind is inner.form;
      same = λ i. signature (record { name = same_text i; at = 0 }) [] (inner.same i);
    }

over_shown : (x : Binder) (b : Binder × Kind) (bs : List (Binder × Kind)) (t : WrittenTree) →
    IsShowableDecl (signature x (b ∷ bs) t) →
    Reads EndsName (decl_rest (signature x (b ∷ bs) t)) (ShownDecl (signature x (b ∷ bs) t))
over_shown x b bs t h =
    let variables = joined_text (codes ", ") (map binder_kind_text (b ∷ bs)) in
    so (codes " : " ++ (codes "forall " ++ variables ++ codes ". ") ++ written_text t) stands
    (both (codes " : " ++ (codes "forall " ++ variables ++ codes ". ")) (written_text t) (λ rest q. tt)
    (both (codes " : ") (codes "forall " ++ variables ++ codes ". ") (λ rest q. tt) (colon {Q = Any})
    (both (codes "forall " ++ variables) (codes ". ") (λ rest q. refl)
    (both (codes "forall ") variables (λ rest q. tt) (word_blank {Q = Any} (codes "forall") refl) (binders_shown b bs h.1))
    (spaced {Q = Any} (byte ".") refl (λ c. refl))))
    (type_shown t h.2))
  where
    stands : (ts : List Lexeme) → Two (Two (One (Is (codes ":")))
        (Two (Two (One (Is (codes "forall"))) (ShownBinders (b ∷ bs))) (One (Is (codes "."))))) (ShownType IsType t) ts →
        ShownDecl (signature x (b ∷ bs) t) ts
    stands _ (two _ ts (two _ _ (one c is) (two _ _ (two _ vs (one f is') y) (one d is''))) inner) k same_kind same_text =
        record {
          wrote = signature (bound k) y.wrote inner.wrote;
          form = grammar.over k c f d vs ts (k ∷ c ∷ f ∷ (vs ++ d ∷ []) ++ ts) y.wrote inner.wrote same_kind is is' y.form is''
              inner.form (simp append_assoc);
          same = λ i. signature (record { name = same_text i; at = 0 }) (y.same i) (inner.same i);
        }

constant_shown : (x : Binder) (t : TermTree) → IsShowableDecl (equation x [] t) →
    Reads EndsName (decl_rest (equation x [] t)) (ShownDecl (equation x [] t))
constant_shown x t h = so (codes " = " ++ term_text t) stands
    (both (codes " = ") (term_text t) (λ rest q. tt) (equals {Q = Any}) (term_shown t h.2))
  where
    stands : (ts : List Lexeme) → Two (One (Is (codes "="))) (ShownTerm IsExpr t) ts → ShownDecl (equation x [] t) ts
    stands _ (two _ ts (one e is) inner) k same_kind same_text = record {
      wrote = equation (bound k) [] inner.wrote;
      form = grammar.equation k e [] ts (k ∷ e ∷ ts) [] inner.wrote same_kind grammar.none is inner.form refl;
      same = λ i. equation (record { name = same_text i; at = 0 }) [] (inner.same i);
    }

function_shown : (x y : Binder) (ys : List Binder) (t : TermTree) → IsShowableDecl (equation x (y ∷ ys) t) →
    Reads EndsName (decl_rest (equation x (y ∷ ys) t)) (ShownDecl (equation x (y ∷ ys) t))
function_shown x y ys t h =
    so (names_text (y ∷ ys) ++ codes " = " ++ term_text t) stands
    (both (names_text (y ∷ ys) ++ codes " = ") (term_text t)
    (λ rest q. tt) (both (names_text (y ∷ ys)) (codes " = ") (λ rest q. refl) (names_shown y ys h.1) (equals {Q = Any}))
    (term_shown t h.2))
  where
    stands : (ts : List Lexeme) → Two (Two (ShownNames (y ∷ ys)) (One (Is (codes "=")))) (ShownTerm IsExpr t) ts →
        ShownDecl (equation x (y ∷ ys) t) ts
    stands _ (two _ ts (two xs _ names (one e is)) inner) k same_kind same_text = record {
      wrote = equation (bound k) names.wrote inner.wrote;
      form = grammar.equation k e xs ts (k ∷ (xs ++ e ∷ []) ++ ts) names.wrote inner.wrote same_kind names.form is inner.form
          (simp append_assoc);
      same = λ i. equation (record { name = same_text i; at = 0 }) (names.same i) (inner.same i);
    }

-- the text of a declaration behind its first word is read as this declaration
pub decl_shown : (d : Declared) → IsShowableDecl d → Reads EndsName (decl_rest d) (ShownDecl d)
decl_shown (family x []) h = absurd h.1
decl_shown (family x (m ∷ ms)) h = family_shown x m ms h
decl_shown (alias x t) h = alias_shown x t h
decl_shown (signature x [] t) h = closed_shown x t h
decl_shown (signature x (b ∷ bs) t) h = over_shown x b bs t h
decl_shown (equation x [] t) h = constant_shown x t h
decl_shown (equation x (y ∷ ys) t) h = function_shown x y ys t h
