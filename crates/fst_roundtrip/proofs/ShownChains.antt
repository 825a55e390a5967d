-- The texts of terms with a sign between two others, of applications, and of constructors with their arguments.
use Rattle.std.proofs.Common.{◌≡◌, true, ℕ, List, [], ◌∷◌, ◌++◌, refl, subst, append_assoc}
use Rattle.std.specs.Prelude.{codes}
use Rattle.std.specs.Str.{byte}
use Rattle.std.proofs.lemmas.List.{append-nil}
use Rattle.fst_lexer.specs.Spelling.{is_sign, ends_sign}
use Rattle.fst_terms.specs.declared.term.Op.{Op}
use Rattle.fst_terms.specs.declared.term.Op.TheVariants.{Add, Subtract, Multiply, Equal, Unequal, Less, AtMost, Greater, AtLeast, And, Or}
use Rattle.fst_terms.specs.TermTree as term
use Rattle.fst_terms.specs.TermTree.{TermTree, TermList, no_terms}
use Rattle.fst_reading.specs.Lexeme.{Lexeme, Is, IsUpper, start}
use Rattle.fst_module_grammar.specs.Grammar as grammar
use Rattle.fst_module_grammar.specs.Grammar.{IsExpr, IsOr, IsApp, IsHead, IsAtom, AreAtoms}
use Rattle.fst_print.specs.ModuleTexts.{op_text}
use Rattle.fst_roundtrip.proofs.Showable.{IsUpperName}
use Rattle.fst_roundtrip.proofs.Spelled.{Reads, Any, EndsName, One, one, Two, two, so, both, sign_before, upper_name, spaced}
use Rattle.fst_roundtrip.proofs.ShownWords.{Shown, blank_before, blank_behind}
use Rattle.fst_roundtrip.proofs.ShownRanks.{ShownTerm, IsRank}
use Rattle.fst_print.specs.Ranks.{op_rank, left_rank, right_rank}
use Rattle.fst_roundtrip.specs.Unplaced.{unplaced_terms}

-- the text of an operator is a sign, which a blank ends
op_sign : (o : Op) → is_sign (op_text o) ≡ true
op_sign Add = refl
op_sign Subtract = refl
op_sign Multiply = refl
op_sign Equal = refl
op_sign Unequal = refl
op_sign Less = refl
op_sign AtMost = refl
op_sign Greater = refl
op_sign AtLeast = refl
op_sign And = refl
op_sign Or = refl

op_ends : (o : Op) (rest : List ℕ) → ends_sign (op_text o) (codes " " ++ rest) ≡ true
op_ends Add rest = refl
op_ends Subtract rest = refl
op_ends Multiply rest = refl
op_ends Equal rest = refl
op_ends Unequal rest = refl
op_ends Less rest = refl
op_ends AtMost rest = refl
op_ends Greater rest = refl
op_ends AtLeast rest = refl
op_ends And rest = refl
op_ends Or rest = refl

-- terms of the ranks that the operator takes, with its sign between them
joins : (o : Op) (ts us all : List Lexeme) (k : Lexeme) (t u : TermTree) → IsRank (left_rank o) ts t → Is (op_text o) k →
    IsRank (right_rank o) us u → all ≡ ts ++ k ∷ us →
    IsRank (op_rank o) all (term.operate (start ts) o t u)
joins Add ts us all k t u x is y e = grammar.more_sum ts us all k Add t u x (grammar.add k is) y e
joins Subtract ts us all k t u x is y e = grammar.more_sum ts us all k Subtract t u x (grammar.subtract k is) y e
joins Multiply ts us all k t u x is y e = grammar.more_prod ts us all k t u x is y e
joins Equal ts us all k t u x is y e = grammar.compare ts us all k Equal t u x (grammar.equal k is) y e
joins Unequal ts us all k t u x is y e = grammar.compare ts us all k Unequal t u x (grammar.unequal k is) y e
joins Less ts us all k t u x is y e = grammar.compare ts us all k Less t u x (grammar.less k is) y e
joins AtMost ts us all k t u x is y e = grammar.compare ts us all k AtMost t u x (grammar.at_most k is) y e
joins Greater ts us all k t u x is y e = grammar.compare ts us all k Greater t u x (grammar.greater k is) y e
joins AtLeast ts us all k t u x is y e = grammar.compare ts us all k AtLeast t u x (grammar.at_least k is) y e
joins And ts us all k t u x is y e = grammar.more_and ts us all k t u x is y e
joins Or ts us all k t u x is y e = grammar.more_or ts us all k t u x is y e

pub operate_shown : (at : ℕ) (o : Op) (a b : List ℕ) (s t : TermTree) → Reads EndsName a (ShownTerm (IsRank (left_rank o)) s) →
    Reads EndsName b (ShownTerm (IsRank (right_rank o)) t) →
    Reads EndsName (a ++ codes " " ++ op_text o ++ codes " " ++ b) (ShownTerm (IsRank (op_rank o)) (term.operate at o s t))
operate_shown at o a b s t l r =
    so (a ++ codes " " ++ op_text o ++ codes " " ++ b) stands
    (both (a ++ codes " " ++ op_text o ++ codes " ") b (λ rest q. tt)
    (blank_behind {R = Any} (a ++ codes " " ++ op_text o) (λ rest q. op_ends o rest)
    (both (a ++ codes " ") (op_text o) (λ rest q. tt) (blank_behind {R = Any} a (λ rest q. refl) l)
    (sign_before (op_text o) (op_sign o)))) r)
  where
    stands : (ts : List Lexeme) → Two (Two (ShownTerm (IsRank (left_rank o)) s) (One (Is (op_text o))))
        (ShownTerm (IsRank (right_rank o)) t) ts → ShownTerm (IsRank (op_rank o)) (term.operate at o s t) ts
    stands _ (two _ us (two ts _ x (one k is)) y) = record {
      wrote = term.operate (start ts) o x.wrote y.wrote;
      form = joins o ts us ((ts ++ k ∷ []) ++ us) k x.wrote y.wrote x.form is y.form (append_assoc ts (k ∷ []) us);
      same = λ i. term.operate 0 o (x.same i) (y.same i);
    }

pub seq_shown : (at : ℕ) (a b : List ℕ) (s t : TermTree) → Reads EndsName a (ShownTerm IsOr s) →
    Reads EndsName b (ShownTerm IsExpr t) → Reads EndsName (a ++ codes "; " ++ b) (ShownTerm IsExpr (term.seq at s t))
seq_shown at a b s t l r =
    so (a ++ codes "; " ++ b) stands (both (a ++ codes "; ") b
    (λ rest q. tt) (both a (codes "; ") (λ rest q. refl) l (spaced {Q = Any} (byte ";") refl (λ c. refl))) r)
  where
    stands : (ts : List Lexeme) → Two (Two (ShownTerm IsOr s) (One (Is (codes ";")))) (ShownTerm IsExpr t) ts →
        ShownTerm IsExpr (term.seq at s t) ts
    stands _ (two _ us (two ts _ x (one k is)) y) = record {
      wrote = term.seq (start ts) x.wrote y.wrote;
      form = grammar.seq ts us ((ts ++ k ∷ []) ++ us) k x.wrote y.wrote x.form is y.form (append_assoc ts (k ∷ []) us);
      same = λ i. term.seq 0 (x.same i) (y.same i);
    }

pub apply_shown : (at : ℕ) (a b : List ℕ) (s t : TermTree) → Reads EndsName a (ShownTerm IsHead s) →
    Reads EndsName b (ShownTerm IsAtom t) → Reads EndsName (a ++ codes " " ++ b) (ShownTerm IsHead (term.apply at s t))
apply_shown at a b s t l r = so (a ++ codes " " ++ b) stands
    (both (a ++ codes " ") b (λ rest q. tt) (blank_behind {R = Any} a (λ rest q. refl) l) r)
  where
    stands : (ts : List Lexeme) → Two (ShownTerm IsHead s) (ShownTerm IsAtom t) ts → ShownTerm IsHead (term.apply at s t) ts
    stands _ (two ts us x y) = record {
      wrote = term.apply (start ts) x.wrote y.wrote;
      form = grammar.apply ts us (ts ++ us) x.wrote y.wrote x.form y.form refl;
      same = λ i. term.apply 0 (x.same i) (y.same i);
    }

-- lexemes that are these arguments
abbrev pub ShownTerms : TermList → List Lexeme → Type 0
ShownTerms args = Shown AreAtoms unplaced_terms args

-- one argument, and one before others
pub last_argument : (a : List ℕ) (t : TermTree) → Reads EndsName a (ShownTerm IsAtom t) →
    Reads EndsName (codes " " ++ a ++ []) (ShownTerms (term.term t no_terms))
last_argument a t r = rw (append-nil a) (so (codes " " ++ a) stands (blank_before a r))
  where
    stands : (ts : List Lexeme) → ShownTerm IsAtom t ts → ShownTerms (term.term t no_terms) ts
    stands ts x = record {
      wrote = term.term x.wrote no_terms;
      form = subst (λ us. AreAtoms us (term.term x.wrote no_terms)) (append-nil ts)
          (grammar.atom ts [] (ts ++ []) x.wrote no_terms x.form grammar.no_atoms refl);
      same = λ i. term.term (x.same i) no_terms;
    }

pub further_argument : (a more : List ℕ) (t : TermTree) (args : TermList) → Reads EndsName a (ShownTerm IsAtom t) →
    ((rest : List ℕ) → EndsName (more ++ rest)) → Reads EndsName more (ShownTerms args) →
    Reads EndsName (codes " " ++ a ++ more) (ShownTerms (term.term t args))
further_argument a more t args r ends others =
    so (codes " " ++ a ++ more) stands (both (codes " " ++ a) more (λ rest q. ends rest) (blank_before a r) others)
  where
    stands : (ts : List Lexeme) → Two (ShownTerm IsAtom t) (ShownTerms args) ts → ShownTerms (term.term t args) ts
    stands _ (two ts us x y) = record {
      wrote = term.term x.wrote y.wrote;
      form = grammar.atom ts us (ts ++ us) x.wrote y.wrote x.form y.form refl;
      same = λ i. term.term (x.same i) (y.same i);
    }

-- a constructor without arguments, and one with some
pub constructor_shown : (at : ℕ) (x : List ℕ) → IsUpperName x →
    Reads EndsName (x ++ []) (ShownTerm IsAtom (term.make at x no_terms))
constructor_shown at x upper = rw (append-nil x) (so x stands (upper_name x upper))
  where
    stands : (ts : List Lexeme) → One (λ k. IsUpper k × (k.text ≡ x)) ts → ShownTerm IsAtom (term.make at x no_terms) ts
    stands _ (one k name) = record {
      wrote = term.make k.at k.text no_terms;
      form = grammar.constructor k name.0;
      same =
          λ i. term.make 0 (name.1 i) no_terms;
    }

pub make_shown : (at : ℕ) (x more : List ℕ) (args : TermList) → IsUpperName x →
    ((rest : List ℕ) → EndsName (more ++ rest)) → Reads EndsName more (ShownTerms args) →
    Reads EndsName (x ++ more) (ShownTerm IsApp (term.make at x args))
make_shown at x more args upper ends r = so (x ++ more) stands (both x more (λ rest q. ends rest) (upper_name x upper) r)
  where
    stands : (ts : List Lexeme) → Two (One (λ k. IsUpper k × (k.text ≡ x))) (ShownTerms args) ts →
        ShownTerm IsApp (term.make at x args) ts
    stands _ (two _ us (one k name) y) = record {
      wrote = term.make k.at k.text y.wrote;
      form = grammar.make k us y.wrote name.0 y.form;
      same = λ i. term.make 0 (name.1 i) (y.same i);
    }
