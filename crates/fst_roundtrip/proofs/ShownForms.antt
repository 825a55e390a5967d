-- The texts of terms that begin with a word of their own are read as the same terms at other places.
use Rattle.std.proofs.Common.{◌≡◌, ℕ, true, List, [], ◌∷◌, ◌++◌, refl, ap, append_assoc}
use Rattle.std.specs.Prelude.{codes}
use Rattle.std.specs.Str.{byte}
use Rattle.fst_types.specs.declared.kind.Use.{Use}
use Rattle.fst_types.specs.declared.kind.Use.TheVariants.{Many, Once}
use Rattle.fst_types.specs.WrittenTree.{WrittenTree}
use Rattle.fst_lexer.specs.Classes.{is_reserved}
use Rattle.fst_terms.specs.declared.binder.Binder.{Binder}
use Rattle.fst_terms.specs.TermTree as term
use Rattle.fst_terms.specs.TermTree.{TermTree}
use Rattle.fst_reading.specs.Lexeme.{Lexeme, Is, IsLower, IsUpper}
use Rattle.fst_type_syntax.specs.Grammar.{IsArrow, IsSeq, IsAtom as IsTypeAtom}
use Rattle.fst_module_grammar.specs.Grammar as grammar
use Rattle.fst_module_grammar.specs.Grammar.{bound, IsExpr, IsUnary, IsApp, IsAtom}
use Rattle.fst_type_print.specs.Texts.{arrow_text}
use Rattle.fst_roundtrip.specs.Unplaced.{unplaced_term}
use Rattle.fst_roundtrip.proofs.Showable.{IsLowerName, IsUpperName}
use Rattle.fst_roundtrip.proofs.Spelled.{Reads, Any, EndsName, One, one, Two, two, so, both, sign, lower_name, upper_name, spaced, arrow_reads}
use Rattle.fst_roundtrip.proofs.ShownWords.{blank_before, blank_behind, word_blank, sign_blank}
use Rattle.fst_roundtrip.proofs.ShownTypes.{ShownType}
use Rattle.fst_roundtrip.proofs.ShownRanks.{ShownTerm}

-- a lexeme that is this name
abbrev pub Bound : Binder → List Lexeme → Type 0
Bound x = One (λ k. IsLower k × (k.text ≡ x.name))

-- a reserved word between blanks, and an equals sign
pub inner_word : {Q : List ℕ → Type 0} (text : List ℕ) → is_reserved text ≡ true →
    Reads Q (codes " " ++ (text ++ codes " ")) (One (Is text))
inner_word text is = blank_before (text ++ codes " ") (word_blank text is)

pub equals : {Q : List ℕ → Type 0} → Reads Q (codes " = ") (One (Is (codes "=")))
equals = blank_before (codes "= ") (sign_blank (codes "=") refl (λ rest. refl))

pub let_shown : (at : ℕ) (x : Binder) (a b : List ℕ) (s t : TermTree) → IsLowerName x.name →
    Reads EndsName a (ShownTerm IsExpr s) → Reads EndsName b (ShownTerm IsExpr t) →
    Reads EndsName (codes "let " ++ x.name ++ codes " = " ++ a ++ codes " in " ++ b) (ShownTerm IsExpr (term.let_in at x s t))
let_shown at x a b s t name l r =
    so (codes "let " ++ x.name ++ codes " = " ++ a ++ codes " in " ++ b) stands
    (both (codes "let " ++ x.name ++ codes " = " ++ a ++ codes " in ") b (λ rest q. tt)
    (both (codes "let " ++ x.name ++ codes " = " ++ a) (codes " in ") (λ rest q. refl)
    (both (codes "let " ++ x.name ++ codes " = ") a (λ rest q. tt)
    (both (codes "let " ++ x.name) (codes " = ") (λ rest q. refl)
    (both (codes "let ") x.name (λ rest q. tt) (word_blank {Q = Any} (codes "let") refl) (lower_name x.name name))
    (equals {Q = Any})) l)
    (inner_word {Q = Any} (codes "in") refl)) r)
  where
    stands : (ts : List Lexeme) → Two (Two (Two (Two (Two (One (Is (codes "let"))) (Bound x)) (One (Is (codes "="))))
        (ShownTerm IsExpr s)) (One (Is (codes "in")))) (ShownTerm IsExpr t) ts →
        ShownTerm IsExpr (term.let_in at x s t) ts
    stands _ (two _ us (two _ _ (two _ ts (two _ _ (two _ _ (one k is) (one y h)) (one e is')) u) (one n is'')) v) = record {
      wrote = term.let_in k.at (bound y) u.wrote v.wrote;
      form = grammar.let_in k y e n ts us (k ∷ y ∷ e ∷ (ts ++ n ∷ []) ++ us) u.wrote v.wrote is h.0 is' u.form is'' v.form
          (simp append_assoc);
      same = λ i. term.let_in 0 (record { name = h.1 i; at = 0 }) (u.same i) (v.same i);
    }

pub split_shown : (at : ℕ) (x y : Binder) (a b : List ℕ) (s t : TermTree) → IsLowerName x.name → IsLowerName y.name →
    Reads EndsName a (ShownTerm IsExpr s) → Reads EndsName b (ShownTerm IsExpr t) →
    Reads EndsName (codes "let (" ++ x.name ++ codes ", " ++ y.name ++ codes ") = " ++ a ++ codes " in " ++ b)
    (ShownTerm IsExpr (term.split at x y s t))
split_shown at x y a b s t first second l r =
    so (codes "let (" ++ x.name ++ codes ", " ++ y.name ++ codes ") = " ++ a ++ codes " in " ++ b) stands
    (both (codes "let (" ++ x.name ++ codes ", " ++ y.name ++ codes ") = " ++ a ++ codes " in ") b (λ rest q. tt)
    (both (codes "let (" ++ x.name ++ codes ", " ++ y.name ++ codes ") = " ++ a) (codes " in ") (λ rest q. refl)
    (both (codes "let (" ++ x.name ++ codes ", " ++ y.name ++ codes ") = ") a (λ rest q. tt)
    (both (codes "let (" ++ x.name ++ codes ", " ++ y.name) (codes ") = ") (λ rest q. refl)
    (both (codes "let (" ++ x.name ++ codes ", ") y.name (λ rest q. tt)
    (both (codes "let (" ++ x.name) (codes ", ") (λ rest q. refl)
    (both (codes "let (") x.name (λ rest q. tt)
    (both (codes "let ") (codes "(") (λ rest q. tt) (word_blank {Q = Any} (codes "let") refl)
    (sign {Q = Any} (byte "(") refl (λ c. refl)))
    (lower_name x.name first))
    (spaced {Q = Any} (byte ",") refl (λ c. refl)))
    (lower_name y.name second))
    (both (codes ")") (codes " = ") (λ rest q. tt) (sign {Q = Any} (byte ")") refl (λ c. refl)) (equals {Q = Any}))) l)
    (inner_word {Q = Any} (codes "in") refl)) r)
  where
    Opened : List Lexeme → Type 0
    Opened = Two (Two (Two (Two (One (Is (codes "let"))) (One (Is (codes "(")))) (Bound x)) (One (Is (codes ",")))) (Bound y)

    stands : (ts : List Lexeme) → Two (Two (Two (Two Opened (Two (One (Is (codes ")"))) (One (Is (codes "=")))))
        (ShownTerm IsExpr s)) (One (Is (codes "in")))) (ShownTerm IsExpr t) ts →
        ShownTerm IsExpr (term.split at x y s t) ts
    stands _ (two _ us (two _ _ (two _ ts (two _ _
        (two _ _ (two _ _ (two _ _ (two _ _ (one k is) (one o opens)) (one p h)) (one m comma)) (one q g))
        (two _ _ (one c closes) (one e is'))) u) (one n is'')) v) = record {
          wrote = term.split k.at (bound p) (bound q) u.wrote v.wrote;
          form = grammar.split k o p m q c e n ts us
              (k ∷ o ∷ p ∷ m ∷ q ∷ c ∷ e ∷ (ts ++ n ∷ []) ++ us) u.wrote v.wrote is opens h.0
              comma g.0 closes is' u.form is'' v.form (simp append_assoc);
          same = λ i. term.split 0 (record { name = h.1 i; at = 0 }) (record { name = g.1 i; at = 0 }) (u.same i) (v.same i);
        }

pub if_shown : (at : ℕ) (a b c : List ℕ) (s t u : TermTree) → Reads EndsName a (ShownTerm IsExpr s) →
    Reads EndsName b (ShownTerm IsExpr t) → Reads EndsName c (ShownTerm IsExpr u) →
    Reads EndsName (codes "if " ++ a ++ codes " then " ++ b ++ codes " else " ++ c) (ShownTerm IsExpr (term.if_else at s t u))
if_shown at a b c s t u l m r =
    so (codes "if " ++ a ++ codes " then " ++ b ++ codes " else " ++ c) stands
    (both (codes "if " ++ a ++ codes " then " ++ b ++ codes " else ") c (λ rest q. tt)
    (both (codes "if " ++ a ++ codes " then " ++ b) (codes " else ") (λ rest q. refl)
    (both (codes "if " ++ a ++ codes " then ") b (λ rest q. tt)
    (both (codes "if " ++ a) (codes " then ") (λ rest q. refl)
    (both (codes "if ") a (λ rest q. tt) (word_blank {Q = Any} (codes "if") refl) l)
    (inner_word {Q = Any} (codes "then") refl)) m)
    (inner_word {Q = Any} (codes "else") refl)) r)
  where
    stands : (ts : List Lexeme) → Two (Two (Two (Two (Two (One (Is (codes "if"))) (ShownTerm IsExpr s)) (One (Is (codes "then"))))
        (ShownTerm IsExpr t)) (One (Is (codes "else")))) (ShownTerm IsExpr u) ts →
        ShownTerm IsExpr (term.if_else at s t u) ts
    stands _ (two _ vs (two _ _ (two _ us (two _ _ (two _ ts (one k is) x) (one h is')) y) (one e is'')) z) = record {
      wrote = term.if_else k.at x.wrote y.wrote z.wrote;
      form = grammar.if_else k h e ts us vs (k ∷ (((ts ++ h ∷ []) ++ us) ++ e ∷ []) ++ vs) x.wrote y.wrote z.wrote is x.form is'
          y.form is'' z.form (simp append_assoc);
      same = λ i. term.if_else 0 (x.same i) (y.same i) (z.same i);
    }

pub lambda_shown : (at : ℕ) (uses : Use) (a b : List ℕ) (x : Binder) (type : WrittenTree) (t : TermTree) → IsLowerName x.name →
    Reads EndsName a (ShownType IsSeq type) → Reads EndsName b (ShownTerm IsExpr t) →
    Reads EndsName (codes "\\" ++ x.name ++ codes ":" ++ a ++ arrow_text uses ++ b)
    (ShownTerm IsExpr (term.lambda at uses type x t))
lambda_shown at uses a b x type t name l r =
    so (codes "\\" ++ x.name ++ codes ":" ++ a ++ arrow_text uses ++ b) stands
    (both (codes "\\" ++ x.name ++ codes ":" ++ a ++ arrow_text uses) b (λ rest q. tt)
    (both (codes "\\" ++ x.name ++ codes ":" ++ a) (arrow_text uses) (ends uses)
    (both (codes "\\" ++ x.name ++ codes ":") a (λ rest q. tt)
    (both (codes "\\" ++ x.name) (codes ":") (λ rest q. refl)
    (both (codes "\\") x.name (λ rest q. tt) (sign {Q = Any} (byte "\\") refl (λ c. refl)) (lower_name x.name name))
    (sign {Q = Any} (byte ":") refl (λ c. refl))) l)
    (arrow_reads {Q = Any} uses)) r)
  where
    ends : (u : Use) (rest : List ℕ) → Any rest → EndsName (arrow_text u ++ rest)
    ends Many rest q = refl
    ends Once rest q = refl

    stands : (ts : List Lexeme) → Two (Two (Two (Two (Two (One (Is (codes "\\"))) (Bound x)) (One (Is (codes ":"))))
        (ShownType IsSeq type)) (λ ks. IsArrow ks uses)) (ShownTerm IsExpr t) ts →
        ShownTerm IsExpr (term.lambda at uses type x t) ts
    stands _ (two _ us (two _ ks (two _ ts (two _ _ (two _ _ (one k is) (one y h)) (one c colon)) u) arrow) v) = record {
      wrote = term.lambda k.at uses u.wrote (bound y) v.wrote;
      form = grammar.lambda k y c ts ks us (k ∷ y ∷ c ∷ (ts ++ ks) ++ us) u.wrote uses v.wrote is h.0 colon u.form arrow v.form
          (simp append_assoc);
      same = λ i. term.lambda 0 uses (u.same i) (record { name = h.1 i; at = 0 }) (v.same i);
    }

pub negate_shown : (at : ℕ) (a : List ℕ) (t : TermTree) → Reads EndsName a (ShownTerm IsUnary t) →
    Reads EndsName (codes "not " ++ a) (ShownTerm IsUnary (term.negate at t))
negate_shown at a t r = so (codes "not " ++ a) stands
    (both (codes "not ") a (λ rest q. tt) (word_blank {Q = Any} (codes "not") refl) r)
  where
    stands : (ts : List Lexeme) → Two (One (Is (codes "not"))) (ShownTerm IsUnary t) ts → ShownTerm IsUnary (term.negate at t) ts
    stands _ (two _ ts (one k is) x) = record {
      wrote = term.negate k.at x.wrote;
      form = grammar.negate k ts x.wrote is x.form;
      same = λ i. term.negate 0 (x.same i);
    }

pub new_shown : (at : ℕ) (a : List ℕ) (t : WrittenTree) → Reads EndsName a (ShownType IsTypeAtom t) →
    Reads EndsName (codes "new " ++ a) (ShownTerm IsApp (term.new at t))
new_shown at a t r = so (codes "new " ++ a) stands
    (both (codes "new ") a (λ rest q. tt) (word_blank {Q = Any} (codes "new") refl) r)
  where
    stands : (ts : List Lexeme) → Two (One (Is (codes "new"))) (ShownType IsTypeAtom t) ts → ShownTerm IsApp (term.new at t) ts
    stands _ (two _ ts (one k is) x) = record {
      wrote = term.new k.at x.wrote;
      form = grammar.new k ts x.wrote is x.form;
      same =
          λ i. term.new 0 (x.same i);
    }

-- a word of its own and an atom behind it
behind_shown : (word : List ℕ) → is_reserved word ≡ true → (make : ℕ → TermTree → TermTree) →
    ((k : Lexeme) (ts : List Lexeme) (t : TermTree) → Is word k → IsAtom ts t → IsApp (k ∷ ts) (make k.at t)) →
    ((m n : ℕ) (s t : TermTree) → unplaced_term s ≡ unplaced_term t → unplaced_term (make m s) ≡ unplaced_term (make n t)) →
    (at : ℕ) (a : List ℕ) (t : TermTree) → Reads EndsName a (ShownTerm IsAtom t) →
    Reads EndsName ((word ++ codes " ") ++ a) (ShownTerm IsApp (make at t))
behind_shown word known make rule alike at a t r = so ((word ++ codes " ") ++ a) stands
    (both (word ++ codes " ") a (λ rest q. tt) (word_blank {Q = Any} word known) r)
  where
    stands : (ts : List Lexeme) → Two (One (Is word)) (ShownTerm IsAtom t) ts → ShownTerm IsApp (make at t) ts
    stands _ (two _ ts (one k is) x) =
        record { wrote = make k.at x.wrote; form = rule k ts x.wrote is x.form; same = alike k.at at x.wrote t x.same }

pub receive_shown : (at : ℕ) (a : List ℕ) (t : TermTree) → Reads EndsName a (ShownTerm IsAtom t) →
    Reads EndsName (codes "receive " ++ a) (ShownTerm IsApp (term.receive at t))
receive_shown = behind_shown (codes "receive") refl term.receive grammar.receive (λ m n s t. ap (term.receive 0))

pub close_shown : (at : ℕ) (a : List ℕ) (t : TermTree) → Reads EndsName a (ShownTerm IsAtom t) →
    Reads EndsName (codes "close " ++ a) (ShownTerm IsApp (term.close at t))
close_shown = behind_shown (codes "close") refl term.close grammar.close (λ m n s t. ap (term.close 0))

pub wait_shown : (at : ℕ) (a : List ℕ) (t : TermTree) → Reads EndsName a (ShownTerm IsAtom t) →
    Reads EndsName (codes "wait " ++ a) (ShownTerm IsApp (term.wait at t))
wait_shown = behind_shown (codes "wait") refl term.wait grammar.wait (λ m n s t. ap (term.wait 0))

pub fork_shown : (at : ℕ) (a : List ℕ) (t : TermTree) → Reads EndsName a (ShownTerm IsAtom t) →
    Reads EndsName (codes "fork " ++ a) (ShownTerm IsApp (term.fork at t))
fork_shown = behind_shown (codes "fork") refl term.fork grammar.fork (λ m n s t. ap (term.fork 0))

pub send_shown : (at : ℕ) (a b : List ℕ) (s t : TermTree) → Reads EndsName a (ShownTerm IsAtom s) →
    Reads EndsName b (ShownTerm IsAtom t) → Reads EndsName (codes "send " ++ a ++ codes " " ++ b)
    (ShownTerm IsApp (term.send at s t))
send_shown at a b s t l r =
    so (codes "send " ++ a ++ codes " " ++ b) stands
    (both (codes "send " ++ a ++ codes " ") b (λ rest q. tt)
    (blank_behind {R = Any} (codes "send " ++ a) (λ rest q. refl)
    (both (codes "send ") a (λ rest q. tt) (word_blank {Q = Any} (codes "send") refl) l)) r)
  where
    stands : (ts : List Lexeme) → Two (Two (One (Is (codes "send"))) (ShownTerm IsAtom s)) (ShownTerm IsAtom t) ts →
        ShownTerm IsApp (term.send at s t) ts
    stands _ (two _ us (two _ ts (one k is) x) y) = record {
      wrote = term.send k.at x.wrote y.wrote;
      form = grammar.send k ts us (k ∷ ts ++ us) x.wrote y.wrote is x.form y.form refl;
      same = λ i. term.send 0 (x.same i) (y.same i);
    }

pub select_shown : (at : ℕ) (l a : List ℕ) (t : TermTree) → IsUpperName l → Reads EndsName a (ShownTerm IsAtom t) →
    Reads EndsName (codes "select " ++ l ++ codes " " ++ a) (ShownTerm IsApp (term.select at l t))
select_shown at l a t upper r =
    so (codes "select " ++ l ++ codes " " ++ a) stands
    (both (codes "select " ++ l ++ codes " ") a (λ rest q. tt)
    (blank_behind {R = Any} (codes "select " ++ l)
    (λ rest q. refl) (both (codes "select ") l (λ rest q. tt) (word_blank {Q = Any} (codes "select") refl)
    (upper_name l upper))) r)
  where
    stands : (ts : List Lexeme) → Two (Two (One (Is (codes "select"))) (One (λ k. IsUpper k × (k.text ≡ l))))
        (ShownTerm IsAtom t) ts → ShownTerm IsApp (term.select at l t) ts
    stands _ (two _ us (two _ _ (one k is) (one m name)) x) = record {
      wrote = term.select k.at m.text x.wrote;
      form = grammar.select k m us x.wrote is name.0 x.form;
      same = λ i. term.select 0 (name.1 i) (x.same i);
    }
