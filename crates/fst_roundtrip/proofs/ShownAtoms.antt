-- The texts of atoms are read as the same atoms at other places.
use Rattle.std.proofs.Common.{◌≡◌, ℕ, ℤ, pos, negsuc, Bool, true, false, List, [], ◌∷◌, ◌++◌, All, refl, append_assoc, arith}
use Rattle.std.proofs.lemmas.Bool.Decides.{nat_tests}
use Rattle.std.specs.Prelude.{codes, decimal}
use Rattle.std.specs.Fmt.{signed_decimal}
use Rattle.std.specs.Str.{byte}
use Rattle.fst_types.specs.WrittenTree.{WrittenTree}
use Rattle.fst_lexer.specs.declared.token.TokenKind.TheVariants as kind
use Rattle.fst_lexer.specs.Spelling.{IsWordOf, ends_number}
use Rattle.fst_terms.specs.TermTree as term
use Rattle.fst_terms.specs.TermTree.{TermTree}
use Rattle.fst_reading.specs.Lexeme.{Lexeme, Is, IsLower}
use Rattle.fst_module_grammar.specs.Grammar as grammar
use Rattle.fst_module_grammar.specs.Grammar.{IsExpr, IsPlain}
use Rattle.fst_type_print.specs.Texts.{in_parens}
use Rattle.fst_print.specs.ModuleTexts.{truth_text, applied_text}
use Rattle.fst_roundtrip.proofs.Showable.{IsLowerName, IsShowableType}
use Rattle.fst_roundtrip.proofs.Spelled.{Reads, Any, EndsName, One, one, Two, two, so, both, word, reserved, sign, lower_name, parts_of_pair}
use Rattle.fst_roundtrip.proofs.ShownRows.{ShownApplied, applied_behind}
use Rattle.fst_roundtrip.proofs.ShownRanks.{ShownTerm}
use Rattle.fst_roundtrip.proofs.ShownCharacters.{quoted_text, character_word}

-- what ends a name ends a number
ends : (rest : List ℕ) → EndsName rest → ends_number rest ≡ true
ends [] q = refl
ends (b ∷ rest) q = grind (arith, nat_tests)

pub number_shown : (at : ℕ) (n : ℤ) (text : List ℕ) → IsWordOf (kind.Number n) text →
    Reads EndsName (signed_decimal n) (ShownTerm IsPlain (term.int at n))
number_shown at (pos m) text is = so (decimal m) stands (word (kind.Number (pos m)) (decimal m) (is.0, refl) ends (λ l k t. k))
  where
    stands : (ts : List Lexeme) → One (λ k. k.kind ≡ kind.Number (pos m)) ts → ShownTerm IsPlain (term.int at (pos m)) ts
    stands _ (one k h) = record { wrote = term.int k.at (pos m); form = grammar.number k (pos m) h; same = refl }
number_shown at (negsuc m) text is = absurd is

pub character_shown : (at c : ℕ) (text : List ℕ) → IsWordOf (kind.Character c) text →
    Reads EndsName (quoted_text c) (ShownTerm IsPlain (term.char at c))
character_shown at c text is = so (quoted_text c) stands
    (word (kind.Character c) (quoted_text c) (character_word text c is) (λ rest q. refl) (λ l k t. k))
  where
    stands : (ts : List Lexeme) → One (λ k. k.kind ≡ kind.Character c) ts → ShownTerm IsPlain (term.char at c) ts
    stands _ (one k h) = record { wrote = term.char k.at c; form = grammar.character k c h; same = refl }

pub truth_shown : (at : ℕ) (b : Bool) → Reads EndsName (truth_text b) (ShownTerm IsPlain (term.bool at b))
truth_shown at true = so (codes "True") stands (reserved (codes "True") refl)
  where
    stands : (ts : List Lexeme) → One (Is (codes "True")) ts → ShownTerm IsPlain (term.bool at true) ts
    stands _ (one k is) = record { wrote = term.bool k.at true; form = grammar.yes k is; same = refl }
truth_shown at false = so (codes "False") stands (reserved (codes "False") refl)
  where
    stands : (ts : List Lexeme) → One (Is (codes "False")) ts → ShownTerm IsPlain (term.bool at false) ts
    stands _ (one k is) = record { wrote = term.bool k.at false; form = grammar.no k is; same = refl }

pub unit_shown : (at : ℕ) → Reads EndsName (codes "()") (ShownTerm IsPlain (term.unit at))
unit_shown at = so (codes "()") stands (both (codes "(") (codes ")")
    (λ rest q. tt) (sign {Q = Any} (byte "(") refl (λ b. refl)) (sign (byte ")") refl (λ b. refl)))
  where
    stands : (ts : List Lexeme) → Two (One (Is (codes "("))) (One (Is (codes ")"))) ts → ShownTerm IsPlain (term.unit at) ts
    stands _ (two _ _ (one k opens) (one c closes)) =
        record { wrote = term.unit k.at; form = grammar.unit k c opens closes; same = refl }

pub named_shown : (at : ℕ) (x : List ℕ) (types : List WrittenTree) → IsLowerName x → All IsShowableType types →
    Reads EndsName (x ++ applied_text types) (ShownTerm IsPlain (term.named at x types))
named_shown at x types lower h = so (x ++ applied_text types) stands (applied_behind x types h (lower_name x lower))
  where
    stands : (ts : List Lexeme) → Two (One (λ k. IsLower k × (k.text ≡ x))) (ShownApplied types) ts →
        ShownTerm IsPlain (term.named at x types) ts
    stands _ (two _ us (one k name) r) = record {
      wrote = term.named k.at k.text r.wrote;
      form = grammar.named k us r.wrote name.0 r.form;
      same = λ i. term.named 0 (name.1 i) (r.same i);
    }

pub pair_shown : (at : ℕ) (left right : List ℕ) (t u : TermTree) → Reads EndsName left (ShownTerm IsExpr t) →
    Reads EndsName right (ShownTerm IsExpr u) →
    Reads EndsName (in_parens (left ++ codes ", " ++ right)) (ShownTerm IsPlain (term.pair at t u))
pair_shown at left right t u l r =
    so (in_parens (left ++ codes ", " ++ right)) stands (parts_of_pair left right l r)
  where
    stands : (ts : List Lexeme) → Two (Two (One (Is (codes "(")))
        (Two (Two (ShownTerm IsExpr t) (One (Is (codes ",")))) (ShownTerm IsExpr u))) (One (Is (codes ")"))) ts →
        ShownTerm IsPlain (term.pair at t u) ts
    stands _ (two _ _ (two _ _ (one k opens) (two _ vs (two us _ x (one m comma)) y)) (one c closes)) = record {
      wrote = term.pair k.at x.wrote y.wrote;
      form = grammar.pair k m c us vs (k ∷ ((us ++ m ∷ []) ++ vs) ++ c ∷ []) x.wrote y.wrote opens x.form comma y.form closes
          (simp append_assoc);
      same = λ i. term.pair 0 (x.same i) (y.same i);
    }
