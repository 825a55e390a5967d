-- The text of the variables of a signature is read as the same variables at other places.
use Rattle.std.proofs.Common.{◌≡◌, true, ℕ, List, [], ◌∷◌, ◌++◌, All, map, refl, arith}
use Rattle.std.proofs.Math.Utf8.{encode}
use Rattle.std.specs.Prelude.{codes}
use Rattle.std.specs.Str.{byte, chars}
use Rattle.std.proofs.lemmas.List.{append-nil}
use Rattle.std.proofs.lemmas.List.Elements.{All-head, All-tail}
use Rattle.unicode_ident.proofs.IdentLemmas.{is_xid_start-ascii}
use Rattle.fst_types.specs.declared.kind.Kind.{Kind}
use Rattle.fst_types.specs.declared.kind.Use.{Use}
use Rattle.fst_types.specs.declared.kind.Use.TheVariants.{Many, Once}
use Rattle.fst_types.specs.declared.kind.Prekind.{Prekind}
use Rattle.fst_types.specs.declared.kind.Prekind.TheVariants.{Session, Top}
use Rattle.fst_lexer.specs.declared.token.TokenKind.TheVariants as kind
use Rattle.fst_lexer.specs.Spelling.{IsWordOf, ends_number}
use Rattle.fst_terms.specs.declared.binder.Binder.{Binder}
use Rattle.fst_reading.specs.Lexeme.{Lexeme, Is, IsLower, IsUpper, IsOne}
use Rattle.fst_type_syntax.specs.Grammar as grammar
use Rattle.fst_type_syntax.specs.Grammar.{IsUse, IsPrekind, IsBinder, IsBinders}
use Rattle.fst_type_print.specs.Texts.{use_text, prekind_text, joined_text}
use Rattle.fst_print.specs.ModuleTexts.{binder_kind_text}
use Rattle.fst_roundtrip.proofs.Showable.{IsLowerName}
use Rattle.fst_roundtrip.proofs.Spelled.{Reads, Any, EndsName, One, one, Two, two, so, both, sign, number_one, lower_name, upper_name, spaced}
use Rattle.fst_roundtrip.proofs.ShownWords.{Shown}
use Rattle.fst_roundtrip.specs.Unplaced.{unplaced_binder}

session_word : IsWordOf kind.Upper (codes "S")
unfolding encode chars
session_word = (
  record {
    utf8 = (codes "S", (refl, refl));
    name = rw (is_xid_start-ascii (byte "S") (omega arith)) refl;
    free =
        refl;
    short = omega arith;
  },
  refl,
)

top_word : IsWordOf kind.Upper (codes "T")
unfolding encode chars
top_word = (
  record {
    utf8 = (codes "T", (refl, refl));
    name = rw (is_xid_start-ascii (byte "T") (omega arith)) refl;
    free = refl;
    short = omega arith;
  },
  refl,
)

prekind_reads : (p : Prekind) → Reads EndsName (prekind_text p) (One (λ k. IsPrekind k p))
prekind_reads Session = so (codes "S") stands (upper_name (codes "S") session_word)
  where
    stands : (ts : List Lexeme) → One (λ k. IsUpper k × (k.text ≡ codes "S")) ts → One (λ k. IsPrekind k Session) ts
    stands _ (one k h) = one k (grammar.session k h.0 h.1)
prekind_reads Top = so (codes "T") stands (upper_name (codes "T") top_word)
  where
    stands : (ts : List Lexeme) → One (λ k. IsUpper k × (k.text ≡ codes "T")) ts → One (λ k. IsPrekind k Top) ts
    stands _ (one k h) = one k (grammar.top k h.0 h.1)

kind_reads : (u : Use) (p : Prekind) → Reads EndsName (use_text u ++ prekind_text p)
    (Two (One (λ k. IsUse k u)) (One (λ k. IsPrekind k p)))
kind_reads Many p = both (codes "*") (prekind_text p)
    (λ rest q. tt) (so (codes "*") stands (sign {Q = Any} (byte "*") refl (λ b. refl))) (prekind_reads p)
  where
    stands : (ts : List Lexeme) → One (Is (codes "*")) ts → One (λ k. IsUse k Many) ts
    stands _ (one k is) = one k (grammar.star k is)
kind_reads Once p = both (codes "1") (prekind_text p) (ends p) (so (codes "1") stands number_one) (prekind_reads p)
  where
    ends : (p : Prekind) (rest : List ℕ) → EndsName rest → ends_number (prekind_text p ++ rest) ≡ true
    ends Session rest q = refl
    ends Top rest q = refl

    stands : (ts : List Lexeme) → One IsOne ts → One (λ k. IsUse k Once) ts
    stands _ (one k is) = one k (grammar.one k is)

-- lexemes that are a variable with its kind
record ShownBinder (b : Binder × Kind) (ts : List Lexeme) : Type 0 where
  wrote : Binder
  form : IsBinder ts wrote b.1
  same : unplaced_binder wrote ≡ unplaced_binder b.0

binder_shown : (b : Binder × Kind) → IsLowerName b.0.name → Reads EndsName (binder_kind_text b) (ShownBinder b)
binder_shown b lower =
    so (binder_kind_text b) stands
    (both (b.0.name ++ codes ":") (use_text b.1.uses ++ prekind_text b.1.prekind) (λ rest q. tt)
    (both b.0.name (codes ":") (λ rest q. refl) (lower_name b.0.name lower) (sign {Q = Any} (byte ":") refl (λ c. refl)))
    (kind_reads b.1.uses b.1.prekind))
  where
    stands : (ts : List Lexeme) → Two (Two (One (λ k. IsLower k × (k.text ≡ b.0.name))) (One (Is (codes ":"))))
        (Two (One (λ k. IsUse k b.1.uses)) (One (λ k. IsPrekind k b.1.prekind))) ts → ShownBinder b ts
    stands _ (two _ _ (two _ _ (one x name) (one c colon)) (two _ _ (one u uses) (one p prekind))) = record {
      wrote = record { name = x.text; at = x.at };
      form = grammar.binder x c u p b.1.uses b.1.prekind name.0 colon uses prekind;
      same = λ i. record { name = name.1 i; at = 0 };
    }

-- a variable without its place
abbrev pub unplaced_variable : Binder × Kind → Binder × Kind
unplaced_variable b = (unplaced_binder b.0, b.1)

-- lexemes that are these variables
abbrev pub ShownBinders : List (Binder × Kind) → List Lexeme → Type 0
ShownBinders bs = Shown IsBinders (map unplaced_variable) bs

-- whose names are lower names
abbrev pub AreVariables : List (Binder × Kind) → Type 0
AreVariables bs = All (λ (b : Binder × Kind). IsLowerName b.0.name) bs

single_shown : (b : Binder × Kind) → IsLowerName b.0.name → Reads EndsName (binder_kind_text b ++ []) (ShownBinders (b ∷ []))
single_shown b lower = rw (append-nil (binder_kind_text b)) (so (binder_kind_text b) stands (binder_shown b lower))
  where
    stands : (ts : List Lexeme) → ShownBinder b ts → ShownBinders (b ∷ []) ts
    stands ts x = record {
      wrote = (x.wrote, b.1) ∷ [];
      form = grammar.last ts x.wrote b.1 x.form;
      same =
          λ i. (x.same i, b.1) ∷ [];
    }

further_shown : (b : Binder × Kind) (more : List ℕ) (bs : List (Binder × Kind)) → IsLowerName b.0.name →
    Reads EndsName more (ShownBinders bs) → Reads EndsName (binder_kind_text b ++ (codes ", " ++ more)) (ShownBinders (b ∷ bs))
further_shown b more bs lower others =
    so (binder_kind_text b ++ (codes ", " ++ more)) stands
    (both (binder_kind_text b) (codes ", " ++ more)
    (λ rest q. refl) (binder_shown b lower) (both (codes ", ") more
    (λ rest q. tt) (spaced {Q = Any} (byte ",") refl (λ c. refl)) others))
  where
    stands : (ts : List Lexeme) → Two (ShownBinder b) (Two (One (Is (codes ","))) (ShownBinders bs)) ts → ShownBinders (b ∷ bs) ts
    stands _ (two us _ x (two _ vs (one c comma) y)) = record {
      wrote = (x.wrote, b.1) ∷ y.wrote;
      form = grammar.further us vs (us ++ c ∷ vs) c x.wrote b.1 y.wrote x.form comma y.form refl;
      same = λ i. (x.same i, b.1) ∷ y.same i;
    }

pub binders_shown : (b : Binder × Kind) (bs : List (Binder × Kind)) → AreVariables (b ∷ bs) →
    Reads EndsName (joined_text (codes ", ") (map binder_kind_text (b ∷ bs))) (ShownBinders (b ∷ bs))
binders_shown b [] h = single_shown b (All-head (λ (x : Binder × Kind). IsLowerName x.0.name) b [] h)
binders_shown b (c ∷ bs) h =
    further_shown b (joined_text (codes ", ") (map binder_kind_text (c ∷ bs))) (c ∷ bs)
    (All-head (λ (x : Binder × Kind). IsLowerName x.0.name) b (c ∷ bs) h)
    (binders_shown c bs (All-tail (λ (x : Binder × Kind). IsLowerName x.0.name) b (c ∷ bs) h))
