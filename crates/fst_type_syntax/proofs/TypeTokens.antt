-- What the tests say on single tokens with which types and kinds begin.
use Rattle.std.proofs.Common.{◌≡◌, ℕ, zero, suc, ◌⊎◌, inl, inr, Bool, true, false, ◌||◌, List, Option, Some, None, refl, sym, ap, subst, ◌∙◌, pos}
use Rattle.std.specs.Prelude.{codes}
use Rattle.std.specs.Str.{bytes_eq}
use Rattle.fst_types.specs.declared.base.Base.{Base}
use Rattle.fst_types.specs.declared.base.Base.TheVariants as base
use Rattle.fst_types.specs.declared.kind.Use.{Use}
use Rattle.fst_types.specs.declared.kind.Use.TheVariants.{Many, Once}
use Rattle.fst_types.specs.declared.kind.Prekind.{Prekind}
use Rattle.fst_types.specs.declared.kind.Prekind.TheVariants.{Session, Top}
use Rattle.fst_lexer.specs.declared.token.TokenKind.{TokenKind}
use Rattle.fst_lexer.specs.declared.token.TokenKind.TheVariants as kind
use Rattle.fst_type_syntax.specs.declared.starts.Start.{Start}
use Rattle.fst_type_syntax.specs.declared.starts.Start.TheVariants as begin
use Rattle.fst_reading.specs.Lexeme.{Lexeme, spells_by, spells, Is, IsLower, IsUpper}
use Rattle.fst_type_syntax.specs.Grammar.{IsUse, star, one, IsPrekind, session, top}
use Rattle.fst_type_syntax.specs.TypeReading.{base_named, base_by, base_word, word_begun, start_named, start_by, start_of, is_begun, starts_type, use_by, use_of, prekind_named, prekind_by, prekind_of}
use Rattle.fst_reading.proofs.Tokens.{no_other, spelled_so, some_is}
use Rattle.fst_base.specs.Choice.{choose}
use Rattle.fst_base.proofs.Bools.{same_text}
use Rattle.fst_base.proofs.Choices.{chosen}

-- the word of a base type
abbrev pub IsBaseWord : Base → Lexeme → Type 0
IsBaseWord base.Int k = Is (codes "Int") k
IsBaseWord base.Bool k = Is (codes "Bool") k
IsBaseWord base.Char k = Is (codes "Char") k
IsBaseWord base.Unit k = ⊥

base_by_spelled : (t : TokenKind) (w text : List ℕ) → spells_by t w text ≡ true → base_by t text ≡ base_named w
base_by_spelled kind.Reserved w text e = ap base_named (same_text text w e)
base_by_spelled kind.Sign w text e = ap base_named (same_text text w e)
base_by_spelled _ w text e = absurd cc

pub base_spelled : (w : List ℕ) (k : Lexeme) → Is w k → base_word k ≡ base_named w
base_spelled w k e = base_by_spelled k.kind w k.text e

pub is_base_word : (b : Base) (k : Lexeme) → IsBaseWord b k → base_word k ≡ Some b
unfolding base_named choose
is_base_word base.Int k e = base_spelled (codes "Int") k e
is_base_word base.Bool k e = base_spelled (codes "Bool") k e
is_base_word base.Char k e = base_spelled (codes "Char") k e
is_base_word base.Unit k e = absurd e

base_named_is : (k : Lexeme) (b : Base) → (k.kind ≡ kind.Reserved) ⊎
    (k.kind ≡ kind.Sign) → base_named k.text ≡ Some b → IsBaseWord b k
unfolding base_named
base_named_is k b f e = elim (chosen _ _ _ _ e) [
  | inl h ↦ subst (λ z. IsBaseWord z k) (some_is base.Int b h.1) (spelled_so k.kind (codes "Int") k.text h.0 f)
  | inr h ↦ elim (chosen _ _ _ _ h.1) [
    | inl i ↦ subst (λ z. IsBaseWord z k) (some_is base.Bool b i.1) (spelled_so k.kind (codes "Bool") k.text i.0 f)
    | inr i ↦ elim (chosen _ _ _ _ i.1) [
      | inl j ↦ subst (λ z. IsBaseWord z k) (some_is base.Char b j.1) (spelled_so k.kind (codes "Char") k.text j.0 f)
      | inr j ↦ absurd (let is = j.1 in cc)
    ]
  ]
]

pub base_word_is : (k : Lexeme) (b : Base) → base_word k ≡ Some b → IsBaseWord b k
base_word_is k b e = of_kind k.kind refl e
  where
    of_kind : (t : TokenKind) → k.kind ≡ t → base_by t k.text ≡ Some b → IsBaseWord b k
    of_kind kind.Reserved is g = base_named_is k b (inl is) g
    of_kind kind.Sign is g = base_named_is k b (inr is) g
    of_kind _ is g = absurd cc

-- what a token that begins a `tatom` is
abbrev pub Means : Start → Lexeme → Type 0
Means begin.Skip k = Is (codes "Skip") k
Means begin.Send k = Is (codes "!") k
Means begin.Receive k = Is (codes "?") k
Means begin.Close k = Is (codes "Close") k
Means begin.Wait k = Is (codes "Wait") k
Means begin.Select k = Is (codes "+") k
Means begin.Offer k = Is (codes "&") k
Means begin.Paren k = Is (codes "(") k
Means begin.Name k = IsLower k ⊎ IsUpper k
Means (begin.Word b) k = IsBaseWord b k

begun_is : (k : Lexeme) (o : Option Base) (s : Start) → (k.kind ≡ kind.Reserved) ⊎
    (k.kind ≡ kind.Sign) → base_named k.text ≡ o → word_begun o ≡ Some s → Means s k
begun_is k (Some b) s f is e = subst (λ z. Means z k) (some_is (begin.Word b) s e) (base_named_is k b f is)
begun_is k None s f is e = absurd cc

start_named_is : (k : Lexeme) (s : Start) → (k.kind ≡ kind.Reserved) ⊎
    (k.kind ≡ kind.Sign) → start_named k.text ≡ Some s → Means s k
unfolding start_named
start_named_is k s f e = elim (chosen _ _ _ _ e) [
  | inl h ↦ subst (λ z. Means z k) (some_is begin.Skip s h.1) (spelled_so k.kind (codes "Skip") k.text h.0 f)
  | inr h ↦ elim (chosen _ _ _ _ h.1) [
    | inl i ↦ subst (λ z. Means z k) (some_is begin.Send s i.1) (spelled_so k.kind (codes "!") k.text i.0 f)
    | inr i ↦ elim (chosen _ _ _ _ i.1) [
      | inl j ↦ subst (λ z. Means z k) (some_is begin.Receive s j.1) (spelled_so k.kind (codes "?") k.text j.0 f)
      | inr j ↦ elim (chosen _ _ _ _ j.1) [
        | inl l ↦ subst (λ z. Means z k) (some_is begin.Close s l.1) (spelled_so k.kind (codes "Close") k.text l.0 f)
        | inr l ↦ elim (chosen _ _ _ _ l.1) [
          | inl m ↦ subst (λ z. Means z k) (some_is begin.Wait s m.1) (spelled_so k.kind (codes "Wait") k.text m.0 f)
          | inr m ↦ elim (chosen _ _ _ _ m.1) [
            | inl n ↦ subst (λ z. Means z k) (some_is begin.Select s n.1) (spelled_so k.kind (codes "+") k.text n.0 f)
            | inr n ↦ elim (chosen _ _ _ _ n.1) [
              | inl o ↦ subst (λ z. Means z k) (some_is begin.Offer s o.1) (spelled_so k.kind (codes "&") k.text o.0 f)
              | inr o ↦ elim (chosen _ _ _ _ o.1) [
                | inl p ↦ subst (λ z. Means z k) (some_is begin.Paren s p.1) (spelled_so k.kind (codes "(") k.text p.0 f)
                | inr p ↦ begun_is k (base_named k.text) s f refl p.1
              ]
            ]
          ]
        ]
      ]
    ]
  ]
]

pub start_means : (k : Lexeme) (s : Start) → start_of k ≡ Some s → Means s k
start_means k s e = of_kind k.kind refl e
  where
    of_kind : (t : TokenKind) → k.kind ≡ t → start_by t k.text ≡ Some s → Means s k
    of_kind kind.Lower is g = subst (λ z. Means z k) (some_is begin.Name s g) (inl is)
    of_kind kind.Upper is g = subst (λ z. Means z k) (some_is begin.Name s g) (inr is)
    of_kind kind.Reserved is g = start_named_is k s (inl is) g
    of_kind kind.Sign is g = start_named_is k s (inr is) g
    of_kind _ is g = absurd cc

start_by_spelled : (t : TokenKind) (w text : List ℕ) → spells_by t w text ≡ true → start_by t text ≡ start_named w
start_by_spelled kind.Reserved w text e = ap start_named (same_text text w e)
start_by_spelled kind.Sign w text e = ap start_named (same_text text w e)
start_by_spelled _ w text e = absurd cc

pub start_spelled : (w : List ℕ) (k : Lexeme) → Is w k → start_of k ≡ start_named w
start_spelled w k e = start_by_spelled k.kind w k.text e

-- the converse
pub means_start : (s : Start) (k : Lexeme) → Means s k → start_of k ≡ Some s
unfolding start_named base_named choose
means_start begin.Skip k e = start_spelled (codes "Skip") k e
means_start begin.Send k e = start_spelled (codes "!") k e
means_start begin.Receive k e = start_spelled (codes "?") k e
means_start begin.Close k e = start_spelled (codes "Close") k e
means_start begin.Wait k e = start_spelled (codes "Wait") k e
means_start begin.Select k e = start_spelled (codes "+") k e
means_start begin.Offer k e = start_spelled (codes "&") k e
means_start begin.Paren k e = start_spelled (codes "(") k e
means_start begin.Name k (inl e) = rw e refl
means_start begin.Name k (inr e) = rw e refl
means_start (begin.Word base.Int) k e = start_spelled (codes "Int") k e
means_start (begin.Word base.Bool) k e = start_spelled (codes "Bool") k e
means_start (begin.Word base.Char) k e = start_spelled (codes "Char") k e
means_start (begin.Word base.Unit) k e = absurd e

-- a word with which no `tatom` begins
pub no_start : (w : List ℕ) (k : Lexeme) (s : Start) → start_named w ≡ None → start_of k ≡ Some s → spells w k ≡ false
no_start w k s n e = of_test (spells w k) refl
  where
    of_test : (b : Bool) → spells w k ≡ b → spells w k ≡ false
    of_test true is = let both = sym e ∙ start_spelled w k is ∙ n in absurd cc
    of_test false is = is

use_named : (k : Lexeme) (t : TokenKind) (u : Use) → k.kind ≡ t → use_by t k.text ≡ Some u → IsUse k u
use_named k (kind.Number (pos (suc zero))) u is e = subst (IsUse k) (some_is Once u e) (one k is)
use_named k kind.Sign u is e = elim (chosen _ _ _ _ e) [
  | inl h ↦ subst (IsUse k) (some_is Many u h.1) (star k (spelled_so k.kind (codes "*") k.text h.0 (inr is)))
  | inr h ↦ absurd (let is = h.1 in cc)
]
use_named k kind.Reserved u is e = elim (chosen _ _ _ _ e) [
  | inl h ↦ subst (IsUse k) (some_is Many u h.1) (star k (spelled_so k.kind (codes "*") k.text h.0 (inl is)))
  | inr h ↦ absurd (let is = h.1 in cc)
]
use_named k _ u is e = absurd cc

pub use_is : (k : Lexeme) (u : Use) → use_of k ≡ Some u → IsUse k u
use_is k u e = use_named k k.kind u refl e

pub is_use : (k : Lexeme) (u : Use) → IsUse k u → use_of k ≡ Some u
unfolding choose
is_use k _ (star _ is) = of_kind k.kind is
  where
    of_kind : (t : TokenKind) → spells_by t (codes "*") k.text ≡ true → use_by t k.text ≡ Some Many
    of_kind kind.Reserved g = rw g refl
    of_kind kind.Sign g = rw g refl
    of_kind _ g = absurd cc
is_use k _ (one _ is) = rw is refl

pub prekind_is : (k : Lexeme) (p : Prekind) → prekind_of k ≡ Some p → IsPrekind k p
unfolding prekind_named
prekind_is k p e = of_kind k.kind refl e
  where
    of_kind : (t : TokenKind) → k.kind ≡ t → prekind_by t k.text ≡ Some p → IsPrekind k p
    of_kind kind.Upper is g = elim (chosen _ _ _ _ g) [
      | inl h ↦ subst (IsPrekind k) (some_is Session p h.1) (session k is (same_text _ _ h.0))
      | inr h ↦ elim (chosen _ _ _ _ h.1) [
        | inl i ↦ subst (IsPrekind k) (some_is Top p i.1) (top k is (same_text _ _ i.0))
        | inr i ↦ absurd (let is = i.1 in cc)
      ]
    ]
    of_kind _ is g = absurd cc

pub is_prekind : (k : Lexeme) (p : Prekind) → IsPrekind k p → prekind_of k ≡ Some p
unfolding prekind_named choose
is_prekind k _ (session _ is e) = rw (is, e) refl
is_prekind k _ (top _ is e) = rw (is, e) refl

-- a sign with which no base type begins, and none with which no type begins
pub no_base : (w : List ℕ) (k : Lexeme) (b : Base) → base_named w ≡ None → base_word k ≡ Some b → spells w k ≡ false
no_base w k b n e = of_test (spells w k) refl
  where
    of_test : (c : Bool) → spells w k ≡ c → spells w k ≡ false
    of_test true is = let both = sym e ∙ base_spelled w k is ∙ n in absurd cc
    of_test false is = is

pub option_of : (o : Option Start) → is_begun o ≡ true → (s : Start) × (o ≡ Some s)
option_of (Some s) e = (s, refl)
option_of None e = absurd cc

-- a type begins with `rec` or what a `tatom` begins with
pub starts_with : (k : Lexeme) → starts_type k ≡ true → Is (codes "rec") k ⊎ ((s : Start) × (start_of k ≡ Some s))
starts_with k e = of_test (spells (codes "rec") k) refl e
  where
    of_test : (c : Bool) → spells (codes "rec") k ≡ c → c || is_begun (start_of k) ≡ true → Is (codes "rec") k ⊎
        ((s : Start) × (start_of k ≡ Some s))
    of_test true is g = inl is
    of_test false is g = inr (option_of (start_of k) g)

pub no_type : (w : List ℕ) (k : Lexeme) → bytes_eq (codes "rec") w ≡ false → start_named w ≡ None → starts_type k ≡ true →
    spells w k ≡ false
no_type w k r n e = of_start (starts_with k e)
  where
    of_start : Is (codes "rec") k ⊎ ((s : Start) × (start_of k ≡ Some s)) → spells w k ≡ false
    of_start (inl is) = no_other (codes "rec") w k r is
    of_start (inr s) = no_start w k s.0 n s.1
