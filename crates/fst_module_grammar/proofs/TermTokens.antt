-- What a term begins with, by its first token.
use Rattle.std.proofs.Common.{◌≡◌, ℕ, ◌⊎◌, inl, inr, true, false, List, Option, Some, None, refl, ap, subst}
use Rattle.std.specs.Prelude.{codes}
use Rattle.fst_lexer.specs.declared.token.TokenKind.{TokenKind}
use Rattle.fst_lexer.specs.declared.token.TokenKind.TheVariants as kind
use Rattle.fst_reading.specs.Lexeme.{Lexeme, spells_by, Is, IsLower, IsUpper}
use Rattle.fst_base.specs.Choice.{choose}
use Rattle.fst_base.proofs.Choices.{chosen}
use Rattle.fst_reading.proofs.Tokens.{some_is, spelled_so}
use Rattle.fst_module_grammar.specs.declared.starts.AtomStart.{AtomStart}
use Rattle.fst_module_grammar.specs.declared.starts.AtomStart.TheVariants.{Name, Constructor, Number, Character, Truth, Paren}
use Rattle.fst_module_grammar.specs.declared.starts.AppStart.{AppStart}
use Rattle.fst_module_grammar.specs.declared.starts.AppStart.TheVariants.{Send, Receive, Close, Wait, Select, New, Fork, Make}
use Rattle.fst_module_grammar.specs.TermReading.{atom_named, atom_by, atom_start, no_constructor, plain_start, app_named, app_by, app_start, is_app}
use Rattle.fst_base.proofs.Bools.{same_text}

-- a reserved word or a sign
abbrev pub IsFixed : Lexeme → Type 0
IsFixed k = (k.kind ≡ kind.Reserved) ⊎ (k.kind ≡ kind.Sign)

-- what a token that begins an atom is
abbrev pub MeansAtom : AtomStart → Lexeme → Type 0
MeansAtom Name k = IsLower k
MeansAtom Constructor k = IsUpper k
MeansAtom (Number n) k = k.kind ≡ kind.Number n
MeansAtom (Character c) k = k.kind ≡ kind.Character c
MeansAtom (Truth true) k = Is (codes "True") k
MeansAtom (Truth false) k = Is (codes "False") k
MeansAtom Paren k = Is (codes "(") k

atom_named_is : (k : Lexeme) (s : AtomStart) → IsFixed k → atom_named k.text ≡ Some s → MeansAtom s k
unfolding atom_named
atom_named_is k s f e = elim (chosen _ _ _ _ e) [
  | inl h ↦ subst (λ z. MeansAtom z k) (some_is (Truth true) s h.1) (spelled_so k.kind (codes "True") k.text h.0 f)
  | inr h ↦ elim (chosen _ _ _ _ h.1) [
    | inl i ↦ subst (λ z. MeansAtom z k) (some_is (Truth false) s i.1) (spelled_so k.kind (codes "False") k.text i.0 f)
    | inr i ↦ elim (chosen _ _ _ _ i.1) [
      | inl j ↦ subst (λ z. MeansAtom z k) (some_is Paren s j.1) (spelled_so k.kind (codes "(") k.text j.0 f)
      | inr j ↦ absurd (let is = j.1 in cc)
    ]
  ]
]

pub atom_means : (k : Lexeme) (s : AtomStart) → atom_start k ≡ Some s → MeansAtom s k
atom_means k s e = of_kind k.kind refl e
  where
    of_kind : (t : TokenKind) → k.kind ≡ t → atom_by t k.text ≡ Some s → MeansAtom s k
    of_kind kind.Lower is g = subst (λ z. MeansAtom z k) (some_is Name s g) is
    of_kind kind.Upper is g = subst (λ z. MeansAtom z k) (some_is Constructor s g) is
    of_kind (kind.Number n) is g = subst (λ z. MeansAtom z k) (some_is (Number n) s g) is
    of_kind (kind.Character c) is g = subst (λ z. MeansAtom z k) (some_is (Character c) s g) is
    of_kind kind.Reserved is g = atom_named_is k s (inl is) g
    of_kind kind.Sign is g = atom_named_is k s (inr is) g
    of_kind kind.Finish is g = absurd cc

atom_by_spelled : (t : TokenKind) (w text : List ℕ) → spells_by t w text ≡ true → atom_by t text ≡ atom_named w
atom_by_spelled kind.Reserved w text e = ap atom_named (same_text text w e)
atom_by_spelled kind.Sign w text e = ap atom_named (same_text text w e)
atom_by_spelled _ w text e = absurd cc

pub atom_spelled : (w : List ℕ) (k : Lexeme) → Is w k → atom_start k ≡ atom_named w
atom_spelled w k e = atom_by_spelled k.kind w k.text e

-- the converse
pub means_atom : (s : AtomStart) (k : Lexeme) → MeansAtom s k → atom_start k ≡ Some s
unfolding atom_named choose
means_atom Name k e = rw e refl
means_atom Constructor k e = rw e refl
means_atom (Number n) k e = rw e refl
means_atom (Character c) k e = rw e refl
means_atom (Truth true) k e = atom_spelled (codes "True") k e
means_atom (Truth false) k e = atom_spelled (codes "False") k e
means_atom Paren k e = atom_spelled (codes "(") k e

-- what a token that begins an application by itself is
abbrev pub MeansApp : AppStart → Lexeme → Type 0
MeansApp Send k = Is (codes "send") k
MeansApp Receive k = Is (codes "receive") k
MeansApp Close k = Is (codes "close") k
MeansApp Wait k = Is (codes "wait") k
MeansApp Select k = Is (codes "select") k
MeansApp New k = Is (codes "new") k
MeansApp Fork k = Is (codes "fork") k
MeansApp Make k = IsUpper k

app_named_is : (k : Lexeme) (s : AppStart) → IsFixed k → app_named k.text ≡ Some s → MeansApp s k
unfolding app_named
app_named_is k s f e = elim (chosen _ _ _ _ e) [
  | inl h ↦ subst (λ z. MeansApp z k) (some_is Send s h.1) (spelled_so k.kind (codes "send") k.text h.0 f)
  | inr h ↦ elim (chosen _ _ _ _ h.1) [
    | inl i ↦ subst (λ z. MeansApp z k) (some_is Receive s i.1) (spelled_so k.kind (codes "receive") k.text i.0 f)
    | inr i ↦ elim (chosen _ _ _ _ i.1) [
      | inl j ↦ subst (λ z. MeansApp z k) (some_is Close s j.1) (spelled_so k.kind (codes "close") k.text j.0 f)
      | inr j ↦ elim (chosen _ _ _ _ j.1) [
        | inl l ↦ subst (λ z. MeansApp z k) (some_is Wait s l.1) (spelled_so k.kind (codes "wait") k.text l.0 f)
        | inr l ↦ elim (chosen _ _ _ _ l.1) [
          | inl m ↦ subst (λ z. MeansApp z k) (some_is Select s m.1) (spelled_so k.kind (codes "select") k.text m.0 f)
          | inr m ↦ elim (chosen _ _ _ _ m.1) [
            | inl n ↦ subst (λ z. MeansApp z k) (some_is New s n.1) (spelled_so k.kind (codes "new") k.text n.0 f)
            | inr n ↦ elim (chosen _ _ _ _ n.1) [
              | inl o ↦ subst (λ z. MeansApp z k) (some_is Fork s o.1) (spelled_so k.kind (codes "fork") k.text o.0 f)
              | inr o ↦ absurd (let is = o.1 in cc)
            ]
          ]
        ]
      ]
    ]
  ]
]

pub app_means : (k : Lexeme) (s : AppStart) → app_start k ≡ Some s → MeansApp s k
app_means k s e = of_kind k.kind refl e
  where
    of_kind : (t : TokenKind) → k.kind ≡ t → app_by t k.text ≡ Some s → MeansApp s k
    of_kind kind.Upper is g = subst (λ z. MeansApp z k) (some_is Make s g) is
    of_kind kind.Reserved is g = app_named_is k s (inl is) g
    of_kind kind.Sign is g = app_named_is k s (inr is) g
    of_kind _ is g = absurd cc

app_by_spelled : (t : TokenKind) (w text : List ℕ) → spells_by t w text ≡ true → app_by t text ≡ app_named w
app_by_spelled kind.Reserved w text e = ap app_named (same_text text w e)
app_by_spelled kind.Sign w text e = ap app_named (same_text text w e)
app_by_spelled _ w text e = absurd cc

pub app_spelled : (w : List ℕ) (k : Lexeme) → Is w k → app_start k ≡ app_named w
app_spelled w k e = app_by_spelled k.kind w k.text e

-- the converse
pub means_app : (s : AppStart) (k : Lexeme) → MeansApp s k → app_start k ≡ Some s
unfolding app_named choose
means_app Send k e = app_spelled (codes "send") k e
means_app Receive k e = app_spelled (codes "receive") k e
means_app Close k e = app_spelled (codes "close") k e
means_app Wait k e = app_spelled (codes "wait") k e
means_app Select k e = app_spelled (codes "select") k e
means_app New k e = app_spelled (codes "new") k e
means_app Fork k e = app_spelled (codes "fork") k e
means_app Make k e = rw e refl

-- what a token that begins a plain atom is
abbrev pub MeansPlain : AtomStart → Lexeme → Type 0
MeansPlain Constructor k = ⊥
MeansPlain s k = MeansAtom s k

pub plain_means : (k : Lexeme) (s : AtomStart) → plain_start k ≡ Some s → MeansPlain s k
plain_means k s e = by_start (atom_start k) refl e
  where
    by_start : (o : Option AtomStart) → atom_start k ≡ o → no_constructor o ≡ Some s → MeansPlain s k
    by_start (Some Name) is g = subst (λ z. MeansPlain z k) (some_is Name s g) (atom_means k Name is)
    by_start (Some Constructor) is g = absurd cc
    by_start (Some (Number n)) is g = subst (λ z. MeansPlain z k) (some_is (Number n) s g) (atom_means k (Number n) is)
    by_start (Some (Character c)) is g = subst (λ z. MeansPlain z k) (some_is (Character c) s g) (atom_means k (Character c) is)
    by_start (Some (Truth b)) is g = subst (λ z. MeansPlain z k) (some_is (Truth b) s g) (atom_means k (Truth b) is)
    by_start (Some Paren) is g = subst (λ z. MeansPlain z k) (some_is Paren s g) (atom_means k Paren is)
    by_start None is g = absurd cc

-- the converse, also for the start of an atom
pub plain_atom : (s : AtomStart) (k : Lexeme) → MeansPlain s k → atom_start k ≡ Some s
plain_atom Name k e = means_atom Name k e
plain_atom Constructor k e = absurd e
plain_atom (Number n) k e = means_atom (Number n) k e
plain_atom (Character c) k e = means_atom (Character c) k e
plain_atom (Truth b) k e = means_atom (Truth b) k e
plain_atom Paren k e = means_atom Paren k e

pub means_plain : (s : AtomStart) (k : Lexeme) → MeansPlain s k → plain_start k ≡ Some s
means_plain Name k e = ap no_constructor (plain_atom Name k e)
means_plain Constructor k e = absurd e
means_plain (Number n) k e = ap no_constructor (plain_atom (Number n) k e)
means_plain (Character c) k e = ap no_constructor (plain_atom (Character c) k e)
means_plain (Truth b) k e = ap no_constructor (plain_atom (Truth b) k e)
means_plain Paren k e = ap no_constructor (plain_atom Paren k e)

-- what begins a plain atom begins no application by itself
pub no_app : (s : AtomStart) (k : Lexeme) → MeansPlain s k → is_app (app_start k) ≡ false
unfolding app_named choose
no_app Name k e = rw e refl
no_app Constructor k e = absurd e
no_app (Number n) k e = rw e refl
no_app (Character c) k e = rw e refl
no_app (Truth true) k e = ap is_app (app_spelled (codes "True") k e)
no_app (Truth false) k e = ap is_app (app_spelled (codes "False") k e)
no_app Paren k e = ap is_app (app_spelled (codes "(") k e)
