-- Rows of names and of types, with a space before each.
use Rattle.std.proofs.Common.{◌≡◌, ℕ, List, [], ◌∷◌, ◌++◌, All, map, refl, subst, append_assoc, flat_map}
use Rattle.std.specs.Prelude.{codes}
use Rattle.std.specs.Str.{byte}
use Rattle.std.proofs.lemmas.List.{append-nil}
use Rattle.std.proofs.lemmas.List.Elements.{All-head, All-tail}
use Rattle.fst_types.specs.WrittenTree.{WrittenTree}
use Rattle.fst_terms.specs.declared.binder.Binder.{Binder}
use Rattle.fst_reading.specs.Lexeme.{Lexeme, Is, IsLower}
use Rattle.fst_type_syntax.specs.Grammar.{IsAtom}
use Rattle.fst_module_grammar.specs.Grammar as grammar
use Rattle.fst_module_grammar.specs.Grammar.{bound, AreNames, AreApplied, AreTypes}
use Rattle.fst_type_print.specs.WrittenTexts.{atom_text}
use Rattle.fst_print.specs.ModuleTexts.{names_text, applied_text}
use Rattle.fst_roundtrip.proofs.Showable.{IsLowerName, IsShowableType, AreLowerNames}
use Rattle.fst_roundtrip.proofs.Spelled.{Reads, Any, EndsName, One, one, Two, two, so, both, sign, lower_name}
use Rattle.fst_roundtrip.proofs.ShownWords.{Shown, blank_before}
use Rattle.fst_roundtrip.proofs.ShownTypes.{ShownType, atom_type_shown}
use Rattle.fst_roundtrip.specs.Unplaced.{unplaced_type, unplaced_binder}

-- how each thing of a row is read, and then the row: each one begins with a byte that ends a name
pub record Row {X : Type 0} (f : X → List ℕ) (S : X → Type 0) (Item : X → List Lexeme → Type 0)
    (Items : List X → List Lexeme → Type 0) : Type 0 where
  pub begins : (x : X) (rest : List ℕ) → EndsName (f x ++ rest)
  pub item : (x : X) → S x → Reads EndsName (f x) (Item x)
  pub none : Items [] []
  pub more : (x : X) (xs : List X) (ts us : List Lexeme) → Item x ts → Items xs us → Items (x ∷ xs) (ts ++ us)

-- a row of one thing at least
row_shown : {X : Type 0} {f : X → List ℕ} {S : X → Type 0} {Item : X → List Lexeme → Type 0}
    {Items : List X → List Lexeme → Type 0} → Row f S Item Items →
    (x : X) (xs : List X) → All S (x ∷ xs) → Reads EndsName (flat_map f (x ∷ xs)) (Items (x ∷ xs))
row_shown {X = X} {f = f} {S = S} {Item = Item} {Items = Items} row x [] h =
    rw (append-nil (f x)) (so (f x) single (row.item x (All-head S x [] h)))
  where
    single : (ts : List Lexeme) → Item x ts → Items (x ∷ []) ts
    single ts i = subst (Items (x ∷ [])) (append-nil ts) (row.more x [] ts [] i row.none)
row_shown {X = X} {f = f} {S = S} {Item = Item} {Items = Items} row x (y ∷ xs) h =
    so (flat_map f (x ∷ y ∷ xs)) joined
    (both (f x) (flat_map f (y ∷ xs)) ends (row.item x (All-head S x (y ∷ xs) h)) (row_shown row y xs (All-tail S x (y ∷ xs) h)))
  where
    ends : (rest : List ℕ) → EndsName rest → EndsName (flat_map f (y ∷ xs) ++ rest)
    ends rest q = rw (append_assoc (f y) (flat_map f xs) rest) (row.begins y (flat_map f xs ++ rest))

    joined : (ts : List Lexeme) → Two (Item x) (Items (y ∷ xs)) ts → Items (x ∷ y ∷ xs) ts
    joined _ (two ts us i is) = row.more x (y ∷ xs) ts us i is

-- a row behind a text
row_behind : {X : Type 0} {f : X → List ℕ} {S : X → Type 0} {Item : X → List Lexeme → Type 0}
    {Items : List X → List Lexeme → Type 0} {P : List Lexeme → Type 0} → Row f S Item Items →
    (text : List ℕ) (xs : List X) → All S xs → Reads EndsName text P → Reads EndsName (text ++ flat_map f xs) (Two P (Items xs))
row_behind {X = X} {f = f} {S = S} {Item = Item} {Items = Items} {P = P} row text [] h r = rw (append-nil text) (so text alone r)
  where
    alone : (ts : List Lexeme) → P ts → Two P (Items []) ts
    alone ts p = subst (Two P (Items [])) (append-nil ts) (two ts [] p row.none)
row_behind {X = X} {f = f} {S = S} {Item = Item} {Items = Items} row text (x ∷ xs) h r =
    both text (flat_map f (x ∷ xs)) ends r (row_shown row x xs h)
  where
    ends : (rest : List ℕ) → EndsName rest → EndsName (flat_map f (x ∷ xs) ++ rest)
    ends rest q = rw (append_assoc (f x) (flat_map f xs) rest) (row.begins x (flat_map f xs ++ rest))

-- names
abbrev pub ShownNames : List Binder → List Lexeme → Type 0
ShownNames xs = Shown AreNames (map unplaced_binder) xs

abbrev ShownName : Binder → List Lexeme → Type 0
ShownName x = One (λ k. IsLower k × (k.text ≡ x.name))

names_row : Row (λ (x : Binder). codes " " ++ x.name) (λ (x : Binder). IsLowerName x.name) ShownName ShownNames
names_row = record {
  begins = λ x rest. refl;
  item =
      λ x h. blank_before x.name (lower_name x.name h);
  none = record { wrote = []; form = grammar.none; same = refl };
  more =
      further;
}
  where
    further : (x : Binder) (xs : List Binder) (ts us : List Lexeme) → ShownName x ts → ShownNames xs us →
        ShownNames (x ∷ xs) (ts ++ us)
    further x xs _ us (one k h) r = record {
      wrote = bound k ∷ r.wrote;
      form = grammar.name k us r.wrote h.0 r.form;
      same = λ i. record { name = h.1 i; at = 0 } ∷ r.same i;
    }

pub names_shown : (x : Binder) (xs : List Binder) → AreLowerNames (x ∷ xs) →
    Reads EndsName (names_text (x ∷ xs)) (ShownNames (x ∷ xs))
names_shown x xs h = row_shown names_row x xs h

pub names_behind : {P : List Lexeme → Type 0} (text : List ℕ) (xs : List Binder) → AreLowerNames xs → Reads EndsName text P →
    Reads EndsName (text ++ names_text xs) (Two P (ShownNames xs))
names_behind text xs h r = row_behind names_row text xs h r

-- types that a name is applied to
abbrev pub ShownApplied : List WrittenTree → List Lexeme → Type 0
ShownApplied types = Shown AreApplied (map unplaced_type) types

abbrev ShownArgument : WrittenTree → List Lexeme → Type 0
ShownArgument t = Two (One (Is (codes "@"))) (ShownType IsAtom t)

applied_row : Row (λ t. codes " @" ++ atom_text t) IsShowableType ShownArgument ShownApplied
applied_row = record {
  begins = λ x rest. refl;
  item = argument;
  none = record { wrote = []; form = grammar.none; same = refl };
  more = further;
}
  where
    argument : (t : WrittenTree) → IsShowableType t → Reads EndsName (codes " @" ++ atom_text t) (ShownArgument t)
    argument t h = blank_before (codes "@" ++ atom_text t)
        (both (codes "@") (atom_text t) (λ rest q. tt) (sign {Q = Any} (byte "@") refl (λ b. refl)) (atom_type_shown t h))

    further : (t : WrittenTree) (types : List WrittenTree) (ts us : List Lexeme) → ShownArgument t ts → ShownApplied types us →
        ShownApplied (t ∷ types) (ts ++ us)
    further t types _ us (two _ vs (one k is) x) r = record {
      wrote = x.wrote ∷ r.wrote;
      form = grammar.applied k vs us (k ∷ vs ++ us) x.wrote r.wrote is x.form r.form refl;
      same = λ i. x.same i ∷ r.same i;
    }

pub applied_behind : {P : List Lexeme → Type 0} (text : List ℕ) (types : List WrittenTree) → All IsShowableType types →
    Reads EndsName text P → Reads EndsName (text ++ applied_text types) (Two P (ShownApplied types))
applied_behind text types h r = row_behind applied_row text types h r

-- types of fields
abbrev pub ShownFields : List WrittenTree → List Lexeme → Type 0
ShownFields types = Shown AreTypes (map unplaced_type) types

fields_row : Row (λ t. codes " " ++ atom_text t) IsShowableType (ShownType IsAtom) ShownFields
fields_row = record {
  begins = λ x rest. refl;
  item =
      λ t h. blank_before (atom_text t) (atom_type_shown t h);
  none = record { wrote = []; form = grammar.none; same = refl };
  more = further;
}
  where
    further : (t : WrittenTree) (types : List WrittenTree) (ts us : List Lexeme) → ShownType IsAtom t ts → ShownFields types us →
        ShownFields (t ∷ types) (ts ++ us)
    further t types ts us x r = record {
      wrote = x.wrote ∷ r.wrote;
      form = grammar.type ts us (ts ++ us) x.wrote r.wrote x.form r.form refl;
      same = λ i. x.same i ∷ r.same i;
    }

pub fields_behind : {P : List Lexeme → Type 0} (text : List ℕ) (types : List WrittenTree) → All IsShowableType types →
    Reads EndsName text P →
    Reads EndsName (text ++ flat_map (λ t. codes " " ++ atom_text t) types) (Two P (ShownFields types))
fields_behind text types h r = row_behind fields_row text types h r
