-- What stands in the text of a type is the type again.
use Rattle.std.specs.Prelude.{◌≡◌, ◌≢◌, ℕ, zero, suc, ◌<◌, ◌^◌, List, [], ◌∷◌, length, All, false, Option, Some, None, option_map, ⊤}
use Rattle.std.specs.List.{AllPairs}
use Rattle.fst_types.specs.Tree.{Tree, skip, send, receive, close, wait, select, offer, seq, rec, back, var, plain, arrow, pair, named, Branches, none, branch}
use Rattle.fst_types.specs.WrittenTree.{WrittenTree}
use Rattle.fst_types.specs.Height.{height}
use Rattle.fst_types.specs.Scoped.{IsScoped}
use Rattle.fst_types.specs.Order.{IsSorted}
use Rattle.fst_lexer.specs.declared.token.Token.{Token}
use Rattle.fst_lexer.specs.declared.token.TokenKind.TheVariants as kind
use Rattle.fst_lexer.specs.Lexes.{Lexes}
use Rattle.fst_lexer.specs.Spelling.{IsWordOf}
use Rattle.fst_reading.specs.Lexeme.{lexemes}
use Rattle.fst_type_syntax.specs.Grammar.{IsType}
use Rattle.fst_terms.specs.Naming.{Scope, place_of, type_of}
use Rattle.fst_types.specs.Named.{IsNamedWithin}
use Rattle.fst_type_print.specs.Texts.{in_parens_before_arrow, type_text, variable_text}

-- the type is no function
abbrev pub IsNoArrow : Tree → Type 0
IsNoArrow t = in_parens_before_arrow t ≡ false

abbrev mutual
  -- each variable is one of the first m, each label is an upper name, and no function is a part of `;`, of a rec or of a branch
  pub IsWritable : ℕ → Tree → Type 0
  IsWritable m skip = ⊤
  IsWritable m (send b) = ⊤
  IsWritable m (receive b) = ⊤
  IsWritable m close = ⊤
  IsWritable m wait = ⊤
  IsWritable m (select bs) = AreWritable m bs
  IsWritable m (offer bs) = AreWritable m bs
  IsWritable m (seq s r) = IsNoArrow s × IsNoArrow r × IsWritable m s × IsWritable m r
  IsWritable m (rec s) = IsNoArrow s × IsWritable m s
  IsWritable m (back k) = ⊤
  IsWritable m (var k) = k < m
  IsWritable m (plain b) = ⊤
  IsWritable m (arrow u s r) = IsWritable m s × IsWritable m r
  IsWritable m (pair s r) = IsWritable m s × IsWritable m r
  IsWritable m (named k) = ⊤

  -- the same of the branches of a choice
  pub AreWritable : ℕ → Branches → Type 0
  AreWritable m none = ⊤
  AreWritable m (branch l s bs) = IsWordOf kind.Upper l × IsNoArrow s × IsWritable m s ×
      AreWritable m bs

-- the names of so many type variables of a signature, from the k-th on
abbrev pub variable_names : ℕ → ℕ → List (List ℕ)
variable_names k zero = []
variable_names k (suc m) = variable_text k ∷ variable_names (suc k) m

-- the data type with a name
abbrev pub family_named : List (List ℕ) → List ℕ → Option (Option Tree)
family_named names x = option_map (λ k. Some (named k)) (place_of names x)

-- the names in scope around a type: those of the first m variables, and of the data types
abbrev pub scope_of : List (List ℕ) → ℕ → Scope
scope_of names m = record {
  recs = [];
  vars = variable_names 0 m;
  declared = family_named names;
  otherwise = None;
}

-- the text of the type can be read
pub record IsReadable (names : List (List ℕ)) (m : ℕ) (t : Tree) : Type 0 where
  -- each recursion variable belongs to a rec in the type
  pub scoped : IsScoped 0 t
  -- each data type has a name
  pub named : IsNamedWithin (length names) t
  -- each choice has a branch, and its labels stand in byte order
  pub sorted : IsSorted t
  -- variables are among the first m, labels are upper names, and functions are no part of a protocol
  pub writable : IsWritable m t
  -- the names of the data types are upper names
  pub upper : All (IsWordOf kind.Upper) names
  -- no two data types have one name
  pub distinct : AllPairs (λ a b. a ≢ b) names
  -- the numbers of variables have 64 bits
  pub few : m < 2 ^ 64
  -- and so have those of recs, one within another
  pub low : height t < 2 ^ 64

-- the tokens of the type's text derive a written type that means the type
pub record IsReadBack (names : List (List ℕ)) (m : ℕ) (t : Tree) : Type 0 where
  pub tokens : List Token
  pub read : WrittenTree
  pub lexes : Lexes (type_text names t) tokens
  pub derives : IsType (lexemes (type_text names t) tokens) read
  pub means : type_of (scope_of names m) read ≡ Some t

-- so do those of each type that can be written
abbrev pub ReadBack : Type 0
ReadBack = (names : List (List ℕ)) (m : ℕ) (t : Tree) → IsReadable names m t → IsReadBack names m t
