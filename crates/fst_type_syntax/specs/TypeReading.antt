-- Reading a type or a question, at most so deep.
use Rattle.std.specs.Prelude.{ℕ, zero, suc, Bool, true, false, ◌||◌, List, [], ◌∷◌, Option, Some, None, codes, pos}
use Rattle.std.specs.Str.{bytes_eq}
use Rattle.fst_types.specs.declared.base.Base.{Base}
use Rattle.fst_types.specs.declared.base.Base.TheVariants as base
use Rattle.fst_types.specs.declared.kind.Kind.{Kind}
use Rattle.fst_types.specs.declared.kind.Use.{Use}
use Rattle.fst_types.specs.declared.kind.Use.TheVariants.{Many, Once}
use Rattle.fst_types.specs.declared.kind.Prekind.{Prekind}
use Rattle.fst_types.specs.declared.kind.Prekind.TheVariants.{Session, Top}
use Rattle.fst_types.specs.WrittenTree as written
use Rattle.fst_types.specs.WrittenTree.{WrittenTree, WrittenBranches, none, branch}
use Rattle.fst_terms.specs.declared.binder.Binder.{Binder}
use Rattle.fst_lexer.specs.declared.token.TokenKind.{TokenKind}
use Rattle.fst_lexer.specs.declared.token.TokenKind.TheVariants as kind
use Rattle.fst_type_syntax.specs.declared.starts.Start.{Start}
use Rattle.fst_type_syntax.specs.declared.starts.Start.TheVariants as begin
use Rattle.fst_reading.specs.Lexeme.{Lexeme, spells, upper_of, lower_of, is_one}
use Rattle.fst_type_syntax.specs.Grammar.{Asked}
use Rattle.fst_reading.specs.Reading.{Reader, give, ◌>>=◌, map_reader, switch, one, word, with_start, finish, on, sep_by, shut}
use Rattle.fst_base.specs.Choice.{choose}

-- the base type that is this word
unfoldable pub base_named : List ℕ → Option Base
base_named text =
    choose (bytes_eq text (codes "Int")) (Some base.Int)
    (choose (bytes_eq text (codes "Bool")) (Some base.Bool)
    (choose (bytes_eq text (codes "Char")) (Some base.Char) None))

-- the base type of a token, by its kind and text
abbrev pub base_by : TokenKind → List ℕ → Option Base
base_by kind.Reserved text = base_named text
base_by kind.Sign text = base_named text
base_by _ text = None

-- the base type that is one word
abbrev pub base_word : Lexeme → Option Base
base_word k = base_by k.kind k.text

-- what a base type's word begins
abbrev pub word_begun : Option Base → Option Start
word_begun (Some b) = Some (begin.Word b)
word_begun None = None

-- what begins with this reserved word or sign
unfoldable pub start_named : List ℕ → Option Start
start_named text =
    choose (bytes_eq text (codes "Skip")) (Some begin.Skip)
    (choose (bytes_eq text (codes "!")) (Some begin.Send)
    (choose (bytes_eq text (codes "?")) (Some begin.Receive)
    (choose (bytes_eq text (codes "Close")) (Some begin.Close)
    (choose (bytes_eq text (codes "Wait")) (Some begin.Wait)
    (choose (bytes_eq text (codes "+")) (Some begin.Select)
    (choose (bytes_eq text (codes "&")) (Some begin.Offer)
    (choose (bytes_eq text (codes "(")) (Some begin.Paren) (word_begun (base_named text)))))))))

-- what a token begins, by its kind and text
abbrev pub start_by : TokenKind → List ℕ → Option Start
start_by kind.Lower text = Some begin.Name
start_by kind.Upper text = Some begin.Name
start_by kind.Reserved text = start_named text
start_by kind.Sign text = start_named text
start_by _ text = None

-- what a `tatom` begins with
abbrev pub start_of : Lexeme → Option Start
start_of k = start_by k.kind k.text

-- a base type
unfoldable pub base_at : Reader Base
base_at = on (spells (codes "(")) (map_reader (λ u. base.Unit) (word (codes ")"))) (one base_word)

-- branches as they stand in a written type
abbrev pub branches : List (List ℕ × WrittenTree) → WrittenBranches
branches [] = none
branches (b ∷ bs) = branch b.0 b.1 (branches bs)

-- The steps of the reader of types, over the readers of the types inside it.
module _ (seq type : Reader WrittenTree) where
  -- a branch: its label and its type
  unfoldable pub alt_with : Reader (List ℕ × WrittenTree)
  alt_with = do
    l ← one upper_of
    c ← word (codes ":")
    map_reader (λ t. (l.text, t)) seq

  -- the branches of a choice, in braces
  unfoldable pub choice_with : (WrittenBranches → WrittenTree) → Reader WrittenTree
  choice_with make = do
    o ← word (codes "{")
    bs ← sep_by (spells (codes ",")) alt_with
    map_reader (λ c. make (branches bs)) (word (codes "}"))

  -- behind the second type of a pair
  unfoldable pub pair_with : ℕ → WrittenTree → Reader WrittenTree
  pair_with at t = do
    u ← type
    map_reader (λ c. written.pair at t u) (word (codes ")"))

  -- behind a parenthesis
  unfoldable pub paren_with : ℕ → Reader WrittenTree
  paren_with at =
      on (spells (codes ")")) (give (written.plain at base.Unit))
      (type >>= λ t. on (spells (codes ",")) (pair_with at t)
      (map_reader (λ c. t) (word (codes ")"))))

  -- behind what a `tatom` begins with
  abbrev pub begun_with : Start → Lexeme → Reader WrittenTree
  begun_with begin.Skip k = give (written.skip k.at)
  begun_with begin.Send k = map_reader (written.send k.at) base_at
  begun_with begin.Receive k = map_reader (written.receive k.at) base_at
  begun_with begin.Close k = give (written.close k.at)
  begun_with begin.Wait k = give (written.wait k.at)
  begun_with begin.Select k = choice_with (written.select k.at)
  begun_with begin.Offer k = choice_with (written.offer k.at)
  begun_with begin.Paren k = paren_with k.at
  begun_with begin.Name k = give (written.named k.at k.text)
  begun_with (begin.Word b) k = give (written.plain k.at b)

  -- an atomic type
  unfoldable pub atom_with : Reader WrittenTree
  atom_with = switch start_of begun_with

  -- behind `rec`
  unfoldable pub rec_with : ℕ → Reader WrittenTree
  rec_with at = do
    x ← one lower_of
    d ← word (codes ".")
    map_reader (written.rec at x.text) seq

  -- an atomic type, and what goes on behind `;`
  unfoldable pub chain_with : ℕ → Reader WrittenTree
  chain_with at = atom_with >>= λ t. on (spells (codes ";")) (map_reader (written.seq at t) seq)
      (give t)

  -- a `rec` or a chain of `;`
  unfoldable pub seq_with : Reader WrittenTree
  seq_with = with_start (λ at. on (spells (codes "rec")) (rec_with at) (chain_with at))

  -- behind the first `seqtype` of a type
  unfoldable pub arrow_with : ℕ → WrittenTree → Reader WrittenTree
  arrow_with at t =
      on (spells (codes "->")) (map_reader (written.arrow at Many t) type)
      (on is_one (word (codes "->") >>= λ k. map_reader (written.arrow at Once t) type) (give t))

  -- a type with its arrows
  unfoldable pub type_with : Reader WrittenTree
  type_with = with_start (λ at. seq_with >>= λ t. arrow_with at t)

-- whether a token begins a type
abbrev pub is_begun : Option Start → Bool
is_begun (Some s) = true
is_begun None = false

-- whether an atomic type may begin with this token
abbrev pub starts_type_atom : Lexeme → Bool
starts_type_atom k = is_begun (start_of k)

-- whether a type may begin with this token
abbrev pub starts_type : Lexeme → Bool
starts_type k = spells (codes "rec") k || starts_type_atom k

unfoldable mutual
  -- a `seqtype`, at most so many of them inside one another
  pub seq_at : ℕ → Reader WrittenTree
  seq_at zero = shut starts_type
  seq_at (suc n) = seq_with (seq_at n) (type_at n)

  -- a type, whose first `seqtype` may be at most so deep
  pub type_at : ℕ → Reader WrittenTree
  type_at zero = shut starts_type
  type_at (suc n) = type_with (seq_at n) (type_at n)

-- the multiplicity of a token, by its kind and text
abbrev pub use_by : TokenKind → List ℕ → Option Use
use_by (kind.Number (pos (suc zero))) text = Some Once
use_by kind.Sign text = choose (bytes_eq text (codes "*")) (Some Many) None
use_by kind.Reserved text = choose (bytes_eq text (codes "*")) (Some Many) None
use_by _ text = None

-- the first half of a kind
abbrev pub use_of : Lexeme → Option Use
use_of k = use_by k.kind k.text

-- the prekind of a text
unfoldable pub prekind_named : List ℕ → Option Prekind
prekind_named text = choose (bytes_eq text (codes "S")) (Some Session)
    (choose (bytes_eq text (codes "T")) (Some Top) None)

-- the prekind of a token, by its kind and text
abbrev pub prekind_by : TokenKind → List ℕ → Option Prekind
prekind_by kind.Upper text = prekind_named text
prekind_by _ text = None

-- the second half of a kind
abbrev pub prekind_of : Lexeme → Option Prekind
prekind_of k = prekind_by k.kind k.text

-- a variable with its kind
unfoldable pub binder_at : Reader (Binder × Kind)
binder_at = do
  x ← one lower_of
  c ← word (codes ":")
  u ← one use_of
  map_reader (λ (p : Prekind). (
    record { name = x.text; at = x.at },
    record { prekind = p; uses = u },
  )) (one prekind_of)

-- the two types of a question, behind its binders
unfoldable pub types_at : ℕ → List (Binder × Kind) → Reader Asked
types_at n bs = do
  t ← seq_at n
  k ← word (codes "~")
  u ← seq_at n
  map_reader (λ e. record { binders = bs; left = t; right = u }) finish

-- a question with nothing behind it
unfoldable pub question_at : ℕ → Reader Asked
question_at n = on (spells (codes "forall"))
    (sep_by (spells (codes ",")) binder_at >>= λ bs. word (codes ".") >>= λ d. types_at n bs)
    (types_at n [])
