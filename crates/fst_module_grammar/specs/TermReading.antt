-- Reading a module, at most so deep.
use Rattle.std.specs.Prelude.{ℕ, zero, suc, Bool, true, false, ◌||◌, List, [], ◌∷◌, length, Option, Some, None, codes}
use Rattle.std.specs.Str.{bytes_eq}
use Rattle.fst_types.specs.declared.kind.Use.{Use}
use Rattle.fst_types.specs.declared.kind.Use.TheVariants.{Many, Once}
use Rattle.fst_types.specs.WrittenTree.{WrittenTree}
use Rattle.fst_lexer.specs.declared.token.TokenKind.{TokenKind}
use Rattle.fst_lexer.specs.declared.token.TokenKind.TheVariants as kind
use Rattle.fst_terms.specs.declared.binder.Binder.{Binder}
use Rattle.fst_terms.specs.declared.term.Op.{Op}
use Rattle.fst_terms.specs.declared.term.Op.TheVariants as op
use Rattle.fst_terms.specs.TermTree as term
use Rattle.fst_terms.specs.TermTree.{TermTree, TermList, no_terms, TermArms, no_arms, arm}
use Rattle.fst_module_grammar.specs.declared.starts.AtomStart.{AtomStart}
use Rattle.fst_module_grammar.specs.declared.starts.AtomStart.TheVariants.{Name, Constructor, Number, Character, Truth, Paren}
use Rattle.fst_module_grammar.specs.declared.starts.AppStart.{AppStart}
use Rattle.fst_module_grammar.specs.declared.starts.AppStart.TheVariants.{Send, Receive, Close, Wait, Select, New, Fork, Make}
use Rattle.fst_module_grammar.specs.declared.starts.Arms.{Arms}
use Rattle.fst_module_grammar.specs.declared.starts.Arms.TheVariants as by
use Rattle.fst_module_grammar.specs.declared.starts.ExprStart.{ExprStart}
use Rattle.fst_module_grammar.specs.declared.starts.ExprStart.TheVariants.{Let, If, Lambda, Case, Match}
use Rattle.fst_reading.specs.Lexeme.{Lexeme, spells, lower_of, upper_of, is_one}
use Rattle.fst_reading.specs.Reading.{Reader, give, ◌>>=◌, map_reader, switch, one, word, with_start, on, sep_by, when, shut, repeat, many}
use Rattle.fst_type_syntax.specs.TypeReading.{starts_type_atom, seq_at, type_at, atom_with as written_atom_with}
use Rattle.fst_module_grammar.specs.Grammar.{bound}
use Rattle.fst_base.specs.Choice.{choose}

-- what a reserved word or sign begins as an atom
unfoldable pub atom_named : List ℕ → Option AtomStart
atom_named text =
    choose (bytes_eq text (codes "True")) (Some (Truth true))
    (choose (bytes_eq text (codes "False")) (Some (Truth false))
    (choose (bytes_eq text (codes "(")) (Some Paren) None))

-- what a token begins as an atom, by its kind and text
abbrev pub atom_by : TokenKind → List ℕ → Option AtomStart
atom_by kind.Lower text = Some Name
atom_by kind.Upper text = Some Constructor
atom_by (kind.Number n) text = Some (Number n)
atom_by (kind.Character c) text = Some (Character c)
atom_by kind.Reserved text = atom_named text
atom_by kind.Sign text = atom_named text
atom_by _ text = None

-- what a token begins as an atom
abbrev pub atom_start : Lexeme → Option AtomStart
atom_start k = atom_by k.kind k.text

-- whether this is the kind of lower names
abbrev pub lower_kind : TokenKind → Bool
lower_kind kind.Lower = true
lower_kind _ = false

-- whether a token is a lower name
abbrev pub is_lower : Lexeme → Bool
is_lower k = lower_kind k.kind

-- whether this is the kind of upper names
abbrev pub upper_kind : TokenKind → Bool
upper_kind kind.Upper = true
upper_kind _ = false

-- whether a token is an upper name
abbrev pub is_upper : Lexeme → Bool
is_upper k = upper_kind k.kind

-- whether a token begins an atom
abbrev pub is_start : Option AtomStart → Bool
is_start (Some s) = true
is_start None = false

-- whether an atom may begin with this token
abbrev pub starts_atom : Lexeme → Bool
starts_atom k = is_start (atom_start k)

-- the operator that a comparison, and a sum, has between its operands
unfoldable pub comparison : Lexeme → Option Op
comparison k =
    choose (spells (codes "==") k) (Some op.Equal)
    (choose (spells (codes "/=") k) (Some op.Unequal)
    (choose (spells (codes "<") k) (Some op.Less)
    (choose (spells (codes "<=") k) (Some op.AtMost)
    (choose (spells (codes ">") k) (Some op.Greater)
    (choose (spells (codes ">=") k) (Some op.AtLeast) None)))))

-- the operator of a chain of `+` and `-` that a token is
unfoldable pub addition : Lexeme → Option Op
addition k = choose (spells (codes "+") k) (Some op.Add)
    (choose (spells (codes "-") k) (Some op.Subtract) None)

-- one operator alone
unfoldable pub operator : List ℕ → Op → Lexeme → Option Op
operator w o k = choose (spells w k) (Some o) None

-- whether a token is an operator of a chain
abbrev pub is_op : Option Op → Bool
is_op (Some o) = true
is_op None = false

-- what a reserved word begins as an application
unfoldable pub app_named : List ℕ → Option AppStart
app_named text =
    choose (bytes_eq text (codes "send")) (Some Send)
    (choose (bytes_eq text (codes "receive")) (Some Receive)
    (choose (bytes_eq text (codes "close")) (Some Close)
    (choose (bytes_eq text (codes "wait")) (Some Wait)
    (choose (bytes_eq text (codes "select")) (Some Select)
    (choose (bytes_eq text (codes "new")) (Some New)
    (choose (bytes_eq text (codes "fork")) (Some Fork) None))))))

-- what a token begins as an application, by its kind and text
abbrev pub app_by : TokenKind → List ℕ → Option AppStart
app_by kind.Upper text = Some Make
app_by kind.Reserved text = app_named text
app_by kind.Sign text = app_named text
app_by _ text = None

-- what a token begins as an application
abbrev pub app_start : Lexeme → Option AppStart
app_start k = app_by k.kind k.text

-- whether a token begins an application by a word of its own
abbrev pub is_app : Option AppStart → Bool
is_app (Some s) = true
is_app None = false

-- whether an application begins with this reserved word, or is a constructor
abbrev pub opens_app : Lexeme → Bool
opens_app k = is_app (app_start k)

-- whether an application may begin with this token
abbrev pub starts_app : Lexeme → Bool
starts_app k = opens_app k || starts_atom k

-- whether a token begins a `not` or an application
abbrev pub starts_unary : Lexeme → Bool
starts_unary k = spells (codes "not") k || starts_app k

-- what a reserved word or sign begins as a term
unfoldable pub expr_named : List ℕ → Option ExprStart
expr_named text =
    choose (bytes_eq text (codes "let")) (Some Let)
    (choose (bytes_eq text (codes "if")) (Some If)
    (choose (bytes_eq text (codes "\\")) (Some Lambda)
    (choose (bytes_eq text (codes "case")) (Some Case)
    (choose (bytes_eq text (codes "match")) (Some Match) None))))

-- what a token begins as a term, by its kind and text
abbrev pub expr_by : TokenKind → List ℕ → Option ExprStart
expr_by kind.Reserved text = expr_named text
expr_by kind.Sign text = expr_named text
expr_by _ text = None

-- what a token begins as a term
abbrev pub expr_start : Lexeme → Option ExprStart
expr_start k = expr_by k.kind k.text

-- whether a token begins a term by a word of its own
abbrev pub is_expr_start : Option ExprStart → Bool
is_expr_start (Some s) = true
is_expr_start None = false

-- whether a token begins a term by a word of its own
abbrev pub opens_expr : Lexeme → Bool
opens_expr k = is_expr_start (expr_start k)

-- whether a term may begin with this token
abbrev pub starts_expr : Lexeme → Bool
starts_expr k = opens_expr k || starts_unary k

-- What may be opened: the readers of the terms inside, the first one for what is directly inside this one, the next one for
-- what is inside the next operand of a chain, and so on. Where none is left nothing may be opened any more.
abbrev pub Inside : Type 0
Inside = List (Reader TermTree)

-- an atomic type
unfoldable pub type_atom_with : Inside → Reader WrittenTree
type_atom_with [] = shut starts_type_atom
type_atom_with (e ∷ es) = written_atom_with (seq_at (length es)) (type_at (length es))

-- type arguments
unfoldable pub applied_with : Inside → Reader (List WrittenTree)
applied_with es = many (spells (codes "@")) (word (codes "@") >>= λ k. type_atom_with es)

-- behind the first term of a pair
unfoldable pub pair_with : Reader TermTree → ℕ → TermTree → Reader TermTree
pair_with e at t = e >>= λ u. map_reader (λ c. term.pair at t u) (word (codes ")"))

-- behind a parenthesis
unfoldable pub paren_with : Reader TermTree → ℕ → Reader TermTree
paren_with e at =
    on (spells (codes ")")) (give (term.unit at))
    (e >>= λ t. on (spells (codes ",")) (pair_with e at t) (map_reader (λ c. t) (word (codes ")"))))

-- behind what an atom begins with
abbrev pub begun_with : Reader TermTree → Inside → AtomStart → Lexeme → Reader TermTree
begun_with e es Name k = map_reader (term.named k.at k.text) (applied_with (e ∷ es))
begun_with e es Constructor k = give (term.make k.at k.text no_terms)
begun_with e es (Number n) k = give (term.int k.at n)
begun_with e es (Character c) k = give (term.char k.at c)
begun_with e es (Truth b) k = give (term.bool k.at b)
begun_with e es Paren k = paren_with e k.at

-- what a token begins as an atom, where a constructor counts as none
abbrev pub no_constructor : Option AtomStart → Option AtomStart
no_constructor (Some Constructor) = None
no_constructor o = o

-- what an atom begins with that is no upper name
abbrev pub plain_start : Lexeme → Option AtomStart
plain_start k = no_constructor (atom_start k)

-- an atom that is no upper name, where it may be opened
unfoldable pub plain_with : Reader TermTree → Inside → Reader TermTree
plain_with e es = switch plain_start (begun_with e es)

-- an atom
unfoldable pub atom_with : Inside → Reader TermTree
atom_with [] = shut starts_atom
atom_with (e ∷ es) = switch atom_start (begun_with e es)

-- a list of terms with one more at its end
abbrev pub append_term : TermList → TermTree → TermList
append_term no_terms t = term.term t no_terms
append_term (term.term u us) t = term.term u (append_term us t)

-- the atoms behind a constructor
unfoldable pub arguments_with : Inside → TermList → Reader TermList
arguments_with es args = repeat starts_atom
    (λ es args. map_reader (append_term args) (atom_with es)) es args

-- the atoms behind another atom
unfoldable pub applications_with : ℕ → Inside → TermTree → Reader TermTree
applications_with at es t = repeat starts_atom
    (λ es t. map_reader (term.apply at t) (atom_with es)) es t

-- the readers inside the next operand
abbrev pub next : Inside → Inside
next [] = []
next (e ∷ es) = es

-- an upper name, where one more operand may stand
unfoldable pub label_with : Inside → Reader Lexeme
label_with [] = shut is_upper
label_with (e ∷ es) = one upper_of

-- behind what an application begins with; es are the readers inside the next operand
abbrev pub app_begun_with : Inside → AppStart → Lexeme → Reader TermTree
app_begun_with es Send k = atom_with es >>= λ t. map_reader (term.send k.at t) (atom_with (next es))
app_begun_with es Receive k = map_reader (term.receive k.at) (atom_with es)
app_begun_with es Close k = map_reader (term.close k.at) (atom_with es)
app_begun_with es Wait k = map_reader (term.wait k.at) (atom_with es)
app_begun_with es Select k = label_with es >>= λ l. map_reader (term.select k.at l.text)
    (atom_with (next es))
app_begun_with es New k = map_reader (term.new k.at) (type_atom_with es)
app_begun_with es Fork k = map_reader (term.fork k.at) (atom_with es)
app_begun_with es Make k = map_reader (term.make k.at k.text) (arguments_with es no_terms)

-- an atom and what it is applied to
unfoldable pub head_with : Reader TermTree → Inside → Reader TermTree
head_with e es = with_start (λ at. plain_with e es >>= λ t. applications_with at es t)

-- an application
unfoldable pub app_with : Inside → Reader TermTree
app_with [] = shut starts_app
app_with (e ∷ es) = when opens_app (switch app_start (app_begun_with es)) (head_with e es)

-- a term behind `not`s
unfoldable pub unary_with : Inside → Reader TermTree
unary_with [] = shut starts_unary
unary_with (e ∷ es) = with_start (λ at. on (spells (codes "not"))
    (map_reader (term.negate at) (unary_with es)) (app_with (e ∷ es)))

-- behind the first operand of a chain
unfoldable pub chain_with : (Lexeme → Option Op) →
    (Inside → Reader TermTree) → ℕ → Inside → TermTree → Reader TermTree
chain_with p operand at = repeat (λ k. is_op (p k))
    (λ es t. switch p (λ o k. map_reader (term.operate at o t) (operand es)))

-- a chain of operands
unfoldable pub chain : (Lexeme → Option Op) → (Inside → Reader TermTree) → Inside → Reader TermTree
chain p operand es = with_start (λ at. operand es >>= λ t. chain_with p operand at (next es) t)

-- a chain of `*`
abbrev pub prod_with : Inside → Reader TermTree
prod_with = chain (operator (codes "*") op.Multiply) unary_with

-- a chain of `+` and `-`
abbrev pub sum_with : Inside → Reader TermTree
sum_with = chain addition prod_with

-- behind the first operand of a comparison
unfoldable pub compare_with : ℕ → Inside → TermTree → Reader TermTree
compare_with at es t = when (λ k. is_op (comparison k))
    (switch comparison (λ o k. map_reader (term.operate at o t) (sum_with es))) (give t)

-- one operand, or a comparison of two
unfoldable pub cmp_with : Inside → Reader TermTree
cmp_with [] = shut starts_unary
cmp_with (e ∷ es) = with_start (λ at. sum_with (e ∷ es) >>= λ t. compare_with at (e ∷ es) t)

-- a chain of `&&`
abbrev pub and_with : Inside → Reader TermTree
and_with = chain (operator (codes "&&") op.And) cmp_with

-- a chain of `||`
abbrev pub or_with : Inside → Reader TermTree
or_with = chain (operator (codes "||") op.Or) and_with

-- one arm, read by what it binds
abbrev pub Arm : Type 0
Arm = Binder × (List Binder × TermTree)

-- arms as they stand in a term
abbrev pub arms : List Arm → TermArms
arms [] = no_arms
arms (b ∷ bs) = arm b.0 b.1.0 b.1.1 (arms bs)

-- binders one behind the other
unfoldable pub names : Reader (List Binder)
names = many is_lower (map_reader bound (one lower_of))

-- an arrow
unfoldable pub arrow_at : Reader Use
arrow_at = on is_one (map_reader (λ k. Once) (word (codes "->")))
    (map_reader (λ k. Many) (word (codes "->")))

-- the reserved word behind the term that chooses among arms
abbrev pub word_of : Arms → List ℕ
word_of by.Case = codes "of"
word_of by.Match = codes "with"

-- the term with these arms
abbrev pub tree_by : Arms → ℕ → TermTree → TermArms → TermTree
tree_by by.Case = term.case_of
tree_by by.Match = term.match_with

module _ (e : Reader TermTree) where
  -- an arm of a `case`
  unfoldable pub case_arm_with : Reader Arm
  case_arm_with = do
    l ← one upper_of
    xs ← names
    a ← word (codes "->")
    map_reader (λ t. (bound l, (xs, t))) e

  -- an arm of a `match`
  unfoldable pub match_arm_with : Reader Arm
  match_arm_with = do
    l ← one upper_of
    x ← one lower_of
    a ← word (codes "->")
    map_reader (λ t. (bound l, (bound x ∷ [], t))) e

  -- arms in braces
  unfoldable pub arms_with : Reader Arm → Reader TermArms
  arms_with f = do
    o ← word (codes "{")
    bs ← sep_by (spells (codes ",")) f
    map_reader (λ c. arms bs) (word (codes "}"))

  -- an arm of a `case` or a `match`
  abbrev pub arm_by : Arms → Reader Arm
  arm_by by.Case = case_arm_with
  arm_by by.Match = match_arm_with

  -- behind `case` or `match`
  unfoldable pub choice_with : Arms → ℕ → Reader TermTree
  choice_with a at = do
    t ← e
    w ← word (word_of a)
    map_reader (tree_by a at t) (arms_with (arm_by a))

  -- behind `if`
  unfoldable pub if_with : ℕ → Reader TermTree
  if_with at = do
    t ← e
    h ← word (codes "then")
    u ← e
    l ← word (codes "else")
    map_reader (term.if_else at t u) e

  -- behind the `=` of a `let`
  unfoldable pub in_with : (TermTree → TermTree → TermTree) → Reader TermTree
  in_with make = do
    t ← e
    i ← word (codes "in")
    map_reader (make t) e

  -- behind the parenthesis of a `let`
  unfoldable pub split_with : ℕ → Reader TermTree
  split_with at = do
    x ← one lower_of
    m ← word (codes ",")
    y ← one lower_of
    c ← word (codes ")")
    q ← word (codes "=")
    in_with (term.split at (bound x) (bound y))

  -- what stands behind `let`
  unfoldable pub let_with : ℕ → Reader TermTree
  let_with at = on (spells (codes "(")) (split_with at) (do
    x ← one lower_of
    q ← word (codes "=")
    in_with (term.let_in at (bound x)))

  -- behind `\`; the types inside may be at most so deep
  unfoldable pub lambda_with : ℕ → ℕ → Reader TermTree
  lambda_with n at = do
    x ← one lower_of
    c ← word (codes ":")
    t ← seq_at n
    uses ← arrow_at
    map_reader (term.lambda at uses t (bound x)) e

-- behind what a term begins with
abbrev pub expr_begun_with : Reader TermTree → ℕ → ExprStart → Lexeme → Reader TermTree
expr_begun_with e n Let k = let_with e k.at
expr_begun_with e n If k = if_with e k.at
expr_begun_with e n Lambda k = lambda_with e n k.at
expr_begun_with e n Case k = choice_with e by.Case k.at
expr_begun_with e n Match k = choice_with e by.Match k.at

-- a term that begins with an operand
unfoldable pub then_with : Reader TermTree → Inside → Reader TermTree
then_with e es = with_start (λ at. or_with (e ∷ es) >>= λ t. on (spells (codes ";"))
    (map_reader (term.seq at t) e) (give t))

-- a term
unfoldable pub expr_with : Inside → Reader TermTree
expr_with [] = shut starts_expr
expr_with (e ∷ es) = when opens_expr (switch expr_start (expr_begun_with e (length es)))
    (then_with e es)

-- what may be opened within so many levels
unfoldable pub inside : ℕ → Inside
inside zero = []
inside (suc n) = expr_with (inside n) ∷ inside n

-- a term, at most so many of them inside one another
abbrev pub expr_at : ℕ → Reader TermTree
expr_at n = expr_with (inside n)
