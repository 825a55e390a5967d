-- How types, words and refusals are written.
use Rattle.std.specs.Prelude.{ℕ, suc, ◌+◌, ◌-◌, List, [], ◌∷◌, ◌++◌, codes, decimal, map, slice_get, unwrap_or, Bool, true, false, Option, None, Some}
use Rattle.std.specs.List.{flat_map}
use Rattle.std.specs.String.{string_bytes}
use Rattle.std.specs.declared.string.String.{String}
use Rattle.fst_types.specs.Tree.{Tree, skip, send, receive, close, wait, select, offer, seq, rec, back, var, plain, arrow, pair, named, Branches, none, branch}
use Rattle.fst_types.specs.declared.base.Base.{Base}
use Rattle.fst_types.specs.declared.base.Base.TheVariants.{Int, Bool as Truth, Char, Unit as Nothing}
use Rattle.fst_types.specs.declared.family.Family.{Family}
use Rattle.fst_types.specs.declared.kind.Kind.{Kind}
use Rattle.fst_types.specs.declared.kind.Prekind.{Prekind}
use Rattle.fst_types.specs.declared.kind.Prekind.TheVariants.{Session, Top}
use Rattle.fst_types.specs.declared.kind.Use.{Use}
use Rattle.fst_types.specs.declared.kind.Use.TheVariants.{Many, Once}
use Rattle.fst_types.specs.declared.label.Label.{Label}
use Rattle.fst_types.specs.declared.label.Label.TheVariants.{Send, Receive, Select, Offer, Close, Wait, Var}
use Rattle.fst_types.specs.declared.side.Side.{Side}
use Rattle.fst_types.specs.declared.side.Side.TheVariants.{Left, Right}
use Rattle.fst_type_print.specs.declared.refusals.Phrase.{Phrase}
use Rattle.fst_type_print.specs.declared.refusals.Phrase.TheVariants.{NotUtf8, BadChar, WideNumber, LongName, Syntax, Unbound, Twice, AliasLoop, Arity, NoMain, NotContractive, WrongKind, UnboundType, DoubleLabel, Mismatch, Unused, UsedTwice, CapturedLinear, Branches as Unequal, NotFunction, NotPair, NotPrintable, TypeArguments, KindOfArgument, NoSuchMove, Arms, Dropped, Certificate, NoBasis}
use Rattle.fst_type_print.specs.declared.refusals.Refusal.{Refusal}

-- a type of plain values
abbrev pub base_text : Base → List ℕ
base_text Int = codes "Int"
base_text Truth = codes "Bool"
base_text Char = codes "Char"
base_text Nothing = codes "()"

-- a message that is sent
abbrev pub send_text : Base → List ℕ
send_text b = codes "!" ++ base_text b

-- a message that is received
abbrev pub receive_text : Base → List ℕ
receive_text b = codes "?" ++ base_text b

-- the k-th type variable of a signature, counted from 0, with its number from 1
abbrev pub variable_text : ℕ → List ℕ
variable_text k = codes "a" ++ decimal (k + 1)

-- the variable of a rec under k others, with its number from 1
abbrev pub binder_text : ℕ → List ℕ
binder_text k = codes "x" ++ decimal (k + 1)

-- texts with a separator before each
abbrev pub separated_text : List ℕ → List (List ℕ) → List ℕ
separated_text separator texts = flat_map (λ text. separator ++ text) texts

-- texts with a separator between each two
abbrev pub joined_text : List ℕ → List (List ℕ) → List ℕ
joined_text separator [] = []
joined_text separator (text ∷ texts) = text ++ separated_text separator texts

-- a text between braces
abbrev pub in_braces : List ℕ → List ℕ
in_braces text = codes "{" ++ text ++ codes "}"

-- a text between parentheses
abbrev pub in_parens : List ℕ → List ℕ
in_parens text = codes "(" ++ text ++ codes ")"

-- a text, in parentheses where it needs them
abbrev pub in_parens_if : Bool → List ℕ → List ℕ
in_parens_if true text = in_parens text
in_parens_if false text = text

-- on the left of a semicolon, a sequence and a rec stand in parentheses
abbrev pub in_parens_before_semicolon : Tree → Bool
in_parens_before_semicolon skip = false
in_parens_before_semicolon (send b) = false
in_parens_before_semicolon (receive b) = false
in_parens_before_semicolon close = false
in_parens_before_semicolon wait = false
in_parens_before_semicolon (select bs) = false
in_parens_before_semicolon (offer bs) = false
in_parens_before_semicolon (seq s r) = true
in_parens_before_semicolon (rec s) = true
in_parens_before_semicolon (back k) = false
in_parens_before_semicolon (var k) = false
in_parens_before_semicolon (plain b) = false
in_parens_before_semicolon (arrow u s r) = false
in_parens_before_semicolon (pair s r) = false
in_parens_before_semicolon (named k) = false

-- on the left of an arrow, an arrow stands in parentheses
abbrev pub in_parens_before_arrow : Tree → Bool
in_parens_before_arrow skip = false
in_parens_before_arrow (send b) = false
in_parens_before_arrow (receive b) = false
in_parens_before_arrow close = false
in_parens_before_arrow wait = false
in_parens_before_arrow (select bs) = false
in_parens_before_arrow (offer bs) = false
in_parens_before_arrow (seq s r) = false
in_parens_before_arrow (rec s) = false
in_parens_before_arrow (back k) = false
in_parens_before_arrow (var k) = false
in_parens_before_arrow (plain b) = false
in_parens_before_arrow (arrow u s r) = true
in_parens_before_arrow (pair s r) = false
in_parens_before_arrow (named k) = false

-- a function that is used at will, and one that is used once
abbrev pub arrow_text : Use → List ℕ
arrow_text Many = codes " -> "
arrow_text Once = codes " 1-> "

-- the k-th of some names
abbrev pub name_at : List (List ℕ) → ℕ → List ℕ
name_at names k = unwrap_or (slice_get names k) []

abbrev mutual
  -- a type that stands under n recs; the names are those of the data types
  pub text_under : List (List ℕ) → ℕ → Tree → List ℕ
  text_under names n skip = codes "Skip"
  text_under names n (send b) = send_text b
  text_under names n (receive b) = receive_text b
  text_under names n close = codes "Close"
  text_under names n wait = codes "Wait"
  text_under names n (select bs) = codes "+" ++ in_braces
      (joined_text (codes ", ") (branch_texts names n bs))
  text_under names n (offer bs) = codes "&" ++ in_braces
      (joined_text (codes ", ") (branch_texts names n bs))
  text_under names n (seq s r) = in_parens_if (in_parens_before_semicolon s)
      (text_under names n s) ++ codes ";" ++ text_under names n r
  text_under names n (rec s) = codes "rec " ++ binder_text n ++ codes ". " ++ text_under names
      (suc n) s
  text_under names n (back k) = binder_text (n - 1 - k)
  text_under names n (var k) = variable_text k
  text_under names n (plain b) = base_text b
  text_under names n (arrow u s r) = in_parens_if (in_parens_before_arrow s)
      (text_under names n s) ++ arrow_text u ++ text_under names n r
  text_under names n (pair s r) = in_parens
      (text_under names n s ++ codes ", " ++ text_under names n r)
  text_under names n (named k) = name_at names k

  -- the branches of a choice, each a label and its type
  pub branch_texts : List (List ℕ) → ℕ → Branches → List (List ℕ)
  branch_texts names n none = []
  branch_texts names n (branch l s bs) =
      (l ++ codes ": " ++ text_under names n s) ∷ branch_texts names n bs

-- the names of the data types
abbrev pub family_names : List Family → List (List ℕ)
family_names families = map (λ f. f.name) families

-- a type
abbrev pub type_text : List (List ℕ) → Tree → List ℕ
type_text names t = text_under names 0 t

-- a label of a word
abbrev pub label_text : Label → List ℕ
label_text (Send b) = send_text b
label_text (Receive b) = receive_text b
label_text (Select l) = codes "+" ++ l
label_text (Offer l) = codes "&" ++ l
label_text Close = codes "Close"
label_text Wait = codes "Wait"
label_text (Var k) = variable_text k

-- a word: its labels with a space between
abbrev pub word_text : List Label → List ℕ
word_text w = joined_text (codes " ") (map label_text w)

-- a side of a comparison
abbrev pub side_text : Side → List ℕ
side_text Left = codes "left"
side_text Right = codes "right"

-- how often a value may be used: at will, or once
abbrev pub use_text : Use → List ℕ
use_text Many = codes "*"
use_text Once = codes "1"

-- what a type describes: a protocol, or any value
abbrev pub prekind_text : Prekind → List ℕ
prekind_text Session = codes "S"
prekind_text Top = codes "T"

-- a kind: how often its values are used, and what they are
abbrev pub kind_text : Kind → List ℕ
kind_text k = use_text k.uses ++ prekind_text k.prekind

-- the k-th type variable with its kind
abbrev pub kinded_text : ℕ → Kind → List ℕ
kinded_text k kind = variable_text k ++ codes ":" ++ kind_text kind

-- type variables with their kinds, from the k-th on
abbrev pub variables_text : ℕ → List Kind → List (List ℕ)
variables_text k [] = []
variables_text k (kind ∷ kinds) = kinded_text k kind ∷ variables_text (suc k) kinds

-- the type variables of a question, where it has any
abbrev pub forall_text : List Kind → List ℕ
forall_text [] = []
forall_text (kind ∷ kinds) = codes "forall " ++ joined_text (codes ", ")
    (variables_text 0 (kind ∷ kinds)) ++ codes ". "

-- a question: two types over variables of these kinds
abbrev pub question_text : List Kind → Tree → Tree → List ℕ
question_text kinds s r = forall_text kinds ++ type_text [] s ++ codes " ~ " ++ type_text [] r

-- a cause, and two numbers of parts: that which is there, and that which is wanted
abbrev pub counts_text : List ℕ → ℕ → ℕ → List ℕ
counts_text cause got wanted = cause ++ decimal got ++ codes " wanted " ++ decimal wanted

-- two kinds: that of a part, and that which is wanted
abbrev pub kinds_text : Kind → Kind → List ℕ
kinds_text got wanted = codes "kind " ++ kind_text got ++ codes " wanted " ++ kind_text wanted

-- the word that just one of two protocols performs, and which of them
abbrev pub difference_text : {Z : Type 0} → Option (String Z × Side) → List ℕ
difference_text None = []
difference_text (Some (word, side)) =
    codes " word " ++ string_bytes word ++ codes " " ++ side_text side

-- two types: that of a term, and that which is wanted
abbrev pub mismatch_text : {Z : Type 0} → List ℕ → List ℕ → Option (String Z × Side) → List ℕ
mismatch_text got wanted difference =
    codes "type " ++ got ++ codes " wanted " ++ wanted ++ difference_text difference

-- why a text is refused
abbrev pub phrase_text : Phrase → List ℕ
phrase_text NotUtf8 = codes "not utf-8"
phrase_text BadChar = codes "bad character"
phrase_text WideNumber = codes "number too wide"
phrase_text LongName = codes "name too long"
phrase_text Syntax = codes "syntax"
phrase_text (Unbound name) = codes "unbound " ++ name
phrase_text (Twice name) = codes "twice " ++ name
phrase_text (AliasLoop name) = codes "alias loop " ++ name
phrase_text (Arity got wanted) = counts_text (codes "arity ") got wanted
phrase_text NoMain = codes "no main"
phrase_text NotContractive = codes "not contractive"
phrase_text (WrongKind got wanted) = kinds_text got wanted
phrase_text (UnboundType k) = codes "unbound type " ++ variable_text k
phrase_text (DoubleLabel l) = codes "double label " ++ l
phrase_text (Mismatch got wanted difference) =
    mismatch_text (string_bytes got) (string_bytes wanted) difference
phrase_text (Unused name) = codes "unused " ++ name
phrase_text (UsedTwice name) = codes "used twice " ++ name
phrase_text (CapturedLinear name) = codes "captured " ++ name
phrase_text (Unequal name) = codes "branches " ++ name
phrase_text (NotFunction t) = codes "not a function " ++ string_bytes t
phrase_text (NotPair t) = codes "not a pair " ++ string_bytes t
phrase_text (NotPrintable t) = codes "not printable " ++ string_bytes t
phrase_text (TypeArguments got wanted) = counts_text (codes "type arguments ") got wanted
phrase_text (KindOfArgument got wanted) = kinds_text got wanted
phrase_text (NoSuchMove asked t) = codes "no move " ++ string_bytes asked ++ codes " in "
    ++ string_bytes t
phrase_text (Arms t) = codes "arms " ++ string_bytes t
phrase_text (Dropped t) = codes "dropped " ++ string_bytes t
phrase_text Certificate = codes "certificate"
phrase_text NoBasis = codes "no basis"

-- a refusal: where, by line and column, and why
abbrev pub refusal_text : Refusal → List ℕ
refusal_text r = codes "refused " ++ decimal r.line ++ codes ":" ++ decimal r.column ++ codes " "
    ++ phrase_text r.phrase
