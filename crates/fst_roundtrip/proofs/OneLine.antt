-- The text of a question is one line.
use Rattle.std.proofs.Common.{◌≡◌, ℕ, zero, suc, ◌+◌, ◌-◌, ◌/◌, ◌%◌, ◌==◌, Bool, true, false, not, List, [], ◌∷◌, ◌++◌, refl, arith}
use Rattle.std.specs.Prelude.{◌≢◌, All, codes, nat_lt, if◌then◌else◌}
use Rattle.std.specs.List.{AllByRecursion, list_all}
use Rattle.std.specs.Str.{byte, chars, NonePass}
use Rattle.std.specs.Fmt.{decimal, digit_glyph, digits, digits_onto}
use Rattle.std.proofs.lemmas.Bool.{and_parts}
use Rattle.std.proofs.lemmas.Bool.Decides.{nat_tests}
use Rattle.std.proofs.lemmas.List.Elements.{All-nil, All-cons, All-append, All-from_get_or}
use Rattle.std.proofs.lemmas.Str.{encodes-chars}
use Rattle.std.proofs.lemmas.Str.Pattern.{NoCharPasses-char}
use Rattle.unicode_ident.proofs.IdentLemmas.{is_xid_start-ascii, is_xid_continue-ascii}
use Rattle.fst_types.specs.Tree.{Tree, skip, send, receive, close, wait, select, offer, seq, rec, back, var, plain, arrow, pair, named, Branches, none, branch}
use Rattle.fst_types.specs.declared.base.Base.{Base}
use Rattle.fst_types.specs.declared.base.Base.TheVariants as base
use Rattle.fst_types.specs.declared.kind.Kind.{Kind}
use Rattle.fst_types.specs.declared.kind.Prekind.{Prekind}
use Rattle.fst_types.specs.declared.kind.Prekind.TheVariants.{Session, Top}
use Rattle.fst_types.specs.declared.kind.Use.{Use}
use Rattle.fst_types.specs.declared.kind.Use.TheVariants.{Many, Once}
use Rattle.fst_lexer.specs.Classes.{is_feed, starts_name, continues_name}
use Rattle.fst_lexer.specs.Spelling.{is_name}
use Rattle.fst_type_print.specs.Texts.{base_text, arrow_text, binder_text, variable_text, name_at, in_parens_if, in_parens_before_semicolon, in_parens_before_arrow, separated_text, joined_text, text_under, branch_texts, use_text, prekind_text, kinded_text, variables_text, forall_text, question_text}
use Rattle.fst_roundtrip.specs.ReadBack.{IsWritable, AreWritable}
use Rattle.fst_roundtrip.proofs.Showable.{IsUpperName}

-- no line ends in this text
abbrev IsLine : List ℕ → Type 0
IsLine text = All (λ b. b ≢ byte "\n") text

no_feed : (b : ℕ) → not (is_feed b) ≡ true → b ≢ byte "\n"
no_feed b e = grind (arith, nat_tests)

-- a text that is known
known : (text : List ℕ) → list_all (λ b. not (is_feed b)) text ≡ true → IsLine text
known [] e = All-nil (λ b. b ≢ byte "\n")
known (b ∷ text) e =
    let h = and_parts (not (is_feed b)) (list_all (λ c. not (is_feed c)) text) e in
    All-cons (λ c. c ≢ byte "\n") b text (no_feed b h.0) (known text h.1)

joined : (a b : List ℕ) → IsLine a → IsLine b → IsLine (a ++ b)
joined a b = All-append (λ c. c ≢ byte "\n") a b

-- names

starts_no_line : (c : ℕ) → starts_name c ≡ true → is_feed c ≡ false
starts_no_line c e = by (is_feed c) refl
  where
    by : (b : Bool) → is_feed c ≡ b → is_feed c ≡ false
    by false is = is
    by true is =
        let at : c ≡ byte "\n" = grind (arith, nat_tests) in
        let no : starts_name (byte "\n") ≡ false = rw (is_xid_start-ascii (byte "\n") (omega arith)) refl in
        absurd (cc (e, at, no))

goes_on_in_line : (c : ℕ) → continues_name c ≡ true → is_feed c ≡ false
goes_on_in_line c e = by (is_feed c) refl
  where
    by : (b : Bool) → is_feed c ≡ b → is_feed c ≡ false
    by false is = is
    by true is =
        let at : c ≡ byte "\n" = grind (arith, nat_tests) in
        let no : continues_name (byte "\n") ≡ false = rw (is_xid_continue-ascii (byte "\n") (omega arith)) refl in
        absurd (cc (e, at, no))

others_in_line : (cs : List ℕ) → list_all continues_name cs ≡ true → NonePass is_feed cs
others_in_line [] e = tt
others_in_line (c ∷ cs) e =
    let h = and_parts (continues_name c) (list_all continues_name cs) e in
    (goes_on_in_line c h.0, others_in_line cs h.1)

name_in_line : (cs : List ℕ) → is_name cs ≡ true → NonePass is_feed cs
name_in_line [] e = absurd (cc e)
name_in_line (c ∷ cs) e =
    let h = and_parts (starts_name c) (list_all continues_name cs) e in
    (starts_no_line c h.0, others_in_line cs h.1)

name_line : (x : List ℕ) → IsUpperName x → IsLine x
name_line x upper =
    let free = upper.0 in
    All-from_get_or (λ b. b ≢ byte "\n") x 0 (λ i below. NoCharPasses-char (byte "\n") x i
    (chars x, encodes-chars x free.utf8, name_in_line (chars x) free.name) (omega arith) below)

-- numbers

glyph_line : (d : ℕ) → digit_glyph false d ≢ byte "\n"
glyph_line d = by (nat_lt d 10)
  where
    by : (b : Bool) → (if b then 48 + d else (87 + d)) ≢ byte "\n"
    by true e = omega (arith, e)
    by false e = omega (arith, e)

digits_line : (k n : ℕ) (rest : List ℕ) → IsLine rest → IsLine (digits_onto k 10 false n rest)
digits_line zero n rest h = h
digits_line (suc k) n rest h =
    let more = All-cons (λ c. c ≢ byte "\n") (digit_glyph false (n % 10)) rest (glyph_line (n % 10)) h in
    by (n / 10 == 0) more (digits_line k (n / 10) (digit_glyph false (n % 10) ∷ rest) more)
  where
    by : (b : Bool) → IsLine (digit_glyph false (n % 10) ∷ rest) →
        IsLine (digits_onto k 10 false (n / 10) (digit_glyph false (n % 10) ∷ rest)) →
        IsLine (if b then digit_glyph false (n % 10) ∷ rest else digits_onto k 10 false (n / 10)
        (digit_glyph false (n % 10) ∷ rest))
    by true one more = one
    by false one more = more

decimal_line : (n : ℕ) → IsLine (decimal n)
unfolding digits
decimal_line n = digits_line 64 n [] (All-nil (λ b. b ≢ byte "\n"))

variable_line : (k : ℕ) → IsLine (variable_text k)
variable_line k = joined (codes "a") (decimal (k + 1)) (known (codes "a") refl) (decimal_line (k + 1))

binder_line : (k : ℕ) → IsLine (binder_text k)
binder_line k = joined (codes "x") (decimal (k + 1)) (known (codes "x") refl) (decimal_line (k + 1))

-- types

base_line : (b : Base) → IsLine (base_text b)
base_line base.Int = known (base_text base.Int) refl
base_line base.Bool = known (base_text base.Bool) refl
base_line base.Char = known (base_text base.Char) refl
base_line base.Unit = known (base_text base.Unit) refl

arrow_line : (u : Use) → IsLine (arrow_text u)
arrow_line Many = known (arrow_text Many) refl
arrow_line Once = known (arrow_text Once) refl

between_lines : (before text behind : List ℕ) → IsLine before → IsLine text → IsLine behind → IsLine (before ++ text ++ behind)
between_lines before text behind b t c = joined (before ++ text) behind (joined before text b t) c

parens_line : (b : Bool) (text : List ℕ) → IsLine text → IsLine (in_parens_if b text)
parens_line true text h = between_lines (codes "(") text (codes ")") (known (codes "(") refl) h (known (codes ")") refl)
parens_line false text h = h

separated_line : (texts : List (List ℕ)) → AllByRecursion IsLine texts → IsLine (separated_text (codes ", ") texts)
separated_line [] h = All-nil (λ b. b ≢ byte "\n")
separated_line (text ∷ texts) h = joined (codes ", " ++ text) (separated_text (codes ", ") texts)
    (joined (codes ", ") text (known (codes ", ") refl) h.0) (separated_line texts h.1)

list_line : (texts : List (List ℕ)) → AllByRecursion IsLine texts → IsLine (joined_text (codes ", ") texts)
list_line [] h = All-nil (λ b. b ≢ byte "\n")
list_line (text ∷ texts) h = joined text (separated_text (codes ", ") texts) h.0 (separated_line texts h.1)

no_name : (k : ℕ) → IsLine (name_at [] k)
no_name zero = All-nil (λ b. b ≢ byte "\n")
no_name (suc k) = All-nil (λ b. b ≢ byte "\n")

mutual
  type_line : (m n : ℕ) (t : Tree) → IsWritable m t → IsLine (text_under [] n t)
  type_line m n skip w = known (codes "Skip") refl
  type_line m n (send b) w = joined (codes "!") (base_text b) (known (codes "!") refl) (base_line b)
  type_line m n (receive b) w = joined (codes "?") (base_text b) (known (codes "?") refl) (base_line b)
  type_line m n close w = known (codes "Close") refl
  type_line m n wait w = known (codes "Wait") refl
  type_line m n (select bs) w =
      let text = joined_text (codes ", ") (branch_texts [] n bs) in
      joined (codes "+") (codes "{" ++ text ++ codes "}") (known (codes "+") refl)
      (between_lines (codes "{") text (codes "}") (known (codes "{") refl)
      (list_line (branch_texts [] n bs) (branch_lines m n bs w)) (known (codes "}") refl))
  type_line m n (offer bs) w =
      let text = joined_text (codes ", ") (branch_texts [] n bs) in
      joined (codes "&") (codes "{" ++ text ++ codes "}") (known (codes "&") refl)
      (between_lines (codes "{") text (codes "}") (known (codes "{") refl)
      (list_line (branch_texts [] n bs) (branch_lines m n bs w)) (known (codes "}") refl))
  type_line m n (seq s r) w =
      let left = in_parens_if (in_parens_before_semicolon s) (text_under [] n s) in
      between_lines left (codes ";") (text_under [] n r)
      (parens_line (in_parens_before_semicolon s) (text_under [] n s) (type_line m n s w.2)) (known (codes ";") refl)
      (type_line m n r w.3)
  type_line m n (rec s) w =
      between_lines (codes "rec " ++ binder_text n) (codes ". ") (text_under [] (suc n) s)
      (joined (codes "rec ") (binder_text n) (known (codes "rec ") refl) (binder_line n)) (known (codes ". ") refl)
      (type_line m (suc n) s w.1)
  type_line m n (back k) w = binder_line (n - 1 - k)
  type_line m n (var k) w = variable_line k
  type_line m n (plain b) w = base_line b
  type_line m n (arrow u s r) w =
      let left = in_parens_if (in_parens_before_arrow s) (text_under [] n s) in
      between_lines left (arrow_text u) (text_under [] n r)
      (parens_line (in_parens_before_arrow s) (text_under [] n s) (type_line m n s w.0)) (arrow_line u) (type_line m n r w.1)
  type_line m n (pair s r) w =
      let left = text_under [] n s in
      let right = text_under [] n r in
      between_lines (codes "(") (left ++ codes ", " ++ right) (codes ")") (known (codes "(") refl)
      (between_lines left (codes ", ") right (type_line m n s w.0) (known (codes ", ") refl) (type_line m n r w.1))
      (known (codes ")") refl)
  type_line m n (named k) w = no_name k

  branch_lines : (m n : ℕ) (bs : Branches) → AreWritable m bs → AllByRecursion IsLine (branch_texts [] n bs)
  branch_lines m n none w = tt
  branch_lines m n (branch l s bs) w = (
    between_lines l (codes ": ") (text_under [] n s) (name_line l w.0) (known (codes ": ") refl) (type_line m n s w.2),
    branch_lines m n bs w.3,
  )

-- variables

use_line : (u : Use) → IsLine (use_text u)
use_line Many = known (use_text Many) refl
use_line Once = known (use_text Once) refl

prekind_line : (p : Prekind) → IsLine (prekind_text p)
prekind_line Session = known (prekind_text Session) refl
prekind_line Top = known (prekind_text Top) refl

kinded_line : (k : ℕ) (kind : Kind) → IsLine (kinded_text k kind)
kinded_line k kind = between_lines (variable_text k) (codes ":") (use_text kind.uses ++ prekind_text kind.prekind)
    (variable_line k) (known (codes ":") refl)
    (joined (use_text kind.uses) (prekind_text kind.prekind) (use_line kind.uses) (prekind_line kind.prekind))

variable_lines : (k : ℕ) (kinds : List Kind) → AllByRecursion IsLine (variables_text k kinds)
variable_lines k [] = tt
variable_lines k (kind ∷ kinds) = (kinded_line k kind, variable_lines (suc k) kinds)

forall_line : (kinds : List Kind) → IsLine (forall_text kinds)
forall_line [] = All-nil (λ b. b ≢ byte "\n")
forall_line (kind ∷ kinds) =
    between_lines (codes "forall ") (joined_text (codes ", ") (variables_text 0 (kind ∷ kinds))) (codes ". ")
    (known (codes "forall ") refl) (list_line (variables_text 0 (kind ∷ kinds)) (variable_lines 0 (kind ∷ kinds)))
    (known (codes ". ") refl)

-- a question
pub question_line : (kinds : List Kind) (m : ℕ) (t u : Tree) → IsWritable m t → IsWritable m u → All (λ b. b ≢ byte "\n")
    (question_text kinds t u)
question_line kinds m t u v w =
    joined (forall_text kinds ++ text_under [] 0 t ++ codes " ~ ") (text_under [] 0 u)
    (between_lines (forall_text kinds) (text_under [] 0 t) (codes " ~ ") (forall_line kinds) (type_line m 0 t v)
    (known (codes " ~ ") refl)) (type_line m 0 u w)
