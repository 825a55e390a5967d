-- What may stand behind a term and make it longer.
use Rattle.std.proofs.Common.{◌≡◌, ℕ, Bool, false, ◌||◌, List, [], ◌∷◌, refl, ap, ◌∙◌}
use Rattle.std.specs.Prelude.{codes}
use Rattle.std.specs.Str.{bytes_eq}
use Rattle.fst_terms.specs.declared.term.Op.TheVariants as op
use Rattle.fst_reading.specs.Lexeme.{Lexeme, spells, Is}
use Rattle.fst_reading.specs.Reading.{begins}
use Rattle.fst_reading.proofs.Tokens.{fixed, spelled}
use Rattle.fst_module_grammar.specs.TermReading.{operator, addition, comparison, is_op, is_start, atom_named, starts_atom}
use Rattle.fst_module_grammar.proofs.TermTokens.{atom_spelled}
use Rattle.fst_base.specs.Choice.{choose}

-- whether a token is an operator of such a chain
abbrev pub times : Lexeme → Bool
times k = is_op (operator (codes "*") op.Multiply k)

abbrev pub adds : Lexeme → Bool
adds k = is_op (addition k)

abbrev pub compares : Lexeme → Bool
compares k = is_op (comparison k)

abbrev pub ands : Lexeme → Bool
ands k = is_op (operator (codes "&&") op.And k)

abbrev pub ors : Lexeme → Bool
ors k = is_op (operator (codes "||") op.Or k)

-- what goes on with an atom, an application, and so on up to a whole term
abbrev pub at : List Lexeme → Bool
at ts = begins (spells (codes "@")) ts

abbrev pub after_app : List Lexeme → Bool
after_app ts = at ts || begins starts_atom ts

abbrev pub after_prod : List Lexeme → Bool
after_prod ts = after_app ts || begins times ts

abbrev pub after_sum : List Lexeme → Bool
after_sum ts = after_prod ts || begins adds ts

abbrev pub after_cmp : List Lexeme → Bool
after_cmp ts = after_sum ts || begins compares ts

abbrev pub after_and : List Lexeme → Bool
after_and ts = after_cmp ts || begins ands ts

abbrev pub after_or : List Lexeme → Bool
after_or ts = after_and ts || begins ors ts

abbrev pub after_expr : List Lexeme → Bool
after_expr ts = after_or ts || begins (spells (codes ";")) ts

-- a reserved word or a sign goes on with a term where the same word, made up, does
pub as_fixed : (w : List ℕ) (k : Lexeme) (ts : List Lexeme) → Is w k → after_expr (k ∷ ts) ≡ after_expr (fixed w 0 ∷ [])
unfolding operator addition comparison choose
as_fixed w k ts is =
    let s : (v : List ℕ) → spells v k ≡ bytes_eq w v = λ v. spelled w v k is in
    rw (
      ap is_start (atom_spelled w k is),
      s (codes "@"),
      s (codes "*"),
      s (codes "+"),
      s (codes "-"),
      s (codes "=="),
      s (codes "/="),
      s (codes "<"),
      s (codes "<="),
      s (codes ">"),
      s (codes ">="),
      s (codes "&&"),
      s (codes "||"),
      s (codes ";"),
    ) refl

-- the words that end a term
pub data Ends : List ℕ → Type 0 where
  closes : Ends (codes ")")
  comma : Ends (codes ",")
  brace : Ends (codes "}")
  in_ : Ends (codes "in")
  then_ : Ends (codes "then")
  else_ : Ends (codes "else")
  of_ : Ends (codes "of")
  with_ : Ends (codes "with")

ended : (w : List ℕ) → Ends w → after_expr (fixed w 0 ∷ []) ≡ false
unfolding operator addition comparison atom_named choose
ended _ closes = refl
ended _ comma = refl
ended _ brace = refl
ended _ in_ = refl
ended _ then_ = refl
ended _ else_ = refl
ended _ of_ = refl
ended _ with_ = refl

-- such a word goes on with no term
pub ends_expr : (w : List ℕ) → Ends w → (k : Lexeme) (ts : List Lexeme) → Is w k → after_expr (k ∷ ts) ≡ false
ends_expr w e k ts is = as_fixed w k ts is ∙ ended w e

-- the same of the parts of a term
pub app_fixed : (w : List ℕ) (k : Lexeme) (ts : List Lexeme) → Is w k → after_app (k ∷ ts) ≡ after_app (fixed w 0 ∷ [])
app_fixed w k ts is = rw (ap is_start (atom_spelled w k is), spelled w (codes "@") k is) refl

pub prod_fixed : (w : List ℕ) (k : Lexeme) (ts : List Lexeme) → Is w k → after_prod (k ∷ ts) ≡ after_prod (fixed w 0 ∷ [])
unfolding operator choose
prod_fixed w k ts is = rw (app_fixed w k ts is, spelled w (codes "*") k is) refl

pub sum_fixed : (w : List ℕ) (k : Lexeme) (ts : List Lexeme) → Is w k → after_sum (k ∷ ts) ≡ after_sum (fixed w 0 ∷ [])
unfolding addition choose
sum_fixed w k ts is = rw (prod_fixed w k ts is, spelled w (codes "+") k is, spelled w (codes "-") k is) refl

pub cmp_fixed : (w : List ℕ) (k : Lexeme) (ts : List Lexeme) → Is w k → after_cmp (k ∷ ts) ≡ after_cmp (fixed w 0 ∷ [])
unfolding comparison choose
cmp_fixed w k ts is =
    let s : (v : List ℕ) → spells v k ≡ bytes_eq w v = λ v. spelled w v k is in
    rw (sum_fixed w k ts is, s (codes "=="), s (codes "/="), s (codes "<"), s (codes "<="), s (codes ">"), s (codes ">=")) refl

pub and_fixed : (w : List ℕ) (k : Lexeme) (ts : List Lexeme) → Is w k → after_and (k ∷ ts) ≡ after_and (fixed w 0 ∷ [])
unfolding operator choose
and_fixed w k ts is = rw (cmp_fixed w k ts is, spelled w (codes "&&") k is) refl

pub or_fixed : (w : List ℕ) (k : Lexeme) (ts : List Lexeme) → Is w k → after_or (k ∷ ts) ≡ after_or (fixed w 0 ∷ [])
unfolding operator choose
or_fixed w k ts is = rw (and_fixed w k ts is, spelled w (codes "||") k is) refl
