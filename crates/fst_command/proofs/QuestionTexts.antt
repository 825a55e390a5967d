-- Of the text of a question: its types have no names of data types, and it begins like no answer.
use Rattle.std.proofs.Common.{◌≡◌, ◌∙◌, ℕ, List, [], ◌∷◌, ◌++◌, Bool, true, false, sym, subst, append_assoc, arith}
use Rattle.std.specs.Prelude.{◌≢◌, codes}
use Rattle.std.specs.Str.{byte}
use Rattle.fst_types.specs.Tree.{Tree, skip, send, receive, close, wait, select, offer, seq, rec, back, var, plain, arrow, pair, named, Branches, none, branch}
use Rattle.fst_types.specs.Named.{IsNamedWithin, AllNamedWithin}
use Rattle.fst_types.specs.declared.base.Base.{Base}
use Rattle.fst_types.specs.declared.base.Base.TheVariants.{Int, Bool as Truth, Char, Unit as Nothing}
use Rattle.fst_types.specs.declared.kind.Kind.{Kind}
use Rattle.fst_types.specs.declared.kind.Use.{Use}
use Rattle.fst_types.specs.declared.kind.Use.TheVariants.{Many, Once}
use Rattle.fst_kinds.specs.Kinds.{session, join, HasKind, AllSessions}
use Rattle.fst_kinds.specs.WellFormed.{IsSession}
use Rattle.fst_kinds.proofs.Laws.{not_top}
use Rattle.fst_type_print.specs.Texts.{arrow_text, base_text, in_parens_if, in_parens_before_arrow, in_parens_before_semicolon, question_text, text_under}

-- ---- names

mutual
  has_no_names : (vars : List Kind) (t : Tree) (u : Use) → HasKind vars t (session u) → IsNamedWithin 0 t
  has_no_names vars skip u h = tt
  has_no_names vars (send b) u h = tt
  has_no_names vars (receive b) u h = tt
  has_no_names vars close u h = tt
  has_no_names vars wait u h = tt
  has_no_names vars (select bs) u h = have_no_names vars bs h.0
  has_no_names vars (offer bs) u h = have_no_names vars bs h.0
  has_no_names vars (seq s r) u h = (has_no_names vars s h.0 h.2, has_no_names vars r h.1 h.3)
  has_no_names vars (rec s) u h = has_no_names vars s u h.0
  has_no_names vars (back k) u h = tt
  has_no_names vars (var k) u h = tt
  has_no_names vars (plain b) u h = tt
  has_no_names vars (arrow v s r) u h = not_top u v h.2
  has_no_names vars (pair s r) u h = not_top u (join h.0.uses h.1.uses) h.4
  has_no_names vars (named k) u h = not_top u Many h

  have_no_names : (vars : List Kind) (bs : Branches) → AllSessions vars bs → AllNamedWithin 0 bs
  have_no_names vars none h = tt
  have_no_names vars (branch l s bs) h = (has_no_names vars s h.0.0 h.0.1, have_no_names vars bs h.1)

-- a session type names no data type
pub session_unnamed : (vars : List Kind) (t : Tree) → IsSession vars t → IsNamedWithin 0 t
session_unnamed vars t h = has_no_names vars t h.0 h.1.kinded

-- ---- how the text begins

-- the first byte of a text
abbrev pub initial : List ℕ → ℕ
initial [] = 0
initial (c ∷ cs) = c

-- the text begins with neither `n` nor `u`
abbrev pub IsApart : List ℕ → Type 0
IsApart text = (initial text ≢ byte "n") × (initial text ≢ byte "u")

apart : (c : ℕ) (text : List ℕ) → initial text ≡ c → c ≢ byte "n" → c ≢ byte "u" → IsApart text
apart c text is n u = (λ e. n (sym is ∙ e), λ e. u (sym is ∙ e))

-- in parentheses or not
apart_in_parens : (parens : Bool) (text rest : List ℕ) → IsApart (text ++ rest) → IsApart (in_parens_if parens text ++ rest)
apart_in_parens true text rest h = (λ e. absurd (omega (arith, e)), λ e. absurd (omega (arith, e)))
apart_in_parens false text rest h = h

apart_plain : (b : Base) (rest : List ℕ) → IsApart (base_text b ++ rest)
apart_plain Int rest = (λ e. absurd (omega (arith, e)), λ e. absurd (omega (arith, e)))
apart_plain Truth rest = (λ e. absurd (omega (arith, e)), λ e. absurd (omega (arith, e)))
apart_plain Char rest = (λ e. absurd (omega (arith, e)), λ e. absurd (omega (arith, e)))
apart_plain Nothing rest = (λ e. absurd (omega (arith, e)), λ e. absurd (omega (arith, e)))

apart_arrow : (u : Use) (rest : List ℕ) → IsApart (arrow_text u ++ rest)
apart_arrow Many rest = (λ e. absurd (omega (arith, e)), λ e. absurd (omega (arith, e)))
apart_arrow Once rest = (λ e. absurd (omega (arith, e)), λ e. absurd (omega (arith, e)))

-- a type before what begins with neither
apart_type : (n : ℕ) (t : Tree) (rest : List ℕ) → IsApart rest → IsApart (text_under [] n t ++ rest)
apart_type n skip rest h = (λ e. absurd (omega (arith, e)), λ e. absurd (omega (arith, e)))
apart_type n (send b) rest h = (λ e. absurd (omega (arith, e)), λ e. absurd (omega (arith, e)))
apart_type n (receive b) rest h = (λ e. absurd (omega (arith, e)), λ e. absurd (omega (arith, e)))
apart_type n close rest h = (λ e. absurd (omega (arith, e)), λ e. absurd (omega (arith, e)))
apart_type n wait rest h = (λ e. absurd (omega (arith, e)), λ e. absurd (omega (arith, e)))
apart_type n (select bs) rest h = (λ e. absurd (omega (arith, e)), λ e. absurd (omega (arith, e)))
apart_type n (offer bs) rest h = (λ e. absurd (omega (arith, e)), λ e. absurd (omega (arith, e)))
apart_type n (seq s r) rest h =
    let first = in_parens_if (in_parens_before_semicolon s) (text_under [] n s) in
    let behind = codes ";" ++ (text_under [] n r ++ rest) in
    let parted : first ++ behind ≡ text_under [] n (seq s r) ++ rest = simp append_assoc in
    subst IsApart parted (apart_in_parens (in_parens_before_semicolon s) (text_under [] n s) behind
    (apart_type n s behind (λ e. absurd (omega (arith, e)), λ e. absurd (omega (arith, e)))))
apart_type n (rec s) rest h = (λ e. absurd (omega (arith, e)), λ e. absurd (omega (arith, e)))
apart_type n (back k) rest h = (λ e. absurd (omega (arith, e)), λ e. absurd (omega (arith, e)))
apart_type n (var k) rest h = (λ e. absurd (omega (arith, e)), λ e. absurd (omega (arith, e)))
apart_type n (plain b) rest h = apart_plain b rest
apart_type n (arrow u s r) rest h =
    let first = in_parens_if (in_parens_before_arrow s) (text_under [] n s) in
    let behind = arrow_text u ++ (text_under [] n r ++ rest) in
    let parted : first ++ behind ≡ text_under [] n (arrow u s r) ++ rest = simp append_assoc in
    subst IsApart parted (apart_in_parens (in_parens_before_arrow s) (text_under [] n s) behind
    (apart_type n s behind (apart_arrow u (text_under [] n r ++ rest))))
apart_type n (pair s r) rest h = (λ e. absurd (omega (arith, e)), λ e. absurd (omega (arith, e)))
apart_type n (named k) rest h = h

-- the text of a question begins with neither
pub question_apart : (kinds : List Kind) (s r : Tree) (rest : List ℕ) → IsApart (question_text kinds s r ++ rest)
question_apart [] s r rest =
    let behind = codes " ~ " ++ (text_under [] 0 r ++ rest) in
    let parted : text_under [] 0 s ++ behind ≡ question_text [] s r ++ rest = simp append_assoc in
    subst IsApart parted (apart_type 0 s behind (λ e. absurd (omega (arith, e)), λ e. absurd (omega (arith, e))))
question_apart (k ∷ kinds) s r rest = (λ e. absurd (omega (arith, e)), λ e. absurd (omega (arith, e)))
