-- The numbers and the flags that words may set.
use Rattle.std.proofs.Common.{◌≡◌, ◌∙◌, inl, inr, ℕ, ◌≤◌, List, [], ◌∷◌, ◌++◌, length, Bool, true, false, Result, Ok, refl, sym, ap, subst, append_assoc, arith, rules}
use Rattle.std.specs.Prelude.{◌==◌, codes}
use Rattle.std.proofs.lemmas.Bool.Decides.{nat_tests}
use Rattle.std.specs.List.{list_all}
use Rattle.std.specs.Char.{is_ascii_digit}
use Rattle.std.specs.Str.Parse.{ParsesUnsigned, digits_value}
use Rattle.std.proofs.lemmas.List.{append-nil, append_cancel_left}
use Rattle.std.proofs.lemmas.Str.Parse.{IsNumeralModel, numerals_by_value, parse_gives, digits_value_short}
use Rattle.fst_options.specs.declared.settings.Setting.{Setting as Set}
use Rattle.fst_options.specs.declared.settings.Setting.TheVariants.{Budget, Buffer, Steps, Workers}
use Rattle.fst_options.specs.declared.settings.Flag.{Flag}
use Rattle.fst_options.specs.declared.settings.Flag.TheVariants.{Events, Proof}
use Rattle.fst_options.specs.Words.{Setting, budget, buffer, steps, workers, setting_of, name_of, Begins, Sets, IsOneNumber}

own : IsNumeralModel (λ ds. list_all is_ascii_digit ds ≡ true) (digits_value 10)
own = numerals_by_value _ (search rules)

pub not_empty : (n : ℕ) (b : Bool) → b ≡ (n == 0) → b ≡ false → 1 ≤ n
not_empty n b test none = grind (arith, nat_tests)

-- at most nine digits are parsed
pub parsed : {E : Type 0} (digits : List ℕ) (r : Result ℕ E) → ParsesUnsigned 32 10 digits r →
    list_all is_ascii_digit digits ≡ true → 1 ≤ length digits → length digits ≤ 9 →
    r ≡ Ok (digits_value 10 digits)
parsed digits r h spelled some few = parse_gives own 32 digits r h spelled (omega arith)
    (omega (arith, digits_value_short own digits 9 spelled few))

-- ---- one reading

-- the first of words
abbrev front : List (List ℕ) → List ℕ
front [] = []
front (w ∷ ws) = w

-- a text isn't one with more behind it
longer : (xs ys : List ℕ) → xs ≡ xs ++ codes "=" ++ ys → ⊥
longer [] ys e = absurd (omega (arith, ap length e))
longer (x ∷ xs) ys e = longer xs ys (tails e)
  where
    tail : List ℕ → List ℕ
    tail [] = []
    tail (c ∷ cs) = cs

    tails : x ∷ xs ≡ x ∷ (xs ++ codes "=" ++ ys) → xs ≡ xs ++ codes "=" ++ ys
    tails e = ap tail e

-- words begin with an option in one way
one_begin : (name : List ℕ) (ws : List (List ℕ)) (ds es : List ℕ) (rest others : List (List ℕ)) → Begins name ws ds rest →
    Begins name ws es others → (ds ≡ es) × (rest ≡ others)
one_begin name [] ds es rest others p q = absurd p
one_begin name (w ∷ ws) ds es rest others (inl p) (inl q) =
    (append_cancel_left (name ++ codes "=") ds es (sym p.0 ∙ q.0), sym p.1 ∙ q.1)
one_begin name (w ∷ ws) ds es rest others (inl p) (inr q) = absurd (longer name ds (sym q.0 ∙ p.0))
one_begin name (w ∷ ws) ds es rest others (inr p) (inl q) = absurd (longer name es (sym p.0 ∙ q.0))
one_begin name (w ∷ ws) ds es rest others (inr p) (inr q) =
    let e : ds ∷ rest ≡ es ∷ others = sym p.1 ∙ q.1 in
    (cc, cc)

-- and set one value
pub one_setting : (o : Setting) (ws : List (List ℕ)) (m n : ℕ) (rest others : List (List ℕ)) → Sets o ws m rest →
    Sets o ws n others → (m ≡ n) × (rest ≡ others)
one_setting o ws m n rest others p q =
    let same = one_begin o.name ws p.digits q.digits rest others p.begins q.begins in
    (p.value.value ∙ ap (digits_value 10) same.0 ∙ sym q.value.value, same.1)

-- no words set nothing
pub none_set : (o : Setting) (ws : List (List ℕ)) (n : ℕ) (rest : List (List ℕ)) → ws ≡ [] → Sets o ws n rest → ⊥
none_set o [] n rest e p = absurd p.begins
none_set o (w ∷ ws) n rest e p = absurd (cc e)

-- the text in front of words that begin with an option begins with its name
begin_name : (name : List ℕ) (w : List ℕ) (ws : List (List ℕ)) (digits : List ℕ) (rest : List (List ℕ)) →
    Begins name (w ∷ ws) digits rest → (t : List ℕ) × (w ≡ name ++ t)
begin_name name w ws digits rest (inl p) = (codes "=" ++ digits, p.0 ∙ append_assoc name (codes "=") digits)
begin_name name w ws digits rest (inr p) = ([], p.0 ∙ sym (append-nil name))

-- the sixth byte of a text
abbrev sixth : List ℕ → ℕ
sixth (a ∷ b ∷ c ∷ d ∷ e ∷ f ∷ cs) = f
sixth cs = 0

-- that of an option's name
abbrev mark_of : Set → ℕ
mark_of o = sixth (setting_of o).name

-- the text in front of words that begin with an option has its mark
begin_mark : (o : Set) (w : List ℕ) (ws : List (List ℕ)) (n : ℕ) (rest : List (List ℕ)) → Sets (setting_of o) (w ∷ ws) n rest →
    sixth w ≡ mark_of o
begin_mark Budget w ws n rest p = ap sixth (begin_name budget.name w ws p.digits rest p.begins).1
begin_mark Buffer w ws n rest p = ap sixth (begin_name buffer.name w ws p.digits rest p.begins).1
begin_mark Steps w ws n rest p = ap sixth (begin_name steps.name w ws p.digits rest p.begins).1
begin_mark Workers w ws n rest p = ap sixth (begin_name workers.name w ws p.digits rest p.begins).1

same_mark_of : (o q : Set) → mark_of o ≡ mark_of q → o ≡ q
same_mark_of Budget Budget e = refl
same_mark_of Buffer Buffer e = refl
same_mark_of Steps Steps e = refl
same_mark_of Workers Workers e = refl
same_mark_of Budget Buffer e = absurd (omega (arith, e))
same_mark_of Budget Steps e = absurd (omega (arith, e))
same_mark_of Budget Workers e = absurd (omega (arith, e))
same_mark_of Buffer Budget e = absurd (omega (arith, e))
same_mark_of Buffer Steps e = absurd (omega (arith, e))
same_mark_of Buffer Workers e = absurd (omega (arith, e))
same_mark_of Steps Budget e = absurd (omega (arith, e))
same_mark_of Steps Buffer e = absurd (omega (arith, e))
same_mark_of Steps Workers e = absurd (omega (arith, e))
same_mark_of Workers Budget e = absurd (omega (arith, e))
same_mark_of Workers Buffer e = absurd (omega (arith, e))
same_mark_of Workers Steps e = absurd (omega (arith, e))

-- words begin by setting one option
pub one_set : (ws : List (List ℕ)) (o q : Set) (m n : ℕ) (rest others : List (List ℕ)) → Sets (setting_of o) ws m rest →
    Sets (setting_of q) ws n others → o ≡ q
one_set [] o q m n rest others p r = absurd p.begins
one_set (w ∷ ws) o q m n rest others p r = same_mark_of o q (sym (begin_mark o w ws m rest p) ∙ begin_mark q w ws n others r)

-- the mark of a flag
abbrev flag_mark : Flag → ℕ
flag_mark f = sixth (name_of f)

same_flag_mark : (f g : Flag) → flag_mark f ≡ flag_mark g → f ≡ g
same_flag_mark Events Events e = refl
same_flag_mark Proof Proof e = refl
same_flag_mark Events Proof e = absurd (omega (arith, e))
same_flag_mark Proof Events e = absurd (omega (arith, e))

-- words begin with one flag
pub one_flag : (ws : List (List ℕ)) (f g : Flag) (rest others : List (List ℕ)) → ws ≡ name_of f ∷ rest → ws ≡ name_of g ∷ others →
    (f ≡ g) × (rest ≡ others)
one_flag ws f g rest others p q =
    let same : name_of f ∷ rest ≡ name_of g ∷ others = sym p ∙ q in
    (same_flag_mark f g (ap (λ us. sixth (front us)) same), cc)

-- and no value is set by them
pub no_value_set : (ws : List (List ℕ)) (f : Flag) (rest : List (List ℕ)) → ws ≡ name_of f ∷ rest → (o : Set) (n : ℕ)
    (others : List (List ℕ)) → Sets (setting_of o) ws n others → ⊥
no_value_set ws f rest e o n others p =
    by f o (begin_mark o (name_of f) rest n others (subst (λ us. Sets (setting_of o) us n others) e p))
  where
    by : (f : Flag) (o : Set) → flag_mark f ≡ mark_of o → ⊥
    by Events Budget q = absurd (omega (arith, q))
    by Events Buffer q = absurd (omega (arith, q))
    by Events Steps q = absurd (omega (arith, q))
    by Events Workers q = absurd (omega (arith, q))
    by Proof Budget q = absurd (omega (arith, q))
    by Proof Buffer q = absurd (omega (arith, q))
    by Proof Steps q = absurd (omega (arith, q))
    by Proof Workers q = absurd (omega (arith, q))

-- words that set no budget, no steps, no workers and no buffer set nothing
pub sets_none : (ws : List (List ℕ)) → ((n : ℕ) (rest : List (List ℕ)) → Sets budget ws n rest → ⊥) →
    ((n : ℕ) (rest : List (List ℕ)) → Sets steps ws n rest → ⊥) →
    ((n : ℕ) (rest : List (List ℕ)) → Sets workers ws n rest → ⊥) →
    ((n : ℕ) (rest : List (List ℕ)) → Sets buffer ws n rest → ⊥) →
    (o : Set) (n : ℕ) (rest : List (List ℕ)) → Sets (setting_of o) ws n rest → ⊥
sets_none ws no_budget no_steps no_workers no_buffer Budget n rest p = no_budget n rest p
sets_none ws no_budget no_steps no_workers no_buffer Buffer n rest p = no_buffer n rest p
sets_none ws no_budget no_steps no_workers no_buffer Steps n rest p = no_steps n rest p
sets_none ws no_budget no_steps no_workers no_buffer Workers n rest p = no_workers n rest p

-- ---- one number

-- the only word is one number
pub one_number : (least most : ℕ) (ws : List (List ℕ)) (m n : ℕ) → IsOneNumber least most ws m →
    IsOneNumber least most ws n → m ≡ n
one_number least most ws m n p q =
    let same : p.digits ≡ q.digits = ap front (sym p.only ∙ q.only) in
    p.number.value ∙ ap (digits_value 10) same ∙ sym q.number.value
