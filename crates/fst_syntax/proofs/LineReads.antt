-- Declarations one after the other, as the reader of modules reads them.
use Rattle.std.proofs.Common.{◌≡◌, ℕ, zero, suc, ◌≤◌, ◌<◌, Bool, true, false, List, [], ◌∷◌, ◌++◌, length, drop, Result, Ok, Err, refl, sym, ap, ◌∙◌, arith, append_assoc, length-append}
use Rattle.fst_lexer.specs.declared.token.Token.{Token}
use Rattle.fst_terms.specs.ModuleTree.{Declared}
use Rattle.fst_reading.specs.Lexeme.{Lexeme}
use Rattle.fst_reading.specs.Reading.{HaltOf, Syntax}
use Rattle.fst_base.specs.Choice.{choose}
use Rattle.fst_module_grammar.specs.Grammar.{Lined}
use Rattle.fst_module_grammar.specs.ModuleReading.{in_line, next_lines, cons_decl, first_decl, module_within, module_at}
use Rattle.fst_syntax.specs.Views.{lines_of, counted, line_read}
use Rattle.fst_module_grammar.proofs.Laws.{lines_are, ok_same, err_same}
use Rattle.fst_base.proofs.Choices.{choose_true, choose_false}

-- what was read before, and what is still read
abbrev pub with_decls : List Declared → Result (List Declared × List Lined) (HaltOf Lined) →
    Result (List Declared × List Lined) (HaltOf Lined)
with_decls front (Ok x) = Ok (front ++ x.0, x.1)
with_decls front (Err h) = Err h

pub with_none : (r : Result (List Declared × List Lined) (HaltOf Lined)) → with_decls [] r ≡ r
with_none (Ok x) = refl
with_none (Err h) = refl

with_one : (front : List Declared) (d : Declared) (r : Result (List Declared × List Lined) (HaltOf Lined)) →
    with_decls front (cons_decl (Ok d) r) ≡ with_decls (front ++ d ∷ []) r
with_one front d (Ok x) = ap (λ (ds : List Declared). Ok (ds, x.1)) (sym (append_assoc front (d ∷ []) x.0))
with_one front d (Err h) = refl

-- more declarations than there are tokens make no difference
enough : (limit n m : ℕ) (ts : List Lined) → length ts ≤ n → length ts ≤ m → module_within limit n ts ≡ module_within limit m ts
unfolding module_within
enough limit zero zero [] a b = refl
enough limit zero (suc m) [] a b = refl
enough limit (suc n) zero [] a b = refl
enough limit (suc n) (suc m) [] a b = refl
enough limit zero m (k ∷ ts) a b = absurd (omega (arith, a))
enough limit (suc n) zero (k ∷ ts) a b = absurd (omega (arith, b))
enough limit (suc n) (suc m) (k ∷ ts) a b =
    let few : length (next_lines ts) ≤ length ts =
    omega (arith, ap length (lines_are ts), length-append (in_line ts) (next_lines ts)) in
    let same = enough limit n m (next_lines ts) (omega (arith, a, few)) (omega (arith, b, few)) in
    ap (λ z. choose k.first (cons_decl (first_decl limit k ts) z) (Err (Syntax (k ∷ ts)))) same

-- what a declaration with its tokens says
counted_ok : (n m : ℕ) (r : Result Declared (HaltOf Lined)) (d : Declared) → counted n r ≡ Ok (d, m) → (r ≡ Ok d) × (n ≡ m)
counted_ok n m (Ok c) d e =
    let same = ok_same (c, n) (d, m) e in
    (ap (λ (p : Declared × ℕ). Ok p.0) same, ap (λ (p : Declared × ℕ). p.1) same)
counted_ok n m (Err h) d e = absurd cc

counted_err : (n : ℕ) (r : Result Declared (HaltOf Lined)) (h : HaltOf Lined) → counted n r ≡ Err h → r ≡ Err h
counted_err n (Ok c) h e = absurd cc
counted_err n (Err g) h e = cc

drop_length : (a b : List Lined) → drop (length a) (a ++ b) ≡ b
drop_length [] b = refl
drop_length (k ∷ a) b = drop_length a b

next_is : (ts : List Lined) → next_lines ts ≡ drop (length (in_line ts)) ts
next_is ts = sym (drop_length (in_line ts) (next_lines ts)) ∙ ap (drop (length (in_line ts))) (sym (lines_are ts))

-- a declaration that was read, and the lines behind it
pub one_line : (limit : ℕ) (ts : List Lined) (d : Declared) (n : ℕ) → line_read limit ts ≡ Ok (d, n) →
    (module_at limit ts ≡ cons_decl (Ok d) (module_at limit (drop n ts))) × (n ≤ length ts) × (0 < n)
unfolding line_read module_at module_within
one_line limit [] d n e = absurd cc
one_line limit (k ∷ ts) d n e = by_first k.first refl e
  where
    by_first : (b : Bool) → k.first ≡ b → choose b (counted (suc (length (in_line ts))) (first_decl limit k ts))
        (Err (Syntax (k ∷ ts))) ≡ Ok (d, n) →
        (choose k.first (cons_decl (first_decl limit k ts) (module_within limit (length ts) (next_lines ts)))
        (Err (Syntax (k ∷ ts))) ≡ cons_decl (Ok d) (module_at limit (drop n (k ∷ ts)))) × (n ≤ suc (length ts)) × (0 < n)
    by_first false f g = absurd (let none = sym (choose_false _ _ _ refl) ∙ g in cc)
    by_first true f g =
        let c = counted_ok (suc (length (in_line ts))) n (first_decl limit k ts) d (sym (choose_true _ _ _ refl) ∙ g) in
        let behind : drop n (k ∷ ts) ≡ next_lines ts = ap (λ (m : ℕ). drop m (k ∷ ts)) (sym c.1) ∙ sym (next_is ts) in
        let few : length (next_lines ts) ≤ length ts =
        omega (arith, ap length (lines_are ts), length-append (in_line ts) (next_lines ts)) in (
          choose_true _ _ _ f ∙ ap (λ z. cons_decl z (module_within limit (length ts) (next_lines ts))) c.0
              ∙ ap (cons_decl (Ok d)) (enough limit (length ts) (length (next_lines ts)) (next_lines ts) few (omega arith)
              ∙ ap (module_at limit) (sym behind)),
          omega (arith, c.1, ap length (lines_are ts), length-append (in_line ts) (next_lines ts)),
          omega (arith, c.1),
        )

-- a declaration that stopped
pub stopped_line : (limit : ℕ) (ts : List Lined) (h : HaltOf Lined) → 0 < length ts → line_read limit ts ≡ Err h →
    module_at limit ts ≡ Err h
unfolding line_read module_at module_within
stopped_line limit [] h lt e = absurd (omega (arith, lt))
stopped_line limit (k ∷ ts) h lt e = by_first k.first refl e
  where
    by_first : (b : Bool) → k.first ≡ b → choose b (counted (suc (length (in_line ts))) (first_decl limit k ts))
        (Err (Syntax (k ∷ ts))) ≡ Err h →
        choose k.first (cons_decl (first_decl limit k ts) (module_within limit (length ts) (next_lines ts)))
        (Err (Syntax (k ∷ ts))) ≡ Err h
    by_first false f g = choose_false _ _ _ f ∙ ap Err (err_same (Syntax (k ∷ ts)) h (sym (choose_false _ _ _ refl) ∙ g))
    by_first true f g =
        let c = counted_err (suc (length (in_line ts))) (first_decl limit k ts) h (sym (choose_true _ _ _ refl) ∙ g) in
        choose_true _ _ _ f ∙ ap (λ z. cons_decl z (module_within limit (length ts) (next_lines ts))) c

-- in a loop: one declaration further
pub goes_on : (limit : ℕ) (front : List Declared) (ts : List Lined) (d : Declared) (n : ℕ)
    (total : Result (List Declared × List Lined) (HaltOf Lined)) → line_read limit ts ≡ Ok (d, n) →
    with_decls front (module_at limit ts) ≡ total → with_decls (front ++ d ∷ []) (module_at limit (drop n ts)) ≡ total
goes_on limit front ts d n total e so_far = sym (with_one front d (module_at limit (drop n ts)))
    ∙ ap (with_decls front) (sym (one_line limit ts d n e).0) ∙ so_far

pub stops : (limit : ℕ) (front : List Declared) (ts : List Lined) (h : HaltOf Lined)
    (total : Result (List Declared × List Lined) (HaltOf Lined)) → 0 < length ts → line_read limit ts ≡ Err h →
    with_decls front (module_at limit ts) ≡ total → total ≡ Err h
stops limit front ts h total lt e so_far = sym so_far ∙ ap (with_decls front) (stopped_line limit ts h lt e)

-- at the end of the tokens
pub ended : (limit : ℕ) (front : List Declared) (total : Result (List Declared × List Lined) (HaltOf Lined)) →
    with_decls front (module_at limit []) ≡ total → total ≡ Ok (front ++ [], [])
unfolding module_at module_within
ended limit front total so_far = sym so_far

-- tokens by lines, from one on
pub lines_drop : (n : ℕ) (ts : List Token) (ls : List Lexeme) → lines_of (drop n ts) (drop n ls) ≡ drop n (lines_of ts ls)
lines_drop zero ts ls = refl
lines_drop (suc n) [] ls = refl
lines_drop (suc n) (t ∷ ts) [] = no_lines (drop n ts)
  where
    no_lines : (us : List Token) → lines_of us [] ≡ []
    no_lines [] = refl
    no_lines (u ∷ us) = refl
lines_drop (suc n) (t ∷ ts) (l ∷ ls) = lines_drop n ts ls

pub lines_count : (ts : List Token) (ls : List Lexeme) → length ls ≤ length ts → length (lines_of ts ls) ≡ length ls
lines_count [] [] le = refl
lines_count [] (l ∷ ls) le = absurd (omega (arith, le))
lines_count (t ∷ ts) [] le = refl
lines_count (t ∷ ts) (l ∷ ls) le = ap suc (lines_count ts ls (omega (arith, le)))
