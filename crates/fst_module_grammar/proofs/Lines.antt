-- Tokens by lines.
use Rattle.std.proofs.Common.{◌≡◌, ℕ, suc, ◌-◌, Bool, true, false, List, [], ◌∷◌, ◌++◌, length, drop, refl, sym, ap, subst, ◌∙◌, arith, length-append}
use Rattle.fst_terms.specs.ModuleTree.{Declared}
use Rattle.fst_reading.specs.Lexeme.{Lexeme}
use Rattle.fst_base.specs.Choice.{choose}
use Rattle.fst_base.proofs.Choices.{choose_true, choose_false}
use Rattle.fst_module_grammar.specs.Grammar.{Lined, lexemes_of, AreInside, IsModule, none, decl}
use Rattle.fst_module_grammar.specs.ModuleReading.{in_line, next_lines, last_of}

-- the first token, if any, begins a line
abbrev pub BeginsLine : List Lined → Type 0
BeginsLine [] = Unit {0}
BeginsLine (k ∷ ts) = k.first ≡ true

-- the tokens of a line, and those of the lines behind it
first_line : (k : Lined) (ts us vs : List Lined) (b : Bool) → ts ≡ us ++ vs →
    k ∷ ts ≡ choose b [] (k ∷ us) ++ choose b (k ∷ ts) vs
unfolding choose
first_line k ts us vs true e = refl
first_line k ts us vs false e = ap (λ (w : List Lined). k ∷ w) e

pub lines_are : (ts : List Lined) → ts ≡ in_line ts ++ next_lines ts
unfolding in_line next_lines
lines_are [] = refl
lines_are (k ∷ ts) = first_line k ts (in_line ts) (next_lines ts) k.first (lines_are ts)

inside_first : (k : Lined) (us : List Lined) (b : Bool) → k.first ≡ b → AreInside us → AreInside (choose b [] (k ∷ us))
unfolding choose
inside_first k us true e all = tt
inside_first k us false e all = (e, all)

pub inside_line : (ts : List Lined) → AreInside (in_line ts)
unfolding in_line
inside_line [] = tt
inside_line (k ∷ ts) = inside_first k (in_line ts) k.first refl (inside_line ts)

begins_first : (k : Lined) (ts us : List Lined) (b : Bool) → k.first ≡ b → BeginsLine us → BeginsLine (choose b (k ∷ ts) us)
unfolding choose
begins_first k ts us true e begins = e
begins_first k ts us false e begins = begins

pub begins_next : (ts : List Lined) → BeginsLine (next_lines ts)
unfolding next_lines
begins_next [] = tt
begins_next (k ∷ ts) = begins_first k ts (next_lines ts) k.first refl (begins_next ts)

-- the tokens up to the next line are the line
pub line_is : (ts us : List Lined) → AreInside ts → BeginsLine us → (in_line (ts ++ us) ≡ ts) × (next_lines (ts ++ us) ≡ us)
unfolding in_line next_lines
line_is [] [] inside begins = (refl, refl)
line_is [] (k ∷ us) inside begins = (choose_true _ _ _ begins, choose_true _ _ _ begins)
line_is (k ∷ ts) us inside begins =
    let o = line_is ts us inside.1 begins in
    (choose_false _ _ _ inside.0 ∙ ap (λ (w : List Lined). k ∷ w) o.0, choose_false _ _ _ inside.0 ∙ o.1)

-- a module begins a line
pub module_begins : (ts : List Lined) (ds : List Declared) → IsModule ts ds → BeginsLine ts
module_begins _ _ none = tt
module_begins _ _ (decl k ts us all d ds first inside is m parts) = subst BeginsLine (sym parts) first

-- the tokens without their lines, of two lists
pub unlined_append : (ts us : List Lined) → lexemes_of (ts ++ us) ≡ lexemes_of ts ++ lexemes_of us
unlined_append [] us = refl
unlined_append (k ∷ ts) us = ap (λ (w : List Lexeme). k.lexeme ∷ w) (unlined_append ts us)

-- where they are cut
pub record Cut (ts : List Lined) (a b : List Lexeme) : Type 0 where
  pub front : List Lined
  pub back : List Lined
  pub parts : ts ≡ front ++ back
  pub front_is : lexemes_of front ≡ a
  pub back_is : lexemes_of back ≡ b

pub cut : (ts : List Lined) (a b : List Lexeme) → lexemes_of ts ≡ a ++ b → Cut ts a b
cut ts [] b e = record { front = []; back = ts; parts = refl; front_is = refl; back_is = e }
cut [] (k ∷ a) b e = absurd (cc e)
cut (c ∷ ts) (k ∷ a) b e =
    let head : c.lexeme ≡ k = cc in
    let tail : lexemes_of ts ≡ a ++ b = cc in
    let o = cut ts a b tail in
    record {
      front = c ∷ o.front;
      back = o.back;
      parts = ap (λ (w : List Lined). c ∷ w) o.parts;
      front_is = let same =
          o.front_is in cc;
      back_is = o.back_is;
    }

pub unlined_length : (ts : List Lined) → length (lexemes_of ts) ≡ length ts
unlined_length [] = refl
unlined_length (k ∷ ts) = ap suc (unlined_length ts)

drop_front : (a b : List Lined) → drop (length a) (a ++ b) ≡ b
drop_front [] b = refl
drop_front (k ∷ a) b = drop_front a b

-- the last tokens of two lists are those of the second
pub last_is : (a b : List Lined) (s : List Lexeme) → lexemes_of b ≡ s → last_of (length s) (a ++ b) ≡ b
last_is a b s e =
    let n : length (a ++ b) - length s ≡ length a = omega (arith, length-append a b, ap length e, unlined_length b) in
    ap (λ (n : ℕ). drop n (a ++ b)) n ∙ drop_front a b

-- tokens that begin no line
abbrev pub as_inside : Lexeme → Lined
as_inside k = record { first = false; lexeme = k }

abbrev pub all_inside : List Lexeme → List Lined
all_inside [] = []
all_inside (k ∷ ts) = as_inside k ∷ all_inside ts

pub unlined_inside : (ts : List Lexeme) → lexemes_of (all_inside ts) ≡ ts
unlined_inside [] = refl
unlined_inside (k ∷ ts) = ap (λ (w : List Lexeme). k ∷ w) (unlined_inside ts)

pub all_are_inside : (ts : List Lexeme) → AreInside (all_inside ts)
all_are_inside [] = tt
all_are_inside (k ∷ ts) = (refl, all_are_inside ts)

pub inside_append : (ts us : List Lined) → AreInside ts → AreInside us → AreInside (ts ++ us)
inside_append [] us a b = b
inside_append (k ∷ ts) us a b = (a.0, inside_append ts us a.1 b)

pub inside_front : (ts us : List Lined) → AreInside (ts ++ us) → AreInside ts
inside_front [] us a = tt
inside_front (k ∷ ts) us a = (a.0, inside_front ts us a.1)
