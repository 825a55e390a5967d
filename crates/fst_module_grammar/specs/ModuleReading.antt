-- Reading a module: declaration by declaration, each up to the next token that begins a line.
use Rattle.std.specs.Prelude.{ℕ, zero, suc, ◌-◌, List, [], ◌∷◌, ◌++◌, length, drop, Result, Ok, Err}
use Rattle.fst_terms.specs.ModuleTree.{Declared}
use Rattle.fst_reading.specs.Lexeme.{Lexeme}
use Rattle.fst_reading.specs.Reading.{HaltOf, Halt, Syntax, Deep, ReaderOf}
use Rattle.fst_module_grammar.specs.Grammar.{Lined, lexemes_of}
use Rattle.fst_module_grammar.specs.DeclReading.{decl_whole}
use Rattle.fst_base.specs.Choice.{choose}

-- the tokens in front of the first one that begins a line
unfoldable pub in_line : List Lined → List Lined
in_line [] = []
in_line (k ∷ ts) = choose k.first [] (k ∷ in_line ts)

-- that token and those behind it
unfoldable pub next_lines : List Lined → List Lined
next_lines [] = []
next_lines (k ∷ ts) = choose k.first (k ∷ ts) (next_lines ts)

-- the last so many tokens
abbrev pub last_of : ℕ → List Lined → List Lined
last_of n ts = drop (length ts - n) ts

-- a declaration that was read whole, or what was left of it where it stopped and the lines behind it
abbrev pub in_front : List Lined → List Lined → Result (Declared × List Lexeme) Halt →
    Result Declared (HaltOf Lined)
in_front line more (Ok x) = Ok x.0
in_front line more (Err (Syntax s)) = Err (Syntax (last_of (length s) line ++ more))
in_front line more (Err (Deep s)) = Err (Deep (last_of (length s) line ++ more))

-- a declaration and what was read behind it
abbrev pub cons_decl : Result Declared (HaltOf Lined) →
    Result (List Declared × List Lined) (HaltOf Lined) →
    Result (List Declared × List Lined) (HaltOf Lined)
cons_decl (Ok d) (Ok x) = Ok (d ∷ x.0, x.1)
cons_decl (Ok d) (Err h) = Err h
cons_decl (Err h) read = Err h

-- the first declaration, where a token begins a line
abbrev pub first_decl : ℕ → Lined → List Lined → Result Declared (HaltOf Lined)
first_decl limit k ts = in_front (k ∷ in_line ts) (next_lines ts)
    (decl_whole limit (k.lexeme ∷ lexemes_of (in_line ts)))

-- at most so many declarations, of which each token is at most so deep
unfoldable pub module_within : ℕ → ℕ → ReaderOf Lined (List Declared)
module_within limit n [] = Ok ([], [])
module_within limit zero (k ∷ ts) = Err (Syntax (k ∷ ts))
module_within limit (suc n) (k ∷ ts) =
    choose k.first (cons_decl (first_decl limit k ts) (module_within limit n (next_lines ts)))
    (Err (Syntax (k ∷ ts)))

-- a module
unfoldable pub module_at : ℕ → ReaderOf Lined (List Declared)
module_at limit ts = module_within limit (length ts) ts
