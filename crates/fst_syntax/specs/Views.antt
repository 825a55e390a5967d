-- What the reader of modules answers, as the definitions see it.
use Rattle.std.specs.Prelude.{◌≡◌, ℕ, suc, List, [], ◌∷◌, length, Result, Ok, Err, ⊤}
use Rattle.fst_lexer.specs.declared.token.Token.{Token}
use Rattle.fst_terms.specs.declared.module.Decl.{Decl}
use Rattle.fst_terms.specs.declared.module.SourceModule.{SourceModule}
use Rattle.fst_terms.specs.ModuleTree.{Declared, decl_tree}
use Rattle.fst_reading.specs.declared.fault.SyntaxFault.{SyntaxFault}
use Rattle.fst_reading.specs.declared.fault.SyntaxFault.TheVariants as fault
use Rattle.fst_reading.specs.Lexeme.{Lexeme, place}
use Rattle.fst_reading.specs.Reading.{HaltOf, Syntax, Deep}
use Rattle.fst_module_grammar.specs.Grammar.{Lined, lexemes_of}
use Rattle.fst_module_grammar.specs.ModuleReading.{first_decl, in_line}
use Rattle.fst_base.specs.Choice.{choose}
use Rattle.fst_terms.specs.ModuleView.{declarations}

-- tokens by lines, each with its text
abbrev pub lines_of : List Token → List Lexeme → List Lined
lines_of [] ls = []
lines_of (t ∷ ts) [] = []
lines_of (t ∷ ts) (l ∷ ls) = record { first = t.first_column; lexeme = l } ∷ lines_of ts ls

-- how many tokens stand in front of the first one that begins a line
unfoldable pub line_length : List Token → ℕ
line_length [] = 0
line_length (t ∷ ts) = choose t.first_column 0 (suc (line_length ts))

-- a declaration with a number of tokens
abbrev pub counted : ℕ → Result Declared (HaltOf Lined) → Result (Declared × ℕ) (HaltOf Lined)
counted n (Ok d) = Ok (d, n)
counted n (Err h) = Err h

-- the first declaration, and how many tokens it has
unfoldable pub line_read : ℕ → List Lined → Result (Declared × ℕ) (HaltOf Lined)
line_read limit [] = Err (Syntax [])
line_read limit (k ∷ ts) = choose k.first
    (counted (suc (length (in_line ts))) (first_decl limit k ts)) (Err (Syntax (k ∷ ts)))

-- the fault of a stop, where the text ends at this byte
abbrev pub line_fault : ℕ → HaltOf Lined → SyntaxFault
line_fault end (Syntax ts) = fault.Syntax (place end (lexemes_of ts))
line_fault end (Deep ts) = fault.TooDeep (place end (lexemes_of ts))

-- it gives the first declaration and how many tokens it has, or the fault there; want of memory says nothing
abbrev pub GivesLine : Result (Decl × ℕ) SyntaxFault → ℕ → Result (Declared × ℕ) (HaltOf Lined) →
    Type 0
GivesLine (Ok x) end read = read ≡ Ok (decl_tree x.0, x.1)
GivesLine (Err fault.Memory) end read = ⊤
GivesLine (Err e) end read = (h : HaltOf Lined) × (read ≡ Err h) × (e ≡ line_fault end h)

-- what the reader of modules answers, as the definitions see it
abbrev pub module_view : Result SourceModule SyntaxFault → Result (List Declared) SyntaxFault
module_view (Ok m) = Ok (declarations m)
module_view (Err e) = Err e
