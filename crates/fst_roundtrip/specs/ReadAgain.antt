-- What stands in the text of a module is the module again.
use Rattle.std.specs.Prelude.{◌≡◌, ℕ, List, map}
use Rattle.fst_lexer.specs.declared.token.Token.{Token}
use Rattle.fst_lexer.specs.Lexes.{Lexes}
use Rattle.fst_terms.specs.ModuleTree.{Declared}
use Rattle.fst_module_grammar.specs.Grammar.{IsModule}
use Rattle.fst_module_grammar.specs.Derives.{line_lexemes}
use Rattle.fst_print.specs.ModuleTexts.{module_text}
use Rattle.fst_roundtrip.specs.Unplaced.{unplaced_decl}

-- the tokens of the module's text derive a module that differs from it in places alone, and so has the same text
pub record IsReadAgain (ds : List Declared) : Type 0 where
  pub tokens : List Token
  pub read : List Declared
  pub lexes : Lexes (module_text ds) tokens
  pub derives : IsModule (line_lexemes (module_text ds) tokens) read
  pub same : map unplaced_decl read ≡ map unplaced_decl ds
  pub same_text : module_text read ≡ module_text ds

-- so do those of each module that a text has
abbrev pub ReadAgain : Type 0
ReadAgain = (text : List ℕ) (tokens : List Token) (ds : List Declared) → Lexes text tokens →
    IsModule (line_lexemes text tokens) ds → IsReadAgain ds
