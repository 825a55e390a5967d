-- Reading a declaration, at most so deep.
use Rattle.std.specs.Prelude.{ℕ, List, [], codes}
use Rattle.fst_types.specs.WrittenTree.{WrittenTree}
use Rattle.fst_terms.specs.declared.binder.Binder.{Binder}
use Rattle.fst_terms.specs.ModuleTree as declared
use Rattle.fst_terms.specs.ModuleTree.{Maker, Declared}
use Rattle.fst_reading.specs.Lexeme.{spells, lower_of, upper_of}
use Rattle.fst_reading.specs.Reading.{Reader, ◌>>=◌, map_reader, one, word, on, sep_by, many, finish}
use Rattle.fst_type_syntax.specs.TypeReading.{starts_type_atom, seq_at, type_at, atom_with as written_atom_with, binder_at}
use Rattle.fst_module_grammar.specs.Grammar.{bound}
use Rattle.fst_module_grammar.specs.TermReading.{names, expr_at}

-- the fields of a constructor
unfoldable pub fields_at : ℕ → Reader (List WrittenTree)
fields_at n = many starts_type_atom (written_atom_with (seq_at n) (type_at n))

-- a constructor and the types of its fields
unfoldable pub maker_at : ℕ → Reader Maker
maker_at n = do
  l ← one upper_of
  map_reader (λ types. record { name = bound l; fields = types }) (fields_at n)

-- behind `data`
unfoldable pub family_at : ℕ → Reader Declared
family_at n = do
  x ← one upper_of
  q ← word (codes "=")
  map_reader (declared.family (bound x)) (sep_by (spells (codes "|")) (maker_at n))

-- behind `type`
unfoldable pub alias_at : ℕ → Reader Declared
alias_at n = do
  x ← one upper_of
  q ← word (codes "=")
  map_reader (declared.alias (bound x)) (type_at n)

-- behind the colon of a signature
unfoldable pub signature_at : ℕ → Binder → Reader Declared
signature_at n x = on (spells (codes "forall"))
    (sep_by (spells (codes ",")) binder_at >>= λ bs. word (codes ".") >>= λ d. map_reader
    (declared.signature x bs) (type_at n))
    (map_reader (declared.signature x []) (type_at n))

-- the parameters and the body of a global
unfoldable pub equation_at : ℕ → Binder → Reader Declared
equation_at n x = do
  xs ← names
  q ← word (codes "=")
  map_reader (declared.equation x xs) (expr_at n)

-- a declaration, at most so deep
unfoldable pub decl_at : ℕ → Reader Declared
decl_at n = on (spells (codes "data")) (family_at n) (on (spells (codes "type")) (alias_at n)
    (one lower_of >>= λ x. on (spells (codes ":")) (signature_at n (bound x))
    (equation_at n (bound x))))

-- a declaration with nothing behind it
unfoldable pub decl_whole : ℕ → Reader Declared
decl_whole n = decl_at n >>= λ d. map_reader (λ e. d) finish
