-- What the names of types stand for in a module.
use Rattle.std.specs.Prelude.{ℕ, suc, List, [], ◌∷◌, Option, Some, None, if◌then◌else◌}
use Rattle.std.specs.Str.{bytes_eq}
use Rattle.fst_types.specs.Tree as tree
use Rattle.fst_types.specs.Tree.{Tree}
use Rattle.fst_types.specs.WrittenTree.{WrittenTree}
use Rattle.fst_terms.specs.ModuleTree.{Declared, family, alias, signature, equation}
use Rattle.fst_terms.specs.Naming.{Scope}

-- what is declared under the name of a type: a data type, by how many stand before it, or another name for a type
pub data TypeDecl : Type 0 where
  data_type : ℕ → TypeDecl
  other_name : WrittenTree → TypeDecl

-- the first declaration of a type with a name, where so many data types stand before
abbrev pub declared_from : ℕ → List Declared → List ℕ → Option TypeDecl
declared_from k [] x = None
declared_from k (family y ms ∷ ds) x =
    if bytes_eq x y.name then Some (data_type k) else declared_from (suc k) ds x
declared_from k (alias y w ∷ ds) x =
    if bytes_eq x y.name then Some (other_name w) else declared_from k ds x
declared_from k (signature y bs w ∷ ds) x = declared_from k ds x
declared_from k (equation y ps t ∷ ds) x = declared_from k ds x

-- the first declaration of a type with a name in a module
abbrev pub type_declared : List Declared → List ℕ → Option TypeDecl
type_declared ds x = declared_from 0 ds x

-- what stands for a name that is declared, where the aliases stand for these types
abbrev pub standing_for : (List ℕ → Option Tree) → List ℕ → Option TypeDecl → Option (Option Tree)
standing_for aliases x None = None
standing_for aliases x (Some (data_type k)) = Some (Some (tree.named k))
standing_for aliases x (Some (other_name w)) = Some (aliases x)

-- what is in scope where these variables are bound and these types declared; a name that isn't in scope is taken for `Skip`
abbrev pub scope_with : List (List ℕ) → (List ℕ → Option TypeDecl) → (List ℕ → Option Tree) → Scope
scope_with vars declared aliases = record {
  recs = [];
  vars = vars;
  declared =
      λ x. standing_for aliases x (declared x);
  otherwise = Some tree.skip;
}
