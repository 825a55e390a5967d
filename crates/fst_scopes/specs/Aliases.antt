-- What the aliases of a module stand for, and which of them lead back to themselves.
use Rattle.std.specs.Prelude.{◌≡◌, ◌↔◌, ℕ, Bool, true, List, [], ◌∷◌, ◌++◌, Contains, Option, Some, if◌then◌else◌}
use Rattle.fst_types.specs.Tree.{Tree}
use Rattle.fst_types.specs.WrittenTree.{WrittenTree, WrittenBranches, skip, send, receive, close, wait, select, offer, seq, rec, named, plain, arrow, pair, none, branch}
use Rattle.fst_terms.specs.Naming.{type_of}
use Rattle.fst_scopes.specs.Faults.{is_among}
use Rattle.fst_scopes.specs.TypeNames.{TypeDecl, other_name, scope_with}

-- an alias stands for its type, with what further aliases stand for in their places; one that leads to a loop stands for none
pub data StandsFor (declared : List ℕ → Option TypeDecl) : List ℕ → Tree → Type 0 where
  alias : (others : List ℕ → Option Tree) (x : List ℕ) (w : WrittenTree) (t : Tree) →
      declared x ≡ Some (other_name w) →
      ((y : List ℕ) (u : Tree) → others y ≡ Some u → StandsFor declared y u) →
      type_of (scope_with [] declared others) w ≡ Some t → StandsFor declared x t

abbrev mutual
  -- the names in a type other than those of `rec`s around them, of which these are names already
  pub names_in : List (List ℕ) → WrittenTree → List (List ℕ)
  names_in recs (skip at) = []
  names_in recs (send at b) = []
  names_in recs (receive at b) = []
  names_in recs (close at) = []
  names_in recs (wait at) = []
  names_in recs (select at bs) = names_in_all recs bs
  names_in recs (offer at bs) = names_in_all recs bs
  names_in recs (seq at t u) = names_in recs t ++ names_in recs u
  names_in recs (rec at x t) = names_in (x ∷ recs) t
  names_in recs (named at x) = if is_among recs x then [] else x ∷ []
  names_in recs (plain at b) = []
  names_in recs (arrow at uses t u) = names_in recs t ++ names_in recs u
  names_in recs (pair at t u) = names_in recs t ++ names_in recs u

  -- those in some branches
  pub names_in_all : List (List ℕ) → WrittenBranches → List (List ℕ)
  names_in_all recs none = []
  names_in_all recs (branch l t bs) = names_in recs t ++ names_in_all recs bs

-- the type of an alias has a name in it
pub record Names (declared : List ℕ → Option TypeDecl) (x y : List ℕ) : Type 0 where
  pub its_type : WrittenTree
  pub is_alias : declared x ≡ Some (other_name its_type)
  pub is_in : Contains (names_in [] its_type) y

-- an alias leads to a name that stands in its type, and to all that this one leads to
pub data LeadsTo (declared : List ℕ → Option TypeDecl) : List ℕ → List ℕ → Type 0 where
  one : (x y : List ℕ) → Names declared x y → LeadsTo declared x y
  further : (x y z : List ℕ) → Names declared x y → LeadsTo declared y z → LeadsTo declared x z

-- what is known of aliases: what each stands for, if anything, and whether it leads back to itself
pub record Known : Type 0 where
  pub stands : List ℕ → Option Tree
  pub loops : List ℕ → Bool

-- this is what is known
pub record IsKnown (declared : List ℕ → Option TypeDecl) (k : Known) : Type 0 where
  pub stands_for : (x : List ℕ) (t : Tree) → (k.stands x ≡ Some t) ↔ StandsFor declared x t
  pub leads_back : (x : List ℕ) → (k.loops x ≡ true) ↔ LeadsTo declared x x
