-- The first fault of a type: what the table of kinds asks, in the order in which it is asked.
use Rattle.std.specs.Prelude.{◌≡◌, ◌⊎◌, ℕ, List, [], ◌∷◌, ◌++◌, true, false, Some, None, slice_get}
use Rattle.fst_types.specs.Tree.{Tree, skip, send, receive, close, wait, select, offer, seq, rec, back, var, plain, arrow, pair, named, Branches, none, branch}
use Rattle.fst_types.specs.declared.kind.Kind.{Kind}
use Rattle.fst_types.specs.declared.kind.Use.TheVariants.{Once}
use Rattle.fst_kinds.specs.declared.fault.KindFault.{KindFault}
use Rattle.fst_kinds.specs.declared.fault.KindFault.TheVariants.{NotContractive, WrongKind, UnboundType, DoubleLabel}
use Rattle.fst_kinds.specs.Kinds.{session, subkind, HasKind, HasSessionKind}
use Rattle.fst_kinds.specs.Contractive.{reaches}
use Rattle.fst_kinds.specs.Walk.{double_label}

-- what is asked: of a choice that no label stands twice, and of each node what the table says of it
pub data Need : Type 0 where
  single : Branches → Need
  node : Tree → Need

abbrev mutual
  -- all that is asked of a type, from left to right: of a node after its parts, of a choice's labels before them
  pub needs : Tree → List Need
  needs skip = node skip ∷ []
  needs (send b) = node (send b) ∷ []
  needs (receive b) = node (receive b) ∷ []
  needs close = node close ∷ []
  needs wait = node wait ∷ []
  needs (select bs) = single bs ∷ (needs_all bs ++ node (select bs) ∷ [])
  needs (offer bs) = single bs ∷ (needs_all bs ++ node (offer bs) ∷ [])
  needs (seq s r) = needs s ++ (needs r ++ node (seq s r) ∷ [])
  needs (rec s) = needs s ++ node (rec s) ∷ []
  needs (back n) = node (back n) ∷ []
  needs (var n) = node (var n) ∷ []
  needs (plain b) = node (plain b) ∷ []
  needs (arrow u s r) = needs s ++ (needs r ++ node (arrow u s r) ∷ [])
  needs (pair s r) = needs s ++ (needs r ++ node (pair s r) ∷ [])
  needs (named n) = node (named n) ∷ []

  -- all that is asked of the types of the branches, one after the other
  pub needs_all : Branches → List Need
  needs_all none = []
  needs_all (branch l s bs) = needs s ++ needs_all bs

-- the types of the branches
abbrev pub bodies : Branches → List Tree
bodies none = []
bodies (branch l s bs) = s ∷ bodies bs

-- the parts of a node that have to be below 1S
abbrev pub session_parts : Tree → List Tree
session_parts skip = []
session_parts (send b) = []
session_parts (receive b) = []
session_parts close = []
session_parts wait = []
session_parts (select bs) = bodies bs
session_parts (offer bs) = bodies bs
session_parts (seq s r) = s ∷ r ∷ []
session_parts (rec s) = s ∷ []
session_parts (back n) = []
session_parts (var n) = []
session_parts (plain b) = []
session_parts (arrow u s r) = []
session_parts (pair s r) = []
session_parts (named n) = []

-- k is the kind of the first of these types whose kind isn't below 1S
abbrev pub IsFirstWrong : List Kind → List Tree → Kind → Type 0
IsFirstWrong vars [] k = ⊥
IsFirstWrong vars (s ∷ ss) k =
    (HasKind vars s k × (subkind k (session Once) ≡ false)) ⊎
    (HasSessionKind vars s × IsFirstWrong vars ss k)

-- what is asked fails, with this fault
pub data Fails (vars : List Kind) : Need → KindFault → Type 0 where
  -- a label of the choice stands twice
  double : {bs : Branches} {l : List ℕ} → double_label bs ≡ Some l →
      Fails vars (single bs) (DoubleLabel l)
  -- a part has to be below 1S and isn't
  wrong : {t : Tree} {k : Kind} → IsFirstWrong vars (session_parts t) k →
      Fails vars (node t) (WrongKind k (session Once))
  -- the body of a recursive type is below 1S, but comes to its own variable before any move
  unguarded : {s : Tree} → HasSessionKind vars s → reaches s 0 ≡ true →
      Fails vars (node (rec s)) NotContractive
  -- a variable is none of the signature's
  unbound : {n : ℕ} → slice_get vars n ≡ None → Fails vars (node (var n)) (UnboundType n)

-- what is asked holds
abbrev pub Holds : List Kind → Need → Type 0
Holds vars n = (f : KindFault) → Fails vars n f → ⊥

-- f is the fault of the first that fails
abbrev pub IsFirstFailure : List Kind → List Need → KindFault → Type 0
IsFirstFailure vars [] f = ⊥
IsFirstFailure vars (n ∷ ns) f = Fails vars n f ⊎ (Holds vars n × IsFirstFailure vars ns f)

-- the first fault of a type, where vars has the kinds of the signature's variables
abbrev pub IsFirstFault : List Kind → Tree → KindFault → Type 0
IsFirstFault vars t f = IsFirstFailure vars (needs t) f
