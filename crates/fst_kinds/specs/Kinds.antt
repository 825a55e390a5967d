-- The kinds of types (Almeida, Mordido, Thiemann, Vasconcelos, 2022).
use Rattle.std.specs.Prelude.{◌≡◌, List, Bool, true, false, ◌&&◌, Some, slice_get, ⊤}
use Rattle.fst_types.specs.Tree.{Tree, skip, send, receive, close, wait, select, offer, seq, rec, back, var, plain, arrow, pair, named, Branches, none, branch}
use Rattle.fst_types.specs.declared.kind.Kind.{Kind}
use Rattle.fst_types.specs.declared.kind.Prekind.{Prekind}
use Rattle.fst_types.specs.declared.kind.Prekind.TheVariants.{Session, Top}
use Rattle.fst_types.specs.declared.kind.Use.{Use}
use Rattle.fst_types.specs.declared.kind.Use.TheVariants.{Many, Once}

-- the kind *S or 1S of a session type
abbrev pub session : Use → Kind
session u = record { prekind = Session; uses = u }

-- the kind *T or 1T of a type of any values
abbrev pub top : Use → Kind
top u = record { prekind = Top; uses = u }

-- session types are types of any values
abbrev pub prekind_below : Prekind → Prekind → Bool
prekind_below Session p = true
prekind_below Top Session = false
prekind_below Top Top = true

-- what may be used often may be used once
abbrev pub use_below : Use → Use → Bool
use_below Many u = true
use_below Once Many = false
use_below Once Once = true

-- *S is below 1S and *T, both are below 1T, and each kind is below itself
abbrev pub subkind : Kind → Kind → Bool
subkind i j = prekind_below i.prekind j.prekind && use_below i.uses j.uses

-- once where either part is used once
abbrev pub join : Use → Use → Use
join Many v = v
join Once v = Once

abbrev mutual
  -- the type has this kind, where vars has the kinds of the signature's variables; a recursion variable has *S
  pub HasKind : List Kind → Tree → Kind → Type 0
  HasKind vars skip k = k ≡ session Many
  HasKind vars (send b) k = k ≡ session Once
  HasKind vars (receive b) k = k ≡ session Once
  HasKind vars close k = k ≡ session Once
  HasKind vars wait k = k ≡ session Once
  HasKind vars (select bs) k = AllSessions vars bs × (k ≡ session Once)
  HasKind vars (offer bs) k = AllSessions vars bs × (k ≡ session Once)
  HasKind vars (seq s r) k = (u : Use) ×
      (v : Use) × HasKind vars s (session u) × HasKind vars r (session v) × (k ≡ session (join u v))
  HasKind vars (rec s) k = HasKind vars s k × (k.prekind ≡ Session)
  HasKind vars (back n) k = k ≡ session Many
  HasKind vars (var n) k = slice_get vars n ≡ Some k
  HasKind vars (plain b) k = k ≡ top Many
  HasKind vars (arrow u s r) k = ((i : Kind) × HasKind vars s i) × ((j : Kind) × HasKind vars r j) ×
      (k ≡ top u)
  HasKind vars (pair s r) k = (i : Kind) × (j : Kind) × HasKind vars s i × HasKind vars r j ×
      (k ≡ top (join i.uses j.uses))
  HasKind vars (named n) k = k ≡ top Many

  -- the type of each branch is a session type
  pub AllSessions : List Kind → Branches → Type 0
  AllSessions vars none = ⊤
  AllSessions vars (branch l s bs) = ((u : Use) × HasKind vars s (session u)) × AllSessions vars bs

-- the kind of the type is below 1S
abbrev pub HasSessionKind : List Kind → Tree → Type 0
HasSessionKind vars s = (u : Use) × HasKind vars s (session u)
