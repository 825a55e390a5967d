-- What a search keeps true of what it has met (Gabow, 2000).
use Rattle.std.specs.Prelude.{◌≡◌, ◌↔◌, ◌⊎◌, ℕ, ◌+◌, ◌<◌, ◌≤◌, List, [], ◌∷◌, ◌++◌, length, take, Bool, true, false, All, Contains, slice_index, slice_index_or, slice_set, ⊤}
use Rattle.fst_loops.specs.Graphs.{edges, Leads, is_looped}
use Rattle.fst_loops.specs.declared.search.Mark.{Mark}
use Rattle.fst_loops.specs.declared.search.Mark.TheVariants.{Unseen, Open, Done}
use Rattle.fst_loops.specs.declared.search.Part.{Part}
use Rattle.fst_loops.specs.declared.search.Search.{Search}

-- the mark of a node
abbrev pub mark_at : List Mark → ℕ → Mark
mark_at marks x = slice_index_or marks x Unseen

-- the list with one value at each of these places
abbrev pub set_all : {A : Type 0} → List A → List ℕ → A → List A
set_all xs [] v = xs
set_all xs (n ∷ places) v = set_all (slice_set xs n v) places v

-- what is noted of a part's nodes: several are all on loops, of one nothing new is known
abbrev pub IsNoted : List Bool → List ℕ → List Bool → Type 0
IsNoted old nodes new = ((1 < length nodes) × (new ≡ set_all old nodes true)) ⊎
    ((length nodes ≤ 1) × (new ≡ old))

-- the open nodes are those on the path, each marked with its place
pub record IsPath (marks : List Mark) (path : List ℕ) : Type 0 where
  pub marked : (p : ℕ) → p < length path → mark_at marks (slice_index path p) ≡ Open p
  pub placed : (x p : ℕ) → mark_at marks x ≡ Open p → (p < length path) × (slice_index path p ≡ x)

-- parts begin one behind the other
abbrev pub AreInOrder : List Part → Type 0
AreInOrder [] = ⊤
AreInOrder (a ∷ parts) = ((b : Part) → Contains parts b → (a.first ≤ b.first) ×
    (a.before ≤ b.before)) × AreInOrder parts

-- the first part begins at the path's begin; a path without parts is empty
abbrev pub CoverFrom : List Part → ℕ → Type 0
CoverFrom [] len = len ≡ 0
CoverFrom (a ∷ parts) len = a.first ≡ 0

-- the parts divide the path and what is pending
pub record AreParts (path : List ℕ) (parts : List Part) (pending : List ℕ) : Type 0 where
  pub rising : AreInOrder parts
  pub within : (b : Part) → Contains parts b → (b.first ≤ length path) × (b.before ≤ length pending)
  pub cover : CoverFrom parts (length path)

-- the second place is in the first one's part or in a later one
abbrev pub IsAhead : List Part → ℕ → ℕ → Type 0
IsAhead parts p q = (b : Part) → Contains parts b → b.first ≤ p → b.first ≤ q

-- each open node leads to the others of its part and of those behind it
abbrev pub IsConnected : List (List ℕ) → List ℕ → List Part → Type 0
IsConnected g path parts = (p q : ℕ) → p < length path → q < length path → IsAhead parts p q →
    (slice_index path p ≡ slice_index path q) ⊎ Leads g (slice_index path p) (slice_index path q)

-- an edge of the open node at a place leads to this one, and what is pending there belongs to that place's part
pub record IsSource (g : List (List ℕ)) (path : List ℕ) (parts : List Part)
    (p i y : ℕ) : Type 0 where
  pub within : p < length path
  pub leads : Contains (edges g (slice_index path p)) y
  pub part : (b : Part) → Contains parts b → (b.before ≤ i) ↔ (b.first ≤ p)

-- all that is pending has a source
abbrev pub HaveSources : List (List ℕ) → List ℕ → List Part → List ℕ → Type 0
HaveSources g path parts pending = (i : ℕ) → i < length pending →
    (p : ℕ) × IsSource g path parts p i (slice_index pending i)

-- the node is done, or open in the part of this place or in a later one
abbrev pub IsMet : List Mark → List Part → ℕ → ℕ → Type 0
IsMet marks parts p y = (mark_at marks y ≡ Done) ⊎
    ((q : ℕ) × (mark_at marks y ≡ Open q) × IsAhead parts p q)

-- the node is pending in the part of this place or in a later one
abbrev pub IsPending : List Part → List ℕ → ℕ → ℕ → Type 0
IsPending parts pending p y = (i : ℕ) × (i < length pending) × (slice_index pending i ≡ y) ×
    ((b : Part) → Contains parts b → b.first ≤ p → b.before ≤ i)

-- each edge of an open node is pending, or leads to a node that is done or was met again
abbrev pub AreFollowed : List (List ℕ) → List Mark → List ℕ → List Part → List ℕ → Type 0
AreFollowed g marks path parts pending =
    (p y : ℕ) → p < length path → Contains (edges g (slice_index path p)) y →
    IsPending parts pending p y ⊎ IsMet marks parts p y

-- what is found so far: of the nodes that are done all is known
pub record IsFound (g : List (List ℕ)) (marks : List Mark) (order : List ℕ)
    (looped : List Bool) : Type 0 where
  pub marked : length marks ≡ length g
  pub told : length looped ≡ length g
  pub closed : (x y : ℕ) → mark_at marks x ≡ Done → Contains (edges g x) y → mark_at marks y ≡ Done
  pub ordered : (x : ℕ) → (mark_at marks x ≡ Done) ↔ Contains order x
  pub own : (x : ℕ) → Contains (edges g x) x → is_looped looped x ≡ true
  pub sound : (x : ℕ) → is_looped looped x ≡ true → Leads g x x
  pub complete : (x : ℕ) → mark_at marks x ≡ Done → is_looped looped x ≡ false → Leads g x x → ⊥
  pub behind : (i : ℕ) → i < length order → is_looped looped (slice_index order i) ≡ false →
      (y : ℕ) → Contains (edges g (slice_index order i)) y → Contains (take i order) y

-- all that a search keeps true
pub record Holds (g : List (List ℕ)) (marks : List Mark) (path : List ℕ) (parts : List Part)
    (pending order : List ℕ) (looped : List Bool) : Type 0 where
  pub placed : IsPath marks path
  pub divided : AreParts path parts pending
  pub connected : IsConnected g path parts
  pub sources : HaveSources g path parts pending
  pub followed : AreFollowed g marks path parts pending
  pub found : IsFound g marks order looped

-- all open nodes lead to this one
abbrev pub AllLeadTo : List (List ℕ) → List ℕ → ℕ → Type 0
AllLeadTo g path y = (p : ℕ) → p < length path → Leads g (slice_index path p) y

-- a search of this graph
abbrev pub IsSearch : List (List ℕ) → Search → Type 0
IsSearch g s = Holds g s.marks.items s.path.items s.parts.items s.pending.items s.order.items
    s.looped.items

-- it is the last of the parts
abbrev pub IsLast : List Part → Part → Type 0
IsLast parts part = (others : List Part) × (parts ≡ others ++ part ∷ [])

-- nothing of it is left to be looked at
pub record IsEnded (g : List (List ℕ)) (s : Search) (part : Part) : Type 0 where
  pub search : IsSearch g s
  pub last : IsLast s.parts.items part
  pub ended : length s.pending.items ≤ part.before

-- it can be taken off the path
pub record IsClosable (s : Search) (part : Part) : Type 0 where
  pub first : part.first ≤ length s.path.items
  pub nodes : All (λ x. x < length s.marks.items) s.path.items
  pub told : length s.looped.items ≡ length s.marks.items

-- each node is noted that leads to itself directly
pub record AreOwnLoops (g : List (List ℕ)) (looped : List Bool) : Type 0 where
  pub told : length looped ≡ length g
  pub own : (x : ℕ) → x < length g → (is_looped looped x ≡ true) ↔ Contains (edges g x) x

-- how much the nodes that are not met yet may add to what is to be done
abbrev pub unseen_work : List (List ℕ) → List Mark → ℕ
unseen_work [] marks = 0
unseen_work (row ∷ g) [] = 0
unseen_work (row ∷ g) (Unseen ∷ marks) = length row + 2 + unseen_work g marks
unseen_work (row ∷ g) (Open p ∷ marks) = unseen_work g marks
unseen_work (row ∷ g) (Done ∷ marks) = unseen_work g marks

-- how many steps are left at most
abbrev pub work : List (List ℕ) → Search → ℕ
work g s = unseen_work g s.marks.items + length s.pending.items + length s.parts.items

-- no node that was met is unseen again
abbrev pub KeepsMet : List Mark → List Mark → Type 0
KeepsMet old new = (x : ℕ) → mark_at new x ≡ Unseen → mark_at old x ≡ Unseen

-- a step of a search: less is left to be done
pub record Advances (g : List (List ℕ)) (old new : Search) : Type 0 where
  pub search : IsSearch g new
  pub met : KeepsMet old.marks.items new.marks.items
  pub less : work g new < work g old

-- a search from a node came to its end
pub record Exhausts (g : List (List ℕ)) (old new : Search) (start : ℕ) : Type 0 where
  pub search : IsSearch g new
  pub closed : new.parts.items ≡ []
  pub met : KeepsMet old.marks.items new.marks.items
  pub begun : mark_at new.marks.items start ≡ Unseen → ⊥
