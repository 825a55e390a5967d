-- The walk that finds the kind of a type or its first fault: from left to right, children before their node. The law
-- of the walk says what it finds without walking.
use Rattle.std.specs.Prelude.{◌≡◌, ◌⊎◌, ℕ, List, Bool, true, false, Option, Some, None, Result, Ok, Err, ok_or, slice_get, if◌then◌else◌}
use Rattle.std.specs.Ordering.{nat_cmp, is_eq}
use Rattle.std.specs.Cmp.Lexicographic.{slice_cmp}
use Rattle.fst_types.specs.Tree.{Tree, skip, send, receive, close, wait, select, offer, seq, rec, back, var, plain, arrow, pair, named, Branches, none, branch}
use Rattle.fst_types.specs.declared.kind.Kind.{Kind}
use Rattle.fst_types.specs.declared.kind.Use.TheVariants.{Many, Once}
use Rattle.fst_kinds.specs.declared.fault.KindFault.{KindFault}
use Rattle.fst_kinds.specs.declared.fault.KindFault.TheVariants.{NotContractive, WrongKind, UnboundType, DoubleLabel, Memory}
use Rattle.fst_kinds.specs.Kinds.{session, top, subkind, join}
use Rattle.fst_kinds.specs.Contractive.{reaches}

-- a branch has this label
abbrev pub has_label : List ℕ → Branches → Bool
has_label l none = false
has_label l (branch m s bs) = if is_eq (slice_cmp nat_cmp l m) then true else has_label l bs

-- the first label that stands again further on, which in byte order is the least that stands twice
abbrev pub double_label : Branches → Option (List ℕ)
double_label none = None
double_label (branch l s bs) = if has_label l bs then Some l else double_label bs

-- a kind below 1S goes on, and every other is the wrong kind
abbrev pub needs_session : Kind → Result Kind KindFault → Result Kind KindFault
needs_session k next = if subkind k (session Once) then next else Err (WrongKind k (session Once))

-- what was found goes on, and a fault stays
abbrev pub and_next : {T U : Type 0} → Result T KindFault →
    (T → Result U KindFault) → Result U KindFault
and_next (Ok k) next = next k
and_next (Err f) next = Err f

-- what remains to be said of a choice after its first label that stands twice, if there is one
abbrev pub unless_double : Option (List ℕ) → Result Kind KindFault → Result Kind KindFault
unless_double None next = next
unless_double (Some l) next = Err (DoubleLabel l)

-- the kind of a choice, where the first branch of a kind not below 1S has the kind wrong, if there is such a branch
abbrev pub choice_kind : Option Kind → Result Kind KindFault
choice_kind None = Ok (session Once)
choice_kind (Some wrong) = Err (WrongKind wrong (session Once))

abbrev mutual
  -- the kind of a type, or its first fault
  pub walk : List Kind → Tree → Result Kind KindFault
  walk vars skip = Ok (session Many)
  walk vars (send b) = Ok (session Once)
  walk vars (receive b) = Ok (session Once)
  walk vars close = Ok (session Once)
  walk vars wait = Ok (session Once)
  walk vars (select bs) = unless_double (double_label bs) (and_next (walk_all vars bs) choice_kind)
  walk vars (offer bs) = unless_double (double_label bs) (and_next (walk_all vars bs) choice_kind)
  walk vars (seq s r) =
      and_next (walk vars s) (λ i. and_next (walk vars r) (λ j.
      needs_session i (needs_session j (Ok (session (join i.uses j.uses))))))
  walk vars (rec s) = and_next (walk vars s)
      (λ k. needs_session k (if reaches s 0 then Err NotContractive else Ok k))
  walk vars (back n) = Ok (session Many)
  walk vars (var n) = ok_or (slice_get vars n) (UnboundType n)
  walk vars (plain b) = Ok (top Many)
  walk vars (arrow u s r) = and_next (walk vars s) (λ i. and_next (walk vars r) (λ j. Ok (top u)))
  walk vars (pair s r) = and_next (walk vars s)
      (λ i. and_next (walk vars r) (λ j. Ok (top (join i.uses j.uses))))
  walk vars (named n) = Ok (top Many)

  -- of the branches, one after the other, the first kind not below 1S
  pub walk_all : List Kind → Branches → Result (Option Kind) KindFault
  walk_all vars none = Ok None
  walk_all vars (branch l s bs) =
      and_next (walk vars s) (λ k. and_next (walk_all vars bs) (λ wrong.
      Ok (if subkind k (session Once) then wrong else Some k)))

-- the answer is what was found, or that memory is wanted
abbrev pub Answers : {T : Type 0} → Result T KindFault → Result T KindFault → Type 0
Answers found answer = (answer ≡ found) ⊎ (answer ≡ Err Memory)
