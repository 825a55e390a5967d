-- What a refusal shows of what is looked at, where types are not compared.
use Rattle.std.specs.Prelude.{◌≡◌, ◌⊎◌, ◌<◌, true, false, List, [], ◌∷◌, ℕ, map, length, Some, None, slice_get}
use Rattle.fst_types.specs.Tree as type
use Rattle.fst_types.specs.Tree.{Tree, plain, arrow, named}
use Rattle.fst_types.specs.Instance.{instantiated}
use Rattle.fst_types.specs.Size.{HasTooManyNodes}
use Rattle.fst_types.specs.declared.base.Base.{Base}
use Rattle.fst_types.specs.declared.family.Family.{Family}
use Rattle.fst_types.specs.declared.kind.Kind.{Kind}
use Rattle.fst_types.specs.declared.kind.Use.{Use}
use Rattle.fst_types.specs.declared.kind.Use.TheVariants.{Many, Once}
use Rattle.fst_types.specs.declared.label.Label.TheVariants as label
use Rattle.fst_types.specs.declared.moves.Move.TheVariants as move
use Rattle.fst_kinds.specs.Kinds.{session, subkind}
use Rattle.fst_kinds.specs.WellFormed.{IsInstantiation, IsWellFormed, IsSession}
use Rattle.fst_kinds.specs.declared.fault.KindFault.TheVariants.{WrongKind}
use Rattle.fst_lts.specs.Step.{step}
use Rattle.fst_lts.specs.Dual.{dual}
use Rattle.fst_terms.specs.CoreTree.{CoreTree, local, global, int, bool, char, unit, pair, make, lambda, apply, let_in, split, if_else, case_of, operate, negate, new, send, receive, close, wait, select, match_with, fork, seq}
use Rattle.fst_terms.specs.declared.binder.Binder.{Binder}
use Rattle.fst_terms.specs.declared.global.GlobalEntry.{GlobalEntry}
use Rattle.fst_context.specs.Scope.{Scope, at_or_not}
use Rattle.fst_context.specs.View.{taken_at}
use Rattle.fst_context.specs.declared.context.Taken.TheVariants.{Gone, Outside}
use Rattle.fst_arms.specs.Arms.{AreEachOnce}
use Rattle.fst_derivations.specs.Parts.{HasUse, AreAt, IsOffering}
use Rattle.fst_premises.specs.Checks.{Check}
use Rattle.fst_premises.specs.declared.fault.CheckFault.{CheckFault}
use Rattle.fst_premises.specs.declared.fault.CheckFault.TheVariants.{Memory, Unused, UsedTwice, CapturedLinear, NotFunction, TypeArguments, KindOfArgument, NoSuchMove, Branches, Arms, Dropped, NotPair, Kinds, TooLarge}

-- the byte at which a term's first token begins
abbrev pub place : CoreTree → ℕ
place (local at k) = at
place (global at k ks) = at
place (int at n) = at
place (bool at b) = at
place (char at n) = at
place (unit at) = at
place (pair at e f) = at
place (make at n k es) = at
place (lambda at uses k x e) = at
place (apply at e f) = at
place (let_in at x e f) = at
place (split at x y e f) = at
place (if_else at e f h) = at
place (case_of at e bs) = at
place (operate at o e f) = at
place (negate at e) = at
place (new at k) = at
place (send at e f) = at
place (receive at e) = at
place (close at e) = at
place (wait at e) = at
place (select at l e) = at
place (match_with at e bs) = at
place (fork at e) = at
place (seq at e f) = at

-- a refusal that isn't for want of memory shows this
abbrev pub IsShown : CheckFault → Type 0 → Type 0
IsShown f P = (f ≡ Memory → ⊥) → P

-- a type at a place is over its size
pub record IsTooLargeAt (at : ℕ) (t : Tree) (f : CheckFault) : Type 0 where
  pub large : HasTooManyNodes t
  pub is : f ≡ TooLarge at

-- a variable is linear and was used before, or is from outside a body that may be used often
abbrev pub ShowsVariable : ℕ → ℕ → Scope → CheckFault → Type 0
ShowsVariable at k s f =
    (x : List ℕ) × (slice_get s.names k ≡ Some x) ×
    (((taken_at s k ≡ Gone) × (f ≡ UsedTwice at x)) ⊎
    ((taken_at s k ≡ Outside) × (f ≡ CapturedLinear at x)))

-- of type arguments the first whose kind isn't below that of its variable
abbrev pub ShowsArguments : Check → List ℕ → List Kind → CheckFault → Type 0
ShowsArguments c [] vs f = ⊥
ShowsArguments c (k ∷ ks) [] f = ⊥
ShowsArguments c (k ∷ ks) (v ∷ vs) f =
    (t : Tree) × (j : Kind) × (slice_get c.surroundings.types k ≡ Some t) ×
    IsWellFormed c.surroundings.vars t j ×
    (((subkind j v ≡ false) × ((at : ℕ) × (slice_get c.places k ≡ Some at) ×
    (f ≡ KindOfArgument at j v)))
    ⊎ ((subkind j v ≡ true) × ShowsArguments c ks vs f))

-- a use of a global has not as many type arguments as its signature has variables, or one of another kind; or they are such, and
-- its type is over its size
abbrev pub ShowsUse : Check → ℕ → ℕ → List ℕ → CheckFault → Type 0
ShowsUse c at k ks f =
    (g : GlobalEntry) × (slice_get c.surroundings.globals k ≡ Some g) ×
    (((length ks ≡ length g.kinds.items → ⊥) ×
    (f ≡ TypeArguments at (length ks) (length g.kinds.items)))
    ⊎ (((length ks ≡ length g.kinds.items) × ShowsArguments c ks g.kinds.items f)
    ⊎ ((t : Tree) × (args : List Tree) ×
    (slice_get c.surroundings.types g.signature ≡ Some t) × AreAt c.surroundings.types ks args ×
    IsInstantiation c.surroundings.vars g.kinds.items args ×
    IsTooLargeAt at (instantiated args t) f)))

-- the type of a new channel's end isn't a session type, or the type of both its ends is over its size
abbrev pub ShowsNew : Check → ℕ → ℕ → CheckFault → Type 0
ShowsNew c at k f =
    (t : Tree) × (slice_get c.surroundings.types k ≡ Some t) ×
    (((j : Kind) × IsWellFormed [] t j × (subkind j (session Once) ≡ false) ×
    ((p : ℕ) × (slice_get c.places k ≡ Some p) × (f ≡ Kinds p (WrongKind j (session Once)))))
    ⊎ (IsSession [] t × IsTooLargeAt at (type.pair t (dual t)) f))

-- a variable that is bound isn't used at the end
pub record IsUnused (z : Scope) (k : ℕ) (x : Binder) (f : CheckFault) : Type 0 where
  pub there : at_or_not z.there k ≡ true
  pub is : f ≡ Unused x.at x.name

-- of the variables that these names bind, the last innermost, the first that isn't used at the end; the last has the number 0
abbrev pub ShowsUnused : Scope → List Binder → CheckFault → Type 0
ShowsUnused z [] f = ⊥
ShowsUnused z (x ∷ xs) f = IsUnused z (length xs) x f ⊎
    ((at_or_not z.there (length xs) ≡ false) × ShowsUnused z xs f)

-- of the types that names are bound at the first that is over its size
abbrev pub IsLargeBinder : List Binder → List Tree → CheckFault → Type 0
IsLargeBinder [] ts f = ⊥
IsLargeBinder (x ∷ xs) [] f = ⊥
IsLargeBinder (x ∷ xs) (t ∷ ts) f = IsTooLargeAt x.at t f ⊎
    ((HasTooManyNodes t → ⊥) × IsLargeBinder xs ts f)

-- the outermost variable that is there in one scope and not in the other
pub record DifferAt (s z : Scope) (k : ℕ) : Type 0 where
  pub differ : at_or_not s.there k ≡ at_or_not z.there k → ⊥
  pub outermost : (j : ℕ) → k < j → at_or_not s.there j ≡ at_or_not z.there j

-- branches use different variables
pub record UseDifferent (at : ℕ) (s z : Scope) (f : CheckFault) : Type 0 where
  pub variable : ℕ
  pub name : List ℕ
  pub differ : DifferAt s z variable
  pub named : slice_get s.names variable ≡ Some name
  pub is : f ≡ Branches at name

-- what is found is no type of functions
abbrev pub ShowsNoFunction : ℕ → Tree → CheckFault → Type 0
ShowsNoFunction at t f = ((u : Use) (from to : Tree) → t ≡ arrow u from to → ⊥) ×
    (f ≡ NotFunction at t)

-- what is found is no type of pairs
abbrev pub ShowsNoPair : ℕ → Tree → CheckFault → Type 0
ShowsNoPair at t f = ((s r : Tree) → t ≡ type.pair s r → ⊥) × (f ≡ NotPair at t)

-- a value of the type can't be dropped
abbrev pub ShowsDropped : List Kind → ℕ → Tree → CheckFault → Type 0
ShowsDropped vars at t f = (HasUse vars t Many → ⊥) × (f ≡ Dropped at t)

-- a value of the first type can't be sent on an end of the second, or what is left then is over its size
abbrev pub ShowsSend : ℕ → Tree → Tree → CheckFault → Type 0
ShowsSend at s t f =
    (((b : Base) (next : Tree) → s ≡ plain b → step t (label.Send b) ≡ Some next → ⊥) ×
    (f ≡ NoSuchMove at t (move.Send s)))
    ⊎ ((b : Base) × (next : Tree) × (s ≡ plain b) ×
    (step t (label.Send b) ≡ Some next) × IsTooLargeAt at next f)

-- nothing can be received on an end of the type, or what it gives is over its size
abbrev pub ShowsReceive : ℕ → Tree → CheckFault → Type 0
ShowsReceive at t f =
    (((b : Base) (next : Tree) → step t (label.Receive b) ≡ Some next → ⊥) ×
    (f ≡ NoSuchMove at t move.Receive))
    ⊎ ((b : Base) × (next : Tree) × (step t (label.Receive b) ≡ Some next) ×
    IsTooLargeAt at (type.pair (plain b) next) f)

-- the branch can't be selected on an end of the type, or what is left then is over its size
abbrev pub ShowsSelect : ℕ → List ℕ → Tree → CheckFault → Type 0
ShowsSelect at l t f =
    ((step t (label.Select l) ≡ None) × (f ≡ NoSuchMove at t (move.Select l)))
    ⊎ ((next : Tree) × (step t (label.Select l) ≡ Some next) × IsTooLargeAt at next f)

-- an end of the type can't be closed
abbrev pub ShowsClose : ℕ → Tree → CheckFault → Type 0
ShowsClose at t f = (step t label.Close ≡ None) × (f ≡ NoSuchMove at t move.Close)

-- at an end of the type the other side's closing can't be waited for
abbrev pub ShowsWait : ℕ → Tree → CheckFault → Type 0
ShowsWait at t f = (step t label.Wait ≡ None) × (f ≡ NoSuchMove at t move.Wait)

-- the type is no data type, or these labels aren't its constructors, each once
abbrev pub ShowsNoCase : List Family → ℕ → Tree → List (List ℕ) → CheckFault → Type 0
ShowsNoCase families at t found f =
    ((n : ℕ) (g : Family) → t ≡ named n → slice_get families n ≡ Some g →
    AreEachOnce (map (λ o. o.name) g.makers.items) found → ⊥) × (f ≡ Arms at t)

-- the type offers no choice, or these labels aren't those that it offers, each once
abbrev pub ShowsNoMatch : ℕ → Tree → List (List ℕ) → CheckFault → Type 0
ShowsNoMatch at t found f =
    (((ls : List (List ℕ)) → IsOffering t ls → ⊥) × (f ≡ NoSuchMove at t move.Offer))
    ⊎ (((ls : List (List ℕ)) × IsOffering t ls × (AreEachOnce ls found → ⊥)) × (f ≡ Arms at t))
