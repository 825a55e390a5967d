-- Tests of types: which are the same, which are well formed, and how often their values may be used.
use Rattle.std.specs.Prelude.{ℕ, suc, Bool, true, false, ◌&&◌, nat_lt, Option, Some, None, Result, Ok, Err, option_map, List, [], ◌∷◌, slice_get, if◌then◌else◌}
use Rattle.std.specs.declared.cmp.Ordering.{Ordering}
use Rattle.std.specs.declared.cmp.Ordering.TheVariants.{Less, Equal, Greater}
use Rattle.std.specs.Ordering.{nat_cmp}
use Rattle.std.specs.Cmp.Lexicographic.{slice_cmp}
use Rattle.fst_base.specs.Codes.{same_code}
use Rattle.fst_types.specs.Tree.{Tree, skip, send, receive, close, wait, select, offer, seq, rec, back, var, plain, arrow, pair, named, Branches, none, branch}
use Rattle.fst_types.specs.ModelCode.{code_of}
use Rattle.fst_types.specs.Instance.{instantiated}
use Rattle.fst_types.specs.declared.base.Base.{Base}
use Rattle.fst_types.specs.declared.base.Base.TheVariants.{Int, Bool as Truth, Char}
use Rattle.fst_types.specs.declared.kind.Kind.{Kind}
use Rattle.fst_types.specs.declared.kind.Prekind.{Prekind}
use Rattle.fst_types.specs.declared.kind.Prekind.TheVariants.{Session, Top}
use Rattle.fst_types.specs.declared.kind.Use.{Use}
use Rattle.fst_types.specs.declared.kind.Use.TheVariants.{Many, Once}
use Rattle.fst_types.specs.declared.label.Label.TheVariants.{Send, Receive}
use Rattle.fst_kinds.specs.Kinds.{subkind}
use Rattle.fst_kinds.specs.Walk.{walk}
use Rattle.fst_kinds.specs.declared.fault.KindFault.{KindFault}
use Rattle.fst_lts.specs.Step.{step}
use Rattle.fst_lts.specs.Dual.{dual}
use Rattle.fst_terms.specs.declared.global.GlobalEntry.{GlobalEntry}
use Rattle.fst_terms.specs.declared.term.Op.{Op}
use Rattle.fst_terms.specs.declared.term.Op.TheVariants.{Add, Subtract, Multiply, Equal as Same, Unequal, Less as Below, AtMost, Greater as Above, AtLeast, And, Or}

-- whether two types are one tree
unfoldable pub same_tree : Tree → Tree → Bool
same_tree s t = same_code (code_of s) (code_of t)

-- the one order in which the next label may stand
abbrev pub rises : Ordering → Bool
rises Less = true
rises Equal = false
rises Greater = false

-- whether there is a branch, and each label comes before the next one
abbrev pub rising : Branches → Bool
rising none = false
rising (branch l t none) = true
rising (branch l t (branch m u bs)) = rises (slice_cmp nat_cmp l m) && rising (branch m u bs)

abbrev mutual
  -- whether each recursion variable belongs to a `rec` in the type or to one of n around it, and the labels of each choice rise
  pub is_ready : ℕ → Tree → Bool
  is_ready n skip = true
  is_ready n (send b) = true
  is_ready n (receive b) = true
  is_ready n close = true
  is_ready n wait = true
  is_ready n (select bs) = rising bs && are_ready n bs
  is_ready n (offer bs) = rising bs && are_ready n bs
  is_ready n (seq s r) = is_ready n s && is_ready n r
  is_ready n (rec s) = is_ready (suc n) s
  is_ready n (back k) = nat_lt k n
  is_ready n (var k) = true
  is_ready n (plain b) = true
  is_ready n (arrow u s r) = is_ready n s && is_ready n r
  is_ready n (pair s r) = is_ready n s && is_ready n r
  is_ready n (named k) = true

  -- the same in each branch
  pub are_ready : ℕ → Branches → Bool
  are_ready n none = true
  are_ready n (branch l s bs) = is_ready n s && are_ready n bs

-- the kind that was found
abbrev pub found_kind : Result Kind KindFault → Option Kind
found_kind (Ok k) = Some k
found_kind (Err f) = None

-- the kind of a well-formed type
unfoldable pub kind_in : List Kind → Tree → Option Kind
kind_in vars t = if is_ready 0 t then found_kind (walk vars t) else None

-- whether there is one
abbrev pub has_some : {A : Type 0} → Option A → Bool
has_some None = false
has_some (Some x) = true

-- how often the values of a well-formed type may be used
abbrev pub use_in : List Kind → Tree → Option Use
use_in vars t = option_map (λ k. k.uses) (kind_in vars t)

-- whether there is a use, and it is that of values that may be used often
abbrev pub is_many : Option Use → Bool
is_many None = false
is_many (Some Many) = true
is_many (Some Once) = false

-- whether it is that of session types
abbrev pub is_of_sessions : Prekind → Bool
is_of_sessions Session = true
is_of_sessions Top = false

-- whether there is a kind, and it is that of a session type
abbrev pub is_session : Option Kind → Bool
is_session None = false
is_session (Some k) = is_of_sessions k.prekind

-- whether there is a type, and it is this one
abbrev pub is_type : Option Tree → Tree → Bool
is_type None t = false
is_type (Some s) t = same_tree s t

-- the argument's and the result's type of functions
abbrev pub arrow_parts : Tree → Option (Tree × Tree)
arrow_parts (arrow u s t) = Some (s, t)
arrow_parts _ = None

-- the types of a pair's parts
abbrev pub pair_parts : Tree → Option (Tree × Tree)
pair_parts (pair s t) = Some (s, t)
pair_parts _ = None

-- the base type that a type is
abbrev pub base_of : Tree → Option Base
base_of (plain b) = Some b
base_of _ = None

-- the number of the data type that a type is
abbrev pub family_number : Tree → Option ℕ
family_number (named n) = Some n
family_number _ = None

-- a function type's use, and the types of its argument and result
abbrev pub arrow_of : Tree → Option (Use × (Tree × Tree))
arrow_of (arrow u s t) = Some (u, (s, t))
arrow_of _ = None

-- whether two uses are one
abbrev pub same_use : Use → Use → Bool
same_use Many Many = true
same_use Many Once = false
same_use Once Many = false
same_use Once Once = true

-- whether there is a pair's type, and these are its parts
abbrev pub is_pair : Option (Tree × Tree) → Tree → Tree → Bool
is_pair None a b = false
is_pair (Some p) a b = same_tree p.0 a && same_tree p.1 b

-- whether there is a function type, and these are its parts
abbrev pub is_arrow : Option (Use × (Tree × Tree)) → Use → Tree → Tree → Bool
is_arrow None u a b = false
is_arrow (Some p) u a b = same_use p.0 u && (same_tree p.1.0 a && same_tree p.1.1 b)

-- whether functions of the one type take an argument of the other and give this result
abbrev pub applies : Option (Tree × Tree) → Tree → Tree → Bool
applies None a t = false
applies (Some p) a t = same_tree p.0 a && same_tree p.1 t

-- whether values of a type are compared by their order
abbrev pub is_ordered : Tree → Bool
is_ordered s = if same_tree s (plain Int) then true else same_tree s (plain Char)

-- whether a sign takes operands of the one type and gives a result of the other
abbrev pub operates : Op → Tree → Tree → Bool
operates Add s t = same_tree s (plain Int) && same_tree t (plain Int)
operates Subtract s t = same_tree s (plain Int) && same_tree t (plain Int)
operates Multiply s t = same_tree s (plain Int) && same_tree t (plain Int)
operates Same s t = is_ordered s && same_tree t (plain Truth)
operates Unequal s t = is_ordered s && same_tree t (plain Truth)
operates Below s t = is_ordered s && same_tree t (plain Truth)
operates AtMost s t = is_ordered s && same_tree t (plain Truth)
operates Above s t = is_ordered s && same_tree t (plain Truth)
operates AtLeast s t = is_ordered s && same_tree t (plain Truth)
operates And s t = same_tree s (plain Truth) && same_tree t (plain Truth)
operates Or s t = same_tree s (plain Truth) && same_tree t (plain Truth)

-- whether a channel of the type sends a value of the base type, if there is one, and is left at the other type
abbrev pub sends : Option Base → Tree → Tree → Bool
sends None s t = false
sends (Some b) s t = is_type (step s (Send b)) t

-- whether a channel of the type receives a value of the base type, if there is one, and is left at the other type
abbrev pub receives : Option Base → Tree → Tree → Bool
receives None s t = false
receives (Some b) s t = is_type (step s (Receive b)) t

-- whether the pair's type has a base type and what is left of a channel's type after a value of it was received
abbrev pub receives_pair : Option (Tree × Tree) → Tree → Bool
receives_pair None s = false
receives_pair (Some p) s = receives (base_of p.0) s p.1

-- whether there is a session type, and this is the type of its two ends
abbrev pub is_channel : Option Tree → Tree → Bool
is_channel None t = false
is_channel (Some s) t = is_session (kind_in [] s) && is_pair (pair_parts t) s (dual s)

-- a type before others, where all are there
abbrev pub with_first : Option Tree → Option (List Tree) → Option (List Tree)
with_first None rest = None
with_first (Some t) None = None
with_first (Some t) (Some ts) = Some (t ∷ ts)

-- the types with these numbers, where all are there
abbrev pub types_at : List Tree → List ℕ → Option (List Tree)
types_at types [] = Some []
types_at types (k ∷ ks) = with_first (slice_get types k) (types_at types ks)

-- whether there is a kind, and it is below the other
abbrev pub is_below : Option Kind → Kind → Bool
is_below None k = false
is_below (Some i) k = subkind i k

-- whether the types may be put for variables of these kinds
abbrev pub instantiates : List Kind → List Kind → List Tree → Bool
instantiates outer [] [] = true
instantiates outer [] (t ∷ ts) = false
instantiates outer (k ∷ ks) [] = false
instantiates outer (k ∷ ks) (t ∷ ts) = is_below (kind_in outer t) k && instantiates outer ks ts

-- whether the type is the instance of a global's, where all is there that it is made of
abbrev pub is_instance : List Kind → List Kind → Option Tree → Option (List Tree) → Tree → Bool
is_instance vars kinds None args t = false
is_instance vars kinds (Some s) None t = false
is_instance vars kinds (Some s) (Some args) t =
    instantiates vars kinds args && same_tree t (instantiated args s)

-- the same of a global that may be there
abbrev pub is_global_type : List Kind → List Tree → Option GlobalEntry → List ℕ → Tree → Bool
is_global_type vars types None ks t = false
is_global_type vars types (Some f) ks t =
    is_instance vars f.kinds.items (slice_get types f.signature) (types_at types ks) t
