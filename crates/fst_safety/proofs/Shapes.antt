-- A value has the form that its type says.
use Rattle.std.proofs.Common.{◌≡◌, ℕ, ℤ, List, [], ◌∷◌, map, Bool, Some, refl, sym, ap}
use Rattle.std.specs.Prelude.{⊤}
use Rattle.fst_base.proofs.Options.{none_some}
use Rattle.fst_types.specs.Tree.{Tree, skip, send, receive, close, wait, select, offer, seq, rec, back, var, plain, arrow, pair, named}
use Rattle.fst_types.specs.declared.base.Base.{Base}
use Rattle.fst_types.specs.declared.base.Base.TheVariants.{Int, Bool as Truth, Char}
use Rattle.fst_types.specs.declared.kind.Use.{Use}
use Rattle.fst_types.specs.declared.kind.Use.TheVariants.{Many}
use Rattle.fst_types.specs.declared.label.Label.{Label}
use Rattle.fst_types.specs.declared.label.Label.TheVariants.{Send, Offer}
use Rattle.fst_kinds.specs.Kinds.{top}
use Rattle.fst_kinds.specs.WellFormed.{IsSession}
use Rattle.fst_lts.specs.Step.{step}
use Rattle.fst_lts.specs.Histories.{sending}
use Rattle.fst_derivations.specs.Parts.{IsFormed, IsOffering}
use Rattle.fst_derivations.specs.Rules.{Surroundings}
use Rattle.fst_types.specs.declared.ends.EndName.{EndName}
use Rattle.fst_types.specs.declared.event.Event.{Event}
use Rattle.fst_types.specs.declared.event.Event.TheVariants as event
use Rattle.fst_machine.specs.Values as value
use Rattle.fst_machine.specs.Values.{Value, sent}
use Rattle.fst_runs.specs.Wrong.{held}
use Rattle.fst_safety.specs.Running.{Equals}
use Rattle.fst_safety.specs.Fitting.{Residuals, Fits}
use Rattle.fst_safety.proofs.Equals.{equals_session, equals_arrow, equals_pair, equals_plain, equals_named, plain_no_session, named_no_session, arrow_no_session, pair_no_session}

-- a base type is well formed
pub plain_formed : (b : Base) → IsFormed [] (plain b)
plain_formed b = (top Many, record { kinded = refl; contractive = tt; scoped = tt; ordered = tt })

-- the type isn't one of those that never move
abbrev pub IsMoving : Tree → Type 0
IsMoving skip = ⊤
IsMoving (send b) = ⊤
IsMoving (receive b) = ⊤
IsMoving close = ⊤
IsMoving wait = ⊤
IsMoving (select bs) = ⊤
IsMoving (offer bs) = ⊤
IsMoving (seq s r) = ⊤
IsMoving (rec s) = ⊤
IsMoving (back k) = ⊤
IsMoving (var k) = ⊤
IsMoving (plain b) = ⊥
IsMoving (arrow u s r) = ⊥
IsMoving (pair s r) = ⊥
IsMoving (named k) = ⊥

-- what moves by a label is such a type
pub step_moving : (s : Tree) (a : Label) (t : Tree) → step s a ≡ Some t → IsMoving s
step_moving skip a t q = tt
step_moving (send b) a t q = tt
step_moving (receive b) a t q = tt
step_moving close a t q = tt
step_moving wait a t q = tt
step_moving (select bs) a t q = tt
step_moving (offer bs) a t q = tt
step_moving (seq s r) a t q = tt
step_moving (rec s) a t q = tt
step_moving (back k) a t q = tt
step_moving (var k) a t q = tt
step_moving (plain b) a t q = none_some q
step_moving (arrow u s r) a t q = none_some q
step_moving (pair s r) a t q = none_some q
step_moving (named k) a t q = none_some q

no_names : (names : List (List ℕ)) → [] ≡ map Offer names → names ≡ []
no_names [] q = refl
no_names (n ∷ names) q = absurd (cc q)

-- so is what offers a choice
pub offering_moving : (s : Tree) (names : List (List ℕ)) → IsOffering s names → IsMoving s
offering_moving skip names o = tt
offering_moving (send b) names o = tt
offering_moving (receive b) names o = tt
offering_moving close names o = tt
offering_moving wait names o = tt
offering_moving (select bs) names o = tt
offering_moving (offer bs) names o = tt
offering_moving (seq s r) names o = tt
offering_moving (rec s) names o = tt
offering_moving (back k) names o = tt
offering_moving (var k) names o = tt
offering_moving (plain b) names o = o.some (no_names names o.labels)
offering_moving (arrow u s r) names o = o.some (no_names names o.labels)
offering_moving (pair s r) names o = o.some (no_names names o.labels)
offering_moving (named k) names o = o.some (no_names names o.labels)

-- a base type equals no function type
pub plain_arrow : {A : Type 0} {b : Base} {u : Use} {s r : Tree} → Equals (plain b) (arrow u s r) → A
plain_arrow e = absurd (cc (equals_plain e))

-- a data type equals no function type
pub named_arrow : {A : Type 0} {n : ℕ} {u : Use} {s r : Tree} → Equals (named n) (arrow u s r) → A
named_arrow e = absurd (cc (equals_named e))

-- a pair type equals no function type
pub pair_arrow : {A : Type 0} {a b : Tree} {u : Use} {s r : Tree} → Equals (pair a b) (arrow u s r) → A
pair_arrow e = absurd (cc ((equals_pair e).2))

-- a session type equals no function type
pub session_arrow : {A : Type 0} {a : Tree} {u : Use} {s r : Tree} → Equals a (arrow u s r) → IsSession [] a → A
session_arrow e h = arrow_no_session (equals_session e h)

-- a base type equals no pair type
pub plain_pair : {A : Type 0} {b : Base} {s r : Tree} → Equals (plain b) (pair s r) → A
plain_pair e = absurd (cc (equals_plain e))

-- a data type equals no pair type
pub named_pair : {A : Type 0} {n : ℕ} {s r : Tree} → Equals (named n) (pair s r) → A
named_pair e = absurd (cc (equals_named e))

-- a function type equals no pair type
pub arrow_pair : {A : Type 0} {u : Use} {a b s r : Tree} → Equals (arrow u a b) (pair s r) → A
arrow_pair e = absurd (cc ((equals_arrow e).2))

-- a session type equals no pair type
pub session_pair : {A : Type 0} {a s r : Tree} → Equals a (pair s r) → IsSession [] a → A
session_pair e h = pair_no_session (equals_session e h)

-- a base type equals no data type
pub plain_named : {A : Type 0} {b : Base} {n : ℕ} → Equals (plain b) (named n) → A
plain_named e = absurd (cc (equals_plain e))

-- a pair type equals no data type
pub pair_named : {A : Type 0} {a b : Tree} {n : ℕ} → Equals (pair a b) (named n) → A
pair_named e = absurd (cc ((equals_pair e).2))

-- a function type equals no data type
pub arrow_named : {A : Type 0} {u : Use} {a b : Tree} {n : ℕ} → Equals (arrow u a b) (named n) → A
arrow_named e = absurd (cc ((equals_arrow e).2))

-- a session type equals no data type
pub session_named : {A : Type 0} {a : Tree} {n : ℕ} → Equals a (named n) → IsSession [] a → A
session_named e h = named_no_session (equals_session e h)

-- a data type equals no base type
pub named_plain : {A : Type 0} {n : ℕ} {b : Base} → Equals (named n) (plain b) → A
named_plain e = absurd (cc (equals_named e))

-- a pair type equals no base type
pub pair_plain : {A : Type 0} {s r : Tree} {b : Base} → Equals (pair s r) (plain b) → A
pair_plain e = absurd (cc ((equals_pair e).2))

-- a function type equals no base type
pub arrow_plain : {A : Type 0} {u : Use} {s r : Tree} {b : Base} → Equals (arrow u s r) (plain b) → A
arrow_plain e = absurd (cc ((equals_arrow e).2))

-- a session type equals no base type
pub session_plain : {A : Type 0} {a : Tree} {b : Base} → Equals a (plain b) → IsSession [] a → A
session_plain e h = plain_no_session (equals_session e h)

-- equal base types are the same
pub plains_equal : {a b : Base} → Equals (plain a) (plain b) → b ≡ a
plains_equal {a} {b} e = same (equals_plain e)
  where
    same : plain b ≡ plain a → b ≡ a
    same q = cc

-- equal data types are the same
pub nameds_equal : {n k : ℕ} → Equals (named n) (named k) → k ≡ n
nameds_equal {n} {k} e = same (equals_named e)
  where
    same : named k ≡ named n → k ≡ n
    same q = cc

module _ (m : Surroundings) (r : Residuals) where
  -- a value of type Int is a number
  pub int_value : (v : Value) → Fits m r v (plain Int) → (n : ℤ) × (v ≡ value.int n)
  int_value (value.int n) f = (n, refl)
  int_value (value.bool b) f = absurd (cc (plains_equal f))
  int_value (value.char c) f = absurd (cc (plains_equal f))
  int_value value.unit f = absurd (cc (plains_equal f))
  int_value (value.pair v w) f = pair_plain f.4
  int_value (value.made n o vs) f = named_plain f.5
  int_value (value.function e env) f = arrow_plain f.10
  int_value (value.end x) f = session_plain f.3 f.2

  -- one of type Bool is a truth value
  pub bool_value : (v : Value) → Fits m r v (plain Truth) → (b : Bool) × (v ≡ value.bool b)
  bool_value (value.bool b) f = (b, refl)
  bool_value (value.int n) f = absurd (cc (plains_equal f))
  bool_value (value.char c) f = absurd (cc (plains_equal f))
  bool_value value.unit f = absurd (cc (plains_equal f))
  bool_value (value.pair v w) f = pair_plain f.4
  bool_value (value.made n o vs) f = named_plain f.5
  bool_value (value.function e env) f = arrow_plain f.10
  bool_value (value.end x) f = session_plain f.3 f.2

  -- one of type Char is a character
  pub char_value : (v : Value) → Fits m r v (plain Char) → (c : ℕ) × (v ≡ value.char c)
  char_value (value.char c) f = (c, refl)
  char_value (value.int n) f = absurd (cc (plains_equal f))
  char_value (value.bool b) f = absurd (cc (plains_equal f))
  char_value value.unit f = absurd (cc (plains_equal f))
  char_value (value.pair v w) f = pair_plain f.4
  char_value (value.made n o vs) f = named_plain f.5
  char_value (value.function e env) f = arrow_plain f.10
  char_value (value.end x) f = session_plain f.3 f.2

  -- a value of a base type can be sent as one of that type, and holds no end
  pub sent_value : (v : Value) (b : Base) → Fits m r v (plain b) → (ev : Event) × (sent v ≡ Some ev) × (sending ev ≡ Send b) ×
      ((x : EndName) → held x v ≡ 0)
  sent_value (value.int n) b f = (event.Int n, refl, ap Send (sym (plains_equal f)), λ x. refl)
  sent_value (value.bool c) b f = (event.Bool c, refl, ap Send (sym (plains_equal f)), λ x. refl)
  sent_value (value.char c) b f = (event.Char c, refl, ap Send (sym (plains_equal f)), λ x. refl)
  sent_value value.unit b f = (event.Unit, refl, ap Send (sym (plains_equal f)), λ x. refl)
  sent_value (value.pair v w) b f = pair_plain f.4
  sent_value (value.made n o vs) b f = named_plain f.5
  sent_value (value.function e env) b f = arrow_plain f.10
  sent_value (value.end x) b f = session_plain f.3 f.2
